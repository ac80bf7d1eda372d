-- So no walk over two keys is too far.
use Rattle.std.specs.Prelude.{◌==◌, ◌&&◌, ◌||◌, ◌^◌, nat_le, cond, Bool, true, false, slice_get, Some}
use Rattle.std.proofs.lemmas.Bool.Decides.{nat_tests}
use Rattle.std.proofs.Common.{◌≡◌, ℕ, ◌+◌, ◌*◌, ◌<◌, ◌≤◌, refl, ◌∙◌, inl, arith}
use Rattle.structure_laws.specs.map_history.specs.declared.op.Op.{Op}
use Rattle.structure_laws.specs.map_history.specs.declared.op.Op.TheVariants.{Get, Ins, Del, Put, Mov}
use Rattle.structure_laws.specs.map_history.specs.Replay.{Pairs}
use Rattle.bucket_bodies.specs.section_body.specs.Bucket.{bucket_head, bucket_index}
use Rattle.structure_laws.specs.table_words.specs.declared.layout.Layout.{Layout}
use Rattle.structure_laws.specs.table_words.specs.Places.{slot_count}
use Rattle.structure_laws.specs.Scene.{Cells, Readings}
use Rattle.structure_laws.specs.Stand.{StandIn}
use Rattle.bucket_laws.specs.Walk.{AtLink, Walk, start, Bounds, walk}
use Rattle.bucket_laws.specs.Halves.{Own, Other}
use Rattle.bucket_laws.specs.TwoWalk.{Part, OnFirst, OnSecond, AtLower, AtHigher, AtBoth, Stopped, TwoWalk, two_start}
use Rattle.bucket_laws.specs.TwoWalk.{is_one, two_wanted, after_first, second_at, first_fed, two_fed, two_walk, side_walk}
use Rattle.bucket_laws.specs.Buckets.{table, bounds, moves_meaning, BucketsStand}
use Rattle.bucket_laws.proofs.TableLaws.{bucket_small}
use Rattle.bucket_laws.proofs.Falling.{Few, few_fed, few_links, few_read}
use Rattle.bucket_laws.proofs.TwoWalks.{two_each}

module _ (buckets : ℕ) (bucket : ℕ → ℕ) (small : (key : ℕ) → bucket key < buckets) (slots : ℕ) (cells : Cells) (pairs : Pairs)
    (stands : BucketsStand buckets bucket slots cells pairs) (b : Bounds) (from to : ℕ) where
  -- the links that both walks have loaded
  abbrev FewOf : TwoWalk → Type 0
  FewOf w = Few buckets bucket small slots cells pairs stands b (Del from) w.first w.first.stage
      × Few buckets bucket small slots cells pairs stands b (Get to) w.second w.second.stage

  second_few : (part : Part) (first : Walk) → Few buckets bucket small slots cells pairs stands b (Get to)
      (second_at buckets bucket from to part first) (second_at buckets bucket from to part first).stage
  second_few OnFirst first = refl
  second_few OnSecond first = by (is_one buckets bucket from to)
    where
      by : (one : Bool) → Few buckets bucket small slots cells pairs stands b (Get to) (cond one
          (record start { stage = AtLink; edition = first.edition; place = bucket_head (bucket to) }) start)
          (cond one (record start { stage = AtLink; edition = first.edition; place = bucket_head (bucket to) }) start).stage
      by true = inl (refl, refl)
      by false = refl
  second_few AtLower first = refl
  second_few AtHigher first = refl
  second_few AtBoth first = refl
  second_few Stopped first = refl

  few_of : (readings : Readings) → StandIn (table true buckets bucket) cells readings → (w : TwoWalk) (part : Part)
      (p word i : ℕ) → FewOf w → two_wanted buckets bucket from to w part ≡ Some p → slice_get readings i ≡ Some (p, word)
      → FewOf (two_fed buckets bucket from to b w part word)
  few_of readings stand w OnFirst p word i few want at =
      let first = first_fed buckets bucket from to b w.first word in (
        few_fed buckets bucket small slots cells pairs stands b (Del from) w.first w.first.stage p word few.0 want
            (λ unlocked. stand i p word at unlocked),
        second_few (after_first buckets bucket from to first.stage) first,
      )
  few_of readings stand w OnSecond p word i few want at = (
    few.0,
    few_fed buckets bucket small slots cells pairs stands b (Get to) w.second w.second.stage p word few.1 want
        (λ unlocked. stand i p word at unlocked),
  )
  few_of readings stand w AtLower p word i few want at = few
  few_of readings stand w AtHigher p word i few want at = few
  few_of readings stand w AtBoth p word i few want at = few
  few_of readings stand w Stopped p word i few want at = few

  -- in readings of what stands each walk has loaded at most one link more than there are slots
  pub both_short : (readings : Readings) → StandIn (table true buckets bucket) cells readings
      → ((two_walk buckets bucket from to b two_start readings).first.links ≤ slots + 1)
      × ((two_walk buckets bucket from to b two_start readings).second.links ≤ slots + 1)
  both_short readings stand =
      let w = two_walk buckets bucket from to b two_start readings in
      let few = two_each buckets bucket from to b readings FewOf
      (λ w p n i few want at. few_of readings stand w w.part p n i few want at) two_start readings
      (λ i p n at. (i, at)) (refl, refl) in (
        few_links buckets bucket small slots cells pairs stands b (Del from) w.first w.first.stage few.0,
        few_links buckets bucket small slots cells pairs stands b (Get to) w.second w.second.stage few.1,
      )

-- so neither walk of an operation is too far, whether it was refused or not
module _ (bits : ℕ) (low : bits ≤ 12) (layout : Layout) (cells : Cells) (pairs : Pairs) where
  abbrev hash : ℕ → ℕ
  hash key = bucket_index key bits

  abbrev AreShort : Op → Readings → Type 0
  AreShort op readings = ((side_walk (2 ^ bits) hash (bounds (2 ^ bits) hash layout) op readings Own).links
      ≤ slot_count layout 0 + 1)
      × ((side_walk (2 ^ bits) hash (bounds (2 ^ bits) hash layout) op readings Other).links ≤ slot_count layout 0 + 1)

  one_short : (op : Op) (readings : Readings) → (moves_meaning bits).stands layout cells pairs
      → StandIn (moves_meaning bits) cells readings
      → (walk (2 ^ bits) hash (bounds (2 ^ bits) hash layout) op start readings).links ≤ slot_count layout 0 + 1
  one_short op readings stands read = few_read (2 ^ bits) hash (λ key. bucket_small bits key low) (slot_count layout 0)
      cells pairs stands (bounds (2 ^ bits) hash layout) op readings read

  are_short : (op : Op) (readings : Readings) → (moves_meaning bits).stands layout cells pairs
      → StandIn (moves_meaning bits) cells readings → AreShort op readings
  are_short (Get key) readings stands read = (one_short (Get key) readings stands read, omega arith)
  are_short (Ins key value) readings stands read = (one_short (Ins key value) readings stands read, omega arith)
  are_short (Del key) readings stands read = (one_short (Del key) readings stands read, omega arith)
  are_short (Put key value) readings stands read = (one_short (Put key value) readings stands read, omega arith)
  are_short (Mov from to) readings stands read = both_short (2 ^ bits) hash (λ key. bucket_small bits key low)
      (slot_count layout 0) cells pairs stands (bounds (2 ^ bits) hash layout) from to readings read

  near_by : (refused : Bool) (links : ℕ) → links ≤ slot_count layout 0 + 1
      → (refused && nat_le (slot_count layout 0 + 8) links) ≡ false
  near_by true links few = above (slot_count layout 0 + 8) links (omega (arith, few))
    where
      above : (a c : ℕ) → c < a → nat_le a c ≡ false
      above a c low = grind (arith, nat_tests)
  near_by false links few = refl

  pub moves_near : (op : Op) (readings : Readings) (refused refused' : Bool)
      → (moves_meaning bits).stands layout cells pairs → StandIn (moves_meaning bits) cells readings
      → ((refused && nat_le (slot_count layout 0 + 8)
      (side_walk (2 ^ bits) hash (bounds (2 ^ bits) hash layout) op readings Own).links)
      || (refused' && nat_le (slot_count layout 0 + 8)
      (side_walk (2 ^ bits) hash (bounds (2 ^ bits) hash layout) op readings Other).links)) ≡ false
  moves_near op readings refused refused' stands read =
      let short = are_short op readings stands read in
      (λ i. near_by refused _ short.0 i || near_by refused' _ short.1 i)
