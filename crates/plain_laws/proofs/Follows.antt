-- A walk in readings that stand in a table's cells, of one key or of two, knows what stands there.
use Rattle.std.proofs.Common.{◌≡◌, ℕ, suc, ◌<◌, ◌≤◌, Bool, true, false, cond, [], ◌∷◌, Some, refl, subst, inl}
use Rattle.std.specs.Prelude.{◌^◌}
use Rattle.structure_laws.specs.map_history.specs.declared.op.Op.{Op}
use Rattle.structure_laws.specs.map_history.specs.declared.op.Op.TheVariants.{Get, Del}
use Rattle.structure_laws.specs.map_history.specs.Keys.{key_of}
use Rattle.structure_laws.specs.Scene.{Readings}
use Rattle.tree_laws.specs.section_body.specs.Bucket.{bucket_head}
use Rattle.tree_laws.specs.bucket_laws.specs.Chain.{Chains}
use Rattle.tree_laws.specs.bucket_laws.specs.Walk.{Walk, Bounds, AtLink, start, walk, fed, wanted_at, is_wanted}
use Rattle.tree_laws.specs.bucket_laws.specs.TwoWalk.{Part, OnFirst, OnSecond, AtLower, AtHigher, AtBoth, Stopped, TwoWalk, two_start}
use Rattle.tree_laws.specs.bucket_laws.specs.TwoWalk.{is_one, two_wanted, after_first, second_at, first_fed, two_fed, two_walk}
use Rattle.tree_laws.specs.bucket_laws.specs.Buckets.{nodes, Knows}
use Rattle.tree_laws.specs.bucket_laws.proofs.TableLaws.{bucket_small}
use Rattle.tree_laws.specs.bucket_laws.proofs.TwoWalks.{two_each}
use Rattle.tree_laws.specs.bucket_laws.proofs.Walks.{ahead_head, knows_fed, wanted_eq}
use Rattle.plain_laws.specs.Runs.{AreRead, bucket}

module _ (bits : ℕ) (few : bits ≤ 12) where
  abbrev buckets : ℕ
  buckets = 2 ^ bits

  pub within : (key : ℕ) → bucket bits key < buckets
  within key = bucket_small bits key few

  module _ (cells : ℕ → ℕ) (on : ℕ → Bool) (rank : ℕ → ℕ) (chains : Chains (bucket bits) (nodes buckets (bucket bits) cells) on rank) (bounds : Bounds) (op : Op) where
    abbrev pub KnowsNow : Walk → Type 0
    KnowsNow w = Knows buckets (bucket bits) cells on rank op w w.stage

    -- a load of the place that the walk wants, which gives what stands there
    pub knows_read : (w : Walk) (p n : ℕ) → wanted_at buckets (bucket bits) (bucket bits (key_of op)) w w.stage ≡ Some p
        → cells p ≡ n → KnowsNow w → KnowsNow (fed buckets (bucket bits) bounds op w w.stage n)
    knows_read w p n want is known = subst (λ k. KnowsNow (fed buckets (bucket bits) bounds op w w.stage k)) is
        (knows_fed buckets (bucket bits) within bounds cells on rank chains op w w.stage p want known)

    -- so a walk over these cells knows what stands there
    pub follows : (w : Walk) (readings : Readings) → AreRead cells readings → KnowsNow w → KnowsNow (walk buckets (bucket bits) bounds op w readings)
    unfolding walk
    follows w [] read known = known
    follows w (reading ∷ readings) read known =
        go (is_wanted (wanted_at buckets (bucket bits) (bucket bits (key_of op)) w w.stage) reading.0) refl (follows next readings (λ i place word at. read (suc i) place word at))
      where
        next : Walk
        next = fed buckets (bucket bits) bounds op w w.stage reading.1

        go : (c : Bool) → is_wanted (wanted_at buckets (bucket bits) (bucket bits (key_of op)) w w.stage) reading.0 ≡ c → (KnowsNow next → KnowsNow (walk buckets (bucket bits) bounds op next readings)) → KnowsNow (cond c (walk buckets (bucket bits) bounds op next readings) w)
        go true e later = later (knows_read w reading.0 reading.1 (wanted_eq _ reading.0 e) (read 0 reading.0 reading.1 refl) known)
        go false e later = known

module _ (bits : ℕ) (few : bits ≤ 12) (cells : ℕ → ℕ) (on : ℕ → Bool) (rank : ℕ → ℕ) (chains : Chains (bucket bits) (nodes (2 ^ bits) (bucket bits) cells) on rank) (b : Bounds) (from to : ℕ) where
  -- what the walks of both keys know
  abbrev pub KnowBoth : TwoWalk → Type 0
  KnowBoth w = KnowsNow bits few cells on rank chains b (Del from) w.first × KnowsNow bits few cells on rank chains b (Get to) w.second

  second_begins : (part : Part) (first : Walk) → KnowsNow bits few cells on rank chains b (Get to) (second_at (2 ^ bits) (bucket bits) from to part first)
  second_begins OnFirst first = tt
  second_begins OnSecond first = by (is_one (2 ^ bits) (bucket bits) from to)
    where
      by : (one : Bool) → KnowsNow bits few cells on rank chains b (Get to) (cond one (record start { stage = AtLink; edition = first.edition; place = bucket_head (bucket bits to) }) start)
      by true = (inl refl, ahead_head (2 ^ bits) (bucket bits) (within bits few) cells on rank chains to, λ ne. absurd (ne refl))
      by false = tt
  second_begins AtLower first = tt
  second_begins AtHigher first = tt
  second_begins AtBoth first = tt
  second_begins Stopped first = tt

  know_fed : (w : TwoWalk) (part : Part) (p n : ℕ) → KnowBoth w → two_wanted (2 ^ bits) (bucket bits) from to w part ≡ Some p → cells p ≡ n
      → KnowBoth (two_fed (2 ^ bits) (bucket bits) from to b w part n)
  know_fed w OnFirst p n known want is =
      let first = first_fed (2 ^ bits) (bucket bits) from to b w.first n in (
        knows_read bits few cells on rank chains b (Del from) w.first p n want is known.0,
        second_begins (after_first (2 ^ bits) (bucket bits) from to first.stage) first,
      )
  know_fed w OnSecond p n known want is = (known.0, knows_read bits few cells on rank chains b (Get to) w.second p n want is known.1)
  know_fed w AtLower p n known want is = known
  know_fed w AtHigher p n known want is = known
  know_fed w AtBoth p n known want is = known
  know_fed w Stopped p n known want is = known

  pub both_known : (readings : Readings) → AreRead cells readings → KnowBoth (two_walk (2 ^ bits) (bucket bits) from to b two_start readings)
  both_known readings read = two_each (2 ^ bits) (bucket bits) from to b readings KnowBoth
      (λ w p n i known want at. know_fed w w.part p n known want (read i p n at)) two_start readings (λ i p n at. (i, at)) (tt, tt)
