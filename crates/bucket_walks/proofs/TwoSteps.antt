-- Each load brings a walk over two keys nearer to its end.
use Rattle.std.proofs.Common.{◌≡◌, ℕ, suc, ◌+◌, ◌*◌, ◌<◌, ◌≤◌, [], ◌∷◌, length, Bool, true, false, cond, refl, ap, subst, ◌∙◌, arith, Some}
use Rattle.std.specs.Prelude.{◌==◌, slice_get, take}
use Rattle.std.proofs.lemmas.Option.{none-some}
use Rattle.structure_laws.specs.table_words.specs.small_lemmas.proofs.Numbers.{self_tested}
use Rattle.structure_laws.specs.map_history.specs.declared.op.Op.TheVariants.{Get, Del}
use Rattle.structure_laws.specs.Scene.{Readings}
use Rattle.bucket_laws.specs.bucket_bodies.specs.section_body.specs.Bucket.{bucket_head}
use Rattle.bucket_laws.specs.Walk.{Stage, AtEdition, AtLink, AtKey, AtValue, AtNext, AtLock, AtEnd, Refused, Walk, Bounds}
use Rattle.bucket_laws.specs.Walk.{start, is_wanted}
use Rattle.bucket_laws.specs.TwoWalk.{Part, OnFirst, OnSecond, AtLower, AtHigher, AtBoth, Stopped, TwoWalk, is_one}
use Rattle.bucket_laws.specs.TwoWalk.{is_takable, after_first, second_at, after_second, first_fed, second_fed, two_wanted}
use Rattle.bucket_laws.specs.TwoWalk.{two_fed, two_walk}
use Rattle.bucket_walks.specs.Left.{left_in, two_left}
use Rattle.bucket_walks.proofs.Steps.{nearer}

module _ (buckets : ℕ) (bucket : ℕ → ℕ) (from to : ℕ) (b : Bounds) where
  -- what is left of the walk of the second key, as it begins
  second_few : (first : Walk) (one : Bool) → left_in b (cond one
      (record start { stage = AtLink; edition = first.edition; place = bucket_head (bucket to) }) start) ≤ 2 * b.links + 4
  second_few first true = omega arith
  second_few first false = omega arith

  first_nearer : (first : Walk) (stage : Stage) (low high : ℕ) → two_left b (record {
    part = after_first buckets bucket from to stage;
    first = first;
    second = second_at buckets bucket from to (after_first buckets bucket from to stage) first;
    low = low;
    high = high;
  }) (after_first buckets bucket from to stage) ≤ left_in b first + (2 * b.links + 6)
  first_nearer first AtEdition low high = omega arith
  first_nearer first AtLink low high = omega arith
  first_nearer first AtKey low high = omega arith
  first_nearer first AtValue low high = omega arith
  first_nearer first AtNext low high = omega arith
  first_nearer first AtLock low high = by (from == to)
    where
      by : (c : Bool) → two_left b (record {
        part = cond c AtLower OnSecond;
        first = first;
        second = second_at buckets bucket from to (cond c AtLower OnSecond) first;
        low = low;
        high = high;
      }) (cond c AtLower OnSecond) ≤ left_in b first + (2 * b.links + 6)
      by true = omega arith
      by false = let few = second_few first (is_one buckets bucket from to) in omega (arith, few)
  first_nearer first AtEnd low high = omega arith
  first_nearer first Refused low high = omega arith

  second_nearer : (first second : Walk) (stage : Stage) (low high : ℕ) → two_left b (record {
    part = after_second buckets bucket from to stage;
    first = first;
    second = second;
    low = low;
    high = high;
  }) (after_second buckets bucket from to stage) ≤ left_in b second + 2
  second_nearer first second AtEdition low high = omega arith
  second_nearer first second AtLink low high = omega arith
  second_nearer first second AtKey low high = omega arith
  second_nearer first second AtValue low high = omega arith
  second_nearer first second AtNext low high = omega arith
  second_nearer first second AtLock low high = omega arith
  second_nearer first second AtEnd low high = omega arith
  second_nearer first second Refused low high = omega arith

  abbrev Nearer : TwoWalk → Part → ℕ → Type 0
  Nearer w part word = two_left b (two_fed buckets bucket from to b w part word)
      (two_fed buckets bucket from to b w part word).part < two_left b w part

  nearer_at : (w : TwoWalk) (part : Part) (place word : ℕ) → two_wanted buckets bucket from to w part ≡ Some place
      → Nearer w part word
  nearer_at w OnFirst place word wants =
      let first = first_fed buckets bucket from to b w.first word in
      let near = nearer buckets bucket b (Del from) w.first place word wants in
      let most = first_nearer first first.stage w.low w.high in
      omega (arith, near, most)
  nearer_at w OnSecond place word wants =
      let second = second_fed buckets bucket from to b w.second word in
      let near = nearer buckets bucket b (Get to) w.second place word wants in
      let most = second_nearer w.first second second.stage w.low w.high in
      omega (arith, near, most)
  nearer_at w AtLower place word wants = by (is_takable b word) (is_one buckets bucket from to)
    where
      by : (takes one : Bool) → two_left b (record w { part = cond takes (cond one AtBoth AtHigher) Stopped; low = word })
          (cond takes (cond one AtBoth AtHigher) Stopped) < 2
      by true true = omega arith
      by true false = omega arith
      by false one = omega arith
  nearer_at w AtHigher place word wants = by (is_takable b word)
    where
      by : (takes : Bool) → two_left b (record w { part = cond takes AtBoth Stopped; high = word })
          (cond takes AtBoth Stopped) < 1
      by true = omega arith
      by false = omega arith
  nearer_at w AtBoth place word wants = absurd (none-some place wants)
  nearer_at w Stopped place word wants = absurd (none-some place wants)

  pub two_nearer : (w : TwoWalk) (place word : ℕ) → two_wanted buckets bucket from to w w.part ≡ Some place
      → Nearer w w.part word
  two_nearer w place word wants = nearer_at w w.part place word wants

  abbrev walked : TwoWalk → Readings → TwoWalk
  walked w readings = two_walk buckets bucket from to b w readings

  -- a walk goes on by a reading that it wants
  goes_on : (w : TwoWalk) (place word : ℕ) (readings : Readings) → two_wanted buckets bucket from to w w.part ≡ Some place
      → walked w ((place, word) ∷ readings) ≡ walked (two_fed buckets bucket from to b w w.part word) readings
  unfolding two_walk
  goes_on w place word readings wants =
      ap (λ c. cond c (walked (two_fed buckets bucket from to b w w.part word) readings) w) (ap (λ o. is_wanted o place) wants ∙ self_tested place)

  -- readings each of which the walk wants are no more than it had left
  pub two_few_left : (w : TwoWalk) (readings : Readings)
      → ((i place word : ℕ) → slice_get readings i ≡ Some (place, word)
      → two_wanted buckets bucket from to (walked w (take i readings)) (walked w (take i readings)).part ≡ Some place)
      → length readings ≤ two_left b w w.part
  unfolding two_walk
  two_few_left w [] walks = omega arith
  two_few_left w (reading ∷ readings) walks =
      let wants = walks 0 reading.0 reading.1 refl in
      let others = two_few_left (two_fed buckets bucket from to b w w.part reading.1) readings
      (λ i place word here. subst (λ (v : TwoWalk). two_wanted buckets bucket from to v v.part ≡ Some place)
      (goes_on w reading.0 reading.1 (take i readings) wants) (walks (suc i) place word here)) in
      let near = two_nearer w reading.0 reading.1 wants in
      omega (arith, others, near)
