-- The walk over two keys: what one more reading does, and what it takes from its readings alone.
use Rattle.std.proofs.Common.{◌≡◌, ◌≢◌, ℕ, suc, ◌<◌, Bool, true, false, cond, refl, sym, ap, ◌∙◌, subst, inl, inr}
use Rattle.std.proofs.Common.{⊎_elim, arith}
use Rattle.std.specs.Prelude.{◌==◌, ◌⊎◌, nat_le, Some, [], ◌∷◌, ◌++◌, slice_get}
use Rattle.std.proofs.lemmas.Bool.{both_ways}
use Rattle.std.proofs.lemmas.Option.{none-some}
use Rattle.structure_laws.specs.table_words.specs.small_lemmas.proofs.Lists.{same_number as some_eq}
use Rattle.structure_laws.specs.table_words.specs.small_lemmas.proofs.Numbers.{tested_equal as is_eq}
use Rattle.structure_laws.specs.map_history.specs.declared.op.Op.{Op}
use Rattle.structure_laws.specs.map_history.specs.declared.op.Op.TheVariants.{Get, Ins, Del, Put, Mov}
use Rattle.structure_laws.specs.map_history.specs.Keys.{key_of}
use Rattle.structure_laws.specs.body_terms.specs.Word.{value_of}
use Rattle.bucket_bodies.specs.section_body.specs.Bucket.{bucket_lock, bucket_edition, bucket_head}
use Rattle.structure_laws.specs.Scene.{Readings}
use Rattle.bucket_laws.specs.Halves.{Side, Own, Other}
use Rattle.bucket_laws.specs.Walk.{Stage, AtEdition, AtLink, AtKey, AtValue, AtNext, AtLock, AtEnd, Refused, Walk}
use Rattle.bucket_laws.specs.Walk.{start, Bounds, is_del, is_wanted, cell_at, wanted_at, fed}
use Rattle.bucket_laws.specs.TwoWalk.{Part, OnFirst, OnSecond, AtLower, AtHigher, AtBoth, Stopped, TwoWalk, two_start}
use Rattle.bucket_laws.specs.TwoWalk.{lower_of, higher_of, is_takable, is_one, two_wanted, after_first, second_at}
use Rattle.bucket_laws.specs.TwoWalk.{after_second, first_fed, second_fed, two_fed, two_walk, side_op, side_walk}
use Rattle.bucket_laws.proofs.Elsewhere.{IsAmong, first_fed as first_seen, edition_seen}
use Rattle.bucket_laws.proofs.WalkFacts.{WalkFacts, facts_fed, start_facts, walk_facts, no_node}
use Rattle.bucket_laws.proofs.Walks.{bool_cases, wanted_eq, is_first, edition_kept}

module _ (buckets : ℕ) (bucket : ℕ → ℕ) (from to : ℕ) (b : Bounds) where
  abbrev Walked : TwoWalk → Readings → TwoWalk
  Walked w readings = two_walk buckets bucket from to b w readings

  abbrev Wants : TwoWalk → ℕ → Type 0
  Wants w p = two_wanted buckets bucket from to w w.part ≡ Some p

  abbrev next : TwoWalk → ℕ → TwoWalk
  next w n = two_fed buckets bucket from to b w w.part n

  -- one more reading: the walk stays as it was, or goes on by it
  pub two_push : (w : TwoWalk) (readings : Readings) (p n : ℕ)
      → (Walked w (readings ++ (p, n) ∷ []) ≡ Walked w readings)
      ⊎ (Wants (Walked w readings) p × (Walked w (readings ++ (p, n) ∷ []) ≡ next (Walked w readings) n))
  unfolding two_walk
  two_push w [] p n = bool_cases (is_wanted (two_wanted buckets bucket from to w w.part) p)
      (λ e. inr (wanted_eq _ p e, ap (λ c. cond c (next w n) w) e))
      (λ e. inl (ap (λ c. cond c (next w n) w) e))
  two_push w (reading ∷ readings) p n = go (is_wanted (two_wanted buckets bucket from to w w.part) reading.0)
      (Walked (next w reading.1) readings) (Walked (next w reading.1) (readings ++ (p, n) ∷ []))
      (two_push (next w reading.1) readings p n)
    where
      go : (c : Bool) (after later : TwoWalk) → (later ≡ after) ⊎ (Wants after p × (later ≡ next after n))
          → (cond c later w ≡ cond c after w)
          ⊎ (Wants (cond c after w) p × (cond c later w ≡ next (cond c after w) n))
      go true after later h = h
      go false after later h = inl refl

  -- what holds at first and goes on to hold by each load that is wanted holds of the walk in readings
  pub two_each : (all : Readings) (P : TwoWalk → Type 0)
      → ((w : TwoWalk) (p n i : ℕ) → P w → Wants w p → slice_get all i ≡ Some (p, n) → P (next w n))
      → (w : TwoWalk) (readings : Readings)
      → ((i p n : ℕ) → slice_get readings i ≡ Some (p, n) → (j : ℕ) × (slice_get all j ≡ Some (p, n)))
      → P w → P (Walked w readings)
  unfolding two_walk
  two_each all P goes w [] among before = before
  two_each all P goes w (reading ∷ readings) among before =
      bool_cases (is_wanted (two_wanted buckets bucket from to w w.part) reading.0)
      (λ e. subst P (ap (λ c. cond c (Walked (next w reading.1) readings) w) (sym e))
      (let here = among 0 reading.0 reading.1 refl in
      two_each all P goes (next w reading.1) readings (λ i p n at. among (suc i) p n at)
      (goes w reading.0 reading.1 here.0 before (wanted_eq _ reading.0 e) here.1)))
      (λ e. subst P (ap (λ c. cond c (Walked (next w reading.1) readings) w) (sym e)) before)

  -- at its end it wants nothing more
  at_both : (w : TwoWalk) (more : Readings) → w.part ≡ AtBoth → Walked w more ≡ w
  unfolding two_walk
  at_both w [] e = refl
  at_both w (reading ∷ more) e =
      ap (λ part. cond (is_wanted (two_wanted buckets bucket from to w part) reading.0) (Walked (next w reading.1) more) w)
      e

  either : (one more stopped : TwoWalk) (c : Bool) → (one.part ≡ AtBoth → more ≡ one)
      → (cond c one stopped).part ≡ AtBoth → cond c more stopped ≡ cond c one stopped
  either one more stopped true h e = h e
  either one more stopped false h e = refl

  pub two_on : (w : TwoWalk) (readings more : Readings) → (Walked w readings).part ≡ AtBoth
      → Walked w (readings ++ more) ≡ Walked w readings
  unfolding two_walk
  two_on w [] more e = at_both w more e
  two_on w (reading ∷ readings) more e = either _ _ w (is_wanted (two_wanted buckets bucket from to w w.part) reading.0)
      (two_on (next w reading.1) readings more) e

  module _ (small : (key : ℕ) → bucket key < buckets) (all : Readings) where
    -- a lock's word was read, and the lock can be taken
    abbrev pub IsReadLock : ℕ → ℕ → Type 0
    IsReadLock i word = ((k : ℕ) × (slice_get all k ≡ Some (bucket_lock i, word))) × (is_takable b word ≡ true)

    abbrev low_bucket : ℕ
    low_bucket = lower_of (bucket from) (bucket to)

    abbrev high_bucket : ℕ
    high_bucket = higher_of (bucket from) (bucket to)

    -- in one bucket the edition was read once
    abbrev pub HaveOneEdition : TwoWalk → Type 0
    HaveOneEdition w = is_one buckets bucket from to ≡ true
        → (w.second.stage ≢ AtEdition) × (w.second.edition ≡ w.first.edition)

    -- both walks are whole, or the keys are one
    abbrev pub AreWhole : TwoWalk → Type 0
    AreWhole w = (w.first.stage ≡ AtLock) × ((((from == to) ≡ true) × (w.second ≡ start))
        ⊎ (((from == to) ≡ false) × (w.second.stage ≡ AtLock) × HaveOneEdition w))

    abbrev pub Progress : TwoWalk → Part → Type 0
    Progress w OnFirst = Unit {0}
    Progress w OnSecond = (w.first.stage ≡ AtLock) × ((from == to) ≡ false) × HaveOneEdition w
    Progress w AtLower = AreWhole w
    Progress w AtHigher = AreWhole w × IsReadLock low_bucket w.low
    Progress w AtBoth = AreWhole w × IsReadLock low_bucket w.low
        × (is_one buckets bucket from to ≡ false → IsReadLock high_bucket w.high)
    Progress w Stopped = Unit {0}

    pub record TwoFacts (w : TwoWalk) : Type 0 where
      pub first : WalkFacts buckets bucket small all (Del from) w.first
      pub second : WalkFacts buckets bucket small all (Get to) w.second
      pub first_read : w.first.stage ≢ AtEdition → IsAmong buckets bucket (Del from) all w.first.edition
      pub second_read : w.second.stage ≢ AtEdition → IsAmong buckets bucket (Get to) all w.second.edition
      pub progress : Progress w w.part

    -- the edition stays read
    read_fed : (op : Op) (w : Walk) (p n i : ℕ)
        → (w.stage ≢ AtEdition → IsAmong buckets bucket op all w.edition)
        → wanted_at buckets bucket (bucket (key_of op)) w w.stage ≡ Some p → slice_get all i ≡ Some (p, n)
        → IsAmong buckets bucket op all (fed buckets bucket b op w w.stage n).edition
    read_fed op w p n i seen want at = ⊎_elim
        (λ first. first_seen buckets bucket small b op all w p n i w.stage first want at)
        (λ ne. subst (IsAmong buckets bucket op all)
        (sym (edition_kept buckets bucket small b op w w.stage n ne)) (seen ne))
        (is_first buckets bucket small w.stage)

    -- behind a load the edition is read
    never_first : (op : Op) (w : Walk) (stage : Stage) (n p : ℕ)
        → wanted_at buckets bucket (bucket (key_of op)) w stage ≡ Some p
        → (fed buckets bucket b op w stage n).stage ≢ AtEdition
    never_first op w AtEdition n p want e = cc
    never_first op w AtLink n p want e = by (value_of n == 0) (nat_le b.links (suc w.links)) e
      where
        by : (none far : Bool) → cond none AtLock (cond far Refused AtKey) ≢ AtEdition
        by true far e = cc
        by false true e = cc
        by false false e = cc
    never_first op w AtKey n p want e = by (value_of n == key_of op) e
      where
        by : (same : Bool) → (cond same (record w { stage = AtValue })
            (record w { stage = AtLink; place = cell_at buckets bucket w.slot 3 })).stage ≢ AtEdition
        by true e = cc
        by false e = cc
    never_first op w AtValue n p want e = by (is_del op) e
      where
        by : (del : Bool) → cond del AtNext AtLock ≢ AtEdition
        by true e = cc
        by false e = cc
    never_first op w AtNext n p want e = cc
    never_first op w AtLock n p want e = by (is_takable b n) e
      where
        by : (takes : Bool) → cond takes AtEnd Refused ≢ AtEdition
        by true e = cc
        by false e = cc
    never_first op w AtEnd n p want e = absurd (none-some p want)
    never_first op w Refused n p want e = absurd (none-some p want)

    -- the walk of the second key, as it begins
    head_facts : (edition : ℕ) → WalkFacts buckets bucket small all (Get to)
        (record start { stage = AtLink; edition = edition; place = bucket_head (bucket to) })
    head_facts edition = record {
      place = λ ne. inl refl;
      slot = λ e. absurd (no_node buckets bucket small
          (record start { stage = AtLink; edition = edition; place = bucket_head (bucket to) }) refl (inr refl) e);
      head_small = omega arith;
      slot_small = omega arith;
      next_small = omega arith;
      value_small = omega arith;
    }

    second_facts : (part : Part) (first : Walk)
        → WalkFacts buckets bucket small all (Get to) (second_at buckets bucket from to part first)
    second_facts OnFirst first = start_facts buckets bucket small all (Get to)
    second_facts OnSecond first = begun (is_one buckets bucket from to)
      where
        begun : (one : Bool) → WalkFacts buckets bucket small all (Get to) (cond one
            (record start { stage = AtLink; edition = first.edition; place = bucket_head (bucket to) }) start)
        begun true = head_facts first.edition
        begun false = start_facts buckets bucket small all (Get to)
    second_facts AtLower first = start_facts buckets bucket small all (Get to)
    second_facts AtHigher first = start_facts buckets bucket small all (Get to)
    second_facts AtBoth first = start_facts buckets bucket small all (Get to)
    second_facts Stopped first = start_facts buckets bucket small all (Get to)

    -- its edition is the one that the first walk read
    second_seen : (part : Part) (first : Walk) → IsAmong buckets bucket (Del from) all first.edition
        → (second_at buckets bucket from to part first).stage ≢ AtEdition
        → IsAmong buckets bucket (Get to) all (second_at buckets bucket from to part first).edition
    second_seen OnFirst first seen ne = absurd (ne refl)
    second_seen OnSecond first seen ne = begun (is_one buckets bucket from to) refl ne
      where
        begun : (one : Bool) → (bucket from == bucket to) ≡ one
            → (cond one (record start { stage = AtLink; edition = first.edition; place = bucket_head (bucket to) })
            start).stage ≢ AtEdition
            → IsAmong buckets bucket (Get to) all (cond one
            (record start { stage = AtLink; edition = first.edition; place = bucket_head (bucket to) }) start).edition
        begun true same ne = (
          seen.0,
          seen.1
              ∙ ap (λ i. Some (bucket_edition i, first.edition)) (is_eq (bucket from) (bucket to) same),
        )
        begun false same ne = absurd (ne refl)
    second_seen AtLower first seen ne = absurd (ne refl)
    second_seen AtHigher first seen ne = absurd (ne refl)
    second_seen AtBoth first seen ne = absurd (ne refl)
    second_seen Stopped first seen ne = absurd (ne refl)

    -- where the first walk leads, and the second one
    first_on : (first : Walk) (stage : Stage) (low high : ℕ) → first.stage ≡ stage → Progress (record {
      part = after_first buckets bucket from to stage;
      first = first;
      second = second_at buckets bucket from to (after_first buckets bucket from to stage) first;
      low = low;
      high = high;
    }) (after_first buckets bucket from to stage)
    first_on first AtEdition low high at = tt
    first_on first AtLink low high at = tt
    first_on first AtKey low high at = tt
    first_on first AtValue low high at = tt
    first_on first AtNext low high at = tt
    first_on first AtLock low high at = go (from == to) refl
      where
        go : (c : Bool) → (from == to) ≡ c → Progress (record {
          part = cond c AtLower OnSecond;
          first = first;
          second = second_at buckets bucket from to (cond c AtLower OnSecond) first;
          low = low;
          high = high;
        }) (cond c AtLower OnSecond)
        go true same = (at, inl (same, refl))
        go false other = (at, other, λ one. begun (is_one buckets bucket from to) one)
          where
            begun : (one : Bool) → one ≡ true
                → ((cond one (record start { stage = AtLink; edition = first.edition; place = bucket_head (bucket to) })
                start).stage ≢ AtEdition) × ((cond one
                (record start { stage = AtLink; edition = first.edition; place = bucket_head (bucket to) }) start).edition
                ≡ first.edition)
            begun true is = (λ e. cc, refl)
            begun false is = absurd (cc)
    first_on first AtEnd low high at = tt
    first_on first Refused low high at = tt

    second_on : (first second : Walk) (stage : Stage) (low high : ℕ) → second.stage ≡ stage → first.stage ≡ AtLock
        → (from == to) ≡ false
        → (is_one buckets bucket from to ≡ true → (second.stage ≢ AtEdition) × (second.edition ≡ first.edition))
        → Progress (record {
          part = after_second buckets bucket from to stage;
          first = first;
          second = second;
          low = low;
          high = high;
        }) (after_second buckets bucket from to stage)
    second_on first second AtEdition low high at done other edition = (done, other, edition)
    second_on first second AtLink low high at done other edition = (done, other, edition)
    second_on first second AtKey low high at done other edition = (done, other, edition)
    second_on first second AtValue low high at done other edition = (done, other, edition)
    second_on first second AtNext low high at done other edition = (done, other, edition)
    second_on first second AtEnd low high at done other edition = (done, other, edition)
    second_on first second AtLock low high at done other edition = (done, inr (other, at, edition))
    second_on first second Refused low high at done other edition = tt

    -- a lock that was read
    lower_on : (w : TwoWalk) (n : ℕ) → AreWhole w
        → ((k : ℕ) × (slice_get all k ≡ Some (bucket_lock low_bucket, n))) → Progress (two_fed buckets bucket from to b w
        AtLower n) (two_fed buckets bucket from to b w AtLower n).part
    lower_on w n whole read = go (is_takable b n) refl (is_one buckets bucket from to) refl
      where
        go : (takes : Bool) → is_takable b n ≡ takes → (one : Bool) → is_one buckets bucket from to ≡ one
            → Progress (record w { part = cond takes (cond one AtBoth AtHigher) Stopped; low = n })
            (cond takes (cond one AtBoth AtHigher) Stopped)
        go true takes true one = (whole, (read, takes), λ other. absurd (both_ways _ other one))
        go true takes false two = (whole, (read, takes))
        go false takes one is = tt

    higher_on : (w : TwoWalk) (n : ℕ) → AreWhole w × IsReadLock low_bucket w.low
        → ((k : ℕ) × (slice_get all k ≡ Some (bucket_lock high_bucket, n))) → Progress (two_fed buckets bucket from to b
        w AtHigher n) (two_fed buckets bucket from to b w AtHigher n).part
    higher_on w n before read = go (is_takable b n) refl
      where
        go : (takes : Bool) → is_takable b n ≡ takes
            → Progress (record w { part = cond takes AtBoth Stopped; high = n }) (cond takes AtBoth Stopped)
        go true takes = (before.0, before.1, λ two. (read, takes))
        go false takes = tt

    -- a load that is wanted
    two_fact : (w : TwoWalk) (part : Part) (p n i : ℕ) → w.part ≡ part → TwoFacts w
        → two_wanted buckets bucket from to w part ≡ Some p → slice_get all i ≡ Some (p, n)
        → TwoFacts (two_fed buckets bucket from to b w part n)
    two_fact w OnFirst p n i is facts want at =
        let first = first_fed buckets bucket from to b w.first n in
        let seen = read_fed (Del from) w.first p n i facts.first_read want at in
        record {
          first = facts_fed buckets bucket small all b (Del from) w.first w.first.stage p n i facts.first refl want at;
          second = second_facts (after_first buckets bucket from to first.stage) first;
          first_read = λ ne. seen;
          second_read = second_seen (after_first buckets bucket from to first.stage) first seen;
          progress = first_on first first.stage w.low w.high refl;
        }
    two_fact w OnSecond p n i is facts want at =
        let second = second_fed buckets bucket from to b w.second n in
        let before = subst (Progress w) is facts.progress in
        record {
          first = facts.first;
          second = facts_fed buckets bucket small all b (Get to) w.second w.second.stage p n i facts.second refl want at;
          first_read = facts.first_read;
          second_read = λ ne. read_fed (Get to) w.second p n i facts.second_read want at;
          progress = second_on w.first second second.stage w.low w.high refl before.0 before.1 (λ one.
              let was = before.2 one in (
                never_first (Get to) w.second w.second.stage n p want,
                edition_kept buckets bucket small b (Get to) w.second w.second.stage n was.0
                    ∙ was.1,
              ));
        }
    two_fact w AtLower p n i is facts want at = record {
      first = facts.first;
      second = facts.second;
      first_read = facts.first_read;
      second_read = facts.second_read;
      progress = lower_on w n (subst (Progress w) is facts.progress)
          (i, subst (λ p. slice_get all i ≡ Some (p, n)) (sym (some_eq _ p want)) at);
    }
    two_fact w AtHigher p n i is facts want at = record {
      first = facts.first;
      second = facts.second;
      first_read = facts.first_read;
      second_read = facts.second_read;
      progress = higher_on w n (subst (Progress w) is facts.progress)
          (i, subst (λ p. slice_get all i ≡ Some (p, n)) (sym (some_eq _ p want)) at);
    }
    two_fact w AtBoth p n i is facts want at = absurd (none-some p want)
    two_fact w Stopped p n i is facts want at = absurd (none-some p want)

    two_begins : TwoFacts two_start
    two_begins = record {
      first = start_facts buckets bucket small all (Del from);
      second = start_facts buckets bucket small all (Get to);
      first_read = λ ne. absurd (ne refl);
      second_read = λ ne. absurd (ne refl);
      progress = tt;
    }

    pub two_facts : TwoFacts (two_walk buckets bucket from to b two_start all)
    two_facts = two_each all TwoFacts (λ w p n i facts want at. two_fact w w.part p n i refl facts want at) two_start all
        (λ i p n at. (i, at)) two_begins

module _ (buckets : ℕ) (bucket : ℕ → ℕ) (small : (key : ℕ) → bucket key < buckets) (b : Bounds) where
  abbrev SideSeen : Op → Readings → Side → Type 0
  SideSeen op readings side = (side_walk buckets bucket b op readings side).stage ≢ AtEdition
      → IsAmong buckets bucket (side_op op side) readings (side_walk buckets bucket b op readings side).edition

  -- the walk of each key has read the edition that it has
  pub side_seen : (op : Op) (readings : Readings) (side : Side) → SideSeen op readings side
  side_seen (Get key) readings Own ne = edition_seen buckets bucket small b (Get key) readings ne
  side_seen (Get key) readings Other ne = absurd (ne refl)
  side_seen (Ins key value) readings Own ne = edition_seen buckets bucket small b (Ins key value) readings ne
  side_seen (Ins key value) readings Other ne = absurd (ne refl)
  side_seen (Del key) readings Own ne = edition_seen buckets bucket small b (Del key) readings ne
  side_seen (Del key) readings Other ne = absurd (ne refl)
  side_seen (Put key value) readings Own ne = edition_seen buckets bucket small b (Put key value) readings ne
  side_seen (Put key value) readings Other ne = absurd (ne refl)
  side_seen (Mov from to) readings Own ne = (two_facts buckets bucket from to b small readings).first_read ne
  side_seen (Mov from to) readings Other ne = (two_facts buckets bucket from to b small readings).second_read ne

  -- and what it takes from its readings
  pub side_facts : (op : Op) (readings : Readings) (side : Side)
      → WalkFacts buckets bucket small readings (side_op op side) (side_walk buckets bucket b op readings side)
  side_facts (Get key) readings Own = walk_facts buckets bucket small b (Get key) readings
  side_facts (Get key) readings Other = start_facts buckets bucket small readings (Get key)
  side_facts (Ins key value) readings Own = walk_facts buckets bucket small b (Ins key value) readings
  side_facts (Ins key value) readings Other = start_facts buckets bucket small readings (Ins key value)
  side_facts (Del key) readings Own = walk_facts buckets bucket small b (Del key) readings
  side_facts (Del key) readings Other = start_facts buckets bucket small readings (Del key)
  side_facts (Put key value) readings Own = walk_facts buckets bucket small b (Put key value) readings
  side_facts (Put key value) readings Other = start_facts buckets bucket small readings (Put key value)
  side_facts (Mov from to) readings Own = (two_facts buckets bucket from to b small readings).first
  side_facts (Mov from to) readings Other = (two_facts buckets bucket from to b small readings).second
