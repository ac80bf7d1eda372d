-- The walk over one key or over two leads a runner as the table plans.
use Rattle.std.proofs.Common.{◌≡◌, ◌≢◌, ℕ, suc, ◌+◌, ◌*◌, ◌^◌, ◌<◌, ◌≤◌, ◌⊎◌, inl, inr, List, [], ◌∷◌, ◌++◌, length, Bool, true}
use Rattle.std.proofs.Common.{false, cond, refl, sym, ap, subst, ◌∙◌, ⊎_elim, arith, Option, Some, None}
use Rattle.std.specs.Prelude.{◌==◌, ◌&&◌, ◌||◌, not, ◌%◌, nat_lt, nat_le, is_some, if◌then◌else◌}
use Rattle.std.proofs.lemmas.Bool.{and_from}
use Rattle.std.proofs.lemmas.Option.{none-some}
use Rattle.machine_states.specs.epoch_core.specs.small_lemmas.proofs.Lists.{same_number as some_eq}
use Rattle.machine_states.specs.epoch_core.specs.small_lemmas.proofs.Numbers.{self_tested as self, equal_tested as eq_test}
use Rattle.machine_states.specs.map_history.specs.declared.op.Op.{Op}
use Rattle.machine_states.specs.map_history.specs.declared.op.Op.TheVariants.{Get, Ins, Del, Put, Mov}
use Rattle.machine_states.specs.map_history.specs.Keys.{key_of}
use Rattle.machine_states.specs.body_terms.specs.Word.{value_of, is_free, is_spent}
use Rattle.machine_states.specs.body_terms.specs.declared.thunk.Thunk.{Thunk}
use Rattle.bucket_walks.specs.section_body.specs.Bucket.{bucket_index, bucket_lock, bucket_edition, is_small}
use Rattle.machine_states.specs.table_words.specs.declared.layout.Layout.{Layout}
use Rattle.machine_states.specs.table_words.specs.Places.{slot_count}
use Rattle.machine_states.specs.structure_laws.specs.Scene.{Readings}
use Rattle.machine_states.specs.structure_laws.specs.Sections.{IsAllowed}
use Rattle.machine_states.specs.runner_parts.specs.Tests.{is_readable, has_pair}
use Rattle.bucket_walks.specs.bucket_laws.specs.Walk.{Stage, AtEdition, AtLink, AtKey, AtValue, AtNext, AtLock, AtEnd, Refused}
use Rattle.bucket_walks.specs.bucket_laws.specs.Walk.{Walk, start, Bounds, is_del, is_end, wanted_at, fed, has_one_key, same_numbers, form_for, operands_for, fits_walk}
use Rattle.bucket_walks.specs.bucket_laws.specs.Halves.{Own, Other}
use Rattle.bucket_walks.specs.bucket_laws.specs.TwoWalk.{Part, OnFirst, OnSecond, AtLower, AtHigher, AtBoth, Stopped}
use Rattle.bucket_walks.specs.bucket_laws.specs.TwoWalk.{TwoWalk, two_start, two_wanted, two_fed, two_walk, is_takable, is_one, is_both}
use Rattle.bucket_walks.specs.bucket_laws.specs.TwoWalk.{two_form, moves, high_lock, one_operands, both_operands, two_operands}
use Rattle.bucket_walks.specs.bucket_laws.specs.TwoWalk.{fits_two}
use Rattle.bucket_walks.specs.bucket_laws.specs.TwoWalk.{after_first, after_second, second_at, first_fed, second_fed, lower_of}
use Rattle.bucket_walks.specs.bucket_laws.specs.TwoWalk.{higher_of}
use Rattle.bucket_walks.specs.bucket_laws.specs.Buckets.{moves_meaning, bounds, walk_of, LinksWithin}
use Rattle.bucket_walks.specs.bucket_laws.proofs.TableLaws.{bucket_small, buckets_few}
use Rattle.bucket_walks.specs.bucket_laws.proofs.TwoWalks.{TwoFacts, Progress, two_facts, two_each}
use Rattle.bucket_walks.specs.bucket_laws.proofs.WalkFacts.{Gives, WalkFacts}
use Rattle.bucket_walks.proofs.Steps.{nearer}
use Rattle.bucket_walks.proofs.TwoSteps.{two_nearer}
use Rattle.lock_walks.specs.try_lock.specs.declared.planned.Planned.{Planned}
use Rattle.lock_walks.specs.try_lock.specs.declared.planned.Planned.TheVariants as answers
use Rattle.lock_walks.specs.try_lock.specs.Plans.{refused_by_lock}
use Rattle.lock_walks.specs.Way.{fed_all, IsLedBy, IsThunkFor, Leads}
use Rattle.lock_walks.proofs.Each.{each_more}
use Rattle.lock_walks.proofs.Following.{followed_led}
use Rattle.hash_table.specs.Walking.{is_refused_at}
use Rattle.hash_table.proofs.Knowing.{Knows, knows, any_of, free_of}
use Rattle.hash_table.proofs.Leads.{IsLockPlace, ends_at, eight, agrees_at, readable_at, fixed_low, within, lock_here, link_unlocked, no_lock, no_lock_cell}
use Rattle.key_move.specs.Moving.{Moving, begun, wanted_for, wanted_by, fed_for, fed_by, is_stopped, is_refused_for}
use Rattle.key_move.specs.Moving.{is_refused_of, left_for, thunk_by}
use Rattle.key_move.specs.Planned.{move_planning, move_way, moving_in, walk_in, side_in, is_far_walk}
use Rattle.key_move.proofs.Following.{in_readings}

-- each load brings a walk nearer to its end
shorter_for : (m : Moving) (op : Op) (place word : ℕ) → wanted_for m op ≡ Some place
    → left_for m.bounds (fed_for m op word) op < left_for m.bounds m.walk op
shorter_for m (Get key) place word wants =
    nearer (2 ^ m.bits) (λ key. bucket_index key m.bits) m.bounds (Get key) m.walk.first place word wants
shorter_for m (Ins key value) place word wants =
    nearer (2 ^ m.bits) (λ key. bucket_index key m.bits) m.bounds (Ins key value) m.walk.first place word wants
shorter_for m (Del key) place word wants =
    nearer (2 ^ m.bits) (λ key. bucket_index key m.bits) m.bounds (Del key) m.walk.first place word wants
shorter_for m (Put key value) place word wants =
    nearer (2 ^ m.bits) (λ key. bucket_index key m.bits) m.bounds (Put key value) m.walk.first place word wants
shorter_for m (Mov from to) place word wants =
    two_nearer (2 ^ m.bits) (λ key. bucket_index key m.bits) from to m.bounds m.walk place word wants

-- a walk begins with a load
begins_for : (bits limit version : ℕ) (op : Op) → (place : ℕ) × (wanted_for (begun bits op limit version) op ≡ Some place)
begins_for bits limit version (Get key) = (bucket_edition (bucket_index key bits), refl)
begins_for bits limit version (Ins key value) = (bucket_edition (bucket_index key bits), refl)
begins_for bits limit version (Del key) = (bucket_edition (bucket_index key bits), refl)
begins_for bits limit version (Put key value) = (bucket_edition (bucket_index key bits), refl)
begins_for bits limit version (Mov from to) = (bucket_edition (bucket_index from bits), refl)

few_for : (n version bits : ℕ) (op : Op)
    → left_for (record { links = n + 8; version_max = version }) (begun bits op (n + 8) version).walk op ≤ 6 * n + 44
few_for n version bits (Get key) = omega arith
few_for n version bits (Ins key value) = omega arith
few_for n version bits (Del key) = omega arith
few_for n version bits (Put key value) = omega arith
few_for n version bits (Mov from to) = omega arith

-- a walk that wants something wasn't refused
going_for : (m : Moving) (op : Op) (place : ℕ) → wanted_for m op ≡ Some place → is_refused_for m.walk op ≡ false
going_for m op place wants = by op wants
  where
    one : (i : ℕ) (w : Walk) (stage : Stage) → wanted_at (2 ^ m.bits) (λ key. bucket_index key m.bits) i w stage ≡ Some place
        → is_refused_at stage ≡ false
    one i w AtEdition wants = refl
    one i w AtLink wants = refl
    one i w AtKey wants = refl
    one i w AtValue wants = refl
    one i w AtNext wants = refl
    one i w AtLock wants = refl
    one i w AtEnd wants = refl
    one i w Refused wants = absurd (none-some place wants)

    both : (from to : ℕ) (part : Part) → two_wanted (2 ^ m.bits) (λ key. bucket_index key m.bits) from to m.walk part ≡ Some place
        → is_stopped part ≡ false
    both from to OnFirst wants = refl
    both from to OnSecond wants = refl
    both from to AtLower wants = refl
    both from to AtHigher wants = refl
    both from to AtBoth wants = refl
    both from to Stopped wants = absurd (none-some place wants)

    by : (op : Op) → wanted_for m op ≡ Some place → is_refused_for m.walk op ≡ false
    by (Get key) wants = one (bucket_index key m.bits) m.walk.first m.walk.first.stage wants
    by (Ins key value) wants = one (bucket_index key m.bits) m.walk.first m.walk.first.stage wants
    by (Del key) wants = one (bucket_index key m.bits) m.walk.first m.walk.first.stage wants
    by (Put key value) wants = one (bucket_index key m.bits) m.walk.first m.walk.first.stage wants
    by (Mov from to) wants = both from to m.walk.part wants

-- a test by numbers as the reading makes it
or_none : (b : Bool) → (b || false) ≡ b
or_none true = refl
or_none false = refl

some_if : (b : Bool) (answer : Planned) → is_some (if b then Some answer else None) ≡ b
some_if true answer = refl
some_if false answer = refl

-- the tests of an unlocked place are those of the walk
unlocked_test : (lock r far : Bool) (o : Option Planned) (answer : Planned) → lock ≡ false
    → r ≡ is_some (if lock then o else (if (r && far) then Some answer else None)) → r ≡ (r && far)
unlocked_test true r far o answer e h = absurd (cc)
unlocked_test false r far o answer e h = h ∙ some_if (r && far) answer

module _ (bits : ℕ) (few : bits ≤ 12) (layout : Layout) where
  abbrev hash : ℕ → ℕ
  hash key = bucket_index key bits

  abbrev limits : Bounds
  limits = bounds (2 ^ bits) hash layout

  abbrev small : (key : ℕ) → hash key < 2 ^ bits
  small key = bucket_small bits key few

  module _ (from to : ℕ) where
    abbrev walked : Readings → TwoWalk
    walked readings = two_walk (2 ^ bits) hash from to limits two_start readings

    facts : (readings : Readings) → TwoFacts (2 ^ bits) hash from to limits small readings (walked readings)
    facts readings = two_facts (2 ^ bits) hash from to limits small readings

    -- on the walk of a key its lock isn't wanted
    abbrev IsOnWay : TwoWalk → Part → Type 0
    IsOnWay w OnFirst = w.first.stage ≢ AtLock
    IsOnWay w OnSecond = w.second.stage ≢ AtLock
    IsOnWay w AtLower = Unit {0}
    IsOnWay w AtHigher = Unit {0}
    IsOnWay w AtBoth = Unit {0}
    IsOnWay w Stopped = Unit {0}

    not_lock : (stage : Stage) (w : Walk) → w.stage ≡ stage → (stage ≡ AtLock → ⊥) → w.stage ≢ AtLock
    not_lock stage w at other lock = other (sym at ∙ lock)

    first_way : (first : Walk) (stage : Stage) (low high : ℕ) → first.stage ≡ stage → IsOnWay (record {
      part = after_first (2 ^ bits) hash from to stage;
      first = first;
      second = second_at (2 ^ bits) hash from to (after_first (2 ^ bits) hash from to stage) first;
      low = low;
      high = high;
    }) (after_first (2 ^ bits) hash from to stage)
    first_way first AtEdition low high at = not_lock AtEdition first at (λ e. cc)
    first_way first AtLink low high at = not_lock AtLink first at (λ e. cc)
    first_way first AtKey low high at = not_lock AtKey first at (λ e. cc)
    first_way first AtValue low high at = not_lock AtValue first at (λ e. cc)
    first_way first AtNext low high at = not_lock AtNext first at (λ e. cc)
    first_way first AtLock low high at = by (from == to)
      where
        begun_way : (one : Bool) → (cond one (record start {
          stage = AtLink;
          edition = first.edition;
          place = 3 * hash to + 2;
        }) start).stage ≢ AtLock
        begun_way true e = cc
        begun_way false e = cc

        by : (c : Bool) → IsOnWay (record {
          part = cond c AtLower OnSecond;
          first = first;
          second = second_at (2 ^ bits) hash from to (cond c AtLower OnSecond) first;
          low = low;
          high = high;
        }) (cond c AtLower OnSecond)
        by true = tt
        by false = begun_way (is_one (2 ^ bits) hash from to)
    first_way first AtEnd low high at = not_lock AtEnd first at (λ e. cc)
    first_way first Refused low high at = tt

    second_way : (first second : Walk) (stage : Stage) (low high : ℕ) → second.stage ≡ stage → IsOnWay (record {
      part = after_second (2 ^ bits) hash from to stage;
      first = first;
      second = second;
      low = low;
      high = high;
    }) (after_second (2 ^ bits) hash from to stage)
    second_way first second AtEdition low high at = not_lock AtEdition second at (λ e. cc)
    second_way first second AtLink low high at = not_lock AtLink second at (λ e. cc)
    second_way first second AtKey low high at = not_lock AtKey second at (λ e. cc)
    second_way first second AtValue low high at = not_lock AtValue second at (λ e. cc)
    second_way first second AtNext low high at = not_lock AtNext second at (λ e. cc)
    second_way first second AtLock low high at = tt
    second_way first second AtEnd low high at = not_lock AtEnd second at (λ e. cc)
    second_way first second Refused low high at = tt

    way_fed : (w : TwoWalk) (part : Part) (p n : ℕ) → w.part ≡ part → IsOnWay w w.part
        → two_wanted (2 ^ bits) hash from to w part ≡ Some p
        → IsOnWay (two_fed (2 ^ bits) hash from to limits w part n) (two_fed (2 ^ bits) hash from to limits w part n).part
    way_fed w OnFirst p n is on want =
        let first = first_fed (2 ^ bits) hash from to limits w.first n in first_way first first.stage w.low w.high refl
    way_fed w OnSecond p n is on want =
        let second = second_fed (2 ^ bits) hash from to limits w.second n in
        second_way w.first second second.stage w.low w.high refl
    way_fed w AtLower p n is on want = by (is_takable limits n) (is_one (2 ^ bits) hash from to)
      where
        by : (takes one : Bool) → IsOnWay (record w { part = cond takes (cond one AtBoth AtHigher) Stopped; low = n })
            (cond takes (cond one AtBoth AtHigher) Stopped)
        by true true = tt
        by true false = tt
        by false one = tt
    way_fed w AtHigher p n is on want = by (is_takable limits n)
      where
        by : (takes : Bool) → IsOnWay (record w { part = cond takes AtBoth Stopped; high = n }) (cond takes AtBoth Stopped)
        by true = tt
        by false = tt
    way_fed w AtBoth p n is on want = absurd (none-some p want)
    way_fed w Stopped p n is on want = absurd (none-some p want)

    on_way : (readings : Readings) → IsOnWay (walked readings) (walked readings).part
    on_way readings = two_each (2 ^ bits) hash from to limits readings (λ w. IsOnWay w w.part)
        (λ w p n i on want at. way_fed w w.part p n refl on want) two_start readings (λ i p n at. (i, at)) (λ e. cc)

    -- what the walk of a key knows of the place that it wants
    known_by : (readings : Readings) (op : Op) (w : Walk) (stage : Stage) (place : ℕ) → w.stage ≡ stage
        → WalkFacts (2 ^ bits) hash small readings op w
        → wanted_at (2 ^ bits) hash (hash (key_of op)) w stage ≡ Some place
        → Knows (2 ^ bits) hash small limits op readings w stage
    known_by readings op w AtEdition place at facts want = tt
    known_by readings op w AtLink place at facts want = facts.place (λ e. other (sym at ∙ e))
      where
        other : AtLink ≡ AtEdition → ⊥
        other e = cc
    known_by readings op w AtKey place at facts want = facts.slot (inl at)
    known_by readings op w AtValue place at facts want = facts.slot (inr (inl at))
    known_by readings op w AtNext place at facts want = facts.slot (inr (inr (inl at)))
    known_by readings op w AtLock place at facts want = tt
    known_by readings op w AtEnd place at facts want = absurd (none-some place want)
    known_by readings op w Refused place at facts want = absurd (none-some place want)

    abbrev IsLowIn : Readings → ℕ → Type 0
    IsLowIn readings place = (is_readable (moves_meaning bits) readings place ≡ true)
        × (place < 3 * 2 ^ bits + 5 * slot_count layout 0)

    lock_low : (readings : Readings) (place : ℕ) (c : Bool) → bucket_lock (cond c (hash from) (hash to)) ≡ place
        → IsLowIn readings place
    lock_low readings place true same = fixed_low bits few layout (Del from) readings 0 place (omega arith) (omega (arith, same))
    lock_low readings place false same = fixed_low bits few layout (Get to) readings 0 place (omega arith) (omega (arith, same))

    lock_high : (readings : Readings) (place : ℕ) (c : Bool) → bucket_lock (cond c (hash to) (hash from)) ≡ place
        → IsLowIn readings place
    lock_high readings place true same = fixed_low bits few layout (Get to) readings 0 place (omega arith) (omega (arith, same))
    lock_high readings place false same = fixed_low bits few layout (Del from) readings 0 place (omega arith) (omega (arith, same))

    two_readable : (readings : Readings) (w : TwoWalk) (part : Part) (place : ℕ)
        → TwoFacts (2 ^ bits) hash from to limits small readings w
        → ((t : ℕ) → Gives (2 ^ bits) hash small readings t → t < slot_count layout 0)
        → two_wanted (2 ^ bits) hash from to w part ≡ Some place → IsLowIn readings place
    two_readable readings w OnFirst place facts inside wants =
        readable_at bits few layout (Del from) readings w.first w.first.stage place inside
        (known_by readings (Del from) w.first w.first.stage place refl facts.first wants) wants
    two_readable readings w OnSecond place facts inside wants =
        readable_at bits few layout (Get to) readings w.second w.second.stage place inside
        (known_by readings (Get to) w.second w.second.stage place refl facts.second wants) wants
    two_readable readings w AtLower place facts inside wants =
        lock_low readings place (nat_lt (hash from) (hash to)) (some_eq _ place wants)
    two_readable readings w AtHigher place facts inside wants =
        lock_high readings place (nat_lt (hash from) (hash to)) (some_eq _ place wants)
    two_readable readings w AtBoth place facts inside wants = absurd (none-some place wants)
    two_readable readings w Stopped place facts inside wants = absurd (none-some place wants)

    -- the reading of an unlocked place refuses exactly where the walk is too far
    abbrev Refuses : TwoWalk → ℕ → ℕ → Type 0
    Refuses next place word = is_stopped next.part
        ≡ is_some (if (nat_lt place (3 * 2 ^ bits) && (place % 3 == 0)) then refused_by_lock layout.version_max place word
        else (if (is_far_walk bits layout next.first || is_far_walk bits layout next.second)
        then Some (answers.Far (slot_count layout 0 + 8)) else None))

    no_far : (w : Walk) → (w.stage ≡ AtLock) ⊎ (w.stage ≡ AtEdition) ⊎ (w.stage ≡ AtLink) → is_far_walk bits layout w ≡ false
    no_far w at = ⊎_elim (λ e. ap (λ stage. is_refused_at stage && nat_le limits.links w.links) e)
        (⊎_elim (λ e. ap (λ stage. is_refused_at stage && nat_le limits.links w.links) e)
        (λ e. ap (λ stage. is_refused_at stage && nat_le limits.links w.links) e)) at

    refused_of : (stage : Stage) → is_stopped (after_first (2 ^ bits) hash from to stage) ≡ is_refused_at stage
    refused_of AtEdition = refl
    refused_of AtLink = refl
    refused_of AtKey = refl
    refused_of AtValue = refl
    refused_of AtNext = refl
    refused_of AtLock = by (from == to)
      where
        by : (c : Bool) → is_stopped (cond c AtLower OnSecond) ≡ false
        by true = refl
        by false = refl
    refused_of AtEnd = refl
    refused_of Refused = refl

    refused_too : (stage : Stage) → is_stopped (after_second (2 ^ bits) hash from to stage) ≡ is_refused_at stage
    refused_too AtEdition = refl
    refused_too AtLink = refl
    refused_too AtKey = refl
    refused_too AtValue = refl
    refused_too AtNext = refl
    refused_too AtLock = refl
    refused_too AtEnd = refl
    refused_too Refused = refl

    second_stage : (part : Part) (first : Walk) → ((second_at (2 ^ bits) hash from to part first).stage ≡ AtLock)
        ⊎ ((second_at (2 ^ bits) hash from to part first).stage ≡ AtEdition)
        ⊎ ((second_at (2 ^ bits) hash from to part first).stage ≡ AtLink)
    second_stage OnFirst first = inr (inl refl)
    second_stage OnSecond first = by (is_one (2 ^ bits) hash from to)
      where
        by : (one : Bool) → ((cond one (record start { stage = AtLink; edition = first.edition; place = 3 * hash to + 2 }) start).stage ≡ AtLock)
            ⊎ ((cond one (record start { stage = AtLink; edition = first.edition; place = 3 * hash to + 2 }) start).stage ≡ AtEdition)
            ⊎ ((cond one (record start { stage = AtLink; edition = first.edition; place = 3 * hash to + 2 }) start).stage ≡ AtLink)
        by true = inr (inr refl)
        by false = inr (inl refl)
    second_stage AtLower first = inr (inl refl)
    second_stage AtHigher first = inr (inl refl)
    second_stage AtBoth first = inr (inl refl)
    second_stage Stopped first = inr (inl refl)

    -- no place that the walk of a key wants is a lock
    place_open : (readings : Readings) (op : Op) (w : Walk) (stage : Stage) (place : ℕ) → w.stage ≡ stage
        → WalkFacts (2 ^ bits) hash small readings op w → w.stage ≢ AtLock
        → wanted_at (2 ^ bits) hash (hash (key_of op)) w stage ≡ Some place
        → IsLockPlace bits few layout op place ≡ false
    place_open readings op w AtEdition place at facts on want =
        ap (IsLockPlace bits few layout op) (sym (some_eq _ place want)) ∙ no_lock (2 ^ bits) hash (hash (key_of op)) 1 (omega arith) (omega arith)
    place_open readings op w AtLink place at facts on want =
        ap (IsLockPlace bits few layout op) (sym (some_eq w.place place want))
        ∙ link_unlocked bits few layout op readings w (known_by readings op w AtLink place at facts want)
    place_open readings op w AtKey place at facts on want =
        ap (IsLockPlace bits few layout op) (sym (some_eq _ place want)) ∙ no_lock_cell (2 ^ bits) hash w.slot 1
    place_open readings op w AtValue place at facts on want =
        ap (IsLockPlace bits few layout op) (sym (some_eq _ place want)) ∙ no_lock_cell (2 ^ bits) hash w.slot 2
    place_open readings op w AtNext place at facts on want =
        ap (IsLockPlace bits few layout op) (sym (some_eq _ place want)) ∙ no_lock_cell (2 ^ bits) hash w.slot 3
    place_open readings op w AtLock place at facts on want = absurd (on at)
    place_open readings op w AtEnd place at facts on want = absurd (none-some place want)
    place_open readings op w Refused place at facts on want = absurd (none-some place want)

    -- so a load of the walk of a key refuses exactly where it is too far
    walk_refuses : (readings : Readings) (op : Op) (w : Walk) (place word : ℕ)
        → WalkFacts (2 ^ bits) hash small readings op w → w.stage ≢ AtLock
        → wanted_at (2 ^ bits) hash (hash (key_of op)) w w.stage ≡ Some place
        → is_refused_at (fed (2 ^ bits) hash limits op w w.stage word).stage
        ≡ is_far_walk bits layout (fed (2 ^ bits) hash limits op w w.stage word)
    walk_refuses readings op w place word facts on want =
        let next = fed (2 ^ bits) hash limits op w w.stage word in
        unlocked_test (IsLockPlace bits few layout op place) (is_refused_at next.stage) (nat_le limits.links next.links)
        (refused_by_lock layout.version_max place word) (answers.Far (slot_count layout 0 + 8))
        (place_open readings op w w.stage place refl facts on want)
        (agrees_at bits few layout op readings w w.stage place word
        (known_by readings op w w.stage place refl facts want) want)

    open_refuses : (next : TwoWalk) (place word : ℕ) (lock far : Bool) → (nat_lt place (3 * 2 ^ bits) && (place % 3 == 0)) ≡ lock
        → lock ≡ false → is_stopped next.part ≡ (is_far_walk bits layout next.first || is_far_walk bits layout next.second)
        → Refuses next place word
    open_refuses next place word lock far at none same = same
        ∙ sym (some_if (is_far_walk bits layout next.first || is_far_walk bits layout next.second) (answers.Far (slot_count layout 0 + 8)))
        ∙ ap (λ b. is_some (if b then refused_by_lock layout.version_max place word
        else (if (is_far_walk bits layout next.first || is_far_walk bits layout next.second)
        then Some (answers.Far (slot_count layout 0 + 8)) else None))) (sym (at ∙ none))

    -- a lock refuses where it can't be taken
    lock_stops : (free spent one : Bool) (a b : Planned)
        → is_stopped (cond (free && not spent) (cond one AtBoth AtHigher) Stopped)
        ≡ is_some (if free then (if spent then Some a else None) else Some b)
    lock_stops true true one a b = refl
    lock_stops true false true a b = refl
    lock_stops true false false a b = refl
    lock_stops false spent one a b = refl

    last_stops : (free spent : Bool) (a b : Planned) → is_stopped (cond (free && not spent) AtBoth Stopped)
        ≡ is_some (if free then (if spent then Some a else None) else Some b)
    last_stops true true a b = refl
    last_stops true false a b = refl
    last_stops false spent a b = refl

    is_lock_at : (place i : ℕ) → i < 2 ^ bits → bucket_lock i ≡ place → (nat_lt place (3 * 2 ^ bits) && (place % 3 == 0)) ≡ true
    is_lock_at place i low same = ap (λ p. nat_lt p (3 * 2 ^ bits) && (p % 3 == 0)) (sym same) ∙ lock_here (2 ^ bits) hash i low

    either_low : (c : Bool) → cond c (hash from) (hash to) < 2 ^ bits
    either_low true = small from
    either_low false = small to

    either_high : (c : Bool) → cond c (hash to) (hash from) < 2 ^ bits
    either_high true = small to
    either_high false = small from

    locked_refuses : (next : TwoWalk) (place word : ℕ) → (nat_lt place (3 * 2 ^ bits) && (place % 3 == 0)) ≡ true
        → is_stopped next.part ≡ is_some (refused_by_lock layout.version_max place word) → Refuses next place word
    locked_refuses next place word lock same = same
        ∙ ap (λ b. is_some (if b then refused_by_lock layout.version_max place word
        else (if (is_far_walk bits layout next.first || is_far_walk bits layout next.second)
        then Some (answers.Far (slot_count layout 0 + 8)) else None))) (sym lock)

    two_refuses : (readings : Readings) (w : TwoWalk) (part : Part) (place word : ℕ) → w.part ≡ part
        → TwoFacts (2 ^ bits) hash from to limits small readings w → IsOnWay w part
        → two_wanted (2 ^ bits) hash from to w part ≡ Some place
        → Refuses (two_fed (2 ^ bits) hash from to limits w part word) place word
    two_refuses readings w OnFirst place word is facts on wants =
        let first = first_fed (2 ^ bits) hash from to limits w.first word in
        let part = after_first (2 ^ bits) hash from to first.stage in
        open_refuses (two_fed (2 ^ bits) hash from to limits w OnFirst word) place word _ false refl
        (place_open readings (Del from) w.first w.first.stage place refl facts.first on wants)
        (refused_of first.stage ∙ walk_refuses readings (Del from) w.first place word facts.first on wants
        ∙ sym (or_none (is_far_walk bits layout first))
        ∙ ap (λ b. is_far_walk bits layout first || b) (sym (no_far (second_at (2 ^ bits) hash from to part first) (second_stage part first))))
    two_refuses readings w OnSecond place word is facts on wants =
        let second = second_fed (2 ^ bits) hash from to limits w.second word in
        let before = subst (Progress (2 ^ bits) hash from to limits small readings w) is facts.progress in
        open_refuses (two_fed (2 ^ bits) hash from to limits w OnSecond word) place word _ false refl
        (place_open readings (Get to) w.second w.second.stage place refl facts.second on wants)
        (refused_too second.stage ∙ walk_refuses readings (Get to) w.second place word facts.second on wants
        ∙ ap (λ b. b || is_far_walk bits layout second) (sym (no_far w.first (inl before.0))))
    two_refuses readings w AtLower place word is facts on wants =
        locked_refuses (two_fed (2 ^ bits) hash from to limits w AtLower word) place word
        (is_lock_at place (lower_of (hash from) (hash to)) (either_low (nat_lt (hash from) (hash to))) (some_eq _ place wants))
        (lock_stops (is_free word) (is_spent layout.version_max word) (is_one (2 ^ bits) hash from to)
        (answers.Spent place word) (answers.Busy place word))
    two_refuses readings w AtHigher place word is facts on wants =
        locked_refuses (two_fed (2 ^ bits) hash from to limits w AtHigher word) place word
        (is_lock_at place (higher_of (hash from) (hash to)) (either_high (nat_lt (hash from) (hash to))) (some_eq _ place wants))
        (last_stops (is_free word) (is_spent layout.version_max word) (answers.Spent place word) (answers.Busy place word))
    two_refuses readings w AtBoth place word is facts on wants = absurd (none-some place wants)
    two_refuses readings w Stopped place word is facts on wants = absurd (none-some place wants)

    -- a walk that wants nothing and wasn't refused is at its end: on the walk of a key it is neither refused nor at
    -- the key's end
    abbrev IsGoing : TwoWalk → Part → Type 0
    IsGoing w OnFirst = (w.first.stage ≢ AtEnd) × (w.first.stage ≢ Refused)
    IsGoing w OnSecond = (w.second.stage ≢ AtEnd) × (w.second.stage ≢ Refused)
    IsGoing w AtLower = Unit {0}
    IsGoing w AtHigher = Unit {0}
    IsGoing w AtBoth = Unit {0}
    IsGoing w Stopped = Unit {0}

    fed_on : (op : Op) (w : Walk) (stage : Stage) (n p : ℕ) → stage ≢ AtLock
        → wanted_at (2 ^ bits) hash (hash (key_of op)) w stage ≡ Some p
        → (fed (2 ^ bits) hash limits op w stage n).stage ≢ AtEnd
    fed_on op w AtEdition n p on want e = cc
    fed_on op w AtLink n p on want e = by (value_of n == 0) (nat_le limits.links (suc w.links)) e
      where
        by : (none far : Bool) → cond none AtLock (cond far Refused AtKey) ≢ AtEnd
        by true far e = cc
        by false true e = cc
        by false false e = cc
    fed_on op w AtKey n p on want e = by (value_of n == key_of op) e
      where
        by : (same : Bool) → (cond same (record w { stage = AtValue })
            (record w { stage = AtLink; place = 3 * 2 ^ bits + 5 * w.slot + 3 })).stage ≢ AtEnd
        by true e = cc
        by false e = cc
    fed_on op w AtValue n p on want e = by (is_del op) e
      where
        by : (del : Bool) → cond del AtNext AtLock ≢ AtEnd
        by true e = cc
        by false e = cc
    fed_on op w AtNext n p on want e = cc
    fed_on op w AtLock n p on want e = absurd (on refl)
    fed_on op w AtEnd n p on want e = absurd (none-some p want)
    fed_on op w Refused n p on want e = absurd (none-some p want)

    not_end : (stage : Stage) (w : Walk) → w.stage ≡ stage → (stage ≡ AtEnd → ⊥) × (stage ≡ Refused → ⊥)
        → (w.stage ≢ AtEnd) × (w.stage ≢ Refused)
    not_end stage w at other = (λ e. other.0 (sym at ∙ e), λ e. other.1 (sym at ∙ e))

    first_going : (first : Walk) (stage : Stage) (low high : ℕ) → first.stage ≡ stage → stage ≢ AtEnd → IsGoing (record {
      part = after_first (2 ^ bits) hash from to stage;
      first = first;
      second = second_at (2 ^ bits) hash from to (after_first (2 ^ bits) hash from to stage) first;
      low = low;
      high = high;
    }) (after_first (2 ^ bits) hash from to stage)
    first_going first AtEdition low high at ne = not_end AtEdition first at (λ e. cc, λ e. cc)
    first_going first AtLink low high at ne = not_end AtLink first at (λ e. cc, λ e. cc)
    first_going first AtKey low high at ne = not_end AtKey first at (λ e. cc, λ e. cc)
    first_going first AtValue low high at ne = not_end AtValue first at (λ e. cc, λ e. cc)
    first_going first AtNext low high at ne = not_end AtNext first at (λ e. cc, λ e. cc)
    first_going first AtLock low high at ne = by (from == to)
      where
        begun_going : (one : Bool) → ((cond one (record start {
          stage = AtLink;
          edition = first.edition;
          place = 3 * hash to + 2;
        }) start).stage ≢ AtEnd) × ((cond one (record start {
          stage = AtLink;
          edition = first.edition;
          place = 3 * hash to + 2;
        }) start).stage ≢ Refused)
        begun_going true = (λ e. cc, λ e. cc)
        begun_going false = (λ e. cc, λ e. cc)

        by : (c : Bool) → IsGoing (record {
          part = cond c AtLower OnSecond;
          first = first;
          second = second_at (2 ^ bits) hash from to (cond c AtLower OnSecond) first;
          low = low;
          high = high;
        }) (cond c AtLower OnSecond)
        by true = tt
        by false = begun_going (is_one (2 ^ bits) hash from to)
    first_going first AtEnd low high at ne = absurd (ne refl)
    first_going first Refused low high at ne = tt

    second_going : (first second : Walk) (stage : Stage) (low high : ℕ) → second.stage ≡ stage → stage ≢ AtEnd
        → IsGoing (record {
          part = after_second (2 ^ bits) hash from to stage;
          first = first;
          second = second;
          low = low;
          high = high;
        }) (after_second (2 ^ bits) hash from to stage)
    second_going first second AtEdition low high at ne = not_end AtEdition second at (λ e. cc, λ e. cc)
    second_going first second AtLink low high at ne = not_end AtLink second at (λ e. cc, λ e. cc)
    second_going first second AtKey low high at ne = not_end AtKey second at (λ e. cc, λ e. cc)
    second_going first second AtValue low high at ne = not_end AtValue second at (λ e. cc, λ e. cc)
    second_going first second AtNext low high at ne = not_end AtNext second at (λ e. cc, λ e. cc)
    second_going first second AtLock low high at ne = tt
    second_going first second AtEnd low high at ne = absurd (ne refl)
    second_going first second Refused low high at ne = tt

    going_fed : (w : TwoWalk) (part : Part) (p n : ℕ) → IsOnWay w part
        → two_wanted (2 ^ bits) hash from to w part ≡ Some p
        → IsGoing (two_fed (2 ^ bits) hash from to limits w part n) (two_fed (2 ^ bits) hash from to limits w part n).part
    going_fed w OnFirst p n on want =
        let first = first_fed (2 ^ bits) hash from to limits w.first n in
        first_going first first.stage w.low w.high refl (fed_on (Del from) w.first w.first.stage n p on want)
    going_fed w OnSecond p n on want =
        let second = second_fed (2 ^ bits) hash from to limits w.second n in
        second_going w.first second second.stage w.low w.high refl (fed_on (Get to) w.second w.second.stage n p on want)
    going_fed w AtLower p n on want = by (is_takable limits n) (is_one (2 ^ bits) hash from to)
      where
        by : (takes one : Bool) → IsGoing (record w { part = cond takes (cond one AtBoth AtHigher) Stopped; low = n })
            (cond takes (cond one AtBoth AtHigher) Stopped)
        by true true = tt
        by true false = tt
        by false one = tt
    going_fed w AtHigher p n on want = by (is_takable limits n)
      where
        by : (takes : Bool) → IsGoing (record w { part = cond takes AtBoth Stopped; high = n }) (cond takes AtBoth Stopped)
        by true = tt
        by false = tt
    going_fed w AtBoth p n on want = absurd (none-some p want)
    going_fed w Stopped p n on want = absurd (none-some p want)

    going : (readings : Readings) → IsOnWay (walked readings) (walked readings).part × IsGoing (walked readings) (walked readings).part
    going readings = two_each (2 ^ bits) hash from to limits readings (λ w. IsOnWay w w.part × IsGoing w w.part)
        (λ w p n i on want at. (way_fed w w.part p n refl on.0 want, going_fed w w.part p n on.0 want)) two_start readings
        (λ i p n at. (i, at)) (λ e. cc, (λ e. cc, λ e. cc))

    wants_some : (i : ℕ) (w : Walk) (stage : Stage) → wanted_at (2 ^ bits) hash i w stage ≡ None
        → (stage ≢ AtEnd) × (stage ≢ Refused) → ⊥
    wants_some i w AtEdition wants on = some_none _ wants
      where
        some_none : {A : Type 0} (p : ℕ) → Some p ≡ None → A
        some_none p e = cc
    wants_some i w AtLink wants on = cc
    wants_some i w AtKey wants on = cc
    wants_some i w AtValue wants on = cc
    wants_some i w AtNext wants on = cc
    wants_some i w AtLock wants on = cc
    wants_some i w AtEnd wants on = on.0 refl
    wants_some i w Refused wants on = on.1 refl

    ends : (w : TwoWalk) (part : Part) → IsGoing w part → two_wanted (2 ^ bits) hash from to w part ≡ None
        → is_stopped part ≡ false → part ≡ AtBoth
    ends w OnFirst on wants goes = absurd (wants_some (hash from) w.first w.first.stage wants on)
    ends w OnSecond on wants goes = absurd (wants_some (hash to) w.second w.second.stage wants on)
    ends w AtLower on wants goes = absurd (let is = wants in cc)
    ends w AtHigher on wants goes = absurd (let is = wants in cc)
    ends w AtBoth on wants goes = refl
    ends w Stopped on wants goes = absurd (cc)

    -- its thunk fits it
    same_self : (xs : List ℕ) → same_numbers xs xs ≡ true
    same_self [] = refl
    same_self (x ∷ xs) = (λ i. self x i && same_self xs i)

    first_of : (b c : Bool) → b ≡ true → (b || c) ≡ true
    first_of true c e = refl
    first_of false c e = absurd (cc)

    is_small_so : (n : ℕ) → n < 2 ^ 32 → is_small n ≡ true
    is_small_so n low = grind arith

    high_small : high_lock (2 ^ bits) hash from to < 2 ^ 32
    high_small = by (nat_lt (hash from) (hash to))
      where
        buckets_low : 3 * 2 ^ bits ≤ 12288
        buckets_low = buckets_few bits few

        by : (c : Bool) → bucket_lock (cond c (hash to) (hash from)) < 2 ^ 32
        by true = let low = small to in let most = buckets_low in omega (arith, low, most)
        by false = let low = small from in let most = buckets_low in omega (arith, low, most)

    -- the thunk of a whole walk over two keys
    abbrev thunk_at : TwoWalk → ℕ → Thunk
    thunk_at w number = thunk_by (record { bits = bits; bounds = limits; op = Mov from to; walk = w }) number

    two_fits : (readings : Readings) (w : TwoWalk) (number : ℕ) → to < 2 ^ 32 → w.first.next < 2 ^ 32 → w.part ≡ AtBoth
        → fits_two (2 ^ bits) hash from to w (thunk_at w number) ≡ true
    two_fits readings w number key_low next_low at =
        let halves = and_from (is_small (high_lock (2 ^ bits) hash from to)) _ (is_small_so _ high_small)
        (and_from (is_small w.first.next) (is_small to) (is_small_so _ next_low) (is_small_so _ key_low)) in
        (λ i. is_both (at i) && (halves i && (self (two_form (2 ^ bits) hash from to w) i
        && (self (bucket_lock (lower_of (hash from) (hash to))) i
        && (self w.low i && same_self (two_operands (2 ^ bits) hash from to w) i)))))

    two_eight : (w : TwoWalk) → length (two_operands (2 ^ bits) hash from to w) ≡ 8
    two_eight w = by (is_one (2 ^ bits) hash from to) (moves (2 ^ bits) hash from to w)
      where
        by : (one m : Bool) → length (cond one (one_operands (2 ^ bits) hash from to w m)
            (both_operands (2 ^ bits) hash from to w m)) ≡ 8
        by true true = refl
        by true false = refl
        by false true = refl
        by false false = refl

    two_thunk : (number : ℕ) (readings : Readings) → IsAllowed (Mov from to)
        → two_wanted (2 ^ bits) hash from to (walked readings) (walked readings).part ≡ None
        → is_stopped (walked readings).part ≡ false
        → IsThunkFor move_way (moves_meaning bits) layout (begun bits (Mov from to) (slot_count layout 0 + 8) layout.version_max)
        number readings (thunk_at (walked readings) number)
    two_thunk number readings allowed wants goes =
        let w = walked readings in
        let at = ends w w.part (going readings).1 wants goes in
        let all = facts readings in
        let whole = subst (Progress (2 ^ bits) hash from to limits small readings w) at all.progress in
        let read = whole.1 in
        let takable = free_of (is_free w.low) (is_spent layout.version_max w.low) read.1 in
        let key_low = allowed.keys to (inr refl) in
        record {
          fits = first_of _ _ (two_fits readings w number (omega (arith, key_low)) all.first.next_small at);
          request = refl;
          operands = two_eight w;
          free = takable.0;
          unspent = takable.1;
          read = any_of (λ x. x.0 == bucket_lock (lower_of (hash from) (hash to)) && x.1 == w.low) readings read.0.0
              (bucket_lock (lower_of (hash from) (hash to)), w.low) read.0.1
              (and_from _ _ (eq_test (bucket_lock (lower_of (hash from) (hash to))) _ refl) (eq_test w.low _ refl));
        }

  -- of an operation over one key
  module _ (op : Op) (one : has_one_key op ≡ true) where
    one_self : (xs : List ℕ) → same_numbers xs xs ≡ true
    one_self [] = refl
    one_self (x ∷ xs) = (λ i. self x i && one_self xs i)

    one_fits : (w : Walk) (number : ℕ) → w.stage ≡ AtEnd → fits_walk (2 ^ bits) hash op w (record {
      form = form_for op w.found;
      request = number;
      lock = bucket_lock (hash (key_of op));
      word = w.word;
      operands = operands_for (2 ^ bits) op w w.found;
    }) ≡ true
    one_fits w number at = (λ i. one i && (is_end (at i) && (self (form_for op w.found) i && (self (bucket_lock (hash (key_of op))) i && (self w.word i && one_self (operands_for (2 ^ bits) op w w.found) i)))))

    -- what stands of it at its end
    at_end : (readings : Readings) → (walk_of (2 ^ bits) hash layout op readings).stage ≡ AtEnd
        → (is_free (walk_of (2 ^ bits) hash layout op readings).word ≡ true)
        × (is_spent layout.version_max (walk_of (2 ^ bits) hash layout op readings).word ≡ false)
        × (has_pair readings (bucket_lock (hash (key_of op))) (walk_of (2 ^ bits) hash layout op readings).word ≡ true)
    at_end readings at = subst (Knows (2 ^ bits) hash small limits op readings (walk_of (2 ^ bits) hash layout op readings)) at
        (knows (2 ^ bits) hash small limits op readings)

  -- a load that is readable, and that refuses, by the operation
  readable_for : (op : Op) (readings : Readings) (place : ℕ)
      → ((t : ℕ) → Gives (2 ^ bits) hash small readings t → t < slot_count layout 0)
      → wanted_by (moving_in bits layout op readings) ≡ Some place
      → (is_readable (moves_meaning bits) readings place ≡ true) × (place < 3 * 2 ^ bits + 5 * slot_count layout 0)
  readable_for (Get key) readings place inside wants = let w = walk_of (2 ^ bits) hash layout (Get key) readings in
      readable_at bits few layout (Get key) readings w w.stage place inside
      (knows (2 ^ bits) hash small limits (Get key) readings) wants
  readable_for (Ins key value) readings place inside wants =
      let w = walk_of (2 ^ bits) hash layout (Ins key value) readings in
      readable_at bits few layout (Ins key value) readings w w.stage place inside
      (knows (2 ^ bits) hash small limits (Ins key value) readings) wants
  readable_for (Del key) readings place inside wants = let w = walk_of (2 ^ bits) hash layout (Del key) readings in
      readable_at bits few layout (Del key) readings w w.stage place inside
      (knows (2 ^ bits) hash small limits (Del key) readings) wants
  readable_for (Put key value) readings place inside wants =
      let w = walk_of (2 ^ bits) hash layout (Put key value) readings in
      readable_at bits few layout (Put key value) readings w w.stage place inside
      (knows (2 ^ bits) hash small limits (Put key value) readings) wants
  readable_for (Mov from to) readings place inside wants = let w = walked from to readings in
      two_readable from to readings w w.part place (facts from to readings) inside wants

  -- the walk after a load
  abbrev after : Op → Readings → ℕ → TwoWalk
  after op readings word = fed_for (moving_in bits layout op readings) op word

  abbrev RefusesSo : TwoWalk → Op → ℕ → ℕ → Type 0
  RefusesSo next op place word = is_refused_for next op
      ≡ is_some (if (nat_lt place (3 * 2 ^ bits) && (place % 3 == 0)) then refused_by_lock layout.version_max place word
      else (if (is_far_walk bits layout next.first || is_far_walk bits layout next.second)
      then Some (answers.Far (slot_count layout 0 + 8)) else None))

  one_refuses : (op : Op) (readings : Readings) (w : Walk) (place word : ℕ)
      → Knows (2 ^ bits) hash small limits op readings w w.stage
      → wanted_at (2 ^ bits) hash (hash (key_of op)) w w.stage ≡ Some place
      → is_refused_at (fed (2 ^ bits) hash limits op w w.stage word).stage
      ≡ is_some (if (nat_lt place (3 * 2 ^ bits) && (place % 3 == 0)) then refused_by_lock layout.version_max place word
      else (if (is_far_walk bits layout (fed (2 ^ bits) hash limits op w w.stage word) || false)
      then Some (answers.Far (slot_count layout 0 + 8)) else None))
  one_refuses op readings w place word known wants = agrees_at bits few layout op readings w w.stage place word known wants
      ∙ ap (λ b. is_some (if (nat_lt place (3 * 2 ^ bits) && (place % 3 == 0)) then refused_by_lock layout.version_max place word
      else (if b then Some (answers.Far (slot_count layout 0 + 8)) else None)))
      (sym (or_none (is_far_walk bits layout (fed (2 ^ bits) hash limits op w w.stage word))))

  refuses_for : (op : Op) (readings : Readings) (place word : ℕ) → wanted_by (moving_in bits layout op readings) ≡ Some place
      → RefusesSo (after op readings word) op place word
  refuses_for (Get key) readings place word wants =
      one_refuses (Get key) readings (walk_of (2 ^ bits) hash layout (Get key) readings) place word
      (knows (2 ^ bits) hash small limits (Get key) readings) wants
  refuses_for (Ins key value) readings place word wants =
      one_refuses (Ins key value) readings (walk_of (2 ^ bits) hash layout (Ins key value) readings) place word
      (knows (2 ^ bits) hash small limits (Ins key value) readings) wants
  refuses_for (Del key) readings place word wants =
      one_refuses (Del key) readings (walk_of (2 ^ bits) hash layout (Del key) readings) place word
      (knows (2 ^ bits) hash small limits (Del key) readings) wants
  refuses_for (Put key value) readings place word wants =
      one_refuses (Put key value) readings (walk_of (2 ^ bits) hash layout (Put key value) readings) place word
      (knows (2 ^ bits) hash small limits (Put key value) readings) wants
  refuses_for (Mov from to) readings place word wants = let w = walked from to readings in
      two_refuses from to readings w w.part place word refl (facts from to readings) (going from to readings).0 wants

  fits_for : (op : Op) (number : ℕ) (readings : Readings) → IsAllowed op
      → wanted_by (moving_in bits layout op readings) ≡ None → is_refused_of (moving_in bits layout op readings) ≡ false
      → IsThunkFor move_way (moves_meaning bits) layout (begun bits op (slot_count layout 0 + 8) layout.version_max) number
      readings (thunk_by (moving_in bits layout op readings) number)
  fits_for (Get key) number readings allowed wants goes =
      let w = walk_of (2 ^ bits) hash layout (Get key) readings in
      let at = ends_at bits few layout (Get key) w w.stage wants goes in
      let known = at_end (Get key) refl readings at in
      record { fits = one_fits (Get key) refl w number at; request = refl; operands = eight bits few layout (Get key) (Get key) w w.found; free = known.0; unspent = known.1; read = known.2 }
  fits_for (Ins key value) number readings allowed wants goes =
      let w = walk_of (2 ^ bits) hash layout (Ins key value) readings in
      let at = ends_at bits few layout (Ins key value) w w.stage wants goes in
      let known = at_end (Ins key value) refl readings at in
      record { fits = one_fits (Ins key value) refl w number at; request = refl; operands = eight bits few layout (Get key) (Ins key value) w w.found; free = known.0; unspent = known.1; read = known.2 }
  fits_for (Del key) number readings allowed wants goes =
      let w = walk_of (2 ^ bits) hash layout (Del key) readings in
      let at = ends_at bits few layout (Del key) w w.stage wants goes in
      let known = at_end (Del key) refl readings at in
      record { fits = one_fits (Del key) refl w number at; request = refl; operands = eight bits few layout (Get key) (Del key) w w.found; free = known.0; unspent = known.1; read = known.2 }
  fits_for (Put key value) number readings allowed wants goes =
      let w = walk_of (2 ^ bits) hash layout (Put key value) readings in
      let at = ends_at bits few layout (Put key value) w w.stage wants goes in
      let known = at_end (Put key value) refl readings at in
      record { fits = one_fits (Put key value) refl w number at; request = refl; operands = eight bits few layout (Get key) (Put key value) w w.found; free = known.0; unspent = known.1; read = known.2 }
  fits_for (Mov from to) number readings allowed wants goes = two_thunk from to number readings allowed wants goes

  -- a plan is too far where one of the walks of its keys is
  sides_far : (op : Op) (readings : Readings)
      → (is_far_walk bits layout (walk_in bits layout op readings).first
      || is_far_walk bits layout (walk_in bits layout op readings).second)
      ≡ (is_far_walk bits layout (side_in bits layout op readings Own)
      || is_far_walk bits layout (side_in bits layout op readings Other))
  sides_far (Get key) readings = refl
  sides_far (Ins key value) readings = refl
  sides_far (Del key) readings = refl
  sides_far (Put key value) readings = refl
  sides_far (Mov from to) readings = refl

  module _ (op : Op) (allowed : IsAllowed op) where
    abbrev first : Moving
    first = begun bits op (slot_count layout 0 + 8) layout.version_max

    here : (readings : Readings) → IsLedBy move_way first readings
        → fed_all move_way first readings ≡ moving_in bits layout op readings
    here readings led = followed_led move_way first readings led ∙ in_readings bits layout op readings

    steady : (m : Moving) (readings : Readings)
        → move_planning (fed_all move_way m readings).bits ≡ move_planning m.bits
    steady m [] = refl
    steady m (x ∷ readings) = steady (fed_by m x.1) readings

    inside : (readings : Readings) → (readings ≡ []) ⊎ LinksWithin (2 ^ bits) hash layout readings → (t : ℕ)
        → Gives (2 ^ bits) hash small readings t → t < slot_count layout 0
    inside readings walked = within bits few layout op readings walked

    fed_last : (m : Moving) (readings : Readings) (place word : ℕ)
        → fed_all move_way m (readings ++ (place, word) ∷ []) ≡ fed_by (fed_all move_way m readings) word
    fed_last m [] place word = refl
    fed_last m (x ∷ readings) place word = fed_last (fed_by m x.1) readings place word

    pub leads : Leads move_way (moves_meaning bits) layout first
    leads = record {
      begins = begins_for bits (slot_count layout 0 + 8) layout.version_max op;
      shorter = λ m place word wants. shorter_for m m.op place word wants;
      steady = λ readings. steady first readings;
      wanted = λ readings led. sym (ap wanted_by (here readings led));
      readable = λ readings place led wants known.
          readable_for op readings place (inside readings known) (sym (ap wanted_by (here readings led)) ∙ wants);
      refuses = λ readings place word led wants known.
          let wants_so = sym (ap wanted_by (here readings led)) ∙ wants in
          let more = each_more (λ rs p w. wanted_by (fed_all move_way first rs) ≡ Some p) readings place word led wants in
          let next : walk_in bits layout op (readings ++ (place, word) ∷ []) ≡ after op readings word =
          ap (λ (m : Moving). m.walk) (sym (here (readings ++ (place, word) ∷ []) more)
          ∙ (fed_last first readings place word ∙ ap (λ m. fed_by m word) (here readings led))) in
          ap (λ (m : Moving). is_refused_of (fed_by m word)) (here readings led)
          ∙ (refuses_for op readings place word wants_so
          ∙ (ap (λ (w : TwoWalk). is_some (if (nat_lt place (3 * 2 ^ bits) && (place % 3 == 0))
          then refused_by_lock layout.version_max place word
          else (if (is_far_walk bits layout w.first || is_far_walk bits layout w.second)
          then Some (answers.Far (slot_count layout 0 + 8)) else None))) (sym next)
          ∙ ap (λ far. is_some (if (nat_lt place (3 * 2 ^ bits) && (place % 3 == 0))
          then refused_by_lock layout.version_max place word
          else (if far then Some (answers.Far (slot_count layout 0 + 8)) else None)))
          (sides_far op (readings ++ (place, word) ∷ []))));
      goes_on = λ readings place led wants. going_for (fed_all move_way first readings) (fed_all move_way first readings).op place wants;
      fits = λ number readings led wants goes.
          subst (λ m. IsThunkFor move_way (moves_meaning bits) layout first number readings (thunk_by m number))
          (sym (here readings led)) (fits_for op number readings allowed (sym (ap wanted_by (here readings led)) ∙ wants)
          (sym (ap is_refused_of (here readings led)) ∙ goes));
      few = few_for (slot_count layout 0) layout.version_max bits op;
    }
