-- What a runner in no run may do, and where it is then.
use Rattle.machine_states.specs.First.{falling}
use Rattle.machine_states.specs.body_terms.specs.Memory.{cell_of}
use Rattle.std.proofs.Common.{◌≡◌, ℕ, ◌+◌, ◌<◌, ◌≤◌, ◌^◌, length, List, [], ◌∷◌, ◌++◌, ◌≢◌, eq-eqb, ne_eqb, Bool, true, false, refl, sym, ap, subst, ◌∙◌, arith, Option, Some, None, ◌-◌, ◌/◌, ◌*◌, if◌then◌else◌}
use Rattle.std.specs.Prelude.{◌==◌, ◌&&◌, ◌||◌, is_some, nat_lt, nat_le, not, is_none, if◌then◌else◌}
use Rattle.std.proofs.lemmas.Bool.Decides.{nat_tests}
use mathlib.Core.Logic.{dite}
use native.Mathlib.Decide.{ℕ_discrete}
use Rattle.machine_states.specs.runner_steps.specs.Asks.{ask_by, outside_ask}
use Rattle.version_words.specs.Shown.{left_part}
use Rattle.machine_states.specs.table_words.specs.declared.layout.Layout.{Layout}
use Rattle.machine_states.specs.table_words.specs.declared.sizes.Sizes.{Sizes}
use Rattle.machine_states.specs.table_words.specs.declared.spot.Spot.{Spot}
use Rattle.machine_states.specs.table_words.specs.declared.spot.Spot.TheVariants as spots
use Rattle.machine_states.specs.table_words.specs.declared.access.Access.{Access}
use Rattle.machine_states.specs.table_words.specs.declared.access.Access.TheVariants.{Loads, Stores, Exchanges}
use Rattle.machine_states.specs.table_words.specs.Places.{Fits, part_words, descriptor_words, slot_count, descriptor_count}
use Rattle.machine_states.specs.table_words.proofs.Seen.{fits_is}
use Rattle.machine_states.specs.structure_laws.specs.Meaning.{Meaning}
use Rattle.machine_states.specs.epoch_core.specs.Moves.{is_clear}
use Rattle.machine_states.specs.epoch_core.specs.small_lemmas.proofs.Numbers.{less_tested}
use Rattle.machine_states.specs.runner_parts.specs.declared.event.EventKind.{EventKind}
use Rattle.machine_states.specs.runner_parts.specs.declared.event.EventKind.TheVariants as kinds
use Rattle.machine_states.specs.epoch_core.specs.declared.stage.Stage.{Stage}
use Rattle.machine_states.specs.epoch_core.specs.declared.stage.Stage.TheVariants as stages
use Rattle.machine_states.specs.runner_parts.specs.declared.entries.Published.{Published}
use Rattle.machine_states.specs.runner_parts.specs.Tests.{has, is_walking, is_resting, is_outside, is_between}
use Rattle.machine_states.specs.runner_parts.specs.State.{RunState, PartState}
use Rattle.machine_states.specs.runner_steps.specs.Guards.{is_numbered, load_guard_by}
use Rattle.machine_states.specs.guard_core.specs.State.{word_of}
use Rattle.machine_states.specs.runner_steps.specs.Outside.{Ask, when, enter_load_ask, announce_ask, enter_again_by, scan_one_ask, advance_ask, descriptor_spot, block_spot, blocks_from}
use Rattle.machine_states.specs.epoch_core.specs.State.{last_epoch}
use Rattle.machine_states.specs.runner_steps.specs.Asks.{fitting, sizes_for}
use Rattle.machine_states.specs.runner_steps.specs.AfterOutside.{with_stage, collected, scanned, scan_one_after, advance_after}
use Rattle.machine_states.specs.runner_steps.specs.After.{outside_after, after_by, after, leaves}
use Rattle.version_words.specs.RunnerState.{RunnerState}
use Rattle.version_words.specs.TableState.{TableState, first_keeper}
use Rattle.version_words.specs.Events.{met_by, IsEnabled, Makes, HasSplit, next_worker, joined_by}
use Rattle.version_words.proofs.SeatMoves.{one_split, joins_none}
use Rattle.version_words.specs.Naming.{load_of}
use Rattle.version_words.specs.Stages.{IsAt, IsKeeper, HasJoined, stage_scanned, HasFree}

fitted_some : (s : Sizes) (a : Ask) (x : Spot × Access) → a ≡ Some x → Fits s x.0 → fitting s a ≡ Some x
fitted_some s a x e h = ap (fitting s) e ∙ ap (λ (b : Bool). if b then Some x else None) (fits_is s x.0 h)

module _ {T : Type 0} (m : Meaning) (r : RunnerState T) where
  -- a runner in no run may make what its stage lets it make
  asked_is : (k : EventKind) (x : Spot × Access) → r.part.gone ≡ false → r.part.run ≡ None → outside_ask m r.layout r.requests r.number k r.part ≡ Some x → Fits (sizes_for m r.layout r.requests) x.0 → met_by m r k ≡ Some x
  asked_is k x present resting e h = ap (λ (g : Bool). if g then None else fitting (sizes_for m r.layout r.requests) (ask_by m r.layout r.requests r.number k r.part r.part.run)) present
      ∙ fitted_some (sizes_for m r.layout r.requests) _ x (ap (ask_by m r.layout r.requests r.number k r.part) resting ∙ e) h

  pub enabled : (k : EventKind) (x : Spot × Access) → r.part.gone ≡ false → r.part.run ≡ None → outside_ask m r.layout r.requests r.number k r.part ≡ Some x → Fits (sizes_for m r.layout r.requests) x.0 → IsEnabled m k r
  enabled k x present resting e h = record { met = x; asked = asked_is k x present resting e h }

  -- an entered runner may load a fixed cell
  pub may_load_fixed : (epoch place : ℕ) (section : Option Published) → IsAt r (stages.Entered epoch) section → place < m.fixed_cells → met_by m r (load_of r.part.run place) ≡ Some (spots.Cell place, Loads)
  may_load_fixed epoch place section is few =
      let fixed : nat_lt place m.fixed_cells ≡ true = grind (arith, nat_tests, few) in
      ap (λ (o : Option RunState). met_by m r (load_of o place)) is.resting
      ∙ asked_is (kinds.LoadCell (Some place)) (spots.Cell place, Loads) is.present is.resting
      (ap (λ (b : Bool). when b (spots.Cell place) Loads) (λ i. is_walking (is.at i) (is.resting i) && (fixed i || (m.is_lock place || (nat_lt ((place - m.fixed_cells) / 5) m.fixed_slots || m.reaches r.part.reads.walk ((place - m.fixed_cells) / 5))))))
      (omega (arith, few))

  module _ (section : Option Published) where
    at_stage : (stage : Stage) (k : EventKind) (x : Spot × Access) → IsAt r stage section → outside_ask m r.layout r.requests r.number k r.part ≡ Some x → Fits (sizes_for m r.layout r.requests) x.0 → IsEnabled m k r
    at_stage stage k x is e h = enabled k x is.present is.resting e h

    pub may_enter_load : IsAt r stages.Idle section → IsEnabled m kinds.EnterLoad r
    may_enter_load is = at_stage stages.Idle kinds.EnterLoad (spots.Epoch, Loads) is (ap enter_load_ask is.at) tt

    pub may_announce : (epoch : ℕ) → IsAt r (stages.Loaded epoch) section → IsEnabled m kinds.Announce r
    may_announce epoch is = at_stage (stages.Loaded epoch) kinds.Announce (spots.Announcement r.number, Stores epoch) is (ap (announce_ask r.number) is.at) is.seated

    pub may_enter_again : IsAt r stages.Announced section → IsEnabled m kinds.EnterAgain r
    may_enter_again is = at_stage stages.Announced kinds.EnterAgain (spots.Epoch, Loads) is (λ i. enter_again_by (is.settled i) (is.at i)) tt

    pub may_scan_epoch : IsAt r stages.Idle section → IsEnabled m kinds.ScanEpoch r
    may_scan_epoch is = at_stage stages.Idle kinds.ScanEpoch (spots.Epoch, Loads) is (ap enter_load_ask is.at) tt

    pub may_scan_one : (epoch next : ℕ) (clear : Bool) → IsAt r (stages.Scanning epoch next clear) section → next ≤ r.layout.runners → IsEnabled m (kinds.ScanOne next) r
    may_scan_one epoch next clear is few = at_stage (stages.Scanning epoch next clear) (kinds.ScanOne next) (spots.Announcement next, Loads) is
        (ap (scan_one_ask r.layout next) is.at ∙ ap (λ (b : Bool). when b (spots.Announcement next) Loads) (let e : next == next && nat_le next r.layout.runners ≡ true = grind (arith, nat_tests, few) in e)) few

    pub may_advance : (epoch next : ℕ) → IsAt r (stages.Scanning epoch next true) section → r.layout.runners < next → epoch < 2 ^ 62 → IsEnabled m kinds.Advance r
    may_advance epoch next is past few = at_stage (stages.Scanning epoch next true) kinds.Advance (spots.Epoch, Exchanges epoch (epoch + 1)) is
        (ap (advance_ask r.layout) is.at ∙ ap (λ (b : Bool). when b spots.Epoch (Exchanges epoch (epoch + 1))) (let e : nat_lt r.layout.runners next && nat_lt epoch last_epoch ≡ true = grind (arith, nat_tests, past, few) in e)) tt

    pub may_load_entry : (request : ℕ) (reply : Bool) → IsAt r stages.Idle section → request < length r.requests → IsEnabled m (kinds.LoadEntry request reply) r
    may_load_entry request true is few = at_stage stages.Idle (kinds.LoadEntry request true) (spots.Reply request, Loads) is (ap (λ (b : Bool). when b (spots.Reply request) Loads) ((λ i. is_resting (is.at i) (is.resting i)))) few
    may_load_entry request false is few = at_stage stages.Idle (kinds.LoadEntry request false) (spots.Stamp request, Loads) is (ap (λ (b : Bool). when b (spots.Stamp request) Loads) ((λ i. is_resting (is.at i) (is.resting i)))) few

  pub may_idle : (epoch : ℕ) → IsAt r (stages.Entered epoch) None → r.part.guards.named ≡ None → IsEnabled m kinds.Idle r
  may_idle epoch is unguarded = at_stage None (stages.Entered epoch) kinds.Idle (spots.Announcement r.number, Stores 0) is
      (ap (λ (b : Bool). when b (spots.Announcement r.number) (Stores 0)) (λ i. is_walking (is.at i) (is.resting i) && (is_none (is.published i) && (is_none (unguarded i) && not (is.settled i))))) is.seated

  -- an entered runner without a published section moves its guard
  pub may_guard : (epoch : ℕ) (d : Option ℕ) → IsAt r (stages.Entered epoch) None → is_numbered r.layout d ≡ true → IsEnabled m (kinds.Guard d) r
  may_guard epoch d is numbered = at_stage None (stages.Entered epoch) (kinds.Guard d) (spots.Guard r.number, Stores (word_of d)) is
      (ap (λ (b : Bool). when b (spots.Guard r.number) (Stores (word_of d))) (λ i. is_walking (is.at i) (is.resting i) && (is_none (is.published i) && numbered i))) is.seated

  -- an idle one reads the next guard word of its sweep
  pub may_load_guard : (n : ℕ) → IsAt r stages.Idle None → length r.part.guards.looked ≡ n → n ≤ r.layout.runners → IsEnabled m (kinds.LoadGuard n) r
  may_load_guard n is next few = at_stage None stages.Idle (kinds.LoadGuard n) (spots.Guard n, Loads) is
      (ap (load_guard_by r.layout n (length r.part.guards.looked)) is.at
      ∙ ap (λ (b : Bool). when b (spots.Guard n) Loads) (let e : n == length r.part.guards.looked && nat_le n r.layout.runners ≡ true = grind (arith, nat_tests, next, few) in e)) few

  pub may_split : (splits : ℕ) → IsKeeper r splits → splits < r.layout.runners → IsEnabled m kinds.Split r
  may_split splits is few = enabled kinds.Split (spots.Seat, Loads) is.present is.resting
      (ap (λ (b : Bool). when b spots.Seat Loads) ((λ i. (is.number i == r.layout.runners) && (is_outside (is.resting i) && nat_lt (is.as_many i) r.layout.runners))
      ∙ (let e : r.layout.runners == r.layout.runners && nat_lt splits r.layout.runners ≡ true = grind (arith, nat_tests, few) in e))) tt

  pub may_join : (worker splits count : ℕ) → IsKeeper r splits → HasJoined r count → worker ≡ count → worker < r.layout.runners → IsEnabled m (kinds.Join worker) r
  may_join worker splits count is joined next few = enabled (kinds.Join worker) (spots.Seat, Loads) is.present is.resting
      (ap (λ (b : Bool). when b spots.Seat Loads) ((λ i. (is.number i == r.layout.runners) && (is_outside (is.resting i) && (nat_lt worker r.layout.runners && not (joined.fresh worker (omega (arith, next)) i))))
      ∙ (let e : r.layout.runners == r.layout.runners && (nat_lt worker r.layout.runners && true) ≡ true = grind (arith, nat_tests, few) in e))) tt

-- where a runner in no run is after a step: `goes` is what the step makes of the part but for its records
module _ {T : Type 0} (m : Meaning) (k : EventKind) (found : ℕ) (r r' : RunnerState T) (x : Spot × Access) (is : r' ≡ record r { part = after m r.layout r.number k x.0 x.1 r.part found }) (resting : r.part.run ≡ None) where
  abbrev next : PartState
  next = outside_after m r.layout k r.part found

  moved_at : (stage : Stage) (section : Option Published) → r.number ≤ r.layout.runners → next.gone ≡ false → next.run ≡ None → next.stage ≡ stage → next.published ≡ section → is_between next.reads.look ≡ false
      → IsAt r' stage section
  moved_at stage section seated present none at published settled =
      let run = λ (o : Option RunState). after_by m r.layout k r.part o found in
      record {
        present = ap (λ (y : RunnerState T). y.part.gone) is ∙ (ap (λ (o : Option RunState). (after_by m r.layout k r.part o found).gone) resting ∙ present);
        resting = ap (λ (y : RunnerState T). y.part.run) is ∙ (ap (λ (o : Option RunState). (after_by m r.layout k r.part o found).run) resting ∙ none);
        at = ap (λ (y : RunnerState T). y.part.stage) is ∙ (ap (λ (o : Option RunState). (after_by m r.layout k r.part o found).stage) resting ∙ at);
        published = ap (λ (y : RunnerState T). y.part.published) is ∙ (ap (λ (o : Option RunState). (after_by m r.layout k r.part o found).published) resting ∙ published);
        settled = ap (λ (y : RunnerState T). is_between y.part.reads.look) is ∙ (ap (λ (o : Option RunState). is_between (after_by m r.layout k r.part o found).reads.look) resting ∙ settled);
        seated = subst (λ (y : RunnerState T). y.number ≤ y.layout.runners) (sym is) seated;
      }

-- and so by a step
pub made_at : {T : Type 0} (m : Meaning) (k : EventKind) (found : ℕ) (r r' : RunnerState T) (made : Makes m k found r r') → r.part.run ≡ None → (stage : Stage) (section : Option Published) → r.number ≤ r.layout.runners
    → (outside_after m r.layout k r.part found).gone ≡ false → (outside_after m r.layout k r.part found).run ≡ None → (outside_after m r.layout k r.part found).stage ≡ stage
    → (outside_after m r.layout k r.part found).published ≡ section → is_between (outside_after m r.layout k r.part found).reads.look ≡ false → IsAt r' stage section
made_at m k found r r' made resting = moved_at m k found r r' made.met made.made resting

module _ {T : Type 0} (m : Meaning) (found : ℕ) (r r' : RunnerState T) (section : Option Published) where
  pub then_loaded : Makes m kinds.EnterLoad found r r' → IsAt r stages.Idle section → IsAt r' (stages.Loaded found) section
  then_loaded made is = made_at m kinds.EnterLoad found r r' made is.resting (stages.Loaded found) section is.seated is.present is.resting refl is.published is.settled

  pub then_announced : (epoch : ℕ) → Makes m kinds.Announce found r r' → IsAt r (stages.Loaded epoch) section → IsAt r' stages.Announced section
  then_announced epoch made is = made_at m kinds.Announce found r r' made is.resting stages.Announced section is.seated is.present is.resting refl is.published is.settled

  pub then_entered : Makes m kinds.EnterAgain found r r' → IsAt r stages.Announced section → IsAt r' (stages.Entered found) section
  then_entered made is = made_at m kinds.EnterAgain found r r' made is.resting (stages.Entered found) section is.seated is.present is.resting refl is.published refl

  pub then_idle : (epoch : ℕ) → Makes m kinds.Idle found r r' → IsAt r (stages.Entered epoch) section → IsAt r' stages.Idle section
  then_idle epoch made is = made_at m kinds.Idle found r r' made is.resting stages.Idle section is.seated is.present is.resting refl is.published is.settled

  pub then_scanning : Makes m kinds.ScanEpoch found r r' → IsAt r stages.Idle section → IsAt r' (stages.Scanning found 0 true) section
  then_scanning made is = made_at m kinds.ScanEpoch found r r' made is.resting (stages.Scanning found 0 true) section is.seated is.present is.resting refl is.published is.settled

  pub then_knows : (stage : Stage) (request : ℕ) (reply : Bool) → Makes m (kinds.LoadEntry request reply) found r r' → IsAt r stage section → IsAt r' stage section
  then_knows stage request reply made is = made_at m (kinds.LoadEntry request reply) found r r' made is.resting stage section is.seated is.present is.resting is.at is.published is.settled

-- a choice between two parts
chosen : {A : Type 0} (f : PartState → A) (b : Bool) (p q : PartState) → f (if b then p else q) ≡ (if b then f p else f q)
chosen f true p q = refl
chosen f false p q = refl

same : {A : Type 0} (f : PartState → A) (b : Bool) (p q : PartState) (a : A) → f p ≡ a → f q ≡ a → f (if b then p else q) ≡ a
same f true p q a e e' = e
same f false p q a e e' = e'

module _ {A : Type 0} (f : PartState → A) (l : Layout) (p : PartState) (epoch next : ℕ) (clear : Bool) (found : ℕ) (few : next ≤ l.runners) where
  abbrev still : Bool
  still = clear && is_clear epoch found

  -- a scan changes the stage and the slots alone
  scan_keeps : ((stage : Stage) → f (with_stage p stage) ≡ f p) → ((e : ℕ) → f (collected p e) ≡ f p) → f (scan_one_after l p (stages.Scanning epoch next clear) found) ≡ f p
  scan_keeps one two = same f (nat_le next l.runners) (scanned l p epoch next still) p (f p) (same f (next == l.runners && not (still && nat_lt epoch last_epoch)) _ _ (f p) (two epoch) (one (stages.Scanning epoch (next + 1) still))) refl

scan_stage : (l : Layout) (p : PartState) (epoch next : ℕ) (clear : Bool) (found : ℕ) → next ≤ l.runners → (scan_one_after l p (stages.Scanning epoch next clear) found).stage ≡ stage_scanned l epoch next clear found
scan_stage l p epoch next clear found few =
    let within : nat_le next l.runners ≡ true = grind (arith, nat_tests, few) in
    ap (λ (b : Bool). (if b then scanned l p epoch next (clear && is_clear epoch found) else p).stage) within
    ∙ chosen (λ (q : PartState). q.stage) (next == l.runners && not ((clear && is_clear epoch found) && nat_lt epoch last_epoch)) (collected p epoch) (with_stage p (stages.Scanning epoch (next + 1) (clear && is_clear epoch found)))

module _ {T : Type 0} (m : Meaning) (found : ℕ) (r r' : RunnerState T) (section : Option Published) (epoch next : ℕ) where
  pub then_scanned : (clear : Bool) → Makes m (kinds.ScanOne next) found r r' → IsAt r (stages.Scanning epoch next clear) section → next ≤ r.layout.runners → IsAt r' (stage_scanned r.layout epoch next clear found) section
  then_scanned clear made is few =
      let scan = λ (stage : Stage). scan_one_after r.layout r.part stage found in
      made_at m (kinds.ScanOne next) found r r' made is.resting (stage_scanned r.layout epoch next clear found) section is.seated
      (ap (λ (y : Stage). (scan_one_after r.layout r.part y found).gone) is.at ∙ (scan_keeps (λ (q : PartState). q.gone) r.layout r.part epoch next clear found few (λ y. refl) (λ e. refl) ∙ is.present))
      (ap (λ (y : Stage). (scan_one_after r.layout r.part y found).run) is.at ∙ (scan_keeps (λ (q : PartState). q.run) r.layout r.part epoch next clear found few (λ y. refl) (λ e. refl) ∙ is.resting))
      (ap (λ (y : Stage). (scan_one_after r.layout r.part y found).stage) is.at ∙ scan_stage r.layout r.part epoch next clear found few)
      (ap (λ (y : Stage). (scan_one_after r.layout r.part y found).published) is.at ∙ (scan_keeps (λ (q : PartState). q.published) r.layout r.part epoch next clear found few (λ y. refl) (λ e. refl) ∙ is.published))
      (ap (λ (y : Stage). is_between (scan_one_after r.layout r.part y found).reads.look) is.at ∙ (scan_keeps (λ (q : PartState). is_between q.reads.look) r.layout r.part epoch next clear found few (λ y. refl) (λ e. refl) ∙ is.settled))

  pub then_advanced : Makes m kinds.Advance found r r' → IsAt r (stages.Scanning epoch next true) section → epoch < 2 ^ 62 → IsAt r' stages.Idle section
  then_advanced made is few =
      let on : nat_lt epoch last_epoch ≡ true = grind (arith, nat_tests, few) in
      let part : advance_after r.part r.part.stage ≡ collected r.part (epoch + 1) = ap (advance_after r.part) is.at ∙ ap (λ (b : Bool). if b then collected r.part (epoch + 1) else r.part) on in
      made_at m kinds.Advance found r r' made is.resting stages.Idle section is.seated
      (ap (λ (q : PartState). q.gone) part ∙ is.present) (ap (λ (q : PartState). q.run) part ∙ is.resting) (ap (λ (q : PartState). q.stage) part) (ap (λ (q : PartState). q.published) part ∙ is.published)
      (ap (λ (q : PartState). is_between q.reads.look) part ∙ is.settled)

-- an entered runner that moved its guard, and an idle one that read a guard word
module _ {T : Type 0} (m : Meaning) (found : ℕ) (r r' : RunnerState T) (section : Option Published) where
  pub then_guarded : (epoch : ℕ) (d : Option ℕ) → Makes m (kinds.Guard d) found r r' → IsAt r (stages.Entered epoch) section → IsAt r' (stages.Entered epoch) section
  then_guarded epoch d made is = made_at m (kinds.Guard d) found r r' made is.resting (stages.Entered epoch) section is.seated is.present is.resting is.at is.published is.settled

  pub then_looked : (n : ℕ) → Makes m (kinds.LoadGuard n) found r r' → IsAt r stages.Idle section → IsAt r' stages.Idle section
  then_looked n made is = made_at m (kinds.LoadGuard n) found r r' made is.resting stages.Idle section is.seated is.present is.resting is.at is.published is.settled

-- a guard that is let go names nothing
pub then_unguarded : {T : Type 0} (m : Meaning) (found : ℕ) (r r' : RunnerState T) → Makes m (kinds.Guard None) found r r' → r.part.run ≡ None → r'.part.guards.named ≡ None
then_unguarded {T} m found r r' made resting = ap (λ (y : RunnerState T). y.part.guards.named) made.made
    ∙ ap (λ (o : Option RunState). (after_by m r.layout (kinds.Guard None) r.part o found).guards.named) resting

-- a keeper that splits off a worker
module _ {T : Type 0} (m : Meaning) (r r' : RunnerState T) (splits : ℕ) where
  pub then_split : HasSplit m r r' → IsKeeper r splits → splits < r.layout.runners → IsKeeper r' (splits + 1)
  then_split split is few =
      let on : nat_lt r.part.records.splits r.layout.runners ≡ true = ap (λ n. nat_lt n r.layout.runners) is.as_many ∙ (let e : nat_lt splits r.layout.runners ≡ true = grind (arith, nat_tests, few) in e) in
      record {
        present = ap (λ (y : RunnerState T). y.part.gone) split.made ∙ (ap (λ (o : Option RunState). (after_by m r.layout kinds.Split r.part o 0).gone) is.resting
            ∙ same (λ (q : PartState). q.gone) (nat_lt r.part.records.splits r.layout.runners) _ _ false is.present is.present);
        resting = ap (λ (y : RunnerState T). y.part.run) split.made ∙ (ap (λ (o : Option RunState). (after_by m r.layout kinds.Split r.part o 0).run) is.resting
            ∙ same (λ (q : PartState). q.run) (nat_lt r.part.records.splits r.layout.runners) _ _ None is.resting is.resting);
        number = ap (λ (y : RunnerState T). y.number) split.made ∙ (is.number ∙ sym (ap (λ (y : RunnerState T). y.layout.runners) split.made));
        as_many = ap (λ (y : RunnerState T). y.part.records.splits) split.made ∙ (one_split m r.layout r.number spots.Seat Loads 0 r.part is.resting (omega (arith, few, is.as_many)) ∙ ap (λ n. n + 1) is.as_many);
      }

pub first_is_keeper : {T : Type 0} (m : Meaning) (t : TableState T) (r : RunnerState T) → r ≡ first_keeper m t → IsKeeper r 0
first_is_keeper {T} m t r is = subst (λ (y : RunnerState T). IsKeeper y 0) (sym is) (record { present = refl; resting = refl; number = refl; as_many = refl })

pub next_is_idle : {T : Type 0} (m : Meaning) (keeper r : RunnerState T) (splits : ℕ) → r ≡ next_worker m keeper → IsKeeper keeper splits → splits < keeper.layout.runners → IsAt r stages.Idle None
next_is_idle {T} m keeper r splits is k few = subst (λ (y : RunnerState T). IsAt y stages.Idle None) (sym is)
    (record { present = refl; resting = refl; at = refl; published = refl; settled = refl; seated = (let a = k.as_many in omega (arith, a, few)) })

has_more : (xs : List ℕ) (x y : ℕ) → has xs y ≡ false → x ≢ y → has (xs ++ x ∷ []) y ≡ false
has_more [] x y none ne = ap (λ (b : Bool). b || false) (ne_eqb x y ne)
has_more (z ∷ xs) x y none ne = grind (arith, nat_tests, none, ne, has_more xs x y)

lists_joined : (m : Meaning) (l : Layout) (r worker : ℕ) (p : PartState) → p.run ≡ None → (after m l r (kinds.Join worker) spots.Seat Loads p 0).records.joined ≡ p.records.joined ++ worker ∷ []
lists_joined m l r worker p none =
    ap (λ (o : Option RunState). (after_by m l (kinds.Join worker) p o 0).records.joined) none

-- a keeper that joins a worker
module _ {T : Type 0} (m : Meaning) (keeper worker r' : RunnerState T) (splits count : ℕ) (joins : r' ≡ joined_by m worker keeper) where
  pub then_keeper : IsKeeper keeper splits → IsKeeper r' splits
  then_keeper is = subst (λ (y : RunnerState T). IsKeeper y splits) (sym joins) (record {
    present = ap (λ (o : Option RunState). (after_by m keeper.layout (kinds.Join worker.number) keeper.part o 0).gone) is.resting ∙ is.present;
    resting = ap (λ (o : Option RunState). (after_by m keeper.layout (kinds.Join worker.number) keeper.part o 0).run) is.resting ∙ is.resting;
    number = is.number;
    as_many = joins_none m keeper.layout keeper.number worker.number 0 keeper.part worker.part ∙ is.as_many;
  })

  pub then_joined : IsKeeper keeper splits → HasJoined keeper count → worker.number ≡ count → HasJoined r' (count + 1)
  then_joined is joined next = subst (λ (y : RunnerState T). HasJoined y (count + 1)) (sym joins) (record {
    fresh = λ k past. ap (λ (xs : List ℕ). has xs k) (lists_joined m keeper.layout keeper.number worker.number keeper.part is.resting)
        ∙ has_more keeper.part.records.joined worker.number k (joined.fresh k (omega (arith, past))) (λ e. omega (arith, past, next, e));
    parts = λ k few. dite (ℕ_discrete worker.number k)
        (λ e. ap (λ (b : Bool). is_some (if b then Some (leaves worker.part) else left_part keeper.joined k)) (eq-eqb worker.number k e))
        (λ ne. ap (λ (b : Bool). is_some (if b then Some (leaves worker.part) else left_part keeper.joined k)) (ne_eqb worker.number k ne) ∙ joined.parts k (omega (arith, few, next, ne)));
  })

-- a step changes no runner's number
pub same_number : {T : Type 0} (m : Meaning) (k : EventKind) (found : ℕ) (r r' : RunnerState T) → Makes m k found r r' → r'.number ≡ r.number
same_number m k found r r' made = ap (λ y. y.number) made.made

-- the stage after the last announcement, and before it
module _ (l : Layout) (epoch next : ℕ) (clear : Bool) (found : ℕ) where
  abbrev clear_still : Bool
  clear_still = clear && is_clear epoch found

  pub scanned_on : next ≡ l.runners → clear && is_clear epoch found ≡ true → epoch < 2 ^ 62 → stage_scanned l epoch next clear found ≡ stages.Scanning epoch (next + 1) true
  scanned_on last still few =
      let on : nat_lt epoch last_epoch ≡ true = grind (arith, nat_tests, few) in
      (λ i. if eq-eqb next l.runners last i && not (still i && on i) then stages.Idle else stages.Scanning epoch (next + 1) (still i))

  pub scanned_over : next ≡ l.runners → (clear && is_clear epoch found) && nat_lt epoch last_epoch ≡ false → stage_scanned l epoch next clear found ≡ stages.Idle
  scanned_over last over = (λ i. if eq-eqb next l.runners last i && not (over i) then stages.Idle else stages.Scanning epoch (next + 1) (clear && is_clear epoch found))

  pub scanned_more : next < l.runners → stage_scanned l epoch next clear found ≡ stages.Scanning epoch (next + 1) (clear && is_clear epoch found)
  scanned_more few = (λ i. if ne_eqb next l.runners (λ e. omega (arith, few, e)) i && not ((clear && is_clear epoch found) && nat_lt epoch last_epoch) then stages.Idle else stages.Scanning epoch (next + 1) (clear && is_clear epoch found))

-- a split joins no one
splits_none : (m : Meaning) (l : Layout) (r : ℕ) (spot : Spot) (access : Access) (found : ℕ) (p : PartState) → p.run ≡ None → (after m l r kinds.Split spot access p found).records.joined ≡ p.records.joined
splits_none m l r spot access found p none =
    ap (λ (o : Option RunState). (after_by m l kinds.Split p o found).records.joined) none
    ∙ same (λ (q : PartState). q.records.joined) (nat_lt p.records.splits l.runners) (record p { records = record (p.records) { splits = p.records.splits + 1 } }) p p.records.joined refl refl

pub split_joined : {T : Type 0} (m : Meaning) (r r' : RunnerState T) (splits count : ℕ) → HasSplit m r r' → IsKeeper r splits → HasJoined r count → HasJoined r' count
split_joined m r r' splits count split is joined = record {
  fresh = λ k past. ap (λ y. has y.part.records.joined k) split.made ∙ (ap (λ (xs : List ℕ). has xs k) (splits_none m r.layout r.number spots.Seat Loads 0 r.part is.resting) ∙ joined.fresh k past);
  parts = λ k few. ap (λ y. is_some (left_part y.joined k)) split.made ∙ joined.parts k few;
}

pub first_joined_none : {T : Type 0} (m : Meaning) (t : TableState T) (r : RunnerState T) → r ≡ first_keeper m t → HasJoined r 0
first_joined_none {T} m t r is = subst (λ (y : RunnerState T). HasJoined y 0) (sym is) (record { fresh = λ k past. refl; parts = λ k few. absurd (omega arith) })

-- an entered runner stays entered when it has loaded a cell
pub then_loaded_cell : {T : Type 0} (m : Meaning) (found epoch place : ℕ) (r r' : RunnerState T) (section : Option Published) → Makes m (load_of r.part.run place) found r r' → IsAt r (stages.Entered epoch) section → IsAt r' (stages.Entered epoch) section
then_loaded_cell {T} m found epoch place r r' section made is =
    let read : Makes m (kinds.LoadCell (Some place)) found r r' = subst (λ (o : Option RunState). Makes m (load_of o place) found r r') is.resting made in
    made_at m (kinds.LoadCell (Some place)) found r r' read is.resting (stages.Entered epoch) section is.seated is.present is.resting is.at is.published is.settled

fits_by : (s : Sizes) (d word : ℕ) (b b' b'' : Bool) → nat_lt word 12 ≡ b → word == 12 ≡ b' → word == 13 + part_words ≡ b'' → d < s.descriptors → word < descriptor_words
    → Fits s (if b then spots.ThunkWord d word else (if b' then spots.DoneWord d else (if b'' then spots.LinkWord d else spots.LogWord d (word - 13))))
fits_by s d word true b' b'' e e' e'' few low = (few, grind (arith, nat_tests, e))
fits_by s d word false true b'' e e' e'' few low = few
fits_by s d word false false true e e' e'' few low = few
fits_by s d word false false false e e' e'' few low =
    (few, let past : 13 ≤ word = grind (arith, nat_tests, e, e') in let other : word ≢ 13 + part_words = grind (arith, nat_tests, e'') in omega (arith, past, low, other))

own_word : (slots d : ℕ) → slots + d - slots ≡ d
own_word slots d = omega arith

-- a runner that is idle, or entered and in no run, may load and store words of its free descriptors
module _ {T : Type 0} (m : Meaning) (r : RunnerState T) (stage : Stage) (section : Option Published) (d word : ℕ) (rests : is_resting stage None ≡ true) (is : IsAt r stage section) (free : HasFree r d) (few : word < descriptor_words) where
  abbrev slots : ℕ
  slots = slot_count r.layout m.fixed_slots

  word_fits : Fits (sizes_for m r.layout r.requests) (descriptor_spot d word)
  word_fits = fits_by (sizes_for m r.layout r.requests) d word (nat_lt word 12) (word == 12) (word == 13 + part_words) refl refl refl free.few few

  may_own : is_resting r.part.stage r.part.run && has r.part.descriptors.free d ≡ true
  may_own = (λ i. is_resting (is.at i) (is.resting i) && free.own i) ∙ ap (λ (b : Bool). b && true) rests

  before : nat_lt (slots + d) (blocks_from m r.layout) ≡ true
  before = less_tested (slots + d) (blocks_from m r.layout) (let low = free.few in omega (arith, low))

  -- what would be asked of a block
  abbrev block_stored_if : ℕ → Ask
  block_stored_if number = when (is_resting r.part.stage r.part.run && (has r.part.blocks.free (slots + d - blocks_from m r.layout) && number == 0)) (block_spot (slots + d - blocks_from m r.layout) word) (Stores number)

  abbrev loaded_behind : Bool → Ask
  loaded_behind b = if b then when (is_resting r.part.stage r.part.run && has r.part.descriptors.free (slots + d - slots)) (descriptor_spot (slots + d - slots) word) Loads
      else when (is_resting r.part.stage r.part.run && has r.part.blocks.free (slots + d - blocks_from m r.layout)) (block_spot (slots + d - blocks_from m r.layout) word) Loads

  pub may_store_word : (number : ℕ) → IsEnabled m (kinds.PrivateStore (slots + d) word number) r
  may_store_word number = enabled m r (kinds.PrivateStore (slots + d) word number) (descriptor_spot d word, Stores number) is.present is.resting
      (ap (λ (b : Bool). if b then when (nat_le slots (slots + d) && (is_resting r.part.stage r.part.run && has r.part.descriptors.free (slots + d - slots))) (descriptor_spot (slots + d - slots) word) (Stores number)
      else block_stored_if number) before
      ∙ ap (λ (n : ℕ). when (nat_le slots (slots + d) && (is_resting r.part.stage r.part.run && has r.part.descriptors.free n)) (descriptor_spot n word) (Stores number)) (own_word slots d)
      ∙ ap (λ (b : Bool). when b (descriptor_spot d word) (Stores number))
      (ap (λ (b : Bool). nat_le slots (slots + d) && b) may_own ∙ (let e : nat_le slots (slots + d) && true ≡ true = grind (arith, nat_tests) in e))) word_fits

  pub may_load_word : IsEnabled m (kinds.PrivateLoad (slots + d) word) r
  may_load_word = enabled m r (kinds.PrivateLoad (slots + d) word) (descriptor_spot d word, Loads) is.present is.resting
      (ap (λ (b : Bool). if b then when (is_resting r.part.stage r.part.run && (nat_lt word 5 && (has r.part.nodes.free (slots + d) || has r.part.nodes.hand (slots + d)))) (spots.Cell (cell_of m.fixed_cells (slots + d) word)) Loads
      else loaded_behind (nat_lt (slots + d) (blocks_from m r.layout))) (let past : nat_lt (slots + d) slots ≡ false = grind (arith, nat_tests) in past)
      ∙ (ap loaded_behind before
      ∙ ap (λ (n : ℕ). when (is_resting r.part.stage r.part.run && has r.part.descriptors.free n) (descriptor_spot n word) Loads) (own_word slots d)
      ∙ ap (λ (b : Bool). when b (descriptor_spot d word) Loads) may_own)) word_fits

-- and is where it was then, with the same free descriptors
module _ {T : Type 0} (m : Meaning) (found : ℕ) (r r' : RunnerState T) (stage : Stage) (section : Option Published) (slot word : ℕ) (is : IsAt r stage section) where
  still_free : (k : EventKind) (d : ℕ) → Makes m k found r r' → (outside_after m r.layout k r.part found).descriptors.free ≡ r.part.descriptors.free → HasFree r d → HasFree r' d
  still_free k d made same free = record {
    own = ap (λ (y : RunnerState T). has y.part.descriptors.free d) made.made
        ∙ (ap (λ (o : Option RunState). has (after_by m r.layout k r.part o found).descriptors.free d) is.resting ∙ (ap (λ (xs : List ℕ). has xs d) same ∙ free.own));
    few = subst (λ (y : RunnerState T). d < descriptor_count y.layout) (sym made.made) free.few;
  }

  pub then_stored_word : (number : ℕ) → Makes m (kinds.PrivateStore slot word number) found r r' → IsAt r' stage section
  then_stored_word number made = made_at m (kinds.PrivateStore slot word number) found r r' made is.resting stage section is.seated is.present is.resting is.at is.published is.settled

  pub still_free_stored : (number d : ℕ) → Makes m (kinds.PrivateStore slot word number) found r r' → HasFree r d → HasFree r' d
  still_free_stored number d made free = still_free (kinds.PrivateStore slot word number) d made refl free

  pub then_loaded_word : Makes m (kinds.PrivateLoad slot word) found r r' → IsAt r' stage section
  then_loaded_word made = let node = nat_lt slot (slot_count r.layout m.fixed_slots) in
      made_at m (kinds.PrivateLoad slot word) found r r' made is.resting stage section is.seated
      (same (λ (q : PartState). q.gone) node _ _ false is.present is.present) (same (λ (q : PartState). q.run) node _ _ None is.resting is.resting)
      (same (λ (q : PartState). q.stage) node _ _ stage is.at is.at) (same (λ (q : PartState). q.published) node _ _ section is.published is.published)
      (same (λ (q : PartState). is_between q.reads.look) node _ _ false is.settled is.settled)

  pub still_free_loaded : (d : ℕ) → Makes m (kinds.PrivateLoad slot word) found r r' → HasFree r d → HasFree r' d
  still_free_loaded d made free = still_free (kinds.PrivateLoad slot word) d made
      (same (λ (q : PartState). q.descriptors.free) (nat_lt slot (slot_count r.layout m.fixed_slots)) _ _ r.part.descriptors.free refl refl) free

-- a new worker has its first descriptor
pub first_free : {T : Type 0} (m : Meaning) (keeper r : RunnerState T) (n : ℕ) → r ≡ next_worker m keeper → keeper.layout.sections ≡ 1 → keeper.part.records.splits ≡ n → n < keeper.layout.runners → HasFree r n
first_free {T} m keeper r n is one count few = subst (λ (y : RunnerState T). HasFree y n) (sym is) (record {
  own = (λ i. has (falling (one i * count i) (one i)) n) ∙ (let e : (1 * n + 0) == n || false ≡ true = grind (arith, nat_tests) in e);
  few = (let a = ap (λ s. s * keeper.layout.runners) one in omega (arith, a, few));
})
