-- What a runner's code keeps of its part after an event.
use Rattle.std.specs.Prelude.{◌==◌, ◌&&◌, not, nat_lt, nat_le}
use Rattle.std.proofs.Common.{◌≡◌, ℕ, ◌+◌, ◌-◌, List, [], ◌∷◌, ◌++◌, Bool, true, false, refl, ap, ◌∙◌, Option, None, if◌then◌else◌, sym}
use Rattle.machine_states.specs.epoch_core.specs.small_lemmas.proofs.Bools.{false_not_true as false_true}
use Rattle.machine_states.specs.table_words.specs.declared.layout.Layout.{Layout}
use Rattle.machine_states.specs.table_words.specs.declared.spot.Spot.{Spot}
use Rattle.machine_states.specs.table_words.specs.declared.access.Access.{Access}
use Rattle.machine_states.specs.structure_laws.specs.Meaning.{Meaning}
use Rattle.machine_states.specs.epoch_core.specs.Moves.{is_clear}
use Rattle.machine_states.specs.runner_parts.specs.declared.entries.BoardRead.{BoardRead}
use Rattle.machine_states.specs.runner_parts.specs.declared.event.EventKind.{EventKind}
use Rattle.machine_states.specs.runner_parts.specs.declared.event.EventKind.TheVariants as kinds
use Rattle.machine_states.specs.epoch_core.specs.declared.stage.Stage.{Stage}
use Rattle.machine_states.specs.epoch_core.specs.declared.stage.Stage.TheVariants as stages
use Rattle.machine_states.specs.runner_parts.specs.State.{RunState, PartState}
use Rattle.machine_states.specs.epoch_core.specs.State.{last_epoch}
use Rattle.machine_states.specs.body_terms.specs.Word.{value_of, is_free}
use Rattle.machine_states.specs.runner_parts.specs.State.{GuardsState}
use Rattle.machine_states.specs.runner_parts.specs.Lists.{descriptors_swept, published_seen, with_looked}
use Rattle.machine_states.specs.runner_steps.specs.Board.{board_after}
use Rattle.machine_states.specs.runner_steps.specs.Guards.{guard_after, is_last_guard, load_guard_after}
use Rattle.runner_block.specs.Kept.{only_looked}
use Rattle.machine_states.specs.runner_steps.specs.AfterOutside.{with_stage, collected, scanned, scan_one_after, advance_after, read_after}
use Rattle.machine_states.specs.runner_steps.specs.After.{outside_after, after_by, stepped, after}
use Rattle.version_words.specs.RunnerState.{RunnerState, told_part}
use Rattle.version_words.specs.Events.{Makes}
use Rattle.version_words.proofs.Asked.{is_outer, in_no_run}
use Rattle.version_words.proofs.Splits.{notes}
use Rattle.machine_states.specs.table_words.specs.Places.{slot_count}

module _ (m : Meaning) (l : Layout) (r : ℕ) (k : EventKind) (spot : Spot) (access : Access) (p : PartState) (found : ℕ) where
  pub told : told_part (after m l r k spot access p found) ≡ told_part (stepped m l k p found)
  told = ap (λ (z : ℕ). record (told_part (stepped m l k p found)) { records = record { known = []; finished = []; events = 0; won = 0; epoch_seen = 0; crossed = false; crosses = false; left = []; splits = z; joined = []; only_loads = false; gave_above = true } })
      (notes l r k spot access found (stepped m l k p found).records)

  -- after an event in no run
  pub told_outside : p.run ≡ None → told_part (after m l r k spot access p found) ≡ told_part (outside_after m l k p found)
  told_outside none = told ∙ ap (λ (o : Option RunState). told_part (after_by m l k p o found)) none

-- the kinds of step that leave what the runner knows of the board
abbrev pub leaves_board : EventKind → Bool
leaves_board kinds.Idle = false
leaves_board (kinds.BoardLoad word) = false
leaves_board (kinds.BoardTake word link) = false
leaves_board (kinds.BoardGive word slot) = false
leaves_board _ = true

pub board_left : (k : EventKind) (board : List BoardRead) (found : ℕ) → leaves_board k ≡ true → board_after k board found ≡ board
board_left kinds.Idle board found e = absurd (let z = e in cc)
board_left (kinds.BoardLoad word) board found e = absurd (let z = e in cc)
board_left (kinds.BoardTake word link) board found e = absurd (let z = e in cc)
board_left (kinds.BoardGive word slot) board found e = absurd (let z = e in cc)
board_left _ board found e = refl

-- a choice between two parts
told_chosen : (b : Bool) (p q p' q' : PartState) → p' ≡ told_part p → q' ≡ told_part q → (if b then p' else q') ≡ told_part (if b then p else q)
told_chosen true p q p' q' e e' = e
told_chosen false p q p' q' e e' = e'

pub told_scan : (l : Layout) (p : PartState) (stage : Stage) (found : ℕ) → scan_one_after l (told_part p) stage found ≡ told_part (scan_one_after l p stage found)
told_scan l p (stages.Scanning x next clear) found =
    let still = clear && is_clear x found in
    let over = next == l.runners && not (still && nat_lt x last_epoch) in
    let on = stages.Scanning x (next + 1) still in
    told_chosen (nat_le next l.runners) (scanned l p x next still) p (scanned l (told_part p) x next still) (told_part p)
    (told_chosen over (collected p x) (with_stage p on) (collected (told_part p) x) (with_stage (told_part p) on) refl refl) refl
told_scan l p _ found = refl

pub told_advance : (p : PartState) (stage : Stage) → advance_after (told_part p) stage ≡ told_part (advance_after p stage)
told_advance p (stages.Scanning x next clear) = told_chosen (nat_lt x last_epoch) (collected p (x + 1)) p (collected (told_part p) (x + 1)) (told_part p) refl refl
told_advance p _ = refl

run_chosen : (b : Bool) (p q : PartState) (run : Option RunState) → p.run ≡ run → q.run ≡ run → (if b then p else q).run ≡ run
run_chosen true p q run e e' = e
run_chosen false p q run e e' = e'

scan_runs : (l : Layout) (p : PartState) (stage : Stage) (found : ℕ) → (scan_one_after l p stage found).run ≡ p.run
scan_runs l p (stages.Scanning x next clear) found =
    let still = clear && is_clear x found in
    run_chosen (nat_le next l.runners) (scanned l p x next still) p p.run (run_chosen (next == l.runners && not (still && nat_lt x last_epoch)) (collected p x) (with_stage p (stages.Scanning x (next + 1) still)) p.run refl refl) refl
scan_runs l p _ found = refl

advance_runs : (p : PartState) (stage : Stage) → (advance_after p stage).run ≡ p.run
advance_runs p (stages.Scanning x next clear) = run_chosen (nat_lt x last_epoch) (collected p (x + 1)) p p.run refl refl
advance_runs p _ = refl

module _ (m : Meaning) (l : Layout) (p : PartState) (found : ℕ) where
  pub outer_runs : (k : EventKind) → is_outer k ≡ true → (outside_after m l k p found).run ≡ p.run
  outer_runs (kinds.ScanOne n) e = scan_runs l p p.stage found
  outer_runs kinds.Advance e = advance_runs p p.stage
  outer_runs kinds.Split e = run_chosen (nat_lt p.records.splits l.runners) (record p { records = record (p.records) { splits = p.records.splits + 1 } }) p p.run refl refl
  outer_runs (kinds.PrivateLoad slot word) e = run_chosen (nat_lt slot (slot_count l m.fixed_slots)) _ _ p.run refl refl
  outer_runs (kinds.Hold thunk d) e = run_chosen (found == thunk.word) _ _ p.run refl refl
  outer_runs (kinds.LoadCell o) e = absurd (false_true e)
  outer_runs (kinds.LoadThunk o) e = absurd (false_true e)
  outer_runs kinds.EpochForRetire e = absurd (false_true e)
  outer_runs _ e = refl

  -- a step in no run begins none
  pub still_outside : (r : ℕ) (k : EventKind) (spot : Spot) (access : Access) → is_outer k ≡ true → p.run ≡ None → (after m l r k spot access p found).run ≡ None
  still_outside r k spot access e none = ap (λ (o : Option RunState). (after_by m l k p o found).run) none ∙ (outer_runs k e ∙ none)

-- a guard moves, and of what it names nothing is kept
pub told_guard : (p : PartState) (d : Option ℕ) → told_part (guard_after d p) ≡ told_part p
told_guard p d = refl

-- a sweep goes on
load_guard_by : (last : Bool) (words : List ℕ) (p : PartState) → record (told_part p) { descriptors = (if last then descriptors_swept words (told_part p).descriptors else (told_part p).descriptors); guards = with_looked (told_part p).guards (if last then [] else words) }
    ≡ told_part (record p { descriptors = (if last then descriptors_swept words p.descriptors else p.descriptors); guards = with_looked p.guards (if last then [] else words) })
load_guard_by true words p = refl
load_guard_by false words p = refl

pub told_load_guard : (l : Layout) (p : PartState) (found : ℕ) → load_guard_after l (told_part p) found ≡ told_part (load_guard_after l p found)
told_load_guard l p found = load_guard_by (is_last_guard l p.guards.looked) (p.guards.looked ++ found ∷ []) p

-- what a walk tells of a guarded descriptor isn't kept
looked_still : (b : Bool) (g : GuardsState) (d : ℕ) → (if b then published_seen g d else g).looked ≡ g.looked
looked_still true g d = refl
looked_still false g d = refl

pub told_read : (m : Meaning) (place found : ℕ) (p : PartState) → told_part (read_after m place p found) ≡ told_part p
told_read m place found p = ap (λ (words : List ℕ). record (told_part p) { guards = only_looked words }) (looked_still (m.is_lock place && not (is_free found)) p.guards (value_of found - 1))

-- the lists after a step in no run
pub outer_lists : {T : Type 0} (m : Meaning) (k : EventKind) (found : ℕ) (r r' : RunnerState T) → is_outer k ≡ true → Makes m k found r r' → told_part (outside_after m r.layout k r.part found) ≡ told_part r'.part
outer_lists m k found r r' e made = sym (ap (λ y. told_part y.part) made.made ∙ told_outside m r.layout r.number k made.met.0 made.met.1 r.part found (in_no_run m r k e (record { met = made.met; asked = made.asked })))

pub scan_lists : {T : Type 0} (m : Meaning) (n found : ℕ) (r r' : RunnerState T) (kept kept' : PartState) → Makes m (kinds.ScanOne n) found r r' → kept ≡ told_part r.part → kept' ≡ scan_one_after r.layout kept kept.stage found → kept' ≡ told_part r'.part
scan_lists m n found r r' kept kept' made is next =
    next ∙ (ap (λ (q : PartState). scan_one_after r.layout q q.stage found) is ∙ (told_scan r.layout r.part r.part.stage found ∙ outer_lists m (kinds.ScanOne n) found r r' refl made))
