-- The lock may be loaded once more, and so may the cells of a planned body.
use Rattle.std.specs.Prelude.{◌==◌, ◌&&◌, ◌||◌, nat_lt, Bool, true, false}
use Rattle.std.proofs.Common.{◌≡◌, ℕ, ◌+◌, ◌*◌, ◌-◌, ◌/◌, ◌<◌, refl, ap, ◌∙◌, Some, None}
use Rattle.std.proofs.lemmas.List.Folds.{list_any-append}
use Rattle.machine_states.specs.map_history.specs.declared.op.Request.{Request}
use Rattle.machine_states.specs.body_terms.specs.declared.thunk.Thunk.{Thunk}
use Rattle.machine_states.specs.table_words.specs.Limits.{IsWithinLimits}
use Rattle.machine_states.specs.table_words.specs.Places.{slot_count}
use Rattle.machine_states.specs.table_words.specs.declared.spot.Spot.TheVariants as spots
use Rattle.machine_states.specs.table_words.specs.declared.access.Access.TheVariants.{Loads}
use Rattle.machine_states.specs.structure_laws.specs.Scene.{Readings}
use Rattle.machine_states.specs.structure_laws.specs.Meaning.{Meaning}
use Rattle.machine_states.specs.structure_laws.specs.Laws.{Laws}
use Rattle.machine_states.specs.runner_parts.specs.declared.event.EventKind.TheVariants as kinds
use Rattle.machine_states.specs.runner_parts.specs.State.{PartState}
use Rattle.machine_states.specs.runner_parts.specs.Tests.{has_pair, is_readable}
use Rattle.machine_states.specs.Sight.{part_or_first}
use Rattle.caller_facts.specs.version_words.specs.machine_invariant.specs.After.{AreAllowed}
use Rattle.next_steps.proofs.Numbers.{reached_numbers}
use Rattle.caller_facts.specs.lock_walks.proofs.Walking.{may_load}
use Rattle.caller_facts.specs.try_lock.specs.Planning.{Planning}
use Rattle.caller_facts.specs.try_lock.specs.Reached.{IsReached}
use Rattle.caller_facts.specs.version_words.specs.RunnerState.{RunnerState}
use Rattle.caller_facts.specs.version_words.specs.Events.{met_by}
use Rattle.caller_facts.specs.version_words.specs.Naming.{load_of}
use Rattle.caller_facts.proofs.Standing.{made_reached}
use Rattle.seq_read.specs.Course.{HasClock}
use Rattle.seq_read.proofs.Events.{IsHere}
use Rattle.seq_read.proofs.Courses.{look_at, clock_here, walk_announced, epoch_announced}
use Rattle.seq_read.proofs.Writing.{limits_of, allowed_of, planned_shaped}

-- what a reached runner has read is within the table
pub read_within : {T : Type 0} (m : Meaning) (laws : Laws m) (r : RunnerState T) → IsWithinLimits r.layout → AreAllowed r.requests → IsReached m r
    → (place word : ℕ) → has_pair r.part.reads.walk place word ≡ true → place < m.fixed_cells + 5 * slot_count r.layout m.fixed_slots
read_within m laws r limits allowed reached place word read =
    ((reached_numbers m laws r.layout limits r.requests allowed reached.world reached.reached).parts r.number).walked place word
    (ap (λ (p : PartState). has_pair p.reads.walk place word) (ap part_or_first reached.own) ∙ read)

module _ {T : Type 0} (m : Meaning) (laws : Laws m) (planning : Planning) (request : Request) (old : RunnerState T)
    (limits : IsWithinLimits old.layout) (allowed : AreAllowed old.requests) (thunk : Thunk) (found : Readings) (clock : ℕ)
    (r : RunnerState T) (is : HasClock m planning request thunk found clock old r) where
  abbrev walk : Readings
  walk = walk_announced m planning request old thunk found is.announced is.announces

  abbrev epoch : ℕ
  epoch = epoch_announced m planning request old thunk found is.announced is.announces

  here : IsHere r epoch (Some (look_at m planning request old thunk found walk clock)) walk true
  here = clock_here m planning request old thunk found clock r is

  reached : IsReached m r
  reached = made_reached m kinds.ReadClock clock is.announced r is.loads

  lock_read : has_pair r.part.reads.walk thunk.lock thunk.word ≡ true
  lock_read = ap (λ xs. has_pair xs thunk.lock thunk.word) here.has_read
      ∙ (list_any-append (λ x. x.0 == thunk.lock && x.1 == thunk.word) is.announces.finds.loads.readings found
      ∙ ap (λ b. b || has_pair found thunk.lock thunk.word) is.announces.finds.loads.plans.answers.read)

  lock_is : m.is_lock thunk.lock ≡ true
  lock_is = (planned_shaped m laws planning request old limits allowed thunk is.announces.finds.loads.readings is.announces.finds.loads.planned
      is.announces.finds.loads.plans).outer_lock

  readable : is_readable m r.part.reads.walk thunk.lock ≡ true
  readable = ap (λ b. nat_lt thunk.lock m.fixed_cells || (b || (nat_lt ((thunk.lock - m.fixed_cells) / 5) m.fixed_slots || m.reaches r.part.reads.walk ((thunk.lock - m.fixed_cells) / 5)))) lock_is
      ∙ either (nat_lt thunk.lock m.fixed_cells)
    where
      either : (b : Bool) → (b || true) ≡ true
      either true = refl
      either false = refl

  pub lock_asked : met_by m r (load_of r.part.run thunk.lock) ≡ Some (spots.Cell thunk.lock, Loads)
  lock_asked = may_load m r is.reading.epoch thunk.lock None is.reading.at readable
      (read_within m laws r (limits_of m laws planning request old limits allowed r is.reading.still.layout)
      (allowed_of m laws planning request old limits allowed r is.reading.still.requests) reached thunk.lock thunk.word lock_read)
