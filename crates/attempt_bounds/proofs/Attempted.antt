-- How far an attempt takes the epoch on, and what it leaves in limbo.
use Rattle.std.specs.Prelude.{◌==◌, nat_lt, false, true, replicate}
use Rattle.std.proofs.Common.{◌≡◌, ℕ, ◌+◌, ◌*◌, ◌^◌, ◌<◌, ◌≤◌, List, [], ◌∷◌, ◌++◌, length, length-append, refl, ap, ◌∙◌, arith, Some, None}
use Rattle.std.proofs.lemmas.Bool.Decides.{nat_tests}
use Rattle.machine_states.specs.map_history.specs.declared.op.Request.{Request}
use Rattle.machine_states.specs.map_history.specs.declared.reply.Reply.{Reply}
use Rattle.machine_states.specs.table_words.specs.Places.{slot_count, part_words}
use Rattle.machine_states.specs.structure_laws.specs.Meaning.{Meaning}
use Rattle.machine_states.specs.runner_parts.specs.declared.event.EventKind.TheVariants as kinds
use Rattle.machine_states.specs.epoch_core.specs.declared.stage.Stage.TheVariants as stages
use Rattle.machine_states.specs.runner_parts.specs.State.{FinishedState}
use Rattle.machine_states.specs.runner_parts.specs.Tests.{thunk_words}
use Rattle.machine_states.specs.runner_steps.specs.After.{own_epoch}
use Rattle.version_words.specs.RunnerState.{RunnerState}
use Rattle.attempts.specs.epoch_slots.specs.declared.reserves.Kind.{Kind}
use Rattle.attempts.specs.epoch_slots.specs.declared.reserves.Kind.TheVariants as slots
use Rattle.attempts.specs.epoch_slots.specs.declared.reserves.Short.{Short}
use Rattle.attempts.specs.epoch_slots.specs.Reserves.{counts_of}
use Rattle.version_words.specs.Stages.{IsAt}
use Rattle.version_words.proofs.Stages.{then_knows}
use Rattle.attempts.proofs.Learning.{load_finished}
use Rattle.attempts.specs.try_lock.specs.Planning.{Planning}
use Rattle.attempts.specs.Course.{LeavesAndLoads}
use Rattle.attempts.specs.Attempts.{IsFew, IsShort, IsServed}
use Rattle.attempts.specs.try_lock.proofs.Guarding.{guard_keeps}
use Rattle.attempt_bounds.specs.Spared.{IsEarly, IsSpared, AttemptsSpareSlots}
use Rattle.attempt_bounds.proofs.Along.{Onward, then_on, made_on, is_made_on, enters_on, exits_on, loads_on, sets_on, opens_on, ran_on}
use Rattle.attempt_bounds.proofs.Reclaimed.{own, was_uncrossed, epoch_most, no_nodes_left, no_descriptors_left, no_blocks_left}

still_early : (e n : ℕ) → e ≤ 1 + 4 * n → n < 2 ^ 59 → e + 3 < 2 ^ 62
still_early e n a b = omega (arith, a, b)

module _ {T : Type 0} (m : Meaning) (planning : Planning) where
  -- the runner left, and loaded the request's words
  module _ (number : ℕ) (a b : RunnerState T) (leaves : LeavesAndLoads m number a b) where
    leaves_on : Onward a b
    leaves_on = then_on a leaves.idle b (exits_on m a leaves.idle leaves.exits)
        (then_on leaves.idle leaves.stamped b (made_on m (kinds.LoadEntry number false) leaves.stamp leaves.idle leaves.stamped refl leaves.loads_stamp)
        (made_on m (kinds.LoadEntry number true) leaves.reply leaves.stamped b refl leaves.loads_reply))

    stamped_at : IsAt leaves.stamped stages.Idle None
    stamped_at = then_knows m leaves.stamp leaves.idle leaves.stamped None stages.Idle number false leaves.loads_stamp leaves.exits.at

    stamped_rests : leaves.stamped.part.run ≡ None
    stamped_rests = stamped_at.resting

    leaves_finished : b.part.records.finished ≡ a.part.records.finished
    leaves_finished = load_finished m number true leaves.reply leaves.stamped b leaves.loads_reply stamped_at
        ∙ (load_finished m number false leaves.stamp leaves.idle leaves.stamped leaves.loads_stamp leaves.exits.at ∙ leaves.exits.keeps.finished)

  -- an attempt that serves its request
  module _ (request : Request) (reply : Reply) (stamp : ℕ) (old new : RunnerState T) (spared : IsSpared old)
      (is : IsServed m planning request reply stamp old new) (uncrossed : new.part.records.crossed ≡ false) (low : length new.part.records.finished < 2 ^ 59) where
    abbrev published : RunnerState T
    published = is.run.ended.published

    abbrev planned : RunnerState T
    planned = is.run.ended.tries.planned

    abbrev prepared : RunnerState T
    prepared = is.run.ended.tries.publishes.ready

    abbrev guarding : RunnerState T
    guarding = is.run.ended.tries.publishes.guarding

    abbrev entered : RunnerState T
    entered = is.run.ended.tries.plans.entered

    abbrev ready : RunnerState T
    ready = is.run.ended.tries.plans.enters.ready

    abbrev opened : RunnerState T
    opened = is.run.ended.ends.opened

    abbrev ran : RunnerState T
    ran = is.run.ran

    finished_more : new.part.records.finished ≡ old.part.records.finished ++ is.run.ended.ends.finished ∷ []
    finished_more = leaves_finished request.number is.unguarded new is.leaves
        ∙ ((guard_keeps m None is.run.lets_go.found ran is.unguarded is.run.lets_go.event is.run.ended.ends.resting).finished
        ∙ (is.run.ended.ends.kept ∙ ap (λ (xs : List FinishedState). xs ++ is.run.ended.ends.finished ∷ []) is.run.ended.tries.still.finished))

    one_more : length new.part.records.finished ≡ length old.part.records.finished + 1
    one_more = ap length finished_more ∙ length-append old.part.records.finished (is.run.ended.ends.finished ∷ [])

    -- behind the scan nothing more is made of the own epoch
    behind : Onward ready new
    behind = then_on ready entered new (enters_on m ready entered is.run.ended.tries.plans.enters.enters)
        (then_on entered planned new (loads_on m is.run.ended.tries.readings entered planned is.run.ended.tries.plans.walked.loads)
        (then_on planned prepared new (sets_on m (slot_count planned.layout m.fixed_slots + is.run.ended.tries.publishes.descriptor) 0 (thunk_words is.thunk ++ replicate (part_words + 2) 0) planned prepared is.run.ended.tries.publishes.sets)
        (then_on prepared guarding new (is_made_on m (kinds.Guard (Some is.run.ended.tries.publishes.descriptor)) prepared guarding refl is.run.ended.tries.publishes.guard)
        (then_on guarding published new
        (made_on m (kinds.Hold is.thunk is.run.ended.tries.publishes.descriptor) is.run.ended.tries.publishes.found guarding published refl is.run.ended.tries.publishes.hold)
        (then_on published opened new (opens_on m 13 published opened is.run.ended.ends.opening.loads)
        (then_on opened ran new (ran_on m is.run.ended.ends.count opened ran is.run.ended.ends.ran)
        (then_on ran is.unguarded new (is_made_on m (kinds.Guard None) ran is.unguarded refl is.run.lets_go)
        (leaves_on request.number is.unguarded new is.leaves))))))))

    ready_uncrossed : ready.part.records.crossed ≡ false
    ready_uncrossed = (behind uncrossed).0

    was_low : length old.part.records.finished < 2 ^ 59
    was_low = omega (arith, low, one_more)

    had : IsEarly old.part
    had = spared (was_uncrossed m old ready is.run.ended.tries.plans.enters.reclaims ready_uncrossed) was_low

    early : own old + 3 < 2 ^ 62
    early = still_early (own old) (length old.part.records.finished) had was_low

    -- the scans before the entry took the own epoch on by four at most
    most : own new ≤ own old + 4
    most = let same = (behind uncrossed).1 in
        let few = epoch_most m old ready is.run.ended.tries.plans.enters.reclaims ready_uncrossed early in omega (arith, same, few)

    spared_then : IsEarly new.part
    spared_then = by (own old) (own new) (length old.part.records.finished) (length new.part.records.finished) had most one_more
      where
        by : (e e' n n' : ℕ) → e ≤ 1 + 4 * n → e' ≤ e + 4 → n' ≡ n + 1 → e' ≤ 1 + 4 * n'
        by e e' n n' a b c = omega (arith, a, b, c)

  -- an attempt that lacks slots
  module _ (short : Short) (number : ℕ) (old new : RunnerState T) (spared : IsSpared old) (is : IsShort m short number old new)
      (uncrossed : new.part.records.crossed ≡ false) (low : length new.part.records.finished < 2 ^ 59) where
    same_runs : length new.part.records.finished ≡ length old.part.records.finished
    same_runs = ap length is.reclaims.rested.finished

    was_low_too : length old.part.records.finished < 2 ^ 59
    was_low_too = omega (arith, low, same_runs)

    early_too : own old + 3 < 2 ^ 62
    early_too = still_early (own old) (length old.part.records.finished) (spared (was_uncrossed m old new is.reclaims uncrossed) was_low_too) was_low_too

    none_in_limbo : short.limbo ≡ 0
    none_in_limbo = ap (λ (x : Short). x.limbo) is.counts ∙ by short.kind is.few
      where
        too_few : (n : ℕ) → n < 2 → nat_lt n 2 ≡ true
        too_few n few = grind (arith, nat_tests)

        by : (kind : Kind) → IsFew new kind → (counts_of new kind).limbo ≡ 0
        by slots.Node few = no_nodes_left m old new is.reclaims uncrossed early_too (too_few (length new.part.nodes.free) few)
        by slots.Descriptor few = no_descriptors_left m old new is.reclaims uncrossed few.1
        by slots.Block few = no_blocks_left m old new is.reclaims uncrossed few.2

  first_spared : (r : RunnerState T) → r.part.records.epoch_seen ≡ 0 → IsSpared r
  first_spared r epoch uncrossed low =
      let one : own_epoch r.part.records.epoch_seen ≡ 1 = ap own_epoch epoch in omega (arith, one)

  pub attempts_spare : AttemptsSpareSlots T m planning
  attempts_spare = record {
    first = first_spared;
    served = λ request reply stamp old new spared is uncrossed low. spared_then request reply stamp old new spared is uncrossed low;
    short = λ short number old new spared is uncrossed low. none_in_limbo short number old new spared is uncrossed low;
  }
