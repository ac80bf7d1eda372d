-- Along a read what an uncrossed runner has seen of the epoch stays.
use Rattle.std.proofs.Common.{◌≡◌, ℕ, length, refl, ap, arith, Some}
use Rattle.machine_states.specs.map_history.specs.declared.op.Request.{Request}
use Rattle.machine_states.specs.body_terms.specs.declared.thunk.Thunk.{Thunk}
use Rattle.machine_states.specs.structure_laws.specs.Meaning.{Meaning}
use Rattle.machine_states.specs.structure_laws.specs.Scene.{Readings}
use Rattle.machine_states.specs.runner_parts.specs.declared.event.EventKind.TheVariants as kinds
use Rattle.machine_states.specs.runner_steps.specs.After.{own_epoch}
use Rattle.version_words.specs.RunnerState.{RunnerState}
use Rattle.seq_read.specs.caller_facts.specs.try_lock.specs.Planning.{Planning}
use Rattle.seq_read.specs.caller_facts.specs.try_lock.specs.declared.planned.Planned.{Planned}
use Rattle.seq_read.specs.caller_facts.specs.try_lock.specs.declared.planned.Planned.TheVariants as plans
use Rattle.serving.specs.attempt_bounds.specs.Spared.{IsSpared}
use Rattle.serving.specs.attempt_bounds.proofs.Along.{Onward, then_on, made_on, is_made_on, enters_on, exits_on, loads_on}
use Rattle.seq_read.specs.Course.{HasPlanned, HasLoaded, HasAnnounced, HasLock, HasStamped, IsRefused, ByPlan, ByBody, ByCell, ByLock}
use Rattle.seq_read.specs.Reads.{IsTurnedAway}
use Rattle.seq_read.specs.declared.answers.Read.{Read}

module _ {T : Type 0} (m : Meaning) (planning : Planning) (request : Request) (old : RunnerState T) where
  planned_on : (readings : Readings) (answer : Planned) (r : RunnerState T) → HasPlanned m planning request readings answer old r → Onward old r
  planned_on readings answer r is = then_on old is.entered r (enters_on m old is.entered is.enters.enters) (loads_on m readings is.entered r is.walked.loads)

  loaded_on : (thunk : Thunk) (found : Readings) (r : RunnerState T) → HasLoaded m planning request thunk found old r → Onward old r
  loaded_on thunk found r is = then_on old is.planned r (planned_on is.readings (plans.Thunk thunk) is.planned is.plans) (loads_on m found is.planned r is.loads.loads)

  announced_on : (thunk : Thunk) (found : Readings) (r : RunnerState T) → HasAnnounced m planning request thunk found old r → Onward old r
  announced_on thunk found r is = then_on old is.loaded r (loaded_on thunk found is.loaded is.finds.loads) (is_made_on m (kinds.ReadPlan thunk) is.loaded r refl is.announces)

  locked_on : (thunk : Thunk) (found : Readings) (clock word : ℕ) (r : RunnerState T) → HasLock m planning request thunk found clock word old r → Onward old r
  locked_on thunk found clock word r is = then_on old is.clocks.announced r (announced_on thunk found is.clocks.announced is.clocks.announces)
      (then_on is.clocks.announced is.clocked r (made_on m kinds.ReadClock clock is.clocks.announced is.clocked refl is.clocks.loads)
      (made_on m (kinds.LoadCell (Some thunk.lock)) word is.clocked r refl is.loads))

  stamped_on : (thunk : Thunk) (found : Readings) (clock : ℕ) (r : RunnerState T) → HasStamped m planning request thunk found clock old r → Onward old r
  stamped_on thunk found clock r is = then_on old is.replies.again r (locked_on thunk found clock thunk.word is.replies.again is.replies.unmoved)
      (then_on is.replies.again is.replied r (made_on m kinds.ReadReply 0 is.replies.again is.replied refl is.replies.writes)
      (made_on m kinds.ReadStamp 0 is.replied r refl is.writes))

  refused_on : (answer : Read) (r : RunnerState T) → IsRefused m planning request answer old r → Onward old r
  refused_on answer r (ByPlan is) = planned_on is.readings is.refusal r is.plans
  refused_on answer r (ByBody at same is) = planned_on is.readings (plans.Thunk is.thunk) r is.plans
  refused_on answer r (ByCell place expected read same is) = loaded_on is.thunk is.found r is.loads
  refused_on answer r (ByLock is) = locked_on is.thunk is.found is.clock is.word r is.locks

  spared_on : (new : RunnerState T) → Onward old new → new.part.records.finished ≡ old.part.records.finished → IsSpared old → IsSpared new
  spared_on new on finished spared uncrossed low =
      let before = on uncrossed in
      let same : length new.part.records.finished ≡ length old.part.records.finished = ap length finished in
      let had = spared before.0 (omega (arith, low, same)) in
      let epochs : own_epoch new.part.records.epoch_seen ≡ own_epoch old.part.records.epoch_seen = before.1 in
      omega (arith, had, same, epochs)

  -- so a spared runner stays spared behind a read that was served, and behind one that was refused
  pub served_spared : (new : RunnerState T) (stamped : RunnerState T) (thunk : Thunk) (found : Readings) (clock : ℕ) → HasStamped m planning request thunk found clock old stamped
      → Onward stamped new → new.part.records.finished ≡ old.part.records.finished → IsSpared old → IsSpared new
  served_spared new stamped thunk found clock is leaves finished spared =
      spared_on new (then_on old stamped new (stamped_on thunk found clock stamped is) leaves) finished spared

  pub refused_spared : (answer : Read) (new : RunnerState T) → IsTurnedAway m planning request answer old new
      → new.part.records.finished ≡ old.part.records.finished → IsSpared old → IsSpared new
  refused_spared answer new is finished spared =
      spared_on new (then_on old is.cut new (refused_on answer is.cut is.cause) (exits_on m is.cut new is.exits)) finished spared
