use Rattle.history_core.specs.Schedules.{first_state}
use Rattle.history_core.proofs.Keeping.{first_sound, schedule_keeps}
use Rattle.history_core.proofs.laws.schedules_meet_the_invariant.Goals as goal

pub returns : goal.returns
returns c = λ requests es ok. schedule_keeps requests first_state es ok (first_sound requests)
