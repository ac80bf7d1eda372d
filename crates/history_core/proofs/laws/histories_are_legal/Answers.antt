use Rattle.history_core.specs.Schedules.{first_state, after_all}
use Rattle.history_core.proofs.Keeping.{first_sound, schedule_keeps}
use Rattle.history_core.proofs.Consequences.{legal}
use Rattle.history_core.proofs.laws.histories_are_legal.Goals as goal

pub returns : goal.returns
returns c = λ requests es ok. legal requests (after_all requests first_state es) (schedule_keeps requests first_state es ok (first_sound requests))
