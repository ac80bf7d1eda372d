use Rattle.machine_states.specs.structure_laws.specs.Tray.{tray}
use Rattle.lock_attempts.specs.attempts.proofs.LettingGo.{exits_tidy}
use Rattle.lock_tests.proofs.scenes.visit.Goals as goal

pub returns-clause-tidy : goal.returns-clause-tidy
returns-clause-tidy c = exits_tidy tray c.come_in-runner.result c.exit.result c.come_in-runner.ensures.hand c.come_in-runner.ensures.leave.unguarded c.exit.ensures.exits
