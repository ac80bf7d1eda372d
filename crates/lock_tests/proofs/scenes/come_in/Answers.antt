use Rattle.machine_states.specs.structure_laws.specs.Tray.{tray}
use Rattle.lock_tests.proofs.Turning.{entered_leave, entered_hand}
use Rattle.lock_tests.proofs.scenes.come_in.Goals as goal

pub returns-clause-leave : goal.returns-clause-leave
returns-clause-leave c = entered_leave tray c.args.runner c.enter.result c.requires.tidy c.enter.ensures.enters

pub returns-clause-hand : goal.returns-clause-hand
returns-clause-hand c = entered_hand tray c.args.runner c.enter.result c.requires.tidy c.enter.ensures.enters
