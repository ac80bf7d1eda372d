use Rattle.epoch_core.proofs.Reusing.{leaves_late, leaves_unheld, leaves_nothing_old}
use Rattle.epoch_core.proofs.laws.slots_leave_limbo_late.Goals as goal

pub returns-clause-late : goal.returns-clause-late
returns-clause-late c = leaves_late

pub returns-clause-unheld : goal.returns-clause-unheld
returns-clause-unheld c = leaves_unheld

pub returns-clause-all_old : goal.returns-clause-all_old
returns-clause-all_old c = leaves_nothing_old
