use Rattle.guard_core.proofs.Enough.{leaves_enough, never_short}
use Rattle.guard_core.proofs.laws.sweeps_leave_enough.Goals as goal

pub returns-clause-few : goal.returns-clause-few
returns-clause-few c = leaves_enough

pub returns-clause-enough : goal.returns-clause-enough
returns-clause-enough c = never_short
