use Rattle.std.proofs.Common.{length}
use Rattle.flock_tool.proofs.finish.+slots_from.Given as goal

abbrev pub decreases-slots_from : goal.decreases-slots_from
decreases-slots_from l = length l.answers.now
