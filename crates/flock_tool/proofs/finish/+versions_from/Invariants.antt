use Rattle.std.proofs.Common.{length}
use Rattle.flock_tool.proofs.finish.+versions_from.Given as goal

abbrev pub decreases-versions_from : goal.decreases-versions_from
decreases-versions_from l = length l.answers.now
