use Rattle.std.proofs.Common.{length}
use Rattle.flock_tool.proofs.finish.+any_halted.Given as goal

abbrev pub decreases-any_halted : goal.decreases-any_halted
decreases-any_halted l = length l.answers.now
