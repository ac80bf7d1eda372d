use Rattle.std.proofs.Common.{length}
use Rattle.runner_block.proofs.marks.+lost_in.Given as goal

abbrev pub decreases-lost_in : goal.decreases-lost_in
decreases-lost_in l = length l.marks.now
