use Rattle.std.proofs.Common.{length}
use Rattle.command_line.proofs.halts.+runners_differ.Given as goal

abbrev pub decreases-runners_differ : goal.decreases-runners_differ
decreases-runners_differ l = length l.halts.now
