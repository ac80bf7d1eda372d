use Rattle.std.proofs.Common.{◌≤◌}
use Rattle.speed.proofs.attempt_rounds.rounds.add_up.Given as goal

abbrev pub invariant-loop-request : goal.invariant-loop-request
invariant-loop-request g l = l.answered ≤ l.request
