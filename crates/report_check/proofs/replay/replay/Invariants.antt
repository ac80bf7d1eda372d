use Rattle.report_check.proofs.Replays.{Replaying}
use Rattle.report_check.proofs.replay.replay.Given as goal

abbrev pub invariant-loop-k : goal.invariant-loop-k
invariant-loop-k l = Replaying l.requests l.answers l.turns l.k l.book l.wrong
