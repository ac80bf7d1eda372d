use Rattle.std.proofs.Common.{◌≡◌, drop}
use Rattle.runner_steps.specs.Board.{last_read}
use Rattle.runner_asks.proofs.board.last_read.Given as goal

abbrev pub invariant-loop-load : goal.invariant-loop-load
invariant-loop-load l = last_read (drop l.load-index l.board) l.word ≡ last_read l.board l.word
