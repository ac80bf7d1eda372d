use Rattle.std.proofs.Common.{◌≡◌}
use Rattle.runner_parts.proofs.Board.{NoneBefore}
use Rattle.runner_parts.proofs.board_change.board_tried.Given as goal

abbrev pub invariant-loop-i : goal.invariant-loop-i
invariant-loop-i l = record { same : l.board ≡ l.fn.board; none : NoneBefore l.board l.i l.word }
