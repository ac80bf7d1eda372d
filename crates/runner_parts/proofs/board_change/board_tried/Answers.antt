use Rattle.std.specs.Prelude.{slice_set, slice_index_or}
use Rattle.std.proofs.Common.{◌∙◌, List, sym, ap, arith}
use Rattle.epoch_core.specs.small_lemmas.proofs.Numbers.{equal_tested}
use Rattle.runner_parts.specs.declared.entries.BoardRead.{BoardRead}
use Rattle.runner_parts.specs.declared.entries.Tried.{Tried}
use Rattle.runner_parts.specs.Lists.{board_tried}
use Rattle.runner_parts.proofs.Board.{no_read, tried_at, tried_none}
use Rattle.runner_parts.proofs.board_change.board_tried.Goals as goal

pub returns-then-board-i : goal.returns-then-board-i
returns-then-board-i c =
    let x = slice_index_or c.loop-i.board c.loop-i.i no_read in
    ap (λ (t : Tried). slice_set c.loop-i.board c.loop-i.i (record x { tried = t })) c.tried_as.ensures
    ∙ (tried_at c.args.word c.args.won c.loop-i.board c.loop-i.i (omega arith) c.loop-i.invariant.none (equal_tested x.word c.args.word c.if-board-i.true)
    ∙ ap (λ (xs : List BoardRead). board_tried xs c.args.word c.args.won) c.loop-i.invariant.same)

pub returns : goal.returns
returns c =
    sym (tried_none c.args.word c.args.won c.loop-i.board (λ k h. c.loop-i.invariant.none k (omega (arith, h))))
    ∙ ap (λ (xs : List BoardRead). board_tried xs c.args.word c.args.won) c.loop-i.invariant.same
