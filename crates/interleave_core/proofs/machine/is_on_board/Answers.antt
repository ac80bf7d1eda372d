use Rattle.std.proofs.Common.{◌≡◌, ap, ◌∙◌, arith}
use Rattle.machine_states.specs.table_words.specs.Places.{board_words}
use Rattle.interleave_core.specs.Parts.{is_on_board}
use Rattle.interleave_core.proofs.machine.is_on_board.Goals as goal

pub returns : goal.returns
returns c =
    let low = c.loop-word.auto.word-end in let high = c.loop-word-test.false in
    let last : c.loop-word.word ≡ board_words = omega (arith, low, high) in
    c.loop-word.invariant ∙ ap (is_on_board c.args.sizes c.args.words.now c.args.slot) last
