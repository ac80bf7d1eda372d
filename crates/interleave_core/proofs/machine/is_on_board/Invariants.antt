use Rattle.std.proofs.Common.{◌≡◌}
use Rattle.interleave_core.specs.Parts.{is_on_board}
use Rattle.interleave_core.proofs.machine.is_on_board.Given as goal

abbrev pub invariant-loop-word : goal.invariant-loop-word
invariant-loop-word l = l.on ≡ is_on_board l.sizes l.words l.slot l.word
