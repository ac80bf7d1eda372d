use Rattle.version_words.specs.TableState.{IsOf}
use Rattle.epoch_slots.specs.Board.{HasDrawn}
use Rattle.epoch_slots.proofs.board.draw.Given as goal

abbrev pub invariant-loop-word : goal.invariant-loop-word
invariant-loop-word g l = record {
  own : IsOf l.table l.runner;
  drawn : HasDrawn (g.S.Structure.meaning l.table.structure) l.n l.word l.fn.runner l.runner;
}
