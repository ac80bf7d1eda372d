use Rattle.version_words.specs.TableState.{IsOf}
use Rattle.epoch_slots.specs.Board.{HasSpared}
use Rattle.epoch_slots.proofs.board.spare.Given as goal

abbrev pub invariant-loop-word : goal.invariant-loop-word
invariant-loop-word g l = record {
  own : IsOf l.table l.runner;
  spared : HasSpared (g.S.Structure.meaning l.table.structure) l.word l.fn.runner l.runner;
}
