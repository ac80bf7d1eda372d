use Rattle.version_words.specs.TableState.{IsOf}
use Rattle.epoch_slots.specs.Hands.{IsBack}
use Rattle.epoch_slots.proofs.hand.look_back.Given as goal

abbrev pub invariant-loop-back : goal.invariant-loop-back
invariant-loop-back g l = record {
  own : IsOf l.table l.runner;
  back : IsBack (g.S.Structure.meaning l.table.structure) l._back l.fn.runner l.runner;
}
