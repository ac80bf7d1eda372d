use Rattle.version_words.specs.TableState.{IsOf}
use Rattle.epoch_slots.specs.Hands.{IsLookedAt}
use Rattle.epoch_slots.proofs.hand.look_at.Given as goal

abbrev pub invariant-loop-cell : goal.invariant-loop-cell
invariant-loop-cell g l = record {
  own : IsOf l.table l.runner;
  looked : IsLookedAt (g.S.Structure.meaning l.table.structure) l.slot l.cell l.fn.runner l.runner;
}
