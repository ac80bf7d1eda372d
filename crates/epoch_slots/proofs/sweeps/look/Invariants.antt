use Rattle.version_words.specs.TableState.{IsOf}
use Rattle.epoch_slots.specs.Sweeps.{HasLooked}
use Rattle.epoch_slots.proofs.sweeps.look.Given as goal

abbrev pub invariant-loop-guard : goal.invariant-loop-guard
invariant-loop-guard g l = record {
  own : IsOf l.table l.runner;
  looked : HasLooked (g.S.Structure.meaning l.table.structure) l.guard l.fn.runner l.runner;
}
