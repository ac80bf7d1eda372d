use Rattle.version_words.specs.TableState.{IsOf}
use Rattle.epoch_slots.specs.Collects.{HasScanned}
use Rattle.epoch_slots.proofs.collects.scan.Given as goal

abbrev pub invariant-loop-next : goal.invariant-loop-next
invariant-loop-next g l = record {
  own : IsOf l.table l.runner;
  scanned : HasScanned (g.S.Structure.meaning l.table.structure) l.next l.epoch l.clear l.fn.runner l.runner;
}
