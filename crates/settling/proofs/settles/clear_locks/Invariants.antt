use Rattle.std.proofs.Common.{length}
use Rattle.try_lock.specs.commit_log.specs.version_words.specs.TableState.{IsOf}
use Rattle.settling.specs.Clearing.{KeepsJoins, IsClearing}
use Rattle.settling.proofs.settles.clear_locks.Given as goal

abbrev pub invariant-loop-place : goal.invariant-loop-place
invariant-loop-place g l = record {
  own : IsOf l.table l.keeper;
  clearing : IsClearing (g.S.Structure.meaning l.table.structure) (length l.fn.keeper.part.records.finished) l.place l.keeper;
  keeps : KeepsJoins l.fn.keeper l.keeper;
}
