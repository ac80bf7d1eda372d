use Rattle.std.proofs.Common.{take}
use Rattle.section_runs.specs.commit_log.specs.version_words.specs.TableState.{IsOf}
use Rattle.try_lock.specs.Prepares.{HasSet}
use Rattle.try_lock.proofs.publishes.set_words.Given as goal

abbrev pub invariant-loop-i : goal.invariant-loop-i
invariant-loop-i g l = record {
  own : IsOf l.table l.runner;
  set : HasSet (g.S.Structure.meaning l.table.structure) l.descriptor l.first (take l.i l.numbers) l.fn.runner l.runner;
}
