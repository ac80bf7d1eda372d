use Rattle.try_lock.specs.commit_log.specs.version_words.specs.TableState.{IsOf}
use Rattle.std.specs.Prelude.{true}
use Rattle.lock_walks.specs.Led.{GoesOn}
use Rattle.lock_walks.proofs.plans.pass_nodes.Given as goal

abbrev pub invariant-loop-passed : goal.invariant-loop-passed
invariant-loop-passed g l = record {
  own : IsOf l.table l.runner;
  goes : GoesOn (g.S.Structure.meaning l.table.structure) l.table.layout g.W.Walker.way l.fn.walker l.walker l.fn.place l.fn.word l.place l.word true l.fn.runner l.runner
      (g.G.Gate.halts l.fn.gate) (g.G.Gate.halts l.gate) (g.G.Gate.asks l.fn.gate) (g.G.Gate.asks l.gate) l.fn.steps.count l.steps.count;
}
