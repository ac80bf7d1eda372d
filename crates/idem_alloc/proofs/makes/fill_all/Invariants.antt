use Rattle.std.specs.Prelude.{◌*◌, true}
use Rattle.runner_steps.specs.runner_parts.specs.State.{RunState}
use Rattle.commit_log.specs.version_words.specs.TableState.{IsOf}
use Rattle.commit_log.specs.Runs.{IsRunning}
use Rattle.commit_log.specs.Asked.{IsAsked}
use Rattle.idem_alloc.specs.Made.{IsFilling}
use Rattle.idem_alloc.proofs.makes.fill_all.Given as goal

abbrev pub invariant-loop-cell : goal.invariant-loop-cell
invariant-loop-cell g l = record {
  own : IsOf l.table l.runner;
  filling : (q : RunState) → IsRunning (g.S.Structure.meaning l.table.structure) l.fn.runner q → IsFilling (g.S.Structure.meaning l.table.structure) l.slot l.cell l.fn.runner l.runner q;
  asked : IsAsked (2 * l.cell) true (g.G.Gate.halts l.fn.gate) (g.G.Gate.halts l.gate) (g.G.Gate.asks l.fn.gate) (g.G.Gate.asks l.gate) l.fn.steps.count l.steps.count;
}
