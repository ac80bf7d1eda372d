use Rattle.machine_states.specs.runner_parts.specs.State.{RunState}
use Rattle.version_words.specs.TableState.{IsOf}
use Rattle.commit_log.specs.Runs.{IsRunning}
use Rattle.commit_log.specs.Halted.{IsThrough}
use Rattle.commit_log.specs.Links.{IsEmptying}
use Rattle.commit_log.proofs.links.empty_gated.Given as goal

abbrev pub invariant-loop-word : goal.invariant-loop-word
invariant-loop-word g l = record {
  own : IsOf l.table l.runner;
  emptying : (q : RunState) → IsRunning (g.S.Structure.meaning l.table.structure) l.fn.runner q → (q' : RunState) × IsEmptying (g.S.Structure.meaning l.table.structure) l.block l.word l.fn.runner l.runner q q';
  through : IsThrough (g.S.Structure.meaning l.table.structure) l.word l.fn.runner l.runner (g.G.Gate.halts l.fn.gate) (g.G.Gate.halts l.gate) (g.G.Gate.asks l.fn.gate) (g.G.Gate.asks l.gate) l.fn.steps.count l.steps.count;
}
