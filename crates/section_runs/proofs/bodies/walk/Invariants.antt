use Rattle.std.specs.Prelude.{◌≡◌, ◌+◌, take, sum_by}
use Rattle.idem_cell.specs.machine_states.specs.body_terms.specs.Cost.{step_cost}
use Rattle.idem_cell.specs.machine_states.specs.body_terms.specs.Line.{registers_before}
use Rattle.idem_alloc.specs.commit_log.specs.version_words.specs.TableState.{IsOf}
use Rattle.idem_alloc.specs.commit_log.specs.Halted.{IsThrough}
use Rattle.section_runs.specs.Reached.{run_of}
use Rattle.section_runs.specs.Registers.{AreKept}
use Rattle.section_runs.specs.Bodies.{IsBefore, IsSameRun, NodesGone}
use Rattle.section_runs.proofs.Walking.{links_at, TakesAmong}
use Rattle.section_runs.proofs.bodies.walk.Given as goal

abbrev pub invariant-loop-n : goal.invariant-loop-n
invariant-loop-n g l = record {
  own : IsOf l.table l.runner;
  before : IsBefore (g.S.Structure.meaning l.table.structure) l.n l.runner;
  same : IsSameRun (g.S.Structure.meaning l.table.structure) l.fn.runner l.runner;
  trail : l.trail.words ≡ (run_of l.runner).trail;
  late : l.trail.late ≡ l.fn.trail.late;
  kept : AreKept l.kept (registers_before l.body l.n);
  nodes : NodesGone l.body l.n l.fn.runner.part.nodes l.runner.part.nodes;
  among : TakesAmong l.body l.n l.taken;
  uncounted : l.steps.count ≡ l.fn.steps.count;
  through : IsThrough (g.S.Structure.meaning l.table.structure) (sum_by step_cost (take l.n l.body) + links_at l.body l.n) l.fn.runner l.runner (g.G.Gate.halts l.fn.gate) (g.G.Gate.halts l.gate) (g.G.Gate.asks l.fn.gate) (g.G.Gate.asks l.gate) 0 l.made.count;
}
