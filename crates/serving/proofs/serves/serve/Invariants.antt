use Rattle.std.proofs.Common.{◌≡◌}
use Rattle.attempt_bounds.specs.version_words.specs.TableState.{IsOf}
use Rattle.serving.proofs.Along.{IsAlong, IsSoFar}
use Rattle.serving.proofs.serves.serve.Given as goal

abbrev pub invariant-loop-request : goal.invariant-loop-request
invariant-loop-request g l = record {
  own : IsOf l.table l.runner;
  along : IsAlong l.requests l.request-index l.fn.runner l.runner;
  so_far : IsSoFar (g.S.Structure.meaning l.table.structure) (g.S.Planner.planning l.table.structure) l.requests l.retry_short l.request-index l.fn.runner l.runner
      (g.G.Gate.asks l.initial.gate) (g.G.Gate.asks l.gate) l.initial.steps.count l.steps.count;
  went : g.G.Gate.halts l.gate ≡ g.G.Gate.halts l.initial.gate;
}
