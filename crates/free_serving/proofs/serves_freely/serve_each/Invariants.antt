use Rattle.std.proofs.Common.{◌≡◌}
use Rattle.version_words.specs.TableState.{IsOf}
use Rattle.free_serving.proofs.Along.{IsAlong, IsSoFar}
use Rattle.free_serving.proofs.serves_freely.serve_each.Given as goal

abbrev pub invariant-loop-request : goal.invariant-loop-request
invariant-loop-request g l = record {
  own : IsOf l.table l.runner;
  along : IsAlong (g.S.Structure.meaning l.table.structure) (g.S.Planner.planning l.table.structure) l.requests l.request-index l.fn.runner l.runner;
  so_far : IsSoFar (g.S.Structure.meaning l.table.structure) (g.S.Planner.planning l.table.structure) l.retry_short l.requests l.request-index l.fn.runner l.runner
      (g.G.Gate.asks l.initial.gate) (g.G.Gate.asks l.gate) l.initial.steps.count l.steps.count;
  went : g.G.Gate.halts l.gate ≡ g.G.Gate.halts l.initial.gate;
}
