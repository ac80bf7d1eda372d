use Rattle.std.proofs.Common.{◌≡◌, ◌∷◌}
use Rattle.machine_states.specs.First.{keeper_part, workers}
use Rattle.interleave_core.proofs.first.first_parts.Given as goal

abbrev pub invariant-loop-worker : goal.invariant-loop-worker
invariant-loop-worker g l = l.parts.items ≡ keeper_part (g.S.Structure.meaning l.structure) l.layout ∷ workers (g.S.Structure.meaning l.structure) l.layout l.worker
