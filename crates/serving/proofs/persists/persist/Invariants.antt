use Rattle.attempt_bounds.specs.version_words.specs.TableState.{IsOf}
use Rattle.serving.proofs.Trying.{IsTrying}
use Rattle.serving.proofs.persists.persist.Given as goal

abbrev pub invariant-loop : goal.invariant-loop
invariant-loop g l = (goal.iterator-loop g).can_next l.iterator' × (goal.iterator-loop g).is_finite l.iterator'
    × IsOf l.table l.runner
    × IsTrying (g.S.Structure.meaning l.table.structure) (g.S.Planner.planning l.table.structure) l.request l.retry_short l.fn.runner l.runner
    (g.G.Gate.halts l.initial.gate) (g.G.Gate.halts l.gate) (g.G.Gate.asks l.initial.gate) (g.G.Gate.asks l.gate)
    l.initial.steps.count l.steps.count
