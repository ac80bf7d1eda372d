use Rattle.version_words.specs.TableState.{IsOf}
use Rattle.attempts.specs.lock_walks.specs.Own.{own_thunk}
use Rattle.attempts.specs.caller_facts.specs.Counted.{IsSeen}
use Rattle.lock_attempts.proofs.Repeated.{IsTrying}
use Rattle.lock_attempts.proofs.serving.persist.Given as goal

abbrev pub invariant-loop-again : goal.invariant-loop-again
invariant-loop-again g l =
    IsOf l.table l.runner
    × IsTrying (g.S.Structure.meaning l.table.structure) (g.W.Walker.way.planning l.fn.walk) l.request (own_thunk g.W.Walker.way l.fn.walk l.request.number) l.table l.fn.runner (IsSeen g.G.Gate.halts g.G.Gate.asks) l._again l.runner
    (g.G.Gate.halts l.initial.gate) (g.G.Gate.halts l.gate) (g.G.Gate.asks l.initial.gate) (g.G.Gate.asks l.gate) l.initial.steps.count l.steps.count
