use Rattle.std.proofs.Common.{sym, arith}
use Rattle.attempts.specs.lock_walks.specs.Own.{own_thunk}
use Rattle.attempts.specs.caller_facts.specs.Counted.{IsSeen}
use Rattle.lock_attempts.proofs.Repeated.{trying_begins, trying_next, trying_ends}
use Rattle.lock_attempts.proofs.serving.persist.Goals as goal

pub loop-again-init : goal.loop-again-init
loop-again-init g c = (
  c.requires.own,
  trying_begins (g.S.Structure.meaning c.args.table.now.structure) (g.W.Walker.way.planning c.args.walk) c.args.request.now (own_thunk g.W.Walker.way c.args.walk c.args.request.now.number) c.args.table.now c.args.runner c.requires.own
      (IsSeen g.G.Gate.halts g.G.Gate.asks) c.requires.next _ _ _,
)

pub loop-again-preserved : goal.loop-again-preserved
loop-again-preserved g c = (
  c.attempt_section-next.ensures.own,
  trying_next (g.S.Structure.meaning c.args.table.now.structure) (g.W.Walker.way.planning c.args.walk) c.args.request.now (own_thunk g.W.Walker.way c.args.walk c.args.request.now.number) c.args.table.now c.args.runner c.requires.own
      (IsSeen g.G.Gate.halts g.G.Gate.asks) _ _ _ _ _ _ _ _ c.loop-again.invariant.1 c.attempt_section-next.result.0 c.attempt_section-next.ensures.own _ _ _
      c.attempt_section-next.result.1 (sym c.if-not-is_again.ensures) c.attempt_section-next.ensures.attempts,
)

pub attempt_section-next-requires-clause-next : goal.attempt_section-next-requires-clause-next
attempt_section-next-requires-clause-next g c κs within = c.loop-again.invariant.1.may

pub attempt_section-requires-clause-next : goal.attempt_section-requires-clause-next
attempt_section-requires-clause-next g c κs within = c.loop-again.invariant.1.may

pub returns-then-not-is_again-clause-persists : goal.returns-then-not-is_again-clause-persists
returns-then-not-is_again-clause-persists g c =
    trying_ends (g.S.Structure.meaning c.args.table.now.structure) (g.W.Walker.way.planning c.args.walk) c.args.request.now (own_thunk g.W.Walker.way c.args.walk c.args.request.now.number) c.args.table.now c.args.runner c.requires.own
    (IsSeen g.G.Gate.halts g.G.Gate.asks) _ _ _ _ _ _ _ _ c.loop-again.invariant.1 c.attempt_section-next.result.0 c.attempt_section-next.ensures.own _ _ _
    c.args.more (let low = c.loop-again.auto._again-end in omega (arith, low)) c.attempt_section-next.result.1 c.attempt_section-next.ensures.attempts

pub returns-clause-persists : goal.returns-clause-persists
returns-clause-persists g c =
    trying_ends (g.S.Structure.meaning c.args.table.now.structure) (g.W.Walker.way.planning c.args.walk) c.args.request.now (own_thunk g.W.Walker.way c.args.walk c.args.request.now.number) c.args.table.now c.args.runner c.requires.own
    (IsSeen g.G.Gate.halts g.G.Gate.asks) _ _ _ _ _ _ _ _ c.loop-again.invariant.1 c.attempt_section.result.0 c.attempt_section.ensures.own _ _ _
    c.args.more (let low = c.loop-again.auto._again-end in omega (arith, low)) c.attempt_section.result.1 c.attempt_section.ensures.attempts
