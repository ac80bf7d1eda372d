use Rattle.std.proofs.Common.{sym}
use Rattle.attempt_bounds.specs.attempts.specs.caller_facts.specs.Counted.{IsSeen}
use Rattle.serving.proofs.Trying.{trying_begins, trying_on, trying_ends}
use Rattle.serving.proofs.persists.persist.Goals as goal

pub loop-init : goal.loop-init
loop-init g c = (
  tt,
  tt,
  c.requires.own,
  trying_begins (g.S.Structure.meaning c.args.table.now.structure) (g.S.Planner.planning c.args.table.now.structure) c.args.request.now c.args.retry_short
      c.args.runner _ _ _ c.requires.next,
)

pub loop-preserved : goal.loop-preserved
loop-preserved g c = let inv = c.loop.invariant in (
  tt,
  tt,
  c.attempt-next.ensures.own,
  trying_on (g.S.Structure.meaning c.args.table.now.structure) (g.S.Planner.planning c.args.table.now.structure) c.args.request.now c.args.retry_short
      c.args.table.now c.args.runner c.loop.runner c.attempt-next.result.0 inv.2 c.requires.own c.attempt-next.ensures.own c.attempt-next.result.1
      (IsSeen g.G.Gate.halts g.G.Gate.asks) _ _ _ _ _ _ _ _ _ inv.3 c.attempt-next.ensures.attempts (sym c.if-not-is_again.ensures),
)

pub returns-then-not-is_again-clause-persists : goal.returns-then-not-is_again-clause-persists
returns-then-not-is_again-clause-persists g c = let inv = c.loop.invariant in
    trying_ends (g.S.Structure.meaning c.args.table.now.structure) (g.S.Planner.planning c.args.table.now.structure) c.args.request.now c.args.retry_short
    c.args.table.now c.args.runner c.loop.runner c.attempt-next.result.0 inv.2 c.requires.own c.attempt-next.ensures.own c.attempt-next.result.1
    (IsSeen g.G.Gate.halts g.G.Gate.asks) _ _ _ _ _ _ _ _ _ inv.3 c.attempt-next.ensures.attempts (sym c.if-not-is_again.ensures)
