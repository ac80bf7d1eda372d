use Rattle.std.proofs.Common.{subst, ap}
use Rattle.std.specs.Prelude.{Err}
use Rattle.attempts.specs.lock_walks.specs.Own.{own_thunk}
use Rattle.attempts.specs.caller_facts.specs.Counted.{IsSeen}
use Rattle.lock_attempts.specs.Again.{Persists}
use Rattle.lock_attempts.specs.Tickets.{ticket}
use Rattle.lock_attempts.proofs.Spending.{may_spend, used_after, unused_after, not_halted}
use Rattle.lock_attempts.proofs.serving.spend_ticket.Goals as goal

pub persist-runner-requires-clause-next : goal.persist-runner-requires-clause-next
persist-runner-requires-clause-next g c κs within =
    may_spend c.args.table.now c.args.tickets.now c.args.runner c.requires.own c.requires.tickets (g.W.Walker.way.planning c.args.walk) c.requires.serves c.requires.some

pub returns-in-Ok-clause-number : goal.returns-in-Ok-clause-number
returns-in-Ok-clause-number g c = c.persist-runner.ensures.persists.knows.number

pub returns-in-Ok-clause-persists : goal.returns-in-Ok-clause-persists
returns-in-Ok-clause-persists g c =
    (subst (λ a. Persists (g.S.Structure.meaning c.args.table.now.structure) (g.W.Walker.way.planning c.args.walk) (ticket c.args.tickets.now.trace c.args.tickets.now.next) (own_thunk g.W.Walker.way c.args.walk c.args.tickets.now.next) c.args.more a c.args.runner c.persist-runner.result.0 (IsSeen g.G.Gate.halts g.G.Gate.asks)
    (g.G.Gate.halts c.args.gate.now) (g.G.Gate.halts c.persist-runner.new.gate) (g.G.Gate.asks c.args.gate.now) (g.G.Gate.asks c.persist-runner.new.gate) c.args.steps.now.count c.persist-runner.new.steps.count) c.in-Ok.is c.persist-runner.ensures.persists)

pub returns-in-Ok-clause-tickets : goal.returns-in-Ok-clause-tickets
returns-in-Ok-clause-tickets g c = λ going.
    used_after (g.S.Structure.meaning c.args.table.now.structure) (g.W.Walker.way.planning c.args.walk) (own_thunk g.W.Walker.way c.args.walk c.args.tickets.now.next) c.args.table.now c.args.tickets.now c.args.runner c.requires.own c.requires.tickets c.args.more c.persist-runner.result.0 c.persist-runner.ensures.own (IsSeen g.G.Gate.halts g.G.Gate.asks) _ _ _ _ _ _ c.in-Ok.reply
    (subst (λ a. Persists (g.S.Structure.meaning c.args.table.now.structure) (g.W.Walker.way.planning c.args.walk) (ticket c.args.tickets.now.trace c.args.tickets.now.next) (own_thunk g.W.Walker.way c.args.walk c.args.tickets.now.next) c.args.more a c.args.runner c.persist-runner.result.0 (IsSeen g.G.Gate.halts g.G.Gate.asks)
    (g.G.Gate.halts c.args.gate.now) (g.G.Gate.halts c.persist-runner.new.gate) (g.G.Gate.asks c.args.gate.now) (g.G.Gate.asks c.persist-runner.new.gate) c.args.steps.now.count c.persist-runner.new.steps.count) c.in-Ok.is c.persist-runner.ensures.persists)

pub returns-in-Err-clause-number : goal.returns-in-Err-clause-number
returns-in-Err-clause-number g c = c.persist-runner.ensures.persists.knows.number

pub returns-in-Err-clause-persists : goal.returns-in-Err-clause-persists
returns-in-Err-clause-persists g c =
    (subst (λ a. Persists (g.S.Structure.meaning c.args.table.now.structure) (g.W.Walker.way.planning c.args.walk) (ticket c.args.tickets.now.trace c.args.tickets.now.next) (own_thunk g.W.Walker.way c.args.walk c.args.tickets.now.next) c.args.more a c.args.runner c.persist-runner.result.0 (IsSeen g.G.Gate.halts g.G.Gate.asks)
    (g.G.Gate.halts c.args.gate.now) (g.G.Gate.halts c.persist-runner.new.gate) (g.G.Gate.asks c.args.gate.now) (g.G.Gate.asks c.persist-runner.new.gate) c.args.steps.now.count c.persist-runner.new.steps.count) c.in-Err.is c.persist-runner.ensures.persists)

pub returns-in-Err-clause-tickets : goal.returns-in-Err-clause-tickets
returns-in-Err-clause-tickets g c = λ going.
    unused_after (g.S.Structure.meaning c.args.table.now.structure) (g.W.Walker.way.planning c.args.walk) (own_thunk g.W.Walker.way c.args.walk c.args.tickets.now.next) c.args.table.now c.args.tickets.now c.args.runner c.requires.own c.requires.tickets c.args.more c.persist-runner.result.0 c.persist-runner.ensures.own (IsSeen g.G.Gate.halts g.G.Gate.asks) _ _ _ _ _ _ c.in-Err.refused (not_halted c.in-Err.refused (λ e. going (ap (λ a. Err a) e)))
    (subst (λ a. Persists (g.S.Structure.meaning c.args.table.now.structure) (g.W.Walker.way.planning c.args.walk) (ticket c.args.tickets.now.trace c.args.tickets.now.next) (own_thunk g.W.Walker.way c.args.walk c.args.tickets.now.next) c.args.more a c.args.runner c.persist-runner.result.0 (IsSeen g.G.Gate.halts g.G.Gate.asks)
    (g.G.Gate.halts c.args.gate.now) (g.G.Gate.halts c.persist-runner.new.gate) (g.G.Gate.asks c.args.gate.now) (g.G.Gate.asks c.persist-runner.new.gate) c.args.steps.now.count c.persist-runner.new.steps.count) c.in-Err.is c.persist-runner.ensures.persists)
