use Rattle.std.proofs.Common.{ap, ◌∙◌, subst}
use Rattle.agreement_core.specs.map_history.specs.declared.op.Op.TheVariants.{Get}
use Rattle.agreement_core.specs.table_words.specs.declared.layout.Layout.{Layout}
use Rattle.lock_attempts.specs.attempts.specs.lock_walks.specs.Wants.{WantsWereRead}
use Rattle.accounts.specs.account_laws.specs.Accounts.{accounts_of}
use Rattle.accounts.specs.Walk.{begun}
use Rattle.accounts.specs.Made.{Makes}
use Rattle.accounts.specs.declared.table.Accounts.{Accounts}
use Rattle.lock_attempts.specs.attempts.specs.caller_facts.specs.Counted.{IsSeen}
use Rattle.lock_attempts.specs.Tickets.{ticket}
use Rattle.transfers.proofs.Making.{made_if}
use Rattle.transfers.proofs.works.make_transfer.Goals as goal

pub spend_ticket-requires-clause-wants : goal.spend_ticket-requires-clause-wants
spend_ticket-requires-clause-wants g c κs within =
    subst (λ (s : Accounts). WantsWereRead (accounts_of s.accounts s.opening)) c.structure.ensures c.walk-walk.ensures.wants

pub spend_ticket-requires-clause-serves : goal.spend_ticket-requires-clause-serves
spend_ticket-requires-clause-serves g c κs within = ap (λ p. p.serves (Get 0)) c.walk-walk.ensures.planning

pub returns-clause-knows : goal.returns-clause-knows
returns-clause-knows g c = c.spend_ticket.ensures.persists.knows

pub returns-clause-made : goal.returns-clause-made
returns-clause-made g c =
    let t = c.args.table.now in
    made_if t c.args.transfer c.walk-walk.result (c.walk-walk.ensures.begun ∙ ap (λ (l : Layout). begun c.args.transfer l.version_max (Get 0)) c.layout.ensures)
    (subst (λ (s : Accounts). Makes (accounts_of s.accounts s.opening) c.args.transfer c.walk-walk.result) c.structure.ensures c.walk-walk.ensures.makes)
    (ticket c.args.tickets.now.trace c.args.tickets.now.next) _ c.spend_ticket.result.1 c.args.runner c.spend_ticket.result.0 (IsSeen g.G.Gate.halts g.G.Gate.asks) _ _ _ _ _ _
    c.spend_ticket.ensures.persists
