use Rattle.std.specs.Prelude.{Result, IfOk}
use Rattle.std.proofs.Common.{◌≡◌, ℕ, ◌+◌, refl, sym, ap, ◌∙◌, subst, arith}
use Rattle.machine_states.specs.map_history.specs.declared.op.Op.TheVariants.{Get}
use Rattle.lock_attempts.specs.attempts.specs.declared.answers.Attempt.{Attempt}
use Rattle.lock_attempts.specs.attempts.specs.lock_walks.specs.Wants.{WantsWereRead}
use Rattle.accounts.specs.account_laws.specs.Accounts.{accounts_of}
use Rattle.accounts.specs.declared.table.Accounts.{Accounts}
use Rattle.lock_attempts.specs.declared.tickets.Tickets.{Tickets}
use Rattle.lock_tests.proofs.bank.move_money.Goals as goal

pub tickets_of-tickets-requires-clause-own : goal.tickets_of-tickets-requires-clause-own
tickets_of-tickets-requires-clause-own g c κs = c.requires.may.new.own

pub tickets_of-tickets-requires-clause-tidy : goal.tickets_of-tickets-requires-clause-tidy
tickets_of-tickets-requires-clause-tidy g c κs = c.requires.may.new.tidy

pub tickets_of-tickets-requires-clause-new : goal.tickets_of-tickets-requires-clause-new
tickets_of-tickets-requires-clause-new g c κs = c.requires.may.new.known

pub tickets_of-tickets-requires-clause-number : goal.tickets_of-tickets-requires-clause-number
tickets_of-tickets-requires-clause-number g c κs = c.requires.may.low

pub tickets_of-tickets-requires-clause-some : goal.tickets_of-tickets-requires-clause-some
tickets_of-tickets-requires-clause-some g c κs = c.requires.may.some

pub tickets_of-tickets-requires-clause-few : goal.tickets_of-tickets-requires-clause-few
tickets_of-tickets-requires-clause-few g c κs = c.requires.may.few

pub tickets_of-tickets-requires-clause-tickets : goal.tickets_of-tickets-requires-clause-tickets
tickets_of-tickets-requires-clause-tickets g c κs = c.requires.may.bank.tickets

pub loop-turn-init : goal.loop-turn-init
loop-turn-init g c = (
  c.requires.may.new.own,
  refl,
  c.tickets_of-tickets.ensures.tickets,
  (let next = c.tickets_of-tickets.ensures.next in omega (arith, next)),
  c.tickets_of-tickets.ensures.end,
)

pub spend_ticket-next-requires-clause-wants : goal.spend_ticket-next-requires-clause-wants
spend_ticket-next-requires-clause-wants g c κs within =
    subst (λ (s : Accounts). WantsWereRead (accounts_of s.accounts s.opening)) c.structure-in-loop-turn.ensures c.walk-walk.ensures.wants

pub spend_ticket-next-requires-clause-serves : goal.spend_ticket-next-requires-clause-serves
spend_ticket-next-requires-clause-serves g c κs within = ap (λ p. p.serves (Get 0)) c.walk-walk.ensures.planning

pub loop-turn-preserved : goal.loop-turn-preserved
loop-turn-preserved g c =
    let was = c.loop-turn.invariant in
    let used : c.spend_ticket-next.new.tickets ≡ record (c.loop-turn.tickets) { next = c.loop-turn.tickets.next + 1 } =
    subst (λ (a : Result ℕ Attempt). IfOk a (λ x. c.spend_ticket-next.new.tickets ≡ record (c.loop-turn.tickets) { next = c.loop-turn.tickets.next + 1 })) c.in-Ok.is c.spend_ticket-next.ensures.used in (
      c.spend_ticket-next.ensures.own,
      c.spend_ticket-next.ensures.number ∙ was.1,
      c.spend_ticket-next.ensures.tickets (λ e. absurd (let z = sym c.in-Ok.is ∙ e in cc)),
      (let next = ap (λ (x : Tickets). x.next) used in let before = was.3 in omega (arith, next, before)),
      ap (λ (x : Tickets). x.end) used ∙ was.4,
    )

pub returns-in-Err : goal.returns-in-Err
returns-in-Err g c = record {
  back = record {
    own = c.spend_ticket-next.ensures.own;
    number = c.spend_ticket-next.ensures.number ∙ c.loop-turn.invariant.1;
  };
}

pub returns : goal.returns
returns g c = record { back = record { own = c.loop-turn.invariant.0; number = c.loop-turn.invariant.1 } }
