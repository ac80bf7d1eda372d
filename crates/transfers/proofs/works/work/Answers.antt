use Rattle.std.specs.Prelude.{Result, IfOk}
use Rattle.std.proofs.Common.{◌≡◌, ℕ, ◌+◌, refl, sym, ap, ◌∙◌, subst, arith}
use Rattle.lock_attempts.specs.attempts.specs.declared.answers.Attempt.{Attempt}
use Rattle.lock_attempts.specs.attempts.specs.caller_facts.proofs.Knowing.{knows_same}
use Rattle.lock_attempts.specs.Tickets.{ticket, tickets_for}
use Rattle.lock_attempts.specs.declared.tickets.Tickets.{Tickets}
use Rattle.transfers.specs.Made.{HasMade, HaveMade}
use Rattle.transfers.proofs.Making.{one_more}
use Rattle.transfers.proofs.works.work.Goals as goal

pub tickets_of-tickets-requires-clause-own : goal.tickets_of-tickets-requires-clause-own
tickets_of-tickets-requires-clause-own g c κs = c.requires.may.new.own

pub tickets_of-tickets-requires-clause-tidy : goal.tickets_of-tickets-requires-clause-tidy
tickets_of-tickets-requires-clause-tidy g c κs = c.requires.may.new.tidy

pub tickets_of-tickets-requires-clause-new : goal.tickets_of-tickets-requires-clause-new
tickets_of-tickets-requires-clause-new g c κs = c.requires.may.new.known

pub tickets_of-tickets-requires-clause-number : goal.tickets_of-tickets-requires-clause-number
tickets_of-tickets-requires-clause-number g c κs = let four = c.requires.may.scene.runners in let low = c.requires.may.low in omega (arith, four, low)

pub tickets_of-tickets-requires-clause-few : goal.tickets_of-tickets-requires-clause-few
tickets_of-tickets-requires-clause-few g c κs = let four = c.requires.may.scene.runners in omega (arith, four)

pub tickets_of-tickets-requires-clause-tickets : goal.tickets_of-tickets-requires-clause-tickets
tickets_of-tickets-requires-clause-tickets g c κs =
    c.requires.may.scene.tickets ∙ ap (λ (n : ℕ). tickets_for n 100) (sym c.requires.may.scene.runners)

pub loop-turn-init : goal.loop-turn-init
loop-turn-init g c = (
  c.requires.may.new.own,
  refl,
  c.tickets_of-tickets.ensures.tickets,
  (let next = c.tickets_of-tickets.ensures.next in omega (arith, next)),
  c.tickets_of-tickets.ensures.end,
  c.tickets_of-tickets.ensures.trace,
  refl,
)

pub loop-turn-preserved : goal.loop-turn-preserved
loop-turn-preserved g c =
    let was = c.loop-turn.invariant in
    let used : c.make_transfer-next.new.tickets ≡ record (c.loop-turn.tickets) { next = c.loop-turn.tickets.next + 1 } =
    subst (λ (a : Result ℕ Attempt). IfOk a (λ x. c.make_transfer-next.new.tickets ≡ record (c.loop-turn.tickets) { next = c.loop-turn.tickets.next + 1 })) c.in-Ok.is c.make_transfer-next.ensures.used in (
      c.make_transfer-next.ensures.own,
      c.make_transfer-next.ensures.number ∙ was.1,
      c.make_transfer-next.ensures.tickets (λ e. absurd (let z = sym c.in-Ok.is ∙ e in cc)),
      (let next = ap (λ (x : Tickets). x.next) used in let before = was.3 in omega (arith, next, before)),
      ap (λ (x : Tickets). x.end) used ∙ was.4,
      ap (λ (x : Tickets). x.trace) used ∙ was.5,
      one_more c.args.table.now c.loop-turn.turn c.args.runner.number c.loop-turn.tickets c.args.runner c.loop-turn.runner c.make_transfer-next.result.0 was.6 was.5 was.3 c.choose-transfer.result c.in-Ok.answered
          (subst (λ (a : Result ℕ Attempt). IfOk a (λ answered. HasMade c.args.table.now c.choose-transfer.result (ticket c.loop-turn.tickets.trace c.loop-turn.tickets.next) answered c.loop-turn.runner c.make_transfer-next.result.0)) c.in-Ok.is c.make_transfer-next.ensures.made),
    )

pub returns-in-Err-clause-back : goal.returns-in-Err-clause-back
returns-in-Err-clause-back g c = record {
  own = c.make_transfer-next.ensures.own;
  number = c.make_transfer-next.ensures.number ∙ c.loop-turn.invariant.1;
}

pub returns-clause-back : goal.returns-clause-back
returns-clause-back g c = record { own = c.loop-turn.invariant.0; number = c.loop-turn.invariant.1 }

pub returns-in-Err-clause-each : goal.returns-in-Err-clause-each
returns-in-Err-clause-each g c = (c.loop-turn.runner, c.loop-turn.invariant.6, c.make_transfer-next.ensures.knows)

pub returns-clause-each : goal.returns-clause-each
returns-clause-each g c =
    let all : c.loop-turn.turn ≡ 100 = (let past = c.loop-turn-test.false in let low = c.loop-turn.auto.turn-end in omega (arith, past, low)) in (
      c.loop-turn.runner,
      subst (λ (n : ℕ). HaveMade c.args.table.now n c.args.runner.number c.args.runner c.loop-turn.runner) all c.loop-turn.invariant.6,
      knows_same c.loop-turn.runner c.loop-turn.runner refl refl refl,
    )
