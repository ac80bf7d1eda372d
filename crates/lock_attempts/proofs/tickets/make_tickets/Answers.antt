use Rattle.std.proofs.Common.{◌+◌, ◌/◌, ◌++◌, ◌∷◌, [], ◌∙◌, ap, arith, map, subst, sym}
use Rattle.std.specs.List.{range_with_len}
use Rattle.std.proofs.lemmas.List.FromFn.{map-range_with_len_more}
use Rattle.machine_states.specs.map_history.specs.Requests.{AreInOrder}
use Rattle.lock_attempts.specs.Tickets.{ticket}
use Rattle.lock_attempts.proofs.Numbering.{in_order}
use Rattle.lock_attempts.proofs.tickets.make_tickets.Goals as goal

pub loop-number-preserved : goal.loop-number-preserved
loop-number-preserved c =
    let each = c.args.each in let number = c.loop-number.number in
    c.in_ok-push.ensures.items ∙ ap (λ front. front ++ ticket (number / each) number ∷ []) c.loop-number.invariant
    ∙ sym (map-range_with_len_more (λ n. ticket (n / each) n) 0 number number (omega arith))

pub returns-clause-tickets : goal.returns-clause-tickets
returns-clause-tickets c = c.loop-number.invariant ∙ ap (λ count. map (λ n. ticket (n / c.args.each) n) (range_with_len 0 count)) (let high = c.loop-number-test.false in let low = c.loop-number.auto.number-end in omega (arith, high, low))

pub returns-clause-ordered : goal.returns-clause-ordered
returns-clause-ordered c =
    subst (λ requests. AreInOrder requests 64)
    (sym (c.loop-number.invariant ∙ ap (λ count. map (λ n. ticket (n / c.args.each) n) (range_with_len 0 count)) (let high = c.loop-number-test.false in let low = c.loop-number.auto.number-end in omega (arith, high, low))))
    (in_order c.args.workers c.args.each c.requires.some c.requires.workers c.requires.few)
