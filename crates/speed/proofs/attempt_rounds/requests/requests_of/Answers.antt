use Rattle.std.proofs.Common.{◌++◌, ◌∷◌, [], ◌∙◌, ap, arith, length, map, subst, sym}
use Rattle.std.specs.List.{range_with_len}
use Rattle.std.proofs.lemmas.List.FromFn.{map-range_with_len_more, length-map-range_with_len}
use Rattle.machine_states.specs.map_history.specs.Requests.{AreInOrder}
use Rattle.speed.specs.Asked.{request_at}
use Rattle.speed.proofs.Asked.{requests_in_order}
use Rattle.speed.proofs.attempt_rounds.requests.requests_of.Goals as goal

pub loop-number-preserved : goal.loop-number-preserved
loop-number-preserved c =
    let kind = c.args.kind in let number = c.loop-number.number in
    c.in_ok-push.ensures.items
    ∙ ap (λ front. front ++ c.request_at.result ∷ []) c.loop-number.invariant
    ∙ ap (λ last. map (request_at kind) (range_with_len 0 number) ++ last ∷ []) c.request_at.ensures
    ∙ sym (map-range_with_len_more (request_at kind) 0 number number (omega arith))

pub returns-clause-requests : goal.returns-clause-requests
returns-clause-requests c = c.loop-number.invariant ∙ ap (λ count. map (request_at c.args.kind) (range_with_len 0 count)) (let high = c.loop-number-test.false in let low = c.loop-number.auto.number-end in omega (arith, high, low))

pub returns-clause-length : goal.returns-clause-length
returns-clause-length c =
    ap length (c.loop-number.invariant ∙ ap (λ count. map (request_at c.args.kind) (range_with_len 0 count)) (let high = c.loop-number-test.false in let low = c.loop-number.auto.number-end in omega (arith, high, low)))
    ∙ length-map-range_with_len (request_at c.args.kind) 0 c.args.count

pub returns-clause-ordered : goal.returns-clause-ordered
returns-clause-ordered c =
    subst (λ requests. AreInOrder requests 64)
    (sym (c.loop-number.invariant ∙ ap (λ count. map (request_at c.args.kind) (range_with_len 0 count)) (let high = c.loop-number-test.false in let low = c.loop-number.auto.number-end in omega (arith, high, low))))
    (requests_in_order c.args.kind c.args.count c.requires.few)
