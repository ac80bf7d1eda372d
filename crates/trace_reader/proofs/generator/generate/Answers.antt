use Rattle.std.proofs.Common.{◌+◌, ◌*◌, ◌++◌, ◌∷◌, [], ◌∙◌, ap, arith, map, subst, sym}
use Rattle.std.specs.List.{range_with_len}
use Rattle.std.proofs.lemmas.List.FromFn.{map-range_with_len_more}
use Rattle.map_history.specs.Requests.{AreInOrder, AreOfFormat1}
use Rattle.trace_reader.specs.Generator.{generated_at, next_state}
use Rattle.trace_reader.proofs.Generated.{generated_format, generated_in_order, state_more}
use Rattle.trace_reader.proofs.generator.generate.Goals as goal

pub request_of-requires-clause-first : goal.request_of-requires-clause-first
request_of-requires-clause-first c =
    c.next_state-first.ensures.next ∙ ap next_state c.loop-number.invariant.state
    ∙ sym (state_more c.args.plan.now.seed (2 * c.loop-number.number) (2 * c.loop-number.number + 1) (omega arith))

pub request_of-requires-clause-second : goal.request_of-requires-clause-second
request_of-requires-clause-second c =
    let first = c.next_state-first.ensures.next ∙ ap next_state c.loop-number.invariant.state ∙ sym (state_more c.args.plan.now.seed (2 * c.loop-number.number) (2 * c.loop-number.number + 1) (omega arith)) in
    c.next_state-second.ensures.next ∙ ap next_state first
    ∙ sym (state_more c.args.plan.now.seed (2 * c.loop-number.number + 1) (2 * c.loop-number.number + 2) (omega arith))

pub loop-number-preserved : goal.loop-number-preserved
loop-number-preserved c =
    let seed = c.args.plan.now.seed in
    let number = c.loop-number.number in
    let first = c.next_state-first.ensures.next ∙ ap next_state c.loop-number.invariant.state ∙ sym (state_more seed (2 * number) (2 * number + 1) (omega arith)) in
    record {
      requests =
          c.in_ok-push.ensures.ok
          ∙ ap (λ front. front ++ c.request_of.result ∷ []) c.loop-number.invariant.requests
          ∙ ap (λ last. map (generated_at c.args.plan.now) (range_with_len 0 number) ++ last ∷ []) c.request_of.ensures
          ∙ sym (map-range_with_len_more (generated_at c.args.plan.now) 0 number number (omega arith));
      state = c.next_state-second.ensures.next ∙ ap next_state first ∙ sym (state_more seed (2 * number + 1) (2 * (number + 1)) (omega arith));
      bound = c.next_state-second.ensures.bound;
    }

pub returns-clause-ordered : goal.returns-clause-ordered
returns-clause-ordered c =
    let whole = c.loop-number.invariant.requests ∙ ap (λ count. map (generated_at c.args.plan.now) (range_with_len 0 count)) (omega (arith, c.loop-number-test.false)) in
    subst (λ requests. AreInOrder requests c.args.plan.now.traces) (sym whole) (generated_in_order c.args.plan.now c.requires)

pub returns-clause-format : goal.returns-clause-format
returns-clause-format c =
    let whole = c.loop-number.invariant.requests ∙ ap (λ count. map (generated_at c.args.plan.now) (range_with_len 0 count)) (omega (arith, c.loop-number-test.false)) in
    subst AreOfFormat1 (sym whole) (generated_format c.args.plan.now)
