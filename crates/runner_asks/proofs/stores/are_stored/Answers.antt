use Rattle.std.proofs.Common.{get_or, sym, ap, ◌∙◌, arith}
use Rattle.runner_steps.specs.runner_parts.specs.Tests.{is_some_of}
use Rattle.runner_asks.proofs.Latest.{stored_next, stored_end, false_first, true_first}
use Rattle.runner_asks.proofs.stores.are_stored.Goals as goal

pub returns-then-not-is_some_of : goal.returns-then-not-is_some_of
returns-then-not-is_some_of c =
    let said = sym c.is_some_of.ensures ∙ c.if-not-is_some_of.true in
    let no = ap (λ o. is_some_of o (get_or c.args.numbers.now c.loop-number.number-index 0)) (sym c.last_stored.ensures) ∙ said in
    sym (sym c.loop-number.invariant.rest ∙ (stored_next c.args.stored.now c.args.descriptor c.loop-number.word c.args.numbers.now c.loop-number.number-index 0 c.loop-number-test.true ∙ false_first _ _ no))

pub loop-number-preserved : goal.loop-number-preserved
loop-number-preserved c =
    let said = sym c.is_some_of.ensures ∙ c.if-not-is_some_of.false in
    let yes = ap (λ o. is_some_of o (get_or c.args.numbers.now c.loop-number.number-index 0)) (sym c.last_stored.ensures) ∙ said in
    record {
      word = (let w = c.loop-number.invariant.word in omega arith);
      rest = sym (true_first _ _ yes) ∙ (sym (stored_next c.args.stored.now c.args.descriptor c.loop-number.word c.args.numbers.now c.loop-number.number-index 0 c.loop-number-test.true) ∙ c.loop-number.invariant.rest);
    }

pub returns : goal.returns
returns c = sym (sym c.loop-number.invariant.rest ∙ stored_end c.args.stored.now c.args.descriptor c.loop-number.word c.args.numbers.now c.loop-number.number-index c.loop-number-test.false)
