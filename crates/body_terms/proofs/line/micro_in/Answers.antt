use Rattle.std.proofs.Common.{◌<◌, ◌≤◌, ◌-◌, sym, ◌∙◌, arith, subst}
use Rattle.body_terms.specs.Line.{micro_count}
use Rattle.body_terms.proofs.LineLemmas.{micro_found, micro_past, begins_more, count_more}
use Rattle.body_terms.proofs.line.micro_in.Goals as goal

pub returns-then-at-begin : goal.returns-then-at-begin
returns-then-at-begin c =
    let inside : c.args.at - c.loop-n.begin < micro_count c.index-steps-n.result = subst (λ k. c.args.at - c.loop-n.begin < k) c.micro_count-count.ensures.exact c.if-at-begin.true in
    c.micro.ensures ∙ sym (micro_found c.args.steps.now c.loop-n.n c.args.at c.loop-n.begin c.index-steps-n.result c.loop-n-test.true c.index-steps-n.is c.loop-n.invariant.begin c.loop-n.invariant.past inside)

pub loop-n-preserved : goal.loop-n-preserved
loop-n-preserved c =
    let steps = c.args.steps.now in
    let begins = begins_more steps c.loop-n.n c.index-steps-n.result c.loop-n-test.true c.index-steps-n.is in
    let count = count_more steps c.loop-n.n c.index-steps-n.result c.loop-n-test.true c.index-steps-n.is in
    record {
      begin = omega (arith, begins, c.micro_count-count.ensures.exact);
      past = omega arith;
      log = omega (arith, count, c.log_words-log.ensures.exact);
      early = omega (arith, c.micro_count-count.ensures.few);
      few = omega (arith, c.log_words-log.ensures.few);
    }

pub returns : goal.returns
returns c = sym (micro_past c.args.steps.now c.loop-n.n c.args.at c.loop-n-test.false (subst (λ k. k ≤ c.args.at) c.loop-n.invariant.begin c.loop-n.invariant.past))
