use Rattle.std.proofs.Common.{◌+◌, ◌≤◌, ◌<◌, length, take, ap, ◌∙◌, subst, arith, set, length-set}
use Rattle.body_terms.proofs.WrittenLemmas.{agrees_to, agrees_more}
use Rattle.body_terms.proofs.body.write_ten.Goals as goal

pub loop-n-preserved : goal.loop-n-preserved
loop-n-preserved c =
    let room = c.loop-n.invariant.room in
    let below = c.loop-n-test.true in
    let end = c.min-end.ensures in
    let inside : c.loop-n.n < length c.args.steps.now = omega (arith, below, end) in
    record {
      room = length-set _ _ _ ∙ room;
      before = ap (λ step. take (c.loop-n.n + 1) (set c.loop-n.place c.loop-n.n step)) c.index-steps-n.is
          ∙ agrees_more c.loop-n.place c.args.steps.now c.loop-n.n c.index-steps-n.result room c.loop-n.invariant.before inside;
    }

pub returns-clause-written : goal.returns-clause-written
returns-clause-written c = agrees_to c.loop-n.place c.args.steps.now c.loop-n.n (c.args.from + 10) c.loop-n.invariant.room c.loop-n.invariant.before
    (subst (λ end. end ≤ c.loop-n.n) c.min-end.ensures c.loop-n-test.false)
