use Rattle.std.proofs.Common.{◌≡◌, ◌≤◌, min, length, ap, ◌∙◌, arith}
use Rattle.std.proofs.lemmas.List.{length-take}
use Rattle.body_terms.proofs.body.Body.resize.Goals as goal

pub returns : goal.returns
returns c =
    let kept : c.len-counter.result ≡ min c.args.count (length c.self.inside.steps.items) = c.len-counter.ensures.value ∙ (ap length c.truncate.ensures.items ∙ length-take _ _) in
    let few : c.len-counter.result ≤ c.args.count = omega (arith, kept) in
    let long = c.loop.invariant in
    let low = c.loop-test.false in
    let high = c.loop.auto.counter-end few in
    omega (arith, long, low, high)
