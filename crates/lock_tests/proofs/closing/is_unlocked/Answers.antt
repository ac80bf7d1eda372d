use Rattle.std.proofs.Common.{arith, subst, sym, ◌∙◌}
use Rattle.lock_tests.specs.Closing.{AreFreeBelow}
use Rattle.lock_tests.proofs.Unlocked.{free_more, holds_none}
use Rattle.lock_tests.proofs.closing.is_unlocked.Goals as goal

pub loop-place-preserved : goal.loop-place-preserved
loop-place-preserved g c = free_more (g.S.Structure.meaning c.args.words.now.structure) c.args.words.now c.loop-place.place c.loop-place.invariant (sym c.is_held.ensures ∙ c.if-is_held.false)

pub returns : goal.returns
returns g c = λ yes.
    let m = g.S.Structure.meaning c.args.words.now.structure in
    holds_none m c.args.words.now (subst (AreFreeBelow m c.args.words.now) (let high = c.loop-place-test.false in let low = c.loop-place.auto.place-end in let all = c.requires in omega (arith, high, low, all)) c.loop-place.invariant)
