use Rattle.std.proofs.Common.{ℕ, ◌+◌, ◌-◌, List, ◌++◌, refl, ap, ◌∙◌}
use Rattle.machine_states.specs.First.{falling}
use Rattle.machine_states.proofs.Firsts.{falling_next}
use Rattle.interleave_core.proofs.first.falling.Goals as goal

pub loop-below-preserved : goal.loop-below-preserved
loop-below-preserved c =
    ap (λ (xs : List ℕ). xs ++ falling c.args.from (c.args.count - (c.loop-below.below + 1))) c.in_ok-push.ensures.items
    ∙ (falling_next c.args.from (c.args.count - 1 - c.loop-below.below) c.args.count c.loop-below.below c.loop-below.numbers.items c.loop-below-test.true refl ∙ c.loop-below.invariant)
