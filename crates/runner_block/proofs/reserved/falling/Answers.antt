use Rattle.std.proofs.Common.{ℕ, ◌+◌, ◌-◌, List, ◌++◌, refl, ap, ◌∙◌, arith}
use Rattle.machine_states.specs.First.{falling}
use Rattle.machine_states.proofs.Firsts.{falling_next}
use Rattle.runner_block.proofs.reserved.falling.Goals as goal

pub loop-below-preserved : goal.loop-below-preserved
loop-below-preserved c = let h = c.push_reserved.ensures in let inv = c.loop-below.invariant in record {
  items = ap (λ (xs : List ℕ). xs ++ falling c.args.from (c.args.count - (c.loop-below.below + 1))) h.items
      ∙ (falling_next c.args.from (c.args.count - 1 - c.loop-below.below) c.args.count c.loop-below.below c.loop-below.numbers.items c.loop-below-test.true refl ∙ inv.items);
  filled = (let a = h.len in let b = inv.filled in omega arith);
  room = (let a = h.capacity in let b = inv.room in omega arith);
}

pub push_reserved-requires : goal.push_reserved-requires
push_reserved-requires c = let inv = c.loop-below.invariant in let a = inv.filled in let b = inv.room in let d = c.loop-below-test.true in let e = c.requires.room in omega arith
