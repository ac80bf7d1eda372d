use Rattle.std.proofs.Common.{refl, sym, ap, subst, ◌∙◌, length, arith, ◌∷◌, []}
use Rattle.machine_states.specs.runner_parts.specs.Tests.{has}
use Rattle.runner_block.specs.Room.{AreTested, AreBelow}
use Rattle.runner_block.proofs.Rooms.{without_fewer, tested_without, refit, below_without, below_append, below_one}
use Rattle.runner_block.proofs.nodes.NodeLists.slot_back.Goals as goal

pub invariant_of-self : goal.invariant_of-self
invariant_of-self c =
    let a = c.self.inside in let was = c.self.invariant in
    let own = ap (λ v. has v.lists.hand c.args.slot) c.self.view_is ∙ c.requires in
    let less = without_fewer a.hand.items c.args.slot own in
    let len = ap length c.remove.ensures.items in let e = c.push_reserved.ensures.len in let p = c.remove.new.numbers.ok.0 in let q = a.hand.ok.0 in
    refit a.room _ _ _ _ _ _ _ _ _ _ _ _ _ _ was (omega (arith, less, len, e, p, q)) refl c.remove.ensures.room c.forget.ensures.room refl c.push_reserved.ensures.capacity
    (subst (AreTested a.room) (sym c.forget.ensures.items) (tested_without a.room c.args.slot a.tests.items was.tested_once)) was.free_below
    (subst (AreBelow a.room) (sym c.remove.ensures.items) (below_without a.room c.args.slot a.hand.items was.hand_below)) was.limbo_below

pub invariant_of-self-else-worn : goal.invariant_of-self-else-worn
invariant_of-self-else-worn c =
    let a = c.self.inside in let was = c.self.invariant in
    let own = ap (λ v. has v.lists.hand c.args.slot) c.self.view_is ∙ c.requires in
    let less = without_fewer a.hand.items c.args.slot own in
    let len = ap length c.remove.ensures.items in let e = c.push_reserved-else-worn.ensures.len in let p = c.remove.new.numbers.ok.0 in let q = a.hand.ok.0 in
    refit a.room _ _ _ _ _ _ _ _ _ _ _ _ _ _ was (omega (arith, less, len, e, p, q)) c.push_reserved-else-worn.ensures.capacity c.remove.ensures.room c.forget.ensures.room refl refl
    (subst (AreTested a.room) (sym c.forget.ensures.items) (tested_without a.room c.args.slot a.tests.items was.tested_once))
    (subst (AreBelow a.room) (sym c.push_reserved-else-worn.ensures.items) (below_append a.room a.free.items (c.args.slot ∷ []) was.free_below (below_one a.room c.args.slot (was.hand_below.below c.args.slot own))))
    (subst (AreBelow a.room) (sym c.remove.ensures.items) (below_without a.room c.args.slot a.hand.items was.hand_below)) was.limbo_below
