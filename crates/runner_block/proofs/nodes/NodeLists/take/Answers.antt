use Rattle.std.proofs.Common.{refl, sym, ap, subst, ◌∙◌, length, arith, ◌∷◌, []}
use Rattle.machine_states.specs.runner_parts.specs.Tests.{has}
use Rattle.runner_block.specs.Room.{AreBelow}
use Rattle.runner_block.proofs.Rooms.{without_fewer, refit, below_without, below_append, below_one}
use Rattle.runner_block.proofs.nodes.NodeLists.take.Goals as goal

pub invariant_of-self : goal.invariant_of-self
invariant_of-self c =
    let a = c.self.inside in let was = c.self.invariant in
    let own = ap (λ v. has v.lists.free c.args.slot) c.self.view_is ∙ c.requires.own in
    let less = without_fewer a.free.items c.args.slot own in
    let len = ap length c.take_out.ensures.items in let e = c.push_reserved.ensures.len in let p = c.take_out.new.numbers.ok.0 in let q = a.free.ok.0 in
    refit a.room _ _ _ _ _ _ _ _ _ _ _ _ _ _ was (omega (arith, less, len, e, p, q)) c.take_out.ensures.room c.push_reserved.ensures.capacity refl refl refl was.tested_once
    (subst (AreBelow a.room) (sym c.take_out.ensures.items) (below_without a.room c.args.slot a.free.items was.free_below))
    (subst (AreBelow a.room) (sym c.push_reserved.ensures.items) (below_append a.room a.hand.items (c.args.slot ∷ []) was.hand_below (below_one a.room c.args.slot (was.free_below.below c.args.slot own)))) was.limbo_below
