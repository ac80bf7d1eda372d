use Rattle.std.proofs.Common.{refl, sym, ap, subst, length, arith}
use Rattle.runner_block.specs.Room.{AreBelow}
use Rattle.runner_block.proofs.Rooms.{without_most, refit, below_without}
use Rattle.runner_block.proofs.nodes.NodeLists.made.Goals as goal

pub invariant_of-self : goal.invariant_of-self
invariant_of-self c =
    let a = c.self.inside in let was = c.self.invariant in
    let less = without_most a.hand.items c.args.slot in
    let len = ap length c.remove.ensures.items in let p = c.remove.new.numbers.ok.0 in let q = a.hand.ok.0 in
    refit a.room _ _ _ _ _ _ _ _ _ _ _ _ _ _ was (omega (arith, less, len, p, q)) refl c.remove.ensures.room refl refl refl was.tested_once was.free_below
    (subst (AreBelow a.room) (sym c.remove.ensures.items) (below_without a.room c.args.slot a.hand.items was.hand_below)) was.limbo_below
