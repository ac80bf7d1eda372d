use Rattle.std.proofs.Common.{refl, sym, ap, subst, length, arith}
use Rattle.runner_block.specs.Room.{AreBelow}
use Rattle.runner_block.proofs.Rooms.{without_most, refit, below_without}
use Rattle.runner_block.proofs.nodes.NodeLists.give.Goals as goal

pub invariant_of-self : goal.invariant_of-self
invariant_of-self c =
    let a = c.self.inside in let was = c.self.invariant in
    let less = without_most a.free.items c.args.slot in
    let len = ap length c.take_out.ensures.items in let p = c.take_out.new.numbers.ok.0 in let q = a.free.ok.0 in
    refit a.room _ _ _ _ _ _ _ _ _ _ _ _ _ _ was (omega (arith, less, len, p, q)) c.take_out.ensures.room refl refl refl refl was.tested_once
    (subst (AreBelow a.room) (sym c.take_out.ensures.items) (below_without a.room c.args.slot a.free.items was.free_below)) was.hand_below was.limbo_below
