use Rattle.std.proofs.Common.{refl, sym, subst, arith}
use Rattle.runner_block.specs.Room.{AreBelow}
use Rattle.std.specs.Prelude.{not}
use Rattle.machine_states.specs.runner_parts.specs.Lists.{is_old, slots_of}
use Rattle.std.proofs.Common.{List}
use Rattle.machine_states.specs.runner_parts.specs.declared.entries.Retired.{Retired}
use Rattle.runner_block.proofs.Rooms.{refit, below_append, below_filter}
use Rattle.runner_block.proofs.nodes.NodeLists.collect.Goals as goal

pub invariant_of-self : goal.invariant_of-self
invariant_of-self c =
    let a = c.self.inside in let was = c.self.invariant in let over = c.wait_over.ensures in let sum = over.sum in
    refit a.room _ _ _ _ _ _ _ _ _ _ _ _ _ _ was (omega (arith, sum)) refl over.room refl over.limbo_room refl was.tested_once was.free_below
    (subst (AreBelow a.room) (sym over.list) (below_append a.room a.hand.items _ was.hand_below (below_filter a.room (is_old c.args.epoch) a.limbo.items was.limbo_below)))
    (subst (λ (xs : List Retired). AreBelow a.room (slots_of xs)) (sym over.limbo) (below_filter a.room (λ x. not (is_old c.args.epoch x)) a.limbo.items was.limbo_below))
