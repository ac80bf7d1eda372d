use Rattle.std.proofs.Common.{sym, subst, ◌∙◌, ◌<◌, length-append, arith, ◌∷◌, []}
use Rattle.machine_states.specs.runner_parts.specs.Lists.{slot_drawn}
use Rattle.runner_block.specs.Room.{AreFew, AreBelow}
use Rattle.runner_block.proofs.Rooms.{below_append, below_one}
use Rattle.runner_block.proofs.nodes.NodeLists.draw.Goals as goal

pub invariant_of-self : goal.invariant_of-self
invariant_of-self c =
    let a = c.self.inside in let was = c.self.invariant in
    let few = (subst (λ v. AreFew v.room (slot_drawn v.lists c.args.slot)) (sym c.self.view_is) c.requires.few).few in
    let node = subst (λ v. c.args.slot < v.room) (sym c.self.view_is) c.requires.node in
    let more = length-append a.free.items (c.args.slot ∷ []) in let e = c.push_reserved.ensures.len in
    let f = a.free.ok.0 in let h = a.hand.ok.0 in let l = a.limbo.ok.0 in let w = a.worn.ok.0 in
    record {
      fits = omega (arith, few, more, e, f, h, l, w);
      few = was.few;
      free_room = c.push_reserved.ensures.capacity ∙ was.free_room;
      hand_room = was.hand_room;
      tests_room = was.tests_room;
      limbo_room = was.limbo_room;
      worn_room = was.worn_room;
      tested_once = was.tested_once;
      free_below = subst (AreBelow a.room) (sym c.push_reserved.ensures.items) (below_append a.room a.free.items (c.args.slot ∷ []) was.free_below (below_one a.room c.args.slot node));
      hand_below = was.hand_below;
      limbo_below = was.limbo_below;
    }
