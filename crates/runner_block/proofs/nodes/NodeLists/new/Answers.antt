use Rattle.std.proofs.Common.{List, sym, ap, subst, length, arith}
use Rattle.machine_states.specs.runner_parts.specs.declared.entries.Retired.{Retired}
use Rattle.machine_states.specs.runner_parts.specs.Lists.{slots_of}
use Rattle.runner_block.specs.Room.{AreTested, AreBelow}
use Rattle.runner_block.proofs.Rooms.{below_none, below_falling, length_falling}
use Rattle.runner_block.proofs.nodes.NodeLists.new.Goals as goal

pub invariant_of-result : goal.invariant_of-result
invariant_of-result c =
    let room = c.args.room in let free = c.in_ok-falling in let hand = c.in_ok-with_capacity in let tests = c.in_ok-with_capacity-2 in let limbo = c.in_ok-with_capacity-3 in let worn = c.in_ok-with_capacity-4 in
    let a = ap length free.ensures.items in let b = free.field-0.ok.0 in let d = length_falling c.args.first c.args.count in let few = c.requires.room in
    let h = hand.ensures.len in let l = limbo.ensures.len in let w = worn.ensures.len in
    record {
      fits = omega (arith, a, b, d, few, h, l, w);
      few = c.requires.few;
      free_room = free.ensures.room;
      hand_room = hand.ensures.exact;
      tests_room = tests.ensures.exact;
      limbo_room = limbo.ensures.exact;
      worn_room = worn.ensures.exact;
      tested_once = subst (AreTested room) (sym tests.ensures.items) tt;
      free_below = subst (AreBelow room) (sym free.ensures.items) (below_falling room c.args.first c.args.count few);
      hand_below = subst (AreBelow room) (sym hand.ensures.items) (below_none room);
      limbo_below = subst (λ (xs : List Retired). AreBelow room (slots_of xs)) (sym limbo.ensures.items) (below_none room);
    }
