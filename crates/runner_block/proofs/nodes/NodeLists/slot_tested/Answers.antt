use Rattle.std.proofs.Common.{refl, sym, ap, subst, ◌∙◌, arith}
use Rattle.machine_states.specs.runner_parts.specs.Tests.{has}
use Rattle.runner_block.specs.Room.{AreTested}
use Rattle.runner_block.proofs.Rooms.{one_more_fits, tested_anew, refit}
use Rattle.runner_block.proofs.nodes.NodeLists.slot_tested.Goals as goal

pub renew-requires : goal.renew-requires
renew-requires c =
    let a = c.self.inside in let was = c.self.invariant in
    let low = was.hand_below.below c.args.test.slot (ap (λ v. has v.lists.hand c.args.test.slot) c.self.view_is ∙ c.requires) in
    let more = one_more_fits a.room a.tests.items c.args.test low was.tested_once in
    let full = was.tests_room in
    omega (arith, more, full)

pub invariant_of-self : goal.invariant_of-self
invariant_of-self c =
    let a = c.self.inside in let was = c.self.invariant in
    let low = was.hand_below.below c.args.test.slot (ap (λ v. has v.lists.hand c.args.test.slot) c.self.view_is ∙ c.requires) in
    refit a.room _ _ _ _ _ _ _ _ _ _ _ _ _ _ was (omega arith) refl refl c.renew.ensures.room refl refl
    (subst (AreTested a.room) (sym c.renew.ensures.items) (tested_anew a.room a.tests.items c.args.test low was.tested_once))
    was.free_below was.hand_below was.limbo_below
