use Rattle.std.proofs.Common.{sym, ap, ◌∙◌, length, arith}
use Rattle.machine_states.specs.runner_parts.specs.Tests.{has}
use Rattle.runner_block.specs.Room.{owed}
use Rattle.runner_block.proofs.Rooms.{without_fewer}
use Rattle.runner_block.proofs.descriptors.DescriptorLists.publish.Goals as goal

pub invariant_of-self : goal.invariant_of-self
invariant_of-self c =
    let a = c.self.inside in
    let own = ap (λ v. has v.free c.args.descriptor) c.self.view_is ∙ c.requires.own in
    let none = ap owed (ap (λ v. v.published) c.self.view_is ∙ c.requires.none) in
    let less = without_fewer a.free.items c.args.descriptor own in
    let len = ap length c.take_out.ensures.items in let p = c.take_out.new.numbers.ok.0 in let q = a.free.ok.0 in let fits = c.self.invariant.fits in let room = c.take_out.ensures.room in
    record {
      fits = omega (arith, less, len, p, q, fits, none, room);
      few = (let few = c.self.invariant.few in omega (arith, few, room));
      same_room = c.self.invariant.same_room ∙ sym room;
    }
