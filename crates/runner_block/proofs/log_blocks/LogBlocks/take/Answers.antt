use Rattle.std.proofs.Common.{sym, ap, ◌∙◌, length, arith}
use Rattle.machine_states.specs.runner_parts.specs.Tests.{has}
use Rattle.runner_block.specs.Links.{in_hand}
use Rattle.runner_block.proofs.Rooms.{without_fewer}
use Rattle.runner_block.proofs.Freed.{last_there}
use Rattle.runner_block.proofs.log_blocks.LogBlocks.take.Goals as goal

pub invariant_of-self : goal.invariant_of-self
invariant_of-self c =
    let a = c.self.inside in
    let own = ap (λ v. has v.lists.free c.args.block) c.self.view_is ∙ last_there _ c.args.block c.requires.own in
    let none = ap in_hand (ap (λ v. v.links.block) c.self.view_is ∙ c.requires.none) in
    let less = without_fewer a.free.items c.args.block own in
    let len = ap length c.take_out.ensures.items in let p = c.take_out.new.numbers.ok.0 in let q = a.free.ok.0 in let fits = c.self.invariant.fits in let room = c.take_out.ensures.room in
    record {
      fits = omega (arith, less, len, p, q, fits, none, room);
      few = (let few = c.self.invariant.few in omega (arith, few, room));
      limbo_room = c.self.invariant.limbo_room ∙ sym room;
      won_room = c.self.invariant.won_room ∙ sym room;
      unused = λ e. absurd (let no : ⊥ = cc in no);
    }
