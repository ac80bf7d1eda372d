use Rattle.std.proofs.Common.{ap, ◌∙◌}
use Rattle.machine_states.specs.runner_steps.specs.InRun.{make_slot}
use Rattle.version_words.proofs.runner.Runner.next_block.Goals as goal

pub returns : goal.returns
returns g c = λ q there.
    let is = c.self.invariant.blocks.links.of_run q (ap (λ r. r.part.run) c.self.view_is ∙ there) in
    c.next_block.ensures ∙ (ap (λ b. make_slot b.lists.blocks.links.block b.lists.blocks.lists.free) c.deref.ensures
    ∙ ((λ i. make_slot (is.block i) (c.self.invariant.blocks.lists i).free) ∙ ap (λ r. make_slot q.block r.part.blocks.free) c.self.view_is))
