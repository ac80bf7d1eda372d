use Rattle.std.proofs.Common.{ap, ◌∙◌}
use Rattle.version_words.proofs.runner.Runner.part_start.Goals as goal

pub returns : goal.returns
returns g c = λ q there. c.part_start.ensures ∙ (ap (λ b. b.lists.blocks.links.start) c.deref.ensures ∙ (c.self.invariant.blocks.links.of_run q (ap (λ r. r.part.run) c.self.view_is ∙ there)).start)
