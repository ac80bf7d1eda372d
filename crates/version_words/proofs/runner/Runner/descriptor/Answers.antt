use Rattle.std.proofs.Common.{ap, ◌∙◌}
use Rattle.version_words.proofs.runner.Runner.descriptor.Goals as goal

pub returns : goal.returns
returns g c = λ q there. ap (λ b. b.place.descriptor) c.deref.ensures ∙ (c.self.invariant.place.run q (ap (λ r. r.part.run) c.self.view_is ∙ there)).descriptor
