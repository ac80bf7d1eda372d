use Rattle.std.proofs.Common.{◌≡◌, ◌-◌}
use Rattle.runner_steps.specs.body_terms.specs.Line.{line}
use Rattle.runner_steps.specs.body_terms.specs.Run.{settled}
use Rattle.runner_steps.specs.Sections.{setting_of}
use Rattle.runner_asks.proofs.section.settled.Given as goal

abbrev pub invariant-loop-at : goal.invariant-loop-at
invariant-loop-at l = settled (setting_of l.layout l.descriptor) l.trail (line l.body) l.at ≡ settled (setting_of l.layout l.descriptor) l.trail (line l.body) l.from

abbrev pub decreases-loop-at : goal.decreases-loop-at
decreases-loop-at l = 440 - l.at
