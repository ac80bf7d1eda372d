use Rattle.std.proofs.Common.{◌≡◌, drop}
use Rattle.runner_steps.specs.Sections.{reply_in}
use Rattle.runner_asks.proofs.section.reply_in.Given as goal

abbrev pub invariant-loop-step : goal.invariant-loop-step
invariant-loop-step l = reply_in (drop l.step-index l.body) ≡ reply_in l.body
