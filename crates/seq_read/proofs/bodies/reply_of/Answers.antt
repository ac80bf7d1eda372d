use Rattle.std.proofs.Common.{◌∙◌, sym, ap}
use Rattle.machine_states.specs.runner_steps.specs.Sections.{reply_in}
use Rattle.seq_read.specs.View.{steps_in}
use Rattle.seq_read.proofs.Glancing.{glance_reply}
use Rattle.seq_read.proofs.bodies.reply_of.Goals as goal

pub returns-in-Glanced : goal.returns-in-Glanced
returns-in-Glanced c = sym (ap (λ b. reply_in (steps_in b)) c.in-Glanced.is ∙ glance_reply c.in-Glanced.glance)
