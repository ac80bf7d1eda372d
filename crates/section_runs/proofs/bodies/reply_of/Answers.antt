use Rattle.idem_cell.specs.machine_states.specs.runner_steps.specs.Sections.{reply_in}
use Rattle.section_runs.proofs.Replies.{reply_there, reply_found}
use Rattle.section_runs.proofs.bodies.reply_of.Goals as goal

pub unreachable-requires : goal.unreachable-requires
unreachable-requires c = c.in_default.not-Answer (reply_in c.args.body.now) (reply_there c.args.body.now c.requires _)

pub returns : goal.returns
returns c = reply_found c.args.body.now c.requires _ c.in-Answer.reply c.in-Answer.is
