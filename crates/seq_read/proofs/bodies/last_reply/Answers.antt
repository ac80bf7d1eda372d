use Rattle.machine_states.specs.runner_steps.specs.Sections.{reply_in}
use Rattle.caller_facts.specs.section_runs.proofs.Replies.{reply_there, reply_found}
use Rattle.seq_read.proofs.bodies.last_reply.Goals as goal

pub unreachable-requires : goal.unreachable-requires
unreachable-requires c = c.in_default.not-Answer (reply_in c.args.steps.now) (reply_there c.args.steps.now c.requires _)

pub returns : goal.returns
returns c = reply_found c.args.steps.now c.requires _ c.in-Answer.reply c.in-Answer.is
