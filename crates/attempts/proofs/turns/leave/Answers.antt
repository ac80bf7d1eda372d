use Rattle.attempts.proofs.LettingGo.{may_go, gone_leave, gone}
use Rattle.attempts.proofs.turns.leave.Goals as goal

pub guard-runner-requires-clause-next : goal.guard-runner-requires-clause-next
guard-runner-requires-clause-next g c κs within = may_go (g.S.Structure.meaning c.args.table.now.structure) c.args.runner c.requires.next

pub exit-requires-clause-entered : goal.exit-requires-clause-entered
exit-requires-clause-entered g c κs within = gone_leave (g.S.Structure.meaning c.args.table.now.structure) 0 c.args.runner c.guard-runner.result (c.guard-runner.ensures.event 0) c.requires.next

pub returns-clause-gone : goal.returns-clause-gone
returns-clause-gone g c = gone (g.S.Structure.meaning c.args.table.now.structure) 0 c.args.runner c.guard-runner.result (c.guard-runner.ensures.event 0) c.exit.result c.exit.ensures.exits
