use Rattle.seq_read.proofs.Events.{may_plan}
use Rattle.seq_read.proofs.Courses.{loaded_here}
use Rattle.seq_read.proofs.confirming.announce.Goals as goal

pub read_plan-runner-requires-clause-next : goal.read_plan-runner-requires-clause-next
read_plan-runner-requires-clause-next g c κs within =
    let e = c.requires.found in
    let m = g.S.Structure.meaning c.args.table.now.structure in
    may_plan m _ _ c.args.runner c.args.thunk.now (loaded_here m e.0 e.1 e.3 c.args.thunk.now e.2 c.args.runner e.4.loads) e.4.loads.plans.answers.operands
