use Rattle.seq_read.proofs.Events.{may_load_clock}
use Rattle.seq_read.proofs.Courses.{announced_here}
use Rattle.seq_read.proofs.confirming.load_clock.Goals as goal

pub read_clock-runner-requires-clause-next : goal.read_clock-runner-requires-clause-next
read_clock-runner-requires-clause-next g c κs within =
    let e = c.requires.announced in
    let m = g.S.Structure.meaning c.args.table.now.structure in
    may_load_clock m _ _ c.args.runner c.args.thunk.now (announced_here m e.0 e.1 e.3 c.args.thunk.now e.2 c.args.runner e.4)
