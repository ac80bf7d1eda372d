use Rattle.std.proofs.Common.{vec_len}
use Rattle.settled_tables.proofs.Keeping.{may_settle}
use Rattle.settled_tables.proofs.closing.close_table.Goals as goal

pub settle_and_close-requires-clause-next : goal.settle_and_close-requires-clause-next
settle_and_close-requires-clause-next g c κs within =
    may_settle (g.S.Structure.meaning c.args.table.structure) c.args.table c.in_ok-keeper.keeper (vec_len c.args.workers) c.in_ok-keeper.ensures.own c.in_ok-keeper.ensures.keeper c.requires.each
