use Rattle.std.proofs.Common.{◌≡◌, subst, sym}
use Rattle.closed_words.specs.version_words.specs.TableState.{first_keeper}
use Rattle.settled_tables.proofs.Keeping.{first_is_idle}
use Rattle.settled_tables.proofs.workers.open_table.Goals as goal

pub seat_workers-requires-clause-keeper : goal.seat_workers-requires-clause-keeper
seat_workers-requires-clause-keeper g c κs within =
    let t = c.in_ok-table.table in
    first_is_idle (g.S.Structure.meaning t.structure) t c.in_ok-table.keeper
    (subst (λ s. c.in_ok-table.keeper ≡ first_keeper (g.S.Structure.meaning s) t) (sym c.in_ok-table.ensures.table.structure) c.in_ok-table.ensures.keeper)
