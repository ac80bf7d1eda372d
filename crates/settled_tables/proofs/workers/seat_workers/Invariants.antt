use Rattle.std.proofs.Common.{◌≡◌, vec_len, vec_items}
use Rattle.closed_words.specs.version_words.specs.TableState.{IsOf}
use Rattle.settled_tables.specs.Keeper.{IsIdleKeeper}
use Rattle.settled_tables.specs.Seats.{AreNewWorkers}
use Rattle.settled_tables.proofs.workers.seat_workers.Given as goal

abbrev pub invariant-loop-number : goal.invariant-loop-number
invariant-loop-number g l =
    IsOf l.table l.keeper
    × IsIdleKeeper (g.S.Structure.meaning l.table.structure) l.number 0 l.keeper
    × (vec_len l.workers ≡ l.number)
    × AreNewWorkers l.table (vec_items l.workers)
