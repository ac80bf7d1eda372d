use Rattle.std.proofs.Common.{◌≡◌, ℕ, ◌+◌, ◌<◌, vec_len, vec_items, get_or}
use Rattle.std.specs.Vec.Iter.{into_iter_items, into_iter_len}
use Rattle.closed_words.specs.version_words.specs.TableState.{IsOf}
use Rattle.settled_tables.specs.Keeper.{IsIdleKeeper}
use Rattle.settled_tables.specs.Seats.{AreReports}
use Rattle.settled_tables.proofs.workers.join_workers.Given as goal

abbrev pub invariant-loop-one : goal.invariant-loop-one
invariant-loop-one g l =
    let past = vec_len l.reports in let rest = l.one-iterator in
    IsOf l.table l.keeper
    × IsIdleKeeper (g.S.Structure.meaning l.table.structure) (vec_len l.fn.workers) past l.keeper
    × (past + into_iter_len rest ≡ vec_len l.fn.workers)
    × ((k : ℕ) (d : _) → k < into_iter_len rest → get_or (into_iter_items rest) k d ≡ get_or (vec_items l.fn.workers) (past + k) d)
    × AreReports (vec_items l.fn.workers) (vec_items l.reports)
