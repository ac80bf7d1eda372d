use Rattle.std.proofs.Common.{◌≡◌, ℕ, ◌+◌, ◌<◌, vec_len, vec_items, get_or, take}
use Rattle.std.specs.Vec.Iter.{into_iter_items, into_iter_len}
use Rattle.version_words.specs.TableState.{IsOf}
use Rattle.settled_tables.specs.Keeper.{IsIdleKeeper}
use Rattle.threaded_runs.specs.Counts.{halts_counted, returns_counted}
use Rattle.threaded_runs.specs.Jobs.{AllKept, asks_counted}
use Rattle.threaded_runs.proofs.seating.gather.Given as goal

abbrev pub invariant-loop-one : goal.invariant-loop-one
invariant-loop-one g l =
    let past = vec_len l.answers in let rest = l.one-iterator in
    IsOf l.table l.keeper
    × IsIdleKeeper (g.S.Structure.meaning l.table.structure) (vec_len l.fn.finished) past l.keeper
    × (past + into_iter_len rest ≡ vec_len l.fn.finished)
    × ((k : ℕ) (d : _) → k < into_iter_len rest → get_or (into_iter_items rest) k d ≡ get_or (vec_items l.fn.finished) (past + k) d)
    × AllKept l.keeper (vec_items l.answers) (vec_items l.fn.finished)
    × (g.G.Gates.halts l.gates ≡ halts_counted (g.G.Gates.halts l.initial.gates) (vec_items l.answers))
    × (g.G.Gates.plans l.gates ≡ g.G.Gates.plans l.initial.gates)
    × (g.G.Gates.planned l.gates ≡ g.G.Gates.planned l.initial.gates)
    × (g.G.Gates.asks l.gates ≡ asks_counted g.G.Gate.Gate.asks (g.G.Gates.asks l.initial.gates) (take past (vec_items l.fn.finished)))
    × (g.G.Gates.returned l.gates ≡ returns_counted (g.G.Gates.returned l.initial.gates) past)
