use Rattle.std.proofs.Common.{◌≡◌, [], vec_len, vec_items, take}
use Rattle.version_words.specs.TableState.{IsOf}
use Rattle.settled_tables.specs.Keeper.{IsIdleKeeper}
use Rattle.threaded_runs.specs.Counts.{plans_from, plans_given}
use Rattle.threaded_runs.specs.Jobs.{AllSeated, AllUnhalted, AllGiven}
use Rattle.threaded_runs.proofs.seating.make_jobs.Given as goal

abbrev pub invariant-loop-worker : goal.invariant-loop-worker
invariant-loop-worker g l =
    IsOf l.table l.keeper
    × IsIdleKeeper (g.S.Structure.meaning l.table.structure) l.worker 0 l.keeper
    × (vec_len l.jobs ≡ l.worker)
    × AllSeated (g.S.Planner.planning l.table.structure) l.table (vec_items l.jobs)
    × AllUnhalted g.G.Gate.Gate.halts (vec_items l.jobs)
    × (g.G.Gates.halts l.gates ≡ g.G.Gates.halts l.initial.gates)
    × (g.G.Gates.plans l.gates ≡ plans_given (g.G.Gates.plans l.initial.gates) (take l.worker l.halts))
    × (g.G.Gates.planned l.initial.gates ≡ [] → g.G.Gates.planned l.gates ≡ take l.worker (plans_from 0 l.halts))
    × AllGiven g.G.Gate.Gate.asks l.halts (vec_items l.jobs)
    × (g.G.Gates.asks l.gates ≡ g.G.Gates.asks l.initial.gates)
    × (g.G.Gates.returned l.gates ≡ g.G.Gates.returned l.initial.gates)
