-- Of its own blocks the keeper has enough for one run of each worker's section.
use Rattle.std.specs.Prelude.{◌*◌}
use Rattle.std.proofs.Common.{ℕ, suc, ◌+◌, ◌<◌, ◌≤◌, arith}
use Rattle.std.proofs.lemmas.Nat.{column_fits}
use Rattle.machine_states.specs.table_words.specs.declared.layout.Layout.{Layout}
use Rattle.machine_states.specs.table_words.specs.Places.{keeper_blocks}
use Rattle.try_lock.specs.section_runs.specs.Reached.{run_blocks}

-- the one place where it matters how many these are
pub keeper_has : (l : Layout) → run_blocks * l.runners ≤ keeper_blocks l
keeper_has l = omega arith

-- behind so many runs, of fewer sections than there are workers, there are enough for one more
pub for_next : (each runners free runs : ℕ) → each * runners ≤ free + each * runs → runs < runners → each ≤ free
for_next each runners free runs all fewer = let more = column_fits each runs each runners fewer (omega arith) in omega (arith, all, more)

-- and behind that one as many as before, with its own
pub behind_one : (each runners free left won runs : ℕ) → each * runners ≤ free + each * runs → free ≤ left + won → won ≤ each
    → each * runners ≤ left + each * suc runs
behind_one each runners free left won runs all rest few =
    let more = column_fits each runs each (suc runs) (omega arith) (omega arith) in omega (arith, all, rest, few, more)

pub with_more : (all free more runs : ℕ) → all ≤ free + runs → free ≤ more → all ≤ more + runs
with_more all free more runs enough rises = omega (arith, enough, rises)
