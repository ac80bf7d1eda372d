-- Of the blocks that an attempt makes sure of, its own run may link some, and one that it helps some more.
use Rattle.std.proofs.Common.{ℕ, ◌+◌, ◌≤◌, arith}
use Rattle.machine_states.specs.table_words.specs.Places.{attempt_blocks}
use Rattle.try_lock.specs.Reached.{run_blocks}

-- the one place where it matters how many these are: none of none, or eight each of sixteen
pub two_runs : run_blocks + run_blocks ≤ attempt_blocks
two_runs = omega arith

-- so there are enough for one run
pub for_one : (free : ℕ) → attempt_blocks ≤ free → run_blocks ≤ free
for_one free enough = let two = two_runs in omega (arith, two, enough)

-- and behind one for another
pub for_other : (free left won most : ℕ) → attempt_blocks ≤ free → free ≤ left + won → won ≤ most → most ≤ run_blocks → run_blocks ≤ left
for_other free left won most enough rest few some = let two = two_runs in omega (arith, two, enough, rest, few, some)
