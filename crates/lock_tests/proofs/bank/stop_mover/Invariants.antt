use Rattle.std.proofs.Common.{◌≡◌, ℕ, ◌+◌, ◌<◌, length, vec_len, vec_items, get_or}
use Rattle.std.specs.Vec.Iter.{into_iter_items, into_iter_len}
use Rattle.settled_tables.specs.Seats.{CameBack}
use Rattle.lock_tests.proofs.bank.stop_mover.Given as goal

abbrev pub invariant-loop-runner : goal.invariant-loop-runner
invariant-loop-runner l =
    let past = vec_len l.backs in let rest = l.runner-iterator in
    (past + into_iter_len rest ≡ vec_len l.fn.runners)
    × ((k : ℕ) (d : _) → k < into_iter_len rest → get_or (into_iter_items rest) k d ≡ get_or (vec_items l.fn.runners) (past + k) d)
    × ((i : ℕ) (e : _) → i < length (vec_items l.backs) → (d : _) → CameBack l.table (get_or (vec_items l.fn.runners) i d) (get_or (vec_items l.backs) i e))
