-- What becomes of a descriptor or a block at the end of a run, when a runner becomes sure, and in a sweep.
use Rattle.std.specs.Prelude.{ℕ, suc, Bool, not, ◌==◌, ◌&&◌, cond, List}
use Rattle.guard_core.specs.State.{Location, Free, Live, Limbo}
use Rattle.guard_core.specs.Update.{has}

-- at the end of this runner's run of a descriptor: what the runner had given out is retired under it
abbrev pub retired : ℕ → ℕ → Location → Location
retired r d (Live q) = cond (q == r) (Limbo r d) (Live q)
retired r d (Free q) = Free q
retired r d (Limbo q e) = Limbo q e

-- what lies in this runner's limbo under a descriptor that passes the test is free
abbrev pub freed : ℕ → (ℕ → Bool) → Location → Location
freed r test (Limbo q d) = cond (q == r && test d) (Free r) (Limbo q d)
freed r test (Free q) = Free q
freed r test (Live q) = Live q

-- when this runner becomes sure of a descriptor: what lies under it is free
abbrev pub given_back : ℕ → ℕ → Location → Location
given_back r d x = freed r (λ e. e == d) x

-- at the end of this runner's sweep: what lies under a descriptor that none of the words which it read names is free
abbrev pub is_unnamed : List ℕ → ℕ → Bool
is_unnamed words d = not (has words (suc d))

abbrev pub swept : ℕ → List ℕ → Location → Location
swept r words x = freed r (is_unnamed words) x
