-- What gates count while a run gives them out and takes them back.
use Rattle.std.specs.Prelude.{◌≡◌, ℕ, zero, suc, ◌+◌, List, [], ◌∷◌, Option, take}
use Rattle.settled_tables.specs.settling.specs.runner_gate.specs.Counts.{halts_after, plans_after, plus}
use Rattle.settled_tables.specs.settling.specs.runner_gate.specs.declared.counts.GatePlan.{GatePlan}
use Rattle.free_serving.specs.serving.specs.declared.answers.Served.{Served}
use Rattle.free_serving.specs.serving.specs.declared.answers.Served.TheVariants as answers

-- how often the gate of a worker with this answer halted, as far as it counts: 1 where it did, else 0
abbrev pub halted : Served → ℕ
halted answers.Halted = 1
halted _ = 0

-- the count of halts once the gates of workers with these answers came back, one after the other
abbrev pub halts_counted : ℕ → List Served → ℕ
halts_counted halts [] = halts
halts_counted halts (answer ∷ answers) = halts_counted (halts_after halts (halted answer)) answers

-- the count of the gates that came back, once so many more did, one after the other
abbrev pub returns_counted : ℕ → ℕ → ℕ
returns_counted returned zero = returned
returns_counted returned (suc workers) = plus (returns_counted returned workers) 1

-- the gates of the workers from this number on, in order of number, each with its entry of these plans
abbrev pub plans_from : ℕ → List (Option ℕ) → List GatePlan
plans_from worker [] = []
plans_from worker (halt ∷ halts) = record { runner = worker; halt = halt } ∷ plans_from (worker + 1) halts

-- the count of plans once gates with these plans were given, one after the other
abbrev pub plans_given : ℕ → List (Option ℕ) → ℕ
plans_given plans [] = plans
plans_given plans (halt ∷ halts) = plans_given (plans_after plans halt) halts

-- gates were given for the first workers, so many of them, one after the other, each with its entry of these plans, and
-- no others
abbrev pub GivesFront : (plans plans' : ℕ) (planned planned' : List GatePlan) → List (Option ℕ) → Type 0
GivesFront plans plans' planned planned' halts = (count : ℕ) × (plans' ≡ plans_given plans (take count halts))
    × (planned ≡ [] → planned' ≡ take count (plans_from 0 halts))
