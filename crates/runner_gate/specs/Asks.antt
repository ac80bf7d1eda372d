-- The asks of a gate: whose they are, and how many; and its halts.
use Rattle.std.specs.Prelude.{◌≡◌, ℕ, Option, Some}
use Rattle.body_terms.specs.Counted.{counted_on}
use Rattle.runner_gate.specs.declared.counts.GatePlan.{GatePlan}

-- so many asks of the gate that was made for this runner with this plan. A gate that wasn't given out for a runner has
-- no plan here
pub record Asks : Type 0 where
  pub plan : Option GatePlan
  pub count : ℕ

-- those of a gate before its first ask
abbrev pub unasked_by : Option GatePlan → Asks
unasked_by plan = record { plan = plan; count = 0 }

-- and of one that was given out for this runner with this plan
abbrev pub unasked_of : ℕ → Option ℕ → Asks
unasked_of runner halt = unasked_by (Some (record { runner = runner; halt = halt }))

-- those of the same gate after so many more. The count stands still at the last number of 64 bits
abbrev pub asked_on : Asks → ℕ → Asks
asked_on asks more = record { plan = asks.plan; count = counted_on asks.count more }

-- a gate that had halted so often halted once more, and no more than once. The count stands still at the last number of
-- 64 bits
abbrev pub HaltedOnce : ℕ → ℕ → Type 0
HaltedOnce halts halts' = halts' ≡ counted_on halts 1
