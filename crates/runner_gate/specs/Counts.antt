-- What is counted of gates. A count stands still at the last number of 64 bits.
use Rattle.runner_gate.specs.declared.counts.GatePlan.{GatePlan}
use Rattle.std.specs.Prelude.{ℕ, zero, suc, ◌+◌, ◌-◌, ◌^◌, min, List, [], ◌∷◌, ◌++◌, take, Option, None, Some}

-- a count after so many more
abbrev pub plus : ℕ → ℕ → ℕ
plus count more = min (count + more) (2 ^ 64 - 1)

-- the count of halts once a gate with so many halts came back: one more where it halted at all
abbrev pub halts_after : ℕ → ℕ → ℕ
halts_after halts zero = halts
halts_after halts (suc of_gate) = plus halts 1

-- the count of plans once a gate with this plan was given: one more where it is to halt at an ask
abbrev pub plans_after : ℕ → Option ℕ → ℕ
plans_after plans None = plans
plans_after plans (Some ask) = plus plans 1

-- the list of the first 16 gates, by their runners and plans, once a gate was given for this runner with this plan
abbrev pub planned_after : List GatePlan → ℕ → Option ℕ → List GatePlan
planned_after planned runner halt = take 16 (planned ++ record { runner = runner; halt = halt } ∷ [])

-- what was counted of all gates: those that came back, the halted ones among them, the asks of those that came back,
-- those that were given with a plan, and the first 16 that were given
pub record Counted : Type 0 where
  pub returned : ℕ
  pub halts : ℕ
  pub asks : ℕ
  pub plans : ℕ
  pub planned : List GatePlan

-- nothing yet
abbrev pub none_counted : Counted
none_counted = record { returned = 0; halts = 0; asks = 0; plans = 0; planned = [] }

-- once a gate was given for this runner with this plan
abbrev pub given : ℕ → Option ℕ → Counted → Counted
given runner halt counted =
    record counted { plans = plans_after counted.plans halt; planned = planned_after counted.planned runner halt }

-- once a gate with so many halts and asks came back
abbrev pub taken_back : (halts asks : ℕ) → Counted → Counted
taken_back halts asks counted =
    record counted {
      returned = plus counted.returned 1;
      halts = halts_after counted.halts halts;
      asks = plus counted.asks asks;
    }
