-- A gate that halts at an ask with a given number.
use Rattle.std.specs.Prelude.{ℕ, Bool, false, Option, None, Some, cond, nat_le}
use Rattle.runner_gate.specs.Asks.{Asks}
use Rattle.runner_gate.specs.Counts.{plus}
use Rattle.runner_gate.specs.declared.counts.GatePlan.{GatePlan}

-- the number of the ask from which on the gate halts, if any; for which runner it was given out with which plan, if it
-- was; how often it was asked, and how often it halted
pub record Planned : Type 0 where
  pub at : Option ℕ
  pub plan : Option GatePlan
  pub asks : ℕ
  pub halts : ℕ

-- its asks
abbrev pub asks_of : Planned → Asks
asks_of gate = record { plan = gate.plan; count = gate.asks }

-- a gate that halts there before its first ask
abbrev pub unasked : Option ℕ → Planned
unasked at = record { at = at; plan = None; asks = 0; halts = 0 }

-- the gate of a runner with its plan before its first ask
abbrev pub given_out : ℕ → Option ℕ → Planned
given_out runner halt =
    record { at = halt; plan = Some (record { runner = runner; halt = halt }); asks = 0; halts = 0 }

-- whether the ask with this number is one at which the gate halts
abbrev pub has_come : Option ℕ → ℕ → Bool
has_come None ask = false
has_come (Some at) ask = nat_le at ask

-- whether the gate halts when it is asked once more
abbrev pub halts_next : Planned → Bool
halts_next gate = has_come gate.at (plus gate.asks 1)

-- the gate after that
abbrev pub asked : Planned → Planned
asked gate = record {
  at = gate.at;
  plan = gate.plan;
  asks = plus gate.asks 1;
  halts = cond (halts_next gate) (plus gate.halts 1) gate.halts;
}
