-- A sink in memory.
use Rattle.std.specs.Prelude.{ℕ, ◌+◌, ◌-◌, ◌^◌, ◌==◌, Bool, List, min}
use Rattle.std.specs.List.{list_any}

-- what it holds, which of its calls are to fail and which are to take nothing, how many it has had, and its faults
pub record Memory : Type 0 where
  pub bytes : List ℕ
  pub fails : List ℕ
  pub empty : List ℕ
  pub calls : ℕ
  pub faults : ℕ

-- the number of the next call; the first is 1, and the last number stays
abbrev pub next_call : Memory → ℕ
next_call memory = min (memory.calls + 1) (2 ^ 64 - 1)

-- whether a call is in a list of calls
abbrev pub is_planned : List ℕ → ℕ → Bool
is_planned calls call = list_any (λ planned. planned == call) calls
