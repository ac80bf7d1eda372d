-- Bytes in memory, and how they are handed out.
use Rattle.std.specs.Prelude.{ℕ, ◌+◌, ◌-◌, ◌^◌, ◌==◌, Bool, List, length, max, min, slice_index_or}
use Rattle.std.specs.List.{list_any}

-- the bytes that are left, and the sizes of the next pieces; behind these pieces the rest comes as the buffer allows
pub record Supply : Type 0 where
  pub left : List ℕ
  pub sizes : List ℕ

-- a source of these with planned failures: which of its calls are to fail, how many it has had, and its faults
pub record Memory : Type 0 where
  pub left : List ℕ
  pub sizes : List ℕ
  pub fails : List ℕ
  pub calls : ℕ
  pub faults : ℕ

-- how many bytes come next into a buffer of so many: as many as the next piece has, of which each has one at least, as
-- are left, and as the buffer takes
abbrev pub next_count : (left sizes : List ℕ) → ℕ → ℕ
next_count left sizes room = min (min (max (slice_index_or sizes 0 (length left)) 1) (length left)) room

-- the number of the next call; the first is 1, and the last number stays
abbrev pub next_call : Memory → ℕ
next_call memory = min (memory.calls + 1) (2 ^ 64 - 1)

-- whether a call is in a list of calls
abbrev pub is_planned : List ℕ → ℕ → Bool
is_planned calls call = list_any (λ planned. planned == call) calls
