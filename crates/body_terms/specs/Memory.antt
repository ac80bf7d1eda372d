-- What contracts see of a plain run's memory.
use Rattle.std.specs.Prelude.{ℕ, ◌+◌, ◌*◌, List}

-- the lists and numbers of a memory; `room` is for how many retired slots there is space
pub record PlainMemory : Type 0 where
  pub cells : List ℕ
  pub free : List ℕ
  pub retired : List ℕ
  pub room : ℕ
  pub clock : ℕ
  pub stamps : List ℕ
  pub replies : List ℕ
  pub version_max : ℕ
  pub fixed_cells : ℕ

-- the place of cell `cell` of a node slot, behind the fixed cells
abbrev pub cell_of : ℕ → ℕ → ℕ → ℕ
cell_of fixed_cells slot cell = fixed_cells + 5 * slot + cell
