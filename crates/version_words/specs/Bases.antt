-- Where the groups of a table's words begin.
use Rattle.std.specs.Prelude.{◌≡◌, ℕ, ◌<◌, ◌^◌}
use Rattle.machine_states.specs.table_words.specs.declared.sizes.Sizes.{Sizes}
use Rattle.machine_states.specs.table_words.specs.Places.{entries_at, cells_at, descriptor_at}

-- the entries, the cells and the descriptors of a table of these sizes begin there; each size has 32 bits, so an
-- address fits its type
pub record AreBases (s : Sizes) (entries cells descriptors : ℕ) : Type 0 where
  pub entries_begin : entries ≡ entries_at s
  pub cells_begin : cells ≡ cells_at s
  pub descriptors_begin : descriptors ≡ descriptor_at s 0
  pub few : descriptors < 2 ^ 40
