-- Places, links and slots in a scene.
use Rattle.std.specs.Prelude.{ℕ, suc, ◌+◌, ◌*◌, ◌<◌, ◌≤◌, ◌≡◌, ◌⊎◌, true, nat_lt, cond, Some}
use Rattle.body_terms.specs.Word.{value_of, version_of, pack}
use Rattle.body_terms.specs.Memory as memory
use Rattle.body_terms.specs.block_words.specs.table_words.specs.declared.layout.Layout.{Layout}
use Rattle.body_terms.specs.block_words.specs.table_words.specs.Places.{slot_count}
use Rattle.structure_laws.specs.Scene.{Readings, Section, Live, Retired, Scene}
use Rattle.structure_laws.specs.Meaning.{Meaning}
use Rattle.structure_laws.specs.Sections.{Here}

-- the word stands in the cell, or stood there at an earlier version
abbrev pub IsSeen : ℕ → ℕ → Type 0
IsSeen word cell = (version_of word < version_of cell) ⊎ (word ≡ cell)

-- the slot is live, or was retired in this epoch or the one before: it is safe for a runner that was
-- entered when it was retired and hasn't left
abbrev pub IsSafe : Scene → ℕ → Type 0
IsSafe s t = (s.status t ≡ Live) ⊎ ((y : ℕ) × (s.status t ≡ Retired y) × (s.epoch ≤ y + 1))

-- these are the readings of an entered runner, or those of an open section
abbrev pub IsReader : Scene → Readings → Type 0
IsReader s readings =
    ((r : ℕ) × (s.reader r ≡ Some readings)) ⊎ ((d : ℕ) × (x : Section) × Here s d x × (readings ≡ x.readings))

module _ (m : Meaning) where
  -- the place of a node slot's cell
  abbrev pub cell_of : ℕ → ℕ → ℕ
  cell_of slot i = memory.cell_of m.fixed_cells slot i

  -- this place is one of the slot's cells
  abbrev pub IsCellOf : ℕ → ℕ → Type 0
  IsCellOf slot p = (i : ℕ) × (i < 5) × (p ≡ cell_of slot i)

  -- a fixed cell, or a cell of a fixed slot
  abbrev pub IsFixed : ℕ → Type 0
  IsFixed p = p < m.fixed_cells + 5 * m.fixed_slots

  -- how many node slots there are
  abbrev pub slots : Layout → ℕ
  slots layout = slot_count layout m.fixed_slots

  -- the first word of a place
  abbrev pub first_word : ℕ → ℕ
  first_word p = pack (cond (nat_lt p (m.fixed_cells + 5 * m.fixed_slots)) (m.first_value p) 0) 1

  -- a fixed cell, or a cell of a live slot
  abbrev pub InUse : Scene → ℕ → Type 0
  InUse s p = (p < m.fixed_cells) ⊎ ((t : ℕ) × IsCellOf t p × (s.status t ≡ Live))

  -- this place is a link, and leads to this slot
  abbrev pub Links : Scene → ℕ → ℕ → Type 0
  Links s p t = (m.is_link s.cells p ≡ true) × (value_of (s.cells p) ≡ suc t)

  -- the readings give this place: a fixed cell, or a cell of a fixed slot or of a slot that they reach
  abbrev pub IsKnown : Readings → ℕ → Type 0
  IsKnown readings p =
      (p < m.fixed_cells) ⊎ ((t : ℕ) × IsCellOf t p × ((t < m.fixed_slots) ⊎ (m.reaches readings t ≡ true)))

  -- a runner with these readings may load this place outside a run
  abbrev pub IsLoadable : Readings → ℕ → Type 0
  IsLoadable readings p = IsKnown readings p ⊎ (m.is_lock p ≡ true)

  -- a fixed cell, a lock, or a cell of a slot that is live or was retired in this epoch or the one before
  abbrev pub IsOutside : Scene → ℕ → Type 0
  IsOutside s p = (p < m.fixed_cells) ⊎ (m.is_lock p ≡ true) ⊎ ((t : ℕ) × IsCellOf t p × IsSafe s t)
