-- The cells of a closed table.
use Rattle.std.specs.Prelude.{◌≡◌, ℕ, ◌+◌, ◌*◌, ◌<◌, true}
use Rattle.machine_states.specs.body_terms.specs.Word.{value_of}
use Rattle.machine_states.specs.table_words.specs.declared.layout.Layout.{Layout}
use Rattle.machine_states.specs.table_words.specs.Places.{slot_count}
use Rattle.machine_states.specs.table_words.specs.declared.spot.Spot.TheVariants.{Cell}
use Rattle.machine_states.specs.structure_laws.specs.Meaning.{Meaning}
use Rattle.settled_tables.specs.closed_words.specs.version_words.specs.TableState.{WordsState, word_of}

-- how many there are
abbrev pub cells_in : Meaning → Layout → ℕ
cells_in m layout = m.fixed_cells + 5 * slot_count layout m.fixed_slots

module _ {T : Type 0} (m : Meaning) (words : WordsState T) where
  abbrev pub cells_of : ℕ
  cells_of = cells_in m words.layout

  -- no lock below this place names a descriptor
  abbrev pub AreFreeBelow : ℕ → Type 0
  AreFreeBelow place = (p : ℕ) → p < place → m.is_lock p ≡ true → value_of (word_of m words (Cell p)) ≡ 0
