-- What a closed table's words stand for.
use Rattle.std.specs.Prelude.{◌≡◌, ℕ, true}
use Rattle.machine_states.specs.map_history.specs.Replay.{Pairs}
use Rattle.machine_states.specs.body_terms.specs.Word.{is_free}
use Rattle.machine_states.specs.table_words.specs.declared.spot.Spot.TheVariants.{Cell}
use Rattle.machine_states.specs.structure_laws.specs.Scene.{Cells}
use Rattle.machine_states.specs.structure_laws.specs.Meaning.{Meaning}
use Rattle.section_runs.specs.commit_log.specs.version_words.specs.TableState.{WordsState, HasWord, word_of}

module _ {T : Type 0} (m : Meaning) where
  -- the cells are well formed, and their contents are the map; of places beyond the table nothing is said
  pub record StandFor (words : WordsState T) (pairs : Pairs) : Type 0 where
    pub cells : Cells
    pub same : (place : ℕ) → HasWord m words (Cell place) → cells place ≡ word_of m words (Cell place)
    pub stands : m.stands words.layout cells pairs

  -- no lock names a descriptor
  abbrev pub NamesNone : WordsState T → Type 0
  NamesNone words = (place : ℕ) → m.is_lock place ≡ true → HasWord m words (Cell place)
      → is_free (word_of m words (Cell place)) ≡ true
