-- The walk of a key, and what a key has in the words of a closed table, for a structure of keys' cells.
use Rattle.std.specs.Prelude.{◌≡◌, ℕ, ◌+◌, List, [], ◌∷◌, ◌++◌, nat_lt, cond, Option, slice_index}
use Rattle.std.specs.FinMap.{get}
use Rattle.runner_parts.specs.structure_laws.specs.map_history.specs.declared.op.Op.{Op}
use Rattle.runner_parts.specs.structure_laws.specs.map_history.specs.Keys.{key_of}
use Rattle.runner_parts.specs.structure_laws.specs.map_history.specs.Words.{word_of as reply_word}
use Rattle.runner_parts.specs.structure_laws.specs.map_history.specs.Replay.{Pairs}
use Rattle.runner_parts.specs.block_words.specs.table_words.specs.declared.layout.Layout.{Layout}
use Rattle.runner_parts.specs.block_words.specs.table_words.specs.declared.spot.Spot.TheVariants.{Cell}
use Rattle.runner_parts.specs.structure_laws.specs.Meaning.{Meaning}
use Rattle.runner_parts.specs.structure_laws.specs.Scene.{Cells}
use Rattle.runner_parts.specs.structure_laws.specs.map_history.specs.AtKey.{reply_at, left_at, changes_at}
use Rattle.key_cells.specs.Keyed.{Keyed, lock_place, cell_place, serves_key, held_in}
use Rattle.key_cells.specs.Steps.{part}
use Rattle.lock_walks.specs.version_words.specs.TableState.{WordsState, word_of}
use Rattle.fixed_walks.specs.Fixed.{Course}

-- n cells in order, at most three
abbrev pub cells_of : ℕ → (ℕ → ℕ) → List ℕ
cells_of n cell = (part n 0 (cell 0 ∷ []) ++ part n 1 (cell 1 ∷ [])) ++ part n 2 (cell 2 ∷ [])

module _ (c : Keyed) where
  -- what a key had, by the words that were found
  abbrev pub had_by : List ℕ → Option ℕ
  had_by words = c.held (slice_index words)

  abbrev pub key_operands : Op → List ℕ → List ℕ
  key_operands op words =
      let value = c.value (left_at (had_by words) op) in
      slice_index words 0 ∷ slice_index words 1 ∷ slice_index words 2 ∷ value 0 ∷ value 1 ∷ value 2 ∷
      reply_word (reply_at (had_by words) op) ∷ key_of op ∷ []

  abbrev pub key_course : Course
  key_course = record {
    serves = serves_key c;
    cells = λ op. cells_of c.count (cell_place c (key_of op));
    lock = λ op. lock_place c (key_of op);
    form = λ op words. cond (changes_at (had_by words) op) 2 1;
    operands = key_operands;
  }

  -- what the contents need of a structure's meaning: the cells, and for which map they stand
  pub record Means (m : Meaning) : Type 0 where
    pub fixed : m.fixed_cells ≡ c.base + c.fixed
    pub stands : (layout : Layout) (cells : Cells) (pairs : Pairs) → m.stands layout cells pairs
        → (key : ℕ) → get pairs key ≡ held_in c cells key

  -- what a key has in these words
  abbrev pub word_at : {T : Type 0} → Meaning → WordsState T → ℕ → ℕ → ℕ
  word_at m words key i = cond (nat_lt i c.count) (word_of m words (Cell (cell_place c key i))) 0

  abbrev pub held_by : {T : Type 0} → Meaning → WordsState T → ℕ → Option ℕ
  held_by m words key =
      let word = word_at m words key in
      c.held (slice_index (word 0 ∷ word 1 ∷ word 2 ∷ []))
