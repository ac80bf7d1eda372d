-- What was gathered of the words of a closed table.
use Rattle.std.specs.Prelude.{ℕ, List, [], ◌∷◌, ◌++◌}
use Rattle.tree_walks.specs.structure_laws.specs.map_history.specs.Replay.{Pairs}
use Rattle.tree_walks.specs.structure_laws.specs.table_words.specs.Places.{slot_count}
use Rattle.tree_walks.specs.tree_laws.specs.Leaves.{tree}
use Rattle.lock_walks.specs.version_words.specs.TableState.{WordsState}
use Rattle.lock_walks.specs.try_lock.specs.Contents.{StandFor}
use Rattle.leaf_tree.specs.Gathered.{IsGathering}

module _ {T : Type 0} (words : WordsState T) (pairs : Pairs) (stand : StandFor tree words pairs) where
  -- so many nodes were visited, and these wait
  abbrev pub Gathers : ℕ → List ℕ → List (ℕ × ℕ) → Type 0
  Gathers made waiting items = IsGathering (slot_count words.layout 3) stand.cells pairs stand.stands made waiting items

  -- this one is the next, behind which these wait
  abbrev pub Waits : ℕ → List ℕ → ℕ → List (ℕ × ℕ) → Type 0
  Waits made waiting slot items = Gathers made (waiting ++ slot ∷ []) items
