-- What was gathered of the words of a closed table.
use Rattle.std.specs.Prelude.{ℕ, List}
use Rattle.list_walks.specs.structure_laws.specs.map_history.specs.Replay.{Pairs}
use Rattle.list_walks.specs.structure_laws.specs.table_words.specs.Places.{slot_count}
use Rattle.list_walks.specs.list_laws.specs.Nodes.{list}
use Rattle.lock_walks.specs.version_words.specs.TableState.{WordsState}
use Rattle.lock_walks.specs.try_lock.specs.Contents.{StandFor}
use Rattle.sorted_list.specs.Gathered.{IsGathering}

module _ {T : Type 0} (words : WordsState T) (pairs : Pairs) (stand : StandFor list words pairs) where
  -- so many nodes were passed, and this one is next
  abbrev pub Gathers : ℕ → ℕ → List (ℕ × ℕ) → Type 0
  Gathers passed slot items =
      IsGathering (slot_count words.layout 2) stand.cells pairs stand.stands passed slot items
