-- The pairs of the nodes as they are gathered, along the links.
use Rattle.std.specs.Prelude.{◌≡◌, ◌≢◌, ℕ, ◌≤◌, List, true}
use Rattle.list_walks.specs.structure_laws.specs.map_history.specs.Replay.{Pairs}
use Rattle.list_walks.specs.structure_laws.specs.Ranks.{lower}
use Rattle.list_walks.specs.structure_laws.specs.Scene.{Cells}
pub use Rattle.list_walks.specs.list_laws.specs.shared_laws.specs.Gathered.{HasPairs}
use Rattle.list_walks.specs.list_laws.specs.Line.{rank}
use Rattle.list_walks.specs.list_laws.specs.Nodes.{nodes, ListStands}

-- so many nodes were passed, each of which ranks below the one that is next; what was gathered has the pairs with keys
-- below the next one's
pub record IsGathering (slots : ℕ) (cells : Cells) (pairs : Pairs) (stands : ListStands slots cells pairs) (passed : ℕ)
    (slot : ℕ) (items : List (ℕ × ℕ)) : Type 0 where
  pub linked : stands.linked slot ≡ true
  pub behind_head : slot ≢ 0
  pub has : HasPairs pairs ((nodes cells).key slot) items
  pub few : passed ≤ lower stands.linked (rank (nodes cells)) slots slot
