use Rattle.tree_walks.specs.structure_laws.specs.map_history.specs.Replay.{Pairs}
use Rattle.tree_walks.specs.tree_laws.specs.Leaves.{tree}
use Rattle.lock_walks.specs.try_lock.specs.Contents.{StandFor}
use Rattle.leaf_tree.specs.Stands.{Gathers}
use Rattle.leaf_tree.proofs.tree.LeafTree.pairs.Given as goal

abbrev pub invariant-loop-made : goal.invariant-loop-made
invariant-loop-made l = record {
  gathers : (pairs : Pairs) (stand : StandFor tree l.words pairs) → Gathers l.words pairs stand l._made l.waiting.items l.items.items;
}
