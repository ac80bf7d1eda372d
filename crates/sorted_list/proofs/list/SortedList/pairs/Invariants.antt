use Rattle.list_walks.specs.structure_laws.specs.map_history.specs.Replay.{Pairs}
use Rattle.list_walks.specs.list_laws.specs.Nodes.{list}
use Rattle.lock_walks.specs.try_lock.specs.Contents.{StandFor}
use Rattle.sorted_list.specs.Stands.{Gathers}
use Rattle.sorted_list.proofs.list.SortedList.pairs.Given as goal

abbrev pub invariant-loop-passed : goal.invariant-loop-passed
invariant-loop-passed l = record {
  gathers : (pairs : Pairs) (stand : StandFor list l.words pairs) → Gathers l.words pairs stand l._passed l.slot l.items.items;
}
