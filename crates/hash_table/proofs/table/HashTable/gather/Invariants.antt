use Rattle.machine_states.specs.map_history.specs.Replay.{Pairs}
use Rattle.bucket_walks.specs.bucket_laws.specs.Buckets.{buckets_meaning}
use Rattle.lock_walks.specs.try_lock.specs.Contents.{StandFor}
use Rattle.hash_table.specs.Stands.{Gathers}
use Rattle.hash_table.proofs.table.HashTable.gather.Given as goal

abbrev pub invariant-loop-made : goal.invariant-loop-made
invariant-loop-made g l = record {
  gathers : (pairs : Pairs) (stand : StandFor (buckets_meaning l.self.bits) l.words pairs) → Gathers l.self.bits l.words pairs stand l.bucket l.link l._made l.items.items;
}
