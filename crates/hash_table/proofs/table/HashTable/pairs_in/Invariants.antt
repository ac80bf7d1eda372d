use Rattle.machine_states.specs.map_history.specs.Replay.{Pairs}
use Rattle.bucket_walks.specs.bucket_laws.specs.Buckets.{buckets_meaning}
use Rattle.lock_walks.specs.try_lock.specs.Contents.{StandFor}
use Rattle.hash_table.specs.Stands.{HasGathered}
use Rattle.hash_table.proofs.table.HashTable.pairs_in.Given as goal

abbrev pub invariant-loop-bucket : goal.invariant-loop-bucket
invariant-loop-bucket g l = record {
  gathered : (pairs : Pairs) (stand : StandFor (buckets_meaning l.self.bits) l.words pairs) → HasGathered l.self.bits l.words pairs stand l.bucket l.items.items;
}
