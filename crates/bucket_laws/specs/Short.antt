-- Walks of the hash table that read what stands.
use Rattle.std.specs.Prelude.{ℕ, ◌+◌, ◌^◌, ◌≤◌}
use Rattle.structure_laws.specs.map_history.specs.declared.op.Op.{Op}
use Rattle.structure_laws.specs.map_history.specs.Replay.{Pairs}
use Rattle.bucket_bodies.specs.section_body.specs.Bucket.{bucket_index}
use Rattle.structure_laws.specs.table_words.specs.declared.layout.Layout.{Layout}
use Rattle.structure_laws.specs.table_words.specs.Places.{slot_count}
use Rattle.structure_laws.specs.Scene.{Cells, Readings}
use Rattle.structure_laws.specs.Stand.{StandIn}
use Rattle.bucket_laws.specs.Buckets.{buckets_meaning, walk_of}

module _ (bits : ℕ) where
  -- in a memory that stands for a map a walk of what stands there loads no more links than there are node
  -- slots, and one
  abbrev pub BucketWalksAreShort : Type 0
  BucketWalksAreShort = (layout : Layout) (cells : Cells) (pairs : Pairs) (op : Op) (readings : Readings)
      → (buckets_meaning bits).stands layout cells pairs → StandIn (buckets_meaning bits) cells readings
      → (walk_of (2 ^ bits) (λ key. bucket_index key bits) layout op readings).links ≤ slot_count layout 0 + 1
