-- How the hash table plans.
use Rattle.std.specs.Prelude.{ℕ, ◌^◌, ◌&&◌, false, nat_le}
use Rattle.machine_states.specs.map_history.specs.declared.op.Op.{Op}
use Rattle.bucket_walks.specs.section_body.specs.Bucket.{bucket_index}
use Rattle.machine_states.specs.table_words.specs.declared.layout.Layout.{Layout}
use Rattle.machine_states.specs.structure_laws.specs.Scene.{Readings}
use Rattle.bucket_walks.specs.bucket_laws.specs.Walk.{Walk, has_one_key}
use Rattle.bucket_walks.specs.bucket_laws.specs.Buckets.{walk_of, bounds}
use Rattle.bucket_walks.specs.Few.{wanted_in}
use Rattle.lock_walks.specs.try_lock.specs.Planning.{Planning}
use Rattle.lock_walks.specs.Way.{Way}
use Rattle.hash_table.specs.Walking.{Walking, is_refused_at, is_refused_of, wanted_by, fed_by, left_of, thunk_by}

module _ (bits : ℕ) where
  -- the walk in these readings
  abbrev pub walk_in : Layout → Op → Readings → Walk
  walk_in layout op readings = walk_of (2 ^ bits) (λ key. bucket_index key bits) layout op readings

  -- a walk is too far where it was refused with as many links as it may load; it has no marks, and serves
  -- operations with one key
  abbrev pub bucket_planning : Planning
  bucket_planning = record {
    serves = has_one_key;
    wants = wanted_in bits;
    is_far = λ layout op readings. is_refused_at (walk_in layout op readings).stage
        && nat_le (bounds (2 ^ bits) (λ key. bucket_index key bits) layout).links
        (walk_in layout op readings).links;
    is_mark = λ place. false;
    per_pair = 1;
  }

abbrev pub bucket_way : Way Walking
bucket_way = record {
  planning = λ w. bucket_planning w.bits;
  op = λ w. w.op;
  wants = wanted_by;
  fed = fed_by;
  left = left_of;
  refused = is_refused_of;
  thunk = thunk_by;
}
