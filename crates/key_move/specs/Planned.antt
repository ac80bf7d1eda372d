-- How the table that moves keys plans.
use Rattle.std.specs.Prelude.{ℕ, ◌^◌, ◌&&◌, ◌||◌, Bool, true, false, nat_le}
use Rattle.machine_states.specs.map_history.specs.declared.op.Op.{Op}
use Rattle.machine_states.specs.map_history.specs.declared.op.Op.TheVariants.{Get, Ins, Del, Put, Mov}
use Rattle.bucket_walks.specs.section_body.specs.Bucket.{bucket_index}
use Rattle.machine_states.specs.table_words.specs.declared.layout.Layout.{Layout}
use Rattle.machine_states.specs.structure_laws.specs.Scene.{Readings}
use Rattle.bucket_walks.specs.bucket_laws.specs.Walk.{Walk}
use Rattle.bucket_walks.specs.bucket_laws.specs.Buckets.{walk_of, bounds}
use Rattle.bucket_walks.specs.bucket_laws.specs.Halves.{Side, Own, Other}
use Rattle.bucket_walks.specs.bucket_laws.specs.TwoWalk.{TwoWalk, two_start, two_walk, side_walk}
use Rattle.lock_walks.specs.try_lock.specs.Planning.{Planning}
use Rattle.lock_walks.specs.Way.{Way}
use Rattle.hash_table.specs.Walking.{is_refused_at}
use Rattle.key_move.specs.Moving.{Moving, wanted_by, fed_by, left_of, is_refused_of, thunk_by}

module _ (bits : ℕ) where
  abbrev hash : ℕ → ℕ
  hash key = bucket_index key bits

  -- the walk in these readings, as its code has it
  abbrev pub one_in : Layout → Op → Readings → TwoWalk
  one_in layout op readings = record two_start { first = walk_of (2 ^ bits) hash layout op readings }

  abbrev pub walk_in : Layout → Op → Readings → TwoWalk
  walk_in layout (Get key) readings = one_in layout (Get key) readings
  walk_in layout (Ins key value) readings = one_in layout (Ins key value) readings
  walk_in layout (Del key) readings = one_in layout (Del key) readings
  walk_in layout (Put key value) readings = one_in layout (Put key value) readings
  walk_in layout (Mov from to) readings =
      two_walk (2 ^ bits) hash from to (bounds (2 ^ bits) hash layout) two_start readings

  abbrev pub moving_in : Layout → Op → Readings → Moving
  moving_in layout op readings = record {
    bits = bits;
    bounds = bounds (2 ^ bits) hash layout;
    op = op;
    walk = walk_in layout op readings;
  }

  -- a walk of one key is too far where it was refused with as many links as it may load; so a walk over two keys is
  -- where one of its two is
  abbrev pub is_far_walk : Layout → Walk → Bool
  is_far_walk layout w = is_refused_at w.stage && nat_le (bounds (2 ^ bits) hash layout).links w.links

  -- the walk of one of the keys of an operation
  abbrev pub side_in : Layout → Op → Readings → Side → Walk
  side_in layout op readings side = side_walk (2 ^ bits) hash (bounds (2 ^ bits) hash layout) op readings side

  -- it has no marks, and serves every operation
  abbrev pub move_planning : Planning
  move_planning = record {
    serves = λ op. true;
    wants = λ layout op readings. wanted_by (moving_in layout op readings);
    is_far = λ layout op readings. is_far_walk layout (side_in layout op readings Own)
        || is_far_walk layout (side_in layout op readings Other);
    is_mark = λ place. false;
    per_pair = 1;
  }

abbrev pub move_way : Way Moving
move_way = record {
  planning = λ m. move_planning m.bits;
  op = λ m. m.op;
  wants = wanted_by;
  fed = fed_by;
  left = left_of;
  refused = is_refused_of;
  thunk = thunk_by;
}
