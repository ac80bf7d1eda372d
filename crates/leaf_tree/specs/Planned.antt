-- How the search tree plans.
use Rattle.std.specs.Prelude.{◌+◌, ◌&&◌, nat_le}
use Rattle.tree_walks.specs.structure_laws.specs.table_words.specs.Places.{slot_count}
use Rattle.tree_walks.specs.tree_laws.specs.bucket_laws.specs.Walk.{has_one_key}
use Rattle.tree_walks.specs.tree_laws.specs.Leaves.{walk_of}
use Rattle.tree_walks.specs.Walking.{is_refused_in, is_refused_of, wanted_by, fed_by, left_by, thunk_by}
use Rattle.tree_walks.specs.Leading.{is_mark_place, wanted_in}
use Rattle.lock_walks.specs.try_lock.specs.Planning.{Planning}
use Rattle.lock_walks.specs.Way.{Way}
use Rattle.leaf_tree.specs.declared.walker.LeafWalk.{LeafWalk}

-- a walk is too far where it was refused and has loaded as many links as there are node slots, and eight more. It
-- serves the operations with one key
abbrev pub tree_planning : Planning
tree_planning = record {
  serves = has_one_key;
  wants = wanted_in;
  is_far = λ layout op readings. is_refused_in op (walk_of layout op readings) && nat_le (slot_count layout 3 + 8)
      (walk_of layout op readings).links;
  is_mark = is_mark_place;
  per_pair = 2;
}

abbrev pub tree_way : Way LeafWalk
tree_way = record {
  planning = λ w. tree_planning;
  op = λ w. w.walk.op;
  wants = λ w. wanted_by w.walk;
  fed = λ w word. record { walk = fed_by w.walk word };
  left = λ w. left_by w.walk;
  refused = λ w. is_refused_of w.walk;
  thunk = λ w number. thunk_by w.walk number;
}
