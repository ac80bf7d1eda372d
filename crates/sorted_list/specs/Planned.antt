-- How the sorted list plans.
use Rattle.std.specs.Prelude.{◌+◌, ◌&&◌, nat_le}
use Rattle.list_walks.specs.structure_laws.specs.table_words.specs.Places.{slot_count}
use Rattle.list_walks.specs.list_laws.specs.bucket_laws.specs.Walk.{has_one_key}
use Rattle.list_walks.specs.list_laws.specs.Nodes.{walk_of}
use Rattle.list_walks.specs.Walking.{is_refused_in, is_refused_of, wanted_by, fed_by, left_by, thunk_by}
use Rattle.list_walks.specs.Leading.{is_mark_place, wanted_in}
use Rattle.lock_walks.specs.try_lock.specs.Planning.{Planning}
use Rattle.lock_walks.specs.Way.{Way}
use Rattle.sorted_list.specs.declared.walker.SortedWalk.{SortedWalk}

-- a walk is too far where it was refused and has loaded as many links as there are node slots, and eight more. It
-- serves the operations with one key
abbrev pub list_planning : Planning
list_planning = record {
  serves = has_one_key;
  wants = wanted_in;
  is_far = λ layout op readings. is_refused_in (walk_of layout op readings) && nat_le (slot_count layout 2 + 8)
      (walk_of layout op readings).links;
  is_mark = is_mark_place;
  per_pair = 1;
}

abbrev pub list_way : Way SortedWalk
list_way = record {
  planning = λ w. list_planning;
  op = λ w. w.walk.op;
  wants = λ w. wanted_by w.walk;
  fed = λ w word. record { walk = fed_by w.walk word };
  left = λ w. left_by w.walk;
  refused = λ w. is_refused_of w.walk;
  thunk = λ w number. thunk_by w.walk number;
}
