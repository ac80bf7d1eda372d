-- The walk, as functions on its record.
use Rattle.std.specs.Prelude.{ℕ, length}
use Rattle.lock_walks.specs.Way.{Way}
use Rattle.fixed_walks.specs.Fixed.{Course, first_of, first_or, rest_of, with_word, refused_by, thunk_for, fixed_planning}
use Rattle.fixed_walks.specs.declared.walk.FixedWalk.{FixedWalk}

module _ {C : Type 0} (course : C → Course) where
  abbrev pub fed_by : FixedWalk C → ℕ → FixedWalk C
  fed_by w found = record w {
    place = first_or w.place w.ahead.items;
    ahead = record { items = rest_of w.ahead.items };
    words = record { items = with_word w.words.items found };
    word = found;
  }

  abbrev pub fixed_way : Way (FixedWalk C)
  fixed_way = record {
    planning = λ w. fixed_planning (course w.course);
    op = λ w. w.op;
    wants = λ w. first_of w.ahead.items;
    fed = fed_by;
    left = λ w. length w.ahead.items;
    refused = λ w. refused_by w.version_max w.ahead.items w.word;
    thunk = λ w number. thunk_for (course w.course) w.op w.words.items w.place w.word number;
  }
