-- The walk of an operation over two keys: the walk of the first key as for a removal, then that of the second one as
-- for a look-up, and then the locks; and the thunk that is the one for it.
use Rattle.std.specs.Prelude.{ℕ, ◌*◌, ◌^◌, Bool, true, false, cond, not, ◌&&◌, ◌||◌, ◌==◌, nat_lt}
use Rattle.std.specs.Prelude.{List, [], ◌∷◌, Option, None, Some}
use Rattle.structure_laws.specs.map_history.specs.declared.op.Op.{Op}
use Rattle.structure_laws.specs.map_history.specs.declared.op.Op.TheVariants.{Get, Ins, Del, Put, Mov}
use Rattle.structure_laws.specs.body_terms.specs.Word.{pack, value_of, is_free, is_spent}
use Rattle.bucket_bodies.specs.section_body.specs.Bucket.{bucket_lock, bucket_head, is_small}
use Rattle.structure_laws.specs.body_terms.specs.declared.thunk.Thunk.{Thunk}
use Rattle.structure_laws.specs.Scene.{Readings}
use Rattle.bucket_laws.specs.Halves.{Side, Own, Other}
use Rattle.bucket_laws.specs.Walk.{Stage, AtEdition, AtLink, AtKey, AtValue, AtNext, AtLock, AtEnd, Refused}
use Rattle.bucket_laws.specs.Walk.{Walk, start, same_numbers, Bounds, is_wanted, wanted_at, fed, walk, fits_walk}

-- on the walk of the first key, or of the second one; before the lower bucket's lock, which is the only one where both
-- keys lie in one bucket; before the higher one's; at its end; or refused
pub data Part : Type 0 where
  OnFirst : Part
  OnSecond : Part
  AtLower : Part
  AtHigher : Part
  AtBoth : Part
  Stopped : Part

-- how far it has come: the walks of both keys, and the words of the locks
pub record TwoWalk : Type 0 where
  pub part : Part
  pub first : Walk
  pub second : Walk
  pub low : ℕ
  pub high : ℕ

abbrev pub two_start : TwoWalk
two_start = record { part = OnFirst; first = start; second = start; low = 0; high = 0 }

abbrev pub is_both : Part → Bool
is_both AtBoth = true
is_both OnFirst = false
is_both OnSecond = false
is_both AtLower = false
is_both AtHigher = false
is_both Stopped = false

-- the lower of two buckets, and the higher one
abbrev pub lower_of : ℕ → ℕ → ℕ
lower_of i j = cond (nat_lt i j) i j

abbrev pub higher_of : ℕ → ℕ → ℕ
higher_of i j = cond (nat_lt i j) j i

-- this lock can be taken
abbrev pub is_takable : Bounds → ℕ → Bool
is_takable b word = is_free word && not (is_spent b.version_max word)

module _ (buckets : ℕ) (bucket : ℕ → ℕ) (from to : ℕ) where
  -- both keys lie in one bucket
  abbrev pub is_one : Bool
  is_one = bucket from == bucket to

  -- the place that it loads next
  abbrev pub two_wanted : TwoWalk → Part → Option ℕ
  two_wanted w OnFirst = wanted_at buckets bucket (bucket from) w.first w.first.stage
  two_wanted w OnSecond = wanted_at buckets bucket (bucket to) w.second w.second.stage
  two_wanted w AtLower = Some (bucket_lock (lower_of (bucket from) (bucket to)))
  two_wanted w AtHigher = Some (bucket_lock (higher_of (bucket from) (bucket to)))
  two_wanted w AtBoth = None
  two_wanted w Stopped = None

  -- behind a load of the first walk: it goes on, or to the second key, if that is another one, or to the lock
  abbrev pub after_first : Stage → Part
  after_first AtEdition = OnFirst
  after_first AtLink = OnFirst
  after_first AtKey = OnFirst
  after_first AtValue = OnFirst
  after_first AtNext = OnFirst
  after_first AtLock = cond (from == to) AtLower OnSecond
  after_first AtEnd = OnFirst
  after_first Refused = Stopped

  -- the walk of the second key; in the bucket of the first one it begins behind the edition that was read
  abbrev pub second_at : Part → Walk → Walk
  second_at OnFirst first = start
  second_at OnSecond first =
      cond is_one (record start { stage = AtLink; edition = first.edition; place = bucket_head (bucket to) }) start
  second_at AtLower first = start
  second_at AtHigher first = start
  second_at AtBoth first = start
  second_at Stopped first = start

  -- behind a load of the second walk
  abbrev pub after_second : Stage → Part
  after_second AtEdition = OnSecond
  after_second AtLink = OnSecond
  after_second AtKey = OnSecond
  after_second AtValue = OnSecond
  after_second AtNext = OnSecond
  after_second AtLock = AtLower
  after_second AtEnd = OnSecond
  after_second Refused = Stopped

  -- the walks of the keys, after the load that is wanted has given this word
  abbrev pub first_fed : Bounds → Walk → ℕ → Walk
  first_fed b first word = fed buckets bucket b (Del from) first first.stage word

  abbrev pub second_fed : Bounds → Walk → ℕ → Walk
  second_fed b second word = fed buckets bucket b (Get to) second second.stage word

  -- the walk after the load that it wants has given this word
  abbrev pub two_fed : Bounds → TwoWalk → Part → ℕ → TwoWalk
  two_fed b w OnFirst word = record w {
    part = after_first (first_fed b w.first word).stage;
    first = first_fed b w.first word;
    second = second_at (after_first (first_fed b w.first word).stage) (first_fed b w.first word);
  }
  two_fed b w OnSecond word = record w {
    part = after_second (second_fed b w.second word).stage;
    second = second_fed b w.second word;
  }
  two_fed b w AtLower word = record w {
    part = cond (is_takable b word) (cond is_one AtBoth AtHigher) Stopped;
    low = word;
  }
  two_fed b w AtHigher word = record w { part = cond (is_takable b word) AtBoth Stopped; high = word }
  two_fed b w AtBoth word = w
  two_fed b w Stopped word = w

  -- the walk in a list of readings: its longest prefix that is one
  unfoldable pub two_walk : Bounds → TwoWalk → Readings → TwoWalk
  two_walk b w [] = w
  two_walk b w (reading ∷ readings) =
      cond (is_wanted (two_wanted w w.part) reading.0) (two_walk b (two_fed b w w.part reading.1) readings) w

  -- the first key was found, and the second one, which is another, was not
  abbrev pub moves : TwoWalk → Bool
  moves w = w.first.found && (not w.second.found && not (from == to))

  -- the first bucket is the lower one
  abbrev pub is_lower : Bool
  is_lower = nat_lt (bucket from) (bucket to)

  abbrev pub two_form : TwoWalk → ℕ
  two_form w = cond is_one (cond (moves w) 23 1) (cond (moves w) 22 21)

  -- the reply word where nothing moves
  abbrev pub still_reply : TwoWalk → ℕ
  still_reply w = cond w.first.found (2 * 2 ^ 32) (5 * 2 ^ 32)

  -- the words of the lower edition and of the higher one
  abbrev pub low_edition : TwoWalk → ℕ
  low_edition w = cond is_lower w.first.edition w.second.edition

  abbrev pub high_edition : TwoWalk → ℕ
  high_edition w = cond is_lower w.second.edition w.first.edition

  abbrev pub high_lock : ℕ
  high_lock = bucket_lock (higher_of (bucket from) (bucket to))

  -- the operands: of a section in one bucket, and of one in two
  abbrev pub one_operands : TwoWalk → Bool → List ℕ
  one_operands w true =
      w.first.edition ∷ w.first.place ∷ w.first.slot ∷ w.first.next ∷ to ∷ w.first.value ∷ 0 ∷ 0 ∷ []
  one_operands w false = w.first.edition ∷ still_reply w ∷ 0 ∷ 0 ∷ 0 ∷ 0 ∷ 0 ∷ 0 ∷ []

  abbrev pub both_operands : TwoWalk → Bool → List ℕ
  both_operands w true =
      low_edition w ∷ w.high ∷ high_edition w ∷ pack high_lock (cond is_lower 1 0)
      ∷ pack (value_of w.first.place) w.first.slot ∷ pack w.first.next w.second.head ∷ pack to w.first.value ∷ 0 ∷ []
  both_operands w false =
      low_edition w ∷ w.high ∷ high_edition w ∷ high_lock ∷ 0 ∷ 0 ∷ 0 ∷ still_reply w ∷ []

  abbrev pub two_operands : TwoWalk → List ℕ
  two_operands w = cond is_one (one_operands w (moves w)) (both_operands w (moves w))

  -- what stands in the low half of an operand has 32 bits; of a place it is cut to them
  abbrev pub fits_halves : TwoWalk → Bool
  fits_halves w = is_small high_lock && (is_small w.first.next && is_small to)

  -- the walk is whole and met no refusal, and the thunk is the one for it
  abbrev pub fits_two : TwoWalk → Thunk → Bool
  fits_two w thunk = is_both w.part && (fits_halves w && ((thunk.form == two_form w)
      && ((thunk.lock == bucket_lock (lower_of (bucket from) (bucket to)))
      && ((thunk.word == w.low) && same_numbers thunk.operands (two_operands w)))))

-- the operation of one key as whose the walk of this key goes
abbrev pub side_op : Op → Side → Op
side_op (Get key) side = Get key
side_op (Ins key value) side = Ins key value
side_op (Del key) side = Del key
side_op (Put key value) side = Put key value
side_op (Mov from to) Own = Del from
side_op (Mov from to) Other = Get to

module _ (buckets : ℕ) (bucket : ℕ → ℕ) (b : Bounds) where
  -- the walk of this key in these readings; of an operation over one key the other walk doesn't begin
  abbrev pub side_of_two : TwoWalk → Side → Walk
  side_of_two w Own = w.first
  side_of_two w Other = w.second

  abbrev pub side_of_one : Walk → Side → Walk
  side_of_one w Own = w
  side_of_one w Other = start

  abbrev pub side_walk : Op → Readings → Side → Walk
  side_walk (Get key) readings side = side_of_one (walk buckets bucket b (Get key) start readings) side
  side_walk (Ins key value) readings side = side_of_one (walk buckets bucket b (Ins key value) start readings) side
  side_walk (Del key) readings side = side_of_one (walk buckets bucket b (Del key) start readings) side
  side_walk (Put key value) readings side = side_of_one (walk buckets bucket b (Put key value) start readings) side
  side_walk (Mov from to) readings side =
      side_of_two (two_walk buckets bucket from to b two_start readings) side

  -- the thunk is the one for the walk of an operation over two keys
  abbrev pub fits_mov : Op → Readings → Thunk → Bool
  fits_mov (Get key) readings thunk = false
  fits_mov (Ins key value) readings thunk = false
  fits_mov (Del key) readings thunk = false
  fits_mov (Put key value) readings thunk = false
  fits_mov (Mov from to) readings thunk =
      fits_two buckets bucket from to (two_walk buckets bucket from to b two_start readings) thunk

  -- the thunk is the one for what was read; a table may serve operations over one key alone, or also over two
  abbrev pub fits_by : Bool → Op → Readings → Thunk → Bool
  fits_by two op readings thunk = (two && fits_mov op readings thunk)
      || fits_walk buckets bucket op (walk buckets bucket b op start readings) thunk
