-- A walk over one key or over two as its code has it, and what it does.
use Rattle.std.specs.Prelude.{ℕ, ◌+◌, ◌*◌, ◌^◌, Bool, true, false, Option}
use Rattle.machine_states.specs.map_history.specs.declared.op.Op.{Op}
use Rattle.machine_states.specs.map_history.specs.declared.op.Op.TheVariants.{Get, Ins, Del, Put, Mov}
use Rattle.machine_states.specs.map_history.specs.Keys.{key_of}
use Rattle.bucket_walks.specs.section_body.specs.Bucket.{bucket_index, bucket_lock}
use Rattle.machine_states.specs.body_terms.specs.declared.thunk.Thunk.{Thunk}
use Rattle.bucket_walks.specs.bucket_laws.specs.Walk.{Bounds, wanted_at, fed, form_for, operands_for, fits_walk}
use Rattle.bucket_walks.specs.bucket_laws.specs.TwoWalk.{TwoWalk, two_start, two_wanted, two_fed, two_form, two_operands, fits_two}
use Rattle.bucket_walks.specs.bucket_laws.specs.TwoWalk.{lower_of, higher_of, side_op}
use Rattle.bucket_walks.specs.bucket_laws.specs.Halves.{Side, Own, Other}
use Rattle.bucket_walks.specs.bucket_laws.specs.TwoWalk as walks
use Rattle.bucket_walks.specs.Left.{left_in, two_left}
use Rattle.hash_table.specs.Walking.{is_refused_at}
use Rattle.key_move.specs.declared.walk.Part.{Part}
use Rattle.key_move.specs.declared.walk.Part.TheVariants as codes

-- of an operation over one key its walk is the first of the two
pub record Moving : Type 0 where
  pub bits : ℕ
  pub bounds : Bounds
  pub op : Op
  pub walk : TwoWalk

abbrev pub part_of : Part → walks.Part
part_of codes.First = walks.OnFirst
part_of codes.Second = walks.OnSecond
part_of codes.Lower = walks.AtLower
part_of codes.Higher = walks.AtHigher
part_of codes.End = walks.AtBoth
part_of codes.Refused = walks.Stopped

-- a walk that has loaded nothing
abbrev pub begun : ℕ → Op → ℕ → ℕ → Moving
begun bits op limit version_max = record {
  bits = bits;
  bounds = record { links = limit; version_max = version_max };
  op = op;
  walk = two_start;
}

abbrev pub hash_of : Moving → ℕ → ℕ
hash_of m key = bucket_index key m.bits

-- the keys of a `mov`
abbrev pub from_of : Op → ℕ
from_of op = key_of op

abbrev pub to_of : Op → ℕ
to_of op = key_of (side_op op Other)

-- the bucket of each key
abbrev pub side_bucket : Moving → Side → ℕ
side_bucket m side = hash_of m (key_of (side_op m.op side))

-- the places of the lower lock, and of the higher one
abbrev pub low_of : Moving → ℕ
low_of m = bucket_lock (lower_of (side_bucket m Own) (side_bucket m Other))

abbrev pub high_of : Moving → ℕ
high_of m = bucket_lock (higher_of (side_bucket m Own) (side_bucket m Other))

-- a walk over these two keys goes on where it is
abbrev pub two_on : Moving → ℕ → ℕ → walks.Part → ℕ → Moving
two_on m from to part word = record m { walk = two_fed (2 ^ m.bits) (hash_of m) from to m.bounds m.walk part word }

-- the place that it loads next
abbrev pub one_wanted : Moving → Op → Option ℕ
one_wanted m op = wanted_at (2 ^ m.bits) (hash_of m) (hash_of m (key_of op)) m.walk.first m.walk.first.stage

abbrev pub wanted_for : Moving → Op → Option ℕ
wanted_for m (Get key) = one_wanted m (Get key)
wanted_for m (Ins key value) = one_wanted m (Ins key value)
wanted_for m (Del key) = one_wanted m (Del key)
wanted_for m (Put key value) = one_wanted m (Put key value)
wanted_for m (Mov from to) = two_wanted (2 ^ m.bits) (hash_of m) from to m.walk m.walk.part

abbrev pub wanted_by : Moving → Option ℕ
wanted_by m = wanted_for m m.op

-- the walk after a load
abbrev pub one_fed : Moving → Op → ℕ → TwoWalk
one_fed m op word = record m.walk {
  first = fed (2 ^ m.bits) (hash_of m) m.bounds op m.walk.first m.walk.first.stage word;
}

abbrev pub fed_for : Moving → Op → ℕ → TwoWalk
fed_for m (Get key) word = one_fed m (Get key) word
fed_for m (Ins key value) word = one_fed m (Ins key value) word
fed_for m (Del key) word = one_fed m (Del key) word
fed_for m (Put key value) word = one_fed m (Put key value) word
fed_for m (Mov from to) word = two_fed (2 ^ m.bits) (hash_of m) from to m.bounds m.walk m.walk.part word

abbrev pub fed_by : Moving → ℕ → Moving
fed_by m word = record m { walk = fed_for m m.op word }

-- it was refused
abbrev pub is_stopped : walks.Part → Bool
is_stopped walks.Stopped = true
is_stopped _ = false

abbrev pub is_refused_for : TwoWalk → Op → Bool
is_refused_for w (Get key) = is_refused_at w.first.stage
is_refused_for w (Ins key value) = is_refused_at w.first.stage
is_refused_for w (Del key) = is_refused_at w.first.stage
is_refused_for w (Put key value) = is_refused_at w.first.stage
is_refused_for w (Mov from to) = is_stopped w.part

abbrev pub is_refused_of : Moving → Bool
is_refused_of m = is_refused_for m.walk m.op

-- how many loads are left at most
abbrev pub left_for : Bounds → TwoWalk → Op → ℕ
left_for b w (Get key) = left_in b w.first
left_for b w (Ins key value) = left_in b w.first
left_for b w (Del key) = left_in b w.first
left_for b w (Put key value) = left_in b w.first
left_for b w (Mov from to) = two_left b w w.part

abbrev pub left_of : Moving → ℕ
left_of m = left_for m.bounds m.walk m.op

-- the thunk for a whole walk, for the request with this number
abbrev pub one_thunk : Moving → Op → ℕ → Thunk
one_thunk m op number = record {
  form = form_for op m.walk.first.found;
  request = number;
  lock = bucket_lock (hash_of m (key_of op));
  word = m.walk.first.word;
  operands = operands_for (2 ^ m.bits) op m.walk.first m.walk.first.found;
}

abbrev pub thunk_for : Moving → Op → ℕ → Thunk
thunk_for m (Get key) number = one_thunk m (Get key) number
thunk_for m (Ins key value) number = one_thunk m (Ins key value) number
thunk_for m (Del key) number = one_thunk m (Del key) number
thunk_for m (Put key value) number = one_thunk m (Put key value) number
thunk_for m (Mov from to) number = record {
  form = two_form (2 ^ m.bits) (hash_of m) from to m.walk;
  request = number;
  lock = bucket_lock (lower_of (hash_of m from) (hash_of m to));
  word = m.walk.low;
  operands = two_operands (2 ^ m.bits) (hash_of m) from to m.walk;
}

abbrev pub thunk_by : Moving → ℕ → Thunk
thunk_by m number = thunk_for m m.op number

-- the walk is whole, and this is the thunk for it
abbrev pub fits_for : Moving → Op → Thunk → Bool
fits_for m (Get key) thunk = fits_walk (2 ^ m.bits) (hash_of m) (Get key) m.walk.first thunk
fits_for m (Ins key value) thunk = fits_walk (2 ^ m.bits) (hash_of m) (Ins key value) m.walk.first thunk
fits_for m (Del key) thunk = fits_walk (2 ^ m.bits) (hash_of m) (Del key) m.walk.first thunk
fits_for m (Put key value) thunk = fits_walk (2 ^ m.bits) (hash_of m) (Put key value) m.walk.first thunk
fits_for m (Mov from to) thunk = fits_two (2 ^ m.bits) (hash_of m) from to m.walk thunk

abbrev pub fits_of : Moving → Thunk → Bool
fits_of m thunk = fits_for m m.op thunk
