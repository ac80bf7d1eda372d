-- A walk as its code has it, and what it does.
use Rattle.std.specs.Prelude.{ℕ, ◌^◌, ◌<◌, Bool, true, false, Option}
use Rattle.machine_states.specs.map_history.specs.declared.op.Op.{Op}
use Rattle.machine_states.specs.map_history.specs.Keys.{key_of}
use Rattle.bucket_walks.specs.section_body.specs.Bucket.{bucket_index, bucket_lock, bucket_head}
use Rattle.machine_states.specs.body_terms.specs.declared.thunk.Thunk.{Thunk}
use Rattle.bucket_walks.specs.bucket_laws.specs.Walk.{Walk, Bounds, start, is_end, form_for, operands_for, wanted_at, fed}
use Rattle.bucket_walks.specs.bucket_laws.specs.Walk as walks
use Rattle.bucket_walks.specs.Left.{left_in}
use Rattle.hash_table.specs.declared.walk.Stage.{Stage}
use Rattle.hash_table.specs.declared.walk.Stage.TheVariants as codes

pub record Walking : Type 0 where
  pub bits : ℕ
  pub bounds : Bounds
  pub op : Op
  pub walk : Walk

abbrev pub stage_of : Stage → walks.Stage
stage_of codes.Edition = walks.AtEdition
stage_of codes.Link = walks.AtLink
stage_of codes.Key = walks.AtKey
stage_of codes.Value = walks.AtValue
stage_of codes.Next = walks.AtNext
stage_of codes.Lock = walks.AtLock
stage_of codes.End = walks.AtEnd
stage_of codes.Refused = walks.Refused

-- as long as the walk goes along links it has loaded fewer than its limit
abbrev pub HasRoom : walks.Stage → ℕ → ℕ → Type 0
HasRoom walks.AtEdition links limit = links < limit
HasRoom walks.AtLink links limit = links < limit
HasRoom walks.AtKey links limit = links < limit
HasRoom walks.AtValue links limit = Unit {0}
HasRoom walks.AtNext links limit = Unit {0}
HasRoom walks.AtLock links limit = Unit {0}
HasRoom walks.AtEnd links limit = Unit {0}
HasRoom walks.Refused links limit = Unit {0}

-- a walk that has loaded nothing
abbrev pub begun : ℕ → Op → ℕ → ℕ → Walking
begun bits op limit version_max =
    record { bits = bits; bounds = record { links = limit; version_max = version_max }; op = op; walk = start }

abbrev pub bucket_by : Walking → ℕ
bucket_by w = bucket_index (key_of w.op) w.bits

-- the place that it loads next
abbrev pub wanted_by : Walking → Option ℕ
wanted_by w = wanted_at (2 ^ w.bits) (λ key. bucket_index key w.bits) (bucket_by w) w.walk w.walk.stage

-- the walk after a load
abbrev pub fed_by : Walking → ℕ → Walking
fed_by w word =
    record w { walk = fed (2 ^ w.bits) (λ key. bucket_index key w.bits) w.bounds w.op w.walk w.walk.stage word }

abbrev pub is_refused_at : walks.Stage → Bool
is_refused_at walks.Refused = true
is_refused_at _ = false

abbrev pub is_refused_of : Walking → Bool
is_refused_of w = is_refused_at w.walk.stage

-- it has loaded all but its lock
abbrev pub is_walked_at : walks.Stage → Bool
is_walked_at walks.AtLock = true
is_walked_at _ = false

abbrev pub is_walked_of : Walking → Bool
is_walked_of w = is_walked_at w.walk.stage

-- a walk that goes on behind the edition of its bucket
abbrev pub behind_edition : Walking → ℕ → Walking
behind_edition w edition = record w {
  walk = record start { stage = walks.AtLink; edition = edition; place = bucket_head (bucket_by w) };
}

abbrev pub is_end_of : Walking → Bool
is_end_of w = is_end w.walk.stage

-- how many loads are left at most
abbrev pub left_of : Walking → ℕ
left_of w = left_in w.bounds w.walk

-- the thunk for a whole walk, for the request with this number
abbrev pub thunk_by : Walking → ℕ → Thunk
thunk_by w number = record {
  form = form_for w.op w.walk.found;
  request = number;
  lock = bucket_lock (bucket_by w);
  word = w.walk.word;
  operands = operands_for (2 ^ w.bits) w.op w.walk w.walk.found;
}
