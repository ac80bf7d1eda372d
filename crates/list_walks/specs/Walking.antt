-- A walk as its code has it, and what it does.
use Rattle.std.specs.Prelude.{ℕ, ◌+◌, ◌*◌, ◌-◌, ◌≤◌, Bool, true, false, cond, not, ◌&&◌, ◌||◌, Option}
use Rattle.runner_parts.specs.structure_laws.specs.map_history.specs.declared.op.Op.{Op}
use Rattle.list_laws.specs.section_body.specs.Bucket.{is_small}
use Rattle.runner_parts.specs.structure_laws.specs.body_terms.specs.declared.thunk.Thunk.{Thunk}
use Rattle.runner_parts.specs.structure_laws.specs.Scene.{Readings}
use Rattle.list_laws.specs.bucket_laws.specs.Walk.{Bounds}
use Rattle.list_laws.specs.list_bodies.specs.List.{lock_of}
use Rattle.list_laws.specs.Walk.{Walk, start, is_end, form_for, operands_for, wanted_at, fed, walk}
use Rattle.list_laws.specs.Walk as walks
use Rattle.list_walks.specs.declared.stage.Stage.{Stage}
use Rattle.list_walks.specs.declared.stage.Stage.TheVariants as codes

pub record Walking : Type 0 where
  pub bounds : Bounds
  pub op : Op
  pub walk : Walk

abbrev pub stage_of : Stage → walks.Stage
stage_of codes.Link = walks.AtLink
stage_of codes.Key = walks.AtKey
stage_of codes.Value = walks.AtValue
stage_of codes.Lock = walks.AtLock
stage_of codes.Mark = walks.AtMark
stage_of codes.NodeLock = walks.AtNodeLock
stage_of codes.NodeMark = walks.AtNodeMark
stage_of codes.End = walks.AtEnd
stage_of codes.Refused = walks.Refused

-- as long as the walk goes along links it has loaded no more than its limit
abbrev pub HasRoom : walks.Stage → ℕ → ℕ → Type 0
HasRoom walks.AtLink links limit = links ≤ limit
HasRoom walks.AtKey links limit = links ≤ limit
HasRoom walks.AtValue links limit = Unit {0}
HasRoom walks.AtLock links limit = Unit {0}
HasRoom walks.AtMark links limit = Unit {0}
HasRoom walks.AtNodeLock links limit = Unit {0}
HasRoom walks.AtNodeMark links limit = Unit {0}
HasRoom walks.AtEnd links limit = Unit {0}
HasRoom walks.Refused links limit = Unit {0}

-- a walk that has loaded nothing
abbrev pub begun : Op → ℕ → ℕ → Walking
begun op limit version_max =
    record { bounds = record { links = limit; version_max = version_max }; op = op; walk = start }

-- the place that it loads next
abbrev pub wanted_by : Walking → Option ℕ
wanted_by w = wanted_at w.walk w.walk.stage

-- the walk after a load
abbrev pub fed_by : Walking → ℕ → Walking
fed_by w word = record w { walk = fed w.bounds w.op w.walk w.walk.stage word }

-- the walk in these readings, from where it stands
abbrev pub followed_by : Walking → Readings → Walking
followed_by w readings = record w { walk = walk w.bounds w.op w.walk readings }

-- the place of the outer lock, where it is one
abbrev pub lock_by : Walk → ℕ
lock_by w = lock_of w.from

abbrev pub is_refused_at : walks.Stage → Bool
is_refused_at walks.Refused = true
is_refused_at _ = false

-- a walk was refused where it met a word that refuses it, or has come to a node that has no place
abbrev pub is_refused_in : Walk → Bool
is_refused_in w = is_refused_at w.stage || (is_end w.stage && not (is_small (lock_by w)))

abbrev pub is_refused_of : Walking → Bool
is_refused_of w = is_refused_in w.walk

-- how many loads are left at most: two for each link, and those at the end
abbrev pub left_at : walks.Stage → ℕ → ℕ → ℕ
left_at walks.AtLink limit links = 2 * (limit - links) + 5
left_at walks.AtKey limit links = 2 * (limit - links) + 6
left_at walks.AtValue limit links = 5
left_at walks.AtLock limit links = 4
left_at walks.AtMark limit links = 3
left_at walks.AtNodeLock limit links = 2
left_at walks.AtNodeMark limit links = 1
left_at walks.AtEnd limit links = 0
left_at walks.Refused limit links = 0

abbrev pub left_by : Walking → ℕ
left_by w = left_at w.walk.stage w.bounds.links w.walk.links

-- the thunk for a whole walk, for the request with this number
abbrev pub thunk_by : Walking → ℕ → Thunk
thunk_by w number = record {
  form = form_for w.op w.walk.found;
  request = number;
  lock = cond (is_small (lock_by w.walk)) (lock_by w.walk) 0;
  word = w.walk.lock;
  operands = operands_for w.op w.walk w.walk.found;
}
