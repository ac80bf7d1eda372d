-- What a walk of a bucket costs, and what the section of a `get` does.
use Rattle.std.specs.Prelude.{◌≡◌, ℕ, ◌+◌, ◌*◌, ◌^◌, ◌<◌, ◌≤◌, true, length, take, slice_get, Option, Some}
use Rattle.std.specs.List.{list_all}
use Rattle.structure_laws.specs.map_history.specs.declared.op.Op.{Op}
use Rattle.structure_laws.specs.map_history.specs.declared.op.Op.TheVariants.{Get}
use Rattle.structure_laws.specs.map_history.specs.Keys.{key_of}
use Rattle.structure_laws.specs.body_terms.specs.Shape.{is_look}
use Rattle.structure_laws.specs.body_terms.specs.declared.thunk.Thunk.{Thunk}
use Rattle.bucket_laws.specs.bucket_bodies.specs.section_body.specs.Bucket.{bucket_index}
use Rattle.structure_laws.specs.table_words.specs.declared.layout.Layout.{Layout}
use Rattle.structure_laws.specs.table_words.specs.Places.{slot_count}
use Rattle.structure_laws.specs.Scene.{Readings}
use Rattle.bucket_laws.specs.Walk.{Walk, Bounds, wanted_at, fed}
use Rattle.bucket_laws.specs.TwoWalk.{TwoWalk, two_start, two_wanted, two_fed, two_walk}
use Rattle.bucket_laws.specs.Buckets.{buckets_meaning, moves_meaning, walk_of, bounds}
use Rattle.bucket_walks.specs.Left.{left_in, two_left}

-- the walk over two keys in these readings, on a table of this layout
abbrev pub two_walk_of : (buckets : ℕ) (bucket : ℕ → ℕ) (from to : ℕ) → Layout → Readings → TwoWalk
two_walk_of buckets bucket from to layout readings =
    two_walk buckets bucket from to (bounds buckets bucket layout) two_start readings

module _ (bits : ℕ) where
  -- the bucket of a key
  abbrev bucket : ℕ → ℕ
  bucket key = bucket_index key bits

  -- what the walk of an operation in these readings wants next
  abbrev pub wanted_in : Layout → Op → Readings → Option ℕ
  wanted_in layout op readings = wanted_at (2 ^ bits) bucket (bucket (key_of op))
      (walk_of (2 ^ bits) bucket layout op readings) (walk_of (2 ^ bits) bucket layout op readings).stage

  -- what the walk over these two keys in these readings wants next
  abbrev pub two_wanted_in : Layout → (from to : ℕ) → Readings → Option ℕ
  two_wanted_in layout from to readings =
      two_wanted (2 ^ bits) bucket from to (two_walk_of (2 ^ bits) bucket from to layout readings)
      (two_walk_of (2 ^ bits) bucket from to layout readings).part

  -- each reading is of the place that the walk wants after those before it
  abbrev pub IsBucketWalk : Layout → Op → Readings → Type 0
  IsBucketWalk layout op readings = (i place word : ℕ) → slice_get readings i ≡ Some (place, word)
      → wanted_in layout op (take i readings) ≡ Some place

  -- each load brings a walk nearer to its end, so it makes few
  pub record WalksMakeFewLoads : Type 0 where
    pub nearer : (b : Bounds) (op : Op) (w : Walk) (place word : ℕ)
        → wanted_at (2 ^ bits) bucket (bucket (key_of op)) w w.stage ≡ Some place
        → left_in b (fed (2 ^ bits) bucket b op w w.stage word) < left_in b w
    pub few : (layout : Layout) (op : Op) (readings : Readings) → IsBucketWalk layout op readings
        → length readings ≤ 2 * slot_count layout 0 + 20

  -- a thunk that fits a `get` has a body that changes nothing
  abbrev pub GetsOnlyLook : Type 0
  GetsOnlyLook = (layout : Layout) (key : ℕ) (readings : Readings) (thunk : Thunk)
      → (buckets_meaning bits).fits layout (Get key) readings thunk ≡ true
      → list_all is_look ((buckets_meaning bits).body thunk) ≡ true

  -- each reading is of the place that the walk over these two keys wants after those before it
  abbrev pub IsTwoWalk : Layout → (from to : ℕ) → Readings → Type 0
  IsTwoWalk layout from to readings = (i place word : ℕ) → slice_get readings i ≡ Some (place, word)
      → two_wanted_in layout from to (take i readings) ≡ Some place

  -- each load brings a walk over two keys nearer to its end, so it makes few
  pub record MovesMakeFewLoads : Type 0 where
    pub nearer : (b : Bounds) (from to : ℕ) (w : TwoWalk) (place word : ℕ)
        → two_wanted (2 ^ bits) bucket from to w w.part ≡ Some place
        → two_left b (two_fed (2 ^ bits) bucket from to b w w.part word)
        (two_fed (2 ^ bits) bucket from to b w w.part word).part < two_left b w w.part
    pub few : (layout : Layout) (from to : ℕ) (readings : Readings) → IsTwoWalk layout from to readings
        → length readings ≤ 4 * slot_count layout 0 + 42

  -- a thunk that fits a `get` has a body that changes nothing, also on the table that moves keys
  abbrev pub MovesGetsOnlyLook : Type 0
  MovesGetsOnlyLook = (layout : Layout) (key : ℕ) (readings : Readings) (thunk : Thunk)
      → (moves_meaning bits).fits layout (Get key) readings thunk ≡ true
      → list_all is_look ((moves_meaning bits).body thunk) ≡ true
