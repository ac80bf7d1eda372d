-- A walk in readings that were made already is the walk that a thunk is tested by.
use Rattle.std.proofs.Common.{◌≡◌, ℕ, ◌^◌, [], ◌∷◌, Bool, true, false, cond, refl, ap, ◌∙◌}
use Rattle.std.specs.Prelude.{◌&&◌, ◌||◌}
use Rattle.bucket_walks.specs.section_body.specs.Bucket.{bucket_index}
use Rattle.machine_states.specs.map_history.specs.declared.op.Op.{Op}
use Rattle.machine_states.specs.map_history.specs.declared.op.Op.TheVariants.{Get, Ins, Del, Put, Mov}
use Rattle.machine_states.specs.body_terms.specs.declared.thunk.Thunk.{Thunk}
use Rattle.machine_states.specs.table_words.specs.declared.layout.Layout.{Layout}
use Rattle.machine_states.specs.structure_laws.specs.Scene.{Readings}
use Rattle.bucket_walks.specs.bucket_laws.specs.Walk.{Walk, Bounds, is_wanted, fed, walk}
use Rattle.bucket_walks.specs.bucket_laws.specs.TwoWalk.{TwoWalk, two_start, two_walk, two_fed}
use Rattle.bucket_walks.specs.bucket_laws.specs.Buckets.{moves_meaning, bounds}
use Rattle.lock_walks.specs.Followed.{followed}
use Rattle.lock_walks.proofs.Following.{same_test}
use Rattle.key_move.specs.Moving.{Moving, wanted_by, fed_by, fits_of}
use Rattle.key_move.specs.Planned.{move_way, moving_in}

module _ (bits : ℕ) (b : Bounds) where
  abbrev hash : ℕ → ℕ
  hash key = bucket_index key bits

  abbrev at : Op → TwoWalk → Moving
  at op w = record { bits = bits; bounds = b; op = op; walk = w }

  -- of an operation over one key
  get_in : (key : ℕ) (w : TwoWalk) (readings : Readings) → followed move_way (at (Get key) w) readings
      ≡ at (Get key) (record w { first = walk (2 ^ bits) hash b (Get key) w.first readings })
  unfolding walk
  get_in key w [] = refl
  get_in key w (reading ∷ readings) =
      ap (λ c. cond c (followed move_way (fed_by (at (Get key) w) reading.1) readings) (at (Get key) w))
      (same_test is_wanted (λ place. refl) (λ wanted place. refl) (wanted_by (at (Get key) w)) reading.0)
      ∙ by (is_wanted (wanted_by (at (Get key) w)) reading.0) _ _ (get_in key (record w {
        first = fed (2 ^ bits) hash b (Get key) w.first w.first.stage reading.1;
      }) readings)
    where
      by : (c : Bool) (next : Moving) (later : Walk) → next ≡ at (Get key) (record w { first = later })
          → cond c next (at (Get key) w) ≡ at (Get key) (record w { first = cond c later w.first })
      by true next later e = e
      by false next later e = refl

  ins_in : (key value : ℕ) (w : TwoWalk) (readings : Readings) → followed move_way (at (Ins key value) w) readings
      ≡ at (Ins key value) (record w { first = walk (2 ^ bits) hash b (Ins key value) w.first readings })
  unfolding walk
  ins_in key value w [] = refl
  ins_in key value w (reading ∷ readings) =
      ap (λ c. cond c (followed move_way (fed_by (at (Ins key value) w) reading.1) readings) (at (Ins key value) w))
      (same_test is_wanted (λ place. refl) (λ wanted place. refl) (wanted_by (at (Ins key value) w)) reading.0)
      ∙ by (is_wanted (wanted_by (at (Ins key value) w)) reading.0) _ _ (ins_in key value (record w {
        first = fed (2 ^ bits) hash b (Ins key value) w.first w.first.stage reading.1;
      }) readings)
    where
      by : (c : Bool) (next : Moving) (later : Walk) → next ≡ at (Ins key value) (record w { first = later })
          → cond c next (at (Ins key value) w) ≡ at (Ins key value) (record w { first = cond c later w.first })
      by true next later e = e
      by false next later e = refl

  del_in : (key : ℕ) (w : TwoWalk) (readings : Readings) → followed move_way (at (Del key) w) readings
      ≡ at (Del key) (record w { first = walk (2 ^ bits) hash b (Del key) w.first readings })
  unfolding walk
  del_in key w [] = refl
  del_in key w (reading ∷ readings) =
      ap (λ c. cond c (followed move_way (fed_by (at (Del key) w) reading.1) readings) (at (Del key) w))
      (same_test is_wanted (λ place. refl) (λ wanted place. refl) (wanted_by (at (Del key) w)) reading.0)
      ∙ by (is_wanted (wanted_by (at (Del key) w)) reading.0) _ _ (del_in key (record w {
        first = fed (2 ^ bits) hash b (Del key) w.first w.first.stage reading.1;
      }) readings)
    where
      by : (c : Bool) (next : Moving) (later : Walk) → next ≡ at (Del key) (record w { first = later })
          → cond c next (at (Del key) w) ≡ at (Del key) (record w { first = cond c later w.first })
      by true next later e = e
      by false next later e = refl

  put_in : (key value : ℕ) (w : TwoWalk) (readings : Readings) → followed move_way (at (Put key value) w) readings
      ≡ at (Put key value) (record w { first = walk (2 ^ bits) hash b (Put key value) w.first readings })
  unfolding walk
  put_in key value w [] = refl
  put_in key value w (reading ∷ readings) =
      ap (λ c. cond c (followed move_way (fed_by (at (Put key value) w) reading.1) readings) (at (Put key value) w))
      (same_test is_wanted (λ place. refl) (λ wanted place. refl) (wanted_by (at (Put key value) w)) reading.0)
      ∙ by (is_wanted (wanted_by (at (Put key value) w)) reading.0) _ _ (put_in key value (record w {
        first = fed (2 ^ bits) hash b (Put key value) w.first w.first.stage reading.1;
      }) readings)
    where
      by : (c : Bool) (next : Moving) (later : Walk) → next ≡ at (Put key value) (record w { first = later })
          → cond c next (at (Put key value) w) ≡ at (Put key value) (record w { first = cond c later w.first })
      by true next later e = e
      by false next later e = refl

  -- and of one over two
  mov_in : (from to : ℕ) (w : TwoWalk) (readings : Readings) → followed move_way (at (Mov from to) w) readings
      ≡ at (Mov from to) (two_walk (2 ^ bits) hash from to b w readings)
  unfolding two_walk
  mov_in from to w [] = refl
  mov_in from to w (reading ∷ readings) =
      ap (λ c. cond c (followed move_way (fed_by (at (Mov from to) w) reading.1) readings) (at (Mov from to) w))
      (same_test is_wanted (λ place. refl) (λ wanted place. refl) (wanted_by (at (Mov from to) w)) reading.0)
      ∙ by (is_wanted (wanted_by (at (Mov from to) w)) reading.0) _ _
      (mov_in from to (two_fed (2 ^ bits) hash from to b w w.part reading.1) readings)
    where
      by : (c : Bool) (next : Moving) (later : TwoWalk) → next ≡ at (Mov from to) later
          → cond c next (at (Mov from to) w) ≡ at (Mov from to) (cond c later w)
      by true next later e = e
      by false next later e = refl

-- a walk that has loaded nothing comes to this in readings
pub in_readings : (bits : ℕ) (layout : Layout) (op : Op) (readings : Readings)
    → followed move_way (record {
      bits = bits;
      bounds = bounds (2 ^ bits) (λ key. bucket_index key bits) layout;
      op = op;
      walk = two_start;
    }) readings ≡ moving_in bits layout op readings
in_readings bits layout (Get key) readings =
    get_in bits (bounds (2 ^ bits) (λ key. bucket_index key bits) layout) key two_start readings
in_readings bits layout (Ins key value) readings =
    ins_in bits (bounds (2 ^ bits) (λ key. bucket_index key bits) layout) key value two_start readings
in_readings bits layout (Del key) readings =
    del_in bits (bounds (2 ^ bits) (λ key. bucket_index key bits) layout) key two_start readings
in_readings bits layout (Put key value) readings =
    put_in bits (bounds (2 ^ bits) (λ key. bucket_index key bits) layout) key value two_start readings
in_readings bits layout (Mov from to) readings =
    mov_in bits (bounds (2 ^ bits) (λ key. bucket_index key bits) layout) from to two_start readings

-- so the test of a thunk is the meaning's
pub fits_there : (bits : ℕ) (layout : Layout) (op : Op) (readings : Readings) (thunk : Thunk)
    → fits_of (moving_in bits layout op readings) thunk ≡ (moves_meaning bits).fits layout op readings thunk
fits_there bits layout (Get key) readings thunk = refl
fits_there bits layout (Ins key value) readings thunk = refl
fits_there bits layout (Del key) readings thunk = refl
fits_there bits layout (Put key value) readings thunk = refl
fits_there bits layout (Mov from to) readings thunk = either _
  where
    either : (b : Bool) → b ≡ (b || false)
    either true = refl
    either false = refl
