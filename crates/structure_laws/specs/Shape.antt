-- The first law: what a thunk that fits has for a body.
use Rattle.std.specs.Prelude.{ℕ, ◌<◌, ◌≤◌, ◌≡◌, ◌≢◌, true, false, Some, slice_get, length}
use Rattle.map_history.specs.declared.op.Op.{Op}
use Rattle.body_terms.specs.Word.{is_free, is_spent}
use Rattle.body_terms.specs.declared.value.Value.{Value}
use Rattle.body_terms.specs.declared.value.Value.TheVariants.{Const}
use Rattle.body_terms.specs.declared.value.Init.{Init}
use Rattle.body_terms.specs.declared.step.Step.{Step}
use Rattle.body_terms.specs.declared.step.Step.TheVariants.{Load, Take, Make, Store, Answer}
use Rattle.body_terms.specs.declared.thunk.Thunk.{Thunk}
use Rattle.body_terms.specs.Cost.{run_cost}
use Rattle.body_terms.specs.Shape.{IsShaped}
use Rattle.body_terms.specs.block_words.specs.table_words.specs.declared.layout.Layout.{Layout}
use Rattle.structure_laws.specs.Scene.{Readings, Scene}
use Rattle.structure_laws.specs.Meaning.{Meaning}
use Rattle.structure_laws.specs.Sections.{IsAllowed, IsSmall}
use Rattle.structure_laws.specs.Cells.{cell_of, IsKnown}
use Rattle.structure_laws.specs.Sound.{Sound}

-- one run of a body that a structure has makes at most so many atomic steps
abbrev pub most_of_run : ℕ
most_of_run = 209

module _ (m : Meaning) where
  -- the step with number j of the thunk's body
  abbrev pub HasStep : Thunk → ℕ → Step → Type 0
  HasStep thunk j step = slice_get (m.body thunk) j ≡ Some step

  pub record Shaped (layout : Layout) (readings : Readings) (thunk : Thunk) : Type 0 where
    -- it is a body
    pub shape : IsShaped (m.body thunk)
    -- one run of it makes few atomic steps, with those by which the blocks of its log are linked
    pub brief : run_cost (m.body thunk) ≤ most_of_run
    -- the outer lock is a lock that the readings give
    pub outer_lock : m.is_lock thunk.lock ≡ true
    pub outer_known : IsKnown m readings thunk.lock
    -- so is the place of each Take, and all these are different
    pub take_lock : (j l w : ℕ) → HasStep thunk j (Take l w) → m.is_lock l ≡ true
    pub take_known : (j l w : ℕ) → HasStep thunk j (Take l w) → IsKnown m readings l
    pub take_inner : (j l w : ℕ) → HasStep thunk j (Take l w) → l ≢ thunk.lock
    pub take_once : (i j l v w : ℕ) → HasStep thunk i (Take l v) → HasStep thunk j (Take l w) → i ≡ j
    -- a Take expects a word that was read in its place, free and not spent
    pub take_read : (j l w : ℕ) → HasStep thunk j (Take l w) → (i : ℕ) × (slice_get readings i ≡ Some (l, w))
    pub take_free : (j l w : ℕ) → HasStep thunk j (Take l w) → is_free w ≡ true
    pub take_unspent : (j l w : ℕ) → HasStep thunk j (Take l w) → is_spent layout.version_max w ≡ false
    -- each Load, and so each Store, is of a place that the readings give and that is no lock; no place is loaded twice
    pub load_unlocked : (j p r : ℕ) → HasStep thunk j (Load p r) → m.is_lock p ≡ false
    pub load_known : (j p r : ℕ) → HasStep thunk j (Load p r) → IsKnown m readings p
    pub load_once : (i j p q r : ℕ) → HasStep thunk i (Load p q) → HasStep thunk j (Load p r) → i ≡ j
    -- no register is stored to twice, and what is stored has 32 bits
    pub store_once : (i j r : ℕ) (v w : Value) → HasStep thunk i (Store r v) → HasStep thunk j (Store r w) → i ≡ j
    pub store_small : (j r : ℕ) (v : Value) → HasStep thunk j (Store r v) → IsSmall v
    -- a Make gives five such values, and 0 to each lock of its slot
    pub make_whole : (j r : ℕ) (init : Init) → HasStep thunk j (Make init r) → length init.cells ≡ 5
    pub make_small : (j r i : ℕ) (init : Init) (v : Value) → HasStep thunk j (Make init r)
        → slice_get init.cells i ≡ Some v → IsSmall v
    pub make_unlocked : (j r i t : ℕ) (init : Init) (v : Value) → HasStep thunk j (Make init r)
        → slice_get init.cells i ≡ Some v
        → m.is_lock (cell_of m t i) ≡ true → v ≡ Const 0
    -- the reply word isn't 0
    pub answers : (j n : ℕ) → HasStep thunk j (Answer n) → 0 < n

  -- a thunk that fits the readings of an entered runner, for an operation within the limits, has such a body
  abbrev pub ShapeLaw : Layout → Type 0
  ShapeLaw layout = (s : Scene) → Sound m layout s → m.kept layout s
      → (r : ℕ) (readings : Readings) (op : Op) (thunk : Thunk)
      → s.reader r ≡ Some readings → IsAllowed op → m.fits layout op readings thunk ≡ true
      → Shaped layout readings thunk
