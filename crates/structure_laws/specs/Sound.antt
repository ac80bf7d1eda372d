-- What the core supplies in every scene.
use Rattle.std.specs.Prelude.{ℕ, suc, ◌<◌, ◌≤◌, ◌≡◌, ◌≢◌, true, Some, slice_get}
use Rattle.body_terms.specs.Word.{value_of, next_word}
use Rattle.body_terms.specs.declared.value.Value.{Value}
use Rattle.body_terms.specs.declared.step.Step.TheVariants.{Load, Want, Store}
use Rattle.body_terms.specs.block_words.specs.table_words.specs.declared.layout.Layout.{Layout}
use Rattle.structure_laws.specs.Scene.{Readings, Section, Free, Live, Retired, Scene}
use Rattle.structure_laws.specs.Meaning.{Meaning}
use Rattle.structure_laws.specs.Sections.{IsAllowed, value_in, Here, IsStep, Holds}
use Rattle.structure_laws.specs.Cells.{IsSeen, IsSafe, slots, IsOutside}

module _ (m : Meaning) where
  -- a list of readings against the cells
  pub record IsRead (s : Scene) (readings : Readings) : Type 0 where
    -- what was read stands there still, or a later version does
    pub seen : (i p w : ℕ) → slice_get readings i ≡ Some (p, w) → IsSeen w (s.cells p)
    -- later readings of one place have later versions, or the same word
    pub rising : (i j p v w : ℕ) → i ≤ j → slice_get readings i ≡ Some (p, v)
        → slice_get readings j ≡ Some (p, w) → IsSeen v w
    -- no place that was read is a cell of a slot in a hand or in a free list, unless it is a lock
    pub outside : (i p w : ℕ) → slice_get readings i ≡ Some (p, w) → IsOutside m s p
    -- each link that was read leads to a slot that is live or was retired a short while ago
    pub safe : (i p w t : ℕ) → slice_get readings i ≡ Some (p, w) → m.is_link s.cells p ≡ true
        → value_of w ≡ suc t → IsSafe s t

  pub record Sound (layout : Layout) (s : Scene) : Type 0 where
    -- fixed slots are live
    pub fixed : (t : ℕ) → t < m.fixed_slots → s.status t ≡ Live
    -- every other slot than a free one is a node slot of the layout
    pub within : (t : ℕ) → s.status t ≢ Free → t < slots m layout
    -- no slot was retired in an epoch to come
    pub retired : (t y : ℕ) → s.status t ≡ Retired y → y ≤ s.epoch
    -- what the entered runners have read
    pub readers : (r : ℕ) (readings : Readings) → s.reader r ≡ Some readings → IsRead s readings
    -- what an open section's publisher had read
    pub published : (d : ℕ) (x : Section) → Here s d x → IsRead s x.readings
    -- an open section's thunk fits it, for an operation within the limits
    pub fits : (d : ℕ) (x : Section) → Here s d x → m.fits layout x.op x.readings x.thunk ≡ true
    pub allowed : (d : ℕ) (x : Section) → Here s d x → IsAllowed x.op
    -- no two open sections hold one lock
    pub apart : (d e : ℕ) (x y : Section) → Here s d x → Here s e y → d ≢ e → (l : ℕ) → Holds m x l → Holds m y l → ⊥
    -- a cell that an open section has loaded holds the agreed word, until the section stores there
    pub loaded : (d : ℕ) (x : Section) → Here s d x → (j p r : ℕ) → j < x.at → IsStep m x j (Load p r)
        → ((i : ℕ) (v : Value) → IsStep m x i (Store r v) → x.at ≤ i) → s.cells p ≡ x.reg r
    -- from then on it holds the stored word
    pub stored : (d : ℕ) (x : Section) → Here s d x → (i j p r : ℕ) (v : Value) → i < x.at → IsStep m x i (Store r v)
        → IsStep m x j (Load p r) → s.cells p ≡ next_word (x.reg r) (value_in x.reg v)
    -- the word of each Want that is passed is the agreed one
    pub wanted : (d : ℕ) (x : Section) → Here s d x → (j r w : ℕ) → j < x.at → IsStep m x j (Want r w) → x.reg r ≡ w
