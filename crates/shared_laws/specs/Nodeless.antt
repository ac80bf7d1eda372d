-- Structures without nodes: all that they store stands in fixed cells, and each section holds one lock and no other.
use Rattle.std.specs.Prelude.{◌≡◌, ℕ, ◌<◌, ◌≤◌, Bool, true, false, length}
use Rattle.structure_laws.specs.map_history.specs.declared.op.Op.{Op}
use Rattle.structure_laws.specs.map_history.specs.Keys.{DependsOn}
use Rattle.structure_laws.specs.body_terms.specs.Shape.{IsShaped}
use Rattle.structure_laws.specs.body_terms.specs.declared.value.Value.{Value}
use Rattle.structure_laws.specs.body_terms.specs.declared.step.Step.{Step}
use Rattle.structure_laws.specs.body_terms.specs.declared.step.Step.TheVariants.{Load, Want, Fresh, Take, Make, Stamp, Store, Retire, Answer}
use Rattle.structure_laws.specs.body_terms.specs.declared.thunk.Thunk.{Thunk}
use Rattle.structure_laws.specs.table_words.specs.declared.layout.Layout.{Layout}
use Rattle.structure_laws.specs.Scene.{Cells, Readings, Live, Scene}
use Rattle.structure_laws.specs.Meaning.{Meaning}
use Rattle.structure_laws.specs.Sections.{IsSmall}
use Rattle.structure_laws.specs.Shape.{HasStep}

-- a step that takes no further lock, makes no node and retires none
abbrev pub is_plain : Step → Bool
is_plain (Take place word) = false
is_plain (Make init into) = false
is_plain (Retire slot) = false
is_plain (Load place into) = true
is_plain (Want reg word) = true
is_plain (Fresh reg) = true
is_plain Stamp = true
is_plain (Store reg value) = true
is_plain (Answer reply) = true

-- no node slot is live
abbrev pub NoneLive : Scene → Type 0
NoneLive s = (t : ℕ) → s.status t ≡ Live → ⊥

module _ (m : Meaning) where
  pub record IsNodeless : Type 0 where
    -- no slot is fixed, no place is a link, and readings lead to no slot
    pub fixed : m.fixed_slots ≡ 0
    pub links : (cells : Cells) (p : ℕ) → m.is_link cells p ≡ false
    pub reaches : (readings : Readings) (t : ℕ) → m.reaches readings t ≡ false
    -- what guards a place is the same in all cells
    pub guards : (cells others : Cells) (p : ℕ) → m.guard cells p ≡ m.guard others p
    -- it keeps that no slot is live, and nothing else
    pub kept : (layout : Layout) (s : Scene) → m.kept layout s → NoneLive s
    pub keeps : (layout : Layout) (s : Scene) → NoneLive s → m.kept layout s
    -- its walks rely on nothing
    pub walked : (layout : Layout) (op : Op) (readings : Readings) → m.walked layout op readings
    -- its bodies are of plain steps
    pub plain : (thunk : Thunk) (j : ℕ) (step : Step) → HasStep m thunk j step → is_plain step ≡ true

  -- the sections of a structure hold the lock of what they load, and two that have a key in common want one lock
  pub record HoldsItsLock (layout : Layout) : Type 0 where
    pub loads : (op : Op) (readings : Readings) (thunk : Thunk) (cells : Cells) (j p r : ℕ)
        → m.fits layout op readings thunk ≡ true → HasStep m thunk j (Load p r)
        → (p < m.fixed_cells) × (m.guard cells p ≡ thunk.lock)
    pub keyed : (a b : Op) (readings others : Readings) (first second : Thunk) (key : ℕ)
        → m.fits layout a readings first ≡ true → m.fits layout b others second ≡ true
        → DependsOn a key → DependsOn b key → first.lock ≡ second.lock

  -- what is to be shown of the body of a fitting thunk: it is a body of few steps, its lock and the places that it loads
  -- are fixed cells, a place is loaded once and a register stored to once, what is stored has 32 bits, and
  -- the answer isn't 0
  pub record IsPlainBody (thunk : Thunk) : Type 0 where
    pub shape : IsShaped (m.body thunk)
    pub few_steps : length (m.body thunk) ≤ 23
    pub lock : m.is_lock thunk.lock ≡ true
    pub lock_fixed : thunk.lock < m.fixed_cells
    pub load_fixed : (j p r : ℕ) → HasStep m thunk j (Load p r) → p < m.fixed_cells
    pub load_unlocked : (j p r : ℕ) → HasStep m thunk j (Load p r) → m.is_lock p ≡ false
    pub load_once : (i j p q r : ℕ) → HasStep m thunk i (Load p q) → HasStep m thunk j (Load p r) → i ≡ j
    pub store_once : (i j r : ℕ) (v w : Value) → HasStep m thunk i (Store r v) → HasStep m thunk j (Store r w) → i ≡ j
    pub store_small : (j r : ℕ) (v : Value) → HasStep m thunk j (Store r v) → IsSmall v
    pub answers : (j n : ℕ) → HasStep m thunk j (Answer n) → 0 < n
