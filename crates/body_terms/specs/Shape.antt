-- The shape of a body.
use Rattle.std.specs.Prelude.{◌≡◌, ◌≢◌, ℕ, ◌<◌, ◌≤◌, List, [], ◌∷◌, Bool, true, false, length, slice_get, count_by, All, Contains, Some}
use Rattle.body_terms.specs.Line.{registers_before}
use Rattle.body_terms.specs.declared.value.Value.{Value}
use Rattle.body_terms.specs.declared.value.Value.TheVariants.{Const, Of, Made}
use Rattle.body_terms.specs.declared.value.Init.{Init}
use Rattle.body_terms.specs.declared.step.Step.{Step}
use Rattle.body_terms.specs.declared.step.Step.TheVariants.{Load, Want, Fresh, Take, Make, Stamp, Store, Retire, Answer}

-- the phase of a step: exits, Make, Stamp, Store, Retire, Answer
abbrev pub phase : Step → ℕ
phase (Load place into) = 1
phase (Want reg word) = 1
phase (Fresh reg) = 1
phase (Take place word) = 1
phase (Make init into) = 2
phase Stamp = 3
phase (Store reg value) = 4
phase (Retire slot) = 5
phase (Answer reply) = 6

abbrev pub is_take : Step → Bool
is_take (Take place word) = true
is_take _ = false

abbrev pub is_make : Step → Bool
is_make (Make init into) = true
is_make _ = false

abbrev pub is_stamp : Step → Bool
is_stamp Stamp = true
is_stamp _ = false

abbrev pub is_retire : Step → Bool
is_retire (Retire slot) = true
is_retire _ = false

abbrev pub is_answer : Step → Bool
is_answer (Answer reply) = true
is_answer _ = false

-- a step of a body that changes nothing: it loads a cell, tests what was loaded, or is the stamp or the answer
abbrev pub is_look : Step → Bool
is_look (Load place into) = true
is_look (Want reg word) = true
is_look Stamp = true
is_look (Answer reply) = true
is_look _ = false

-- the places that these steps load, in their order
abbrev pub loaded_places : List Step → List ℕ
loaded_places [] = []
loaded_places (Load place into ∷ steps) = place ∷ loaded_places steps
loaded_places (step ∷ steps) = loaded_places steps

-- the values that a step uses; the register of a Want, a Fresh or a Store is used as a loaded word
abbrev pub used_values : Step → List Value
used_values (Want reg word) = Of reg ∷ []
used_values (Fresh reg) = Of reg ∷ []
used_values (Make init into) = init.cells
used_values (Store reg value) = Of reg ∷ value ∷ []
used_values _ = []

-- the register that a step sets
abbrev pub set_registers : Step → List ℕ
set_registers (Load place into) = into ∷ []
set_registers (Make init into) = into ∷ []
set_registers _ = []

-- this step stands at this place of the body
abbrev pub IsStep : List Step → ℕ → Step → Type 0
IsStep body at step = slice_get body at ≡ Some step

-- a step before this place loads the register
pub record LoadedBefore (body : List Step) (at reg : ℕ) : Type 0 where
  pub by : ℕ
  pub place : ℕ
  pub earlier : by < at
  pub loads : IsStep body by (Load place reg)

-- a step before this place makes a slot into the register
pub record MadeBefore (body : List Step) (at reg : ℕ) : Type 0 where
  pub by : ℕ
  pub init : Init
  pub earlier : by < at
  pub makes : IsStep body by (Make init reg)

-- a step before this place tests the register's version
pub record FreshBefore (body : List Step) (at reg : ℕ) : Type 0 where
  pub by : ℕ
  pub earlier : by < at
  pub tests : IsStep body by (Fresh reg)

-- the register of this value was set before this place by the fitting kind of step
abbrev pub SetBefore : List Step → ℕ → Value → Type 0
SetBefore body at (Const number) = Unit {0}
SetBefore body at (Of reg) = LoadedBefore body at reg
SetBefore body at (Made reg) = MadeBefore body at reg

-- the place to which a Store at this place of the body writes
abbrev pub store_place : List Step → ℕ → ℕ → ℕ
store_place body at reg = (registers_before body at).place reg

-- a list of steps that may run as a body
pub record IsShaped (body : List Step) : Type 0 where
  -- at most 32 steps
  pub short : length body ≤ 32
  -- phases never fall
  pub phases : (i j : ℕ) (earlier later : Step) → i < j → IsStep body i earlier → IsStep body j later
      → phase earlier ≤ phase later
  -- at most two Makes, exactly one Stamp, exactly one Answer
  pub makes : count_by is_make body ≤ 2
  pub stamps : count_by is_stamp body ≡ 1
  pub answers : count_by is_answer body ≡ 1
  -- each register that a step uses was set by an earlier step of the fitting kind
  pub used : (i : ℕ) (step : Step) → IsStep body i step → All (SetBefore body i) (used_values step)
  -- no step sets a register above 15, or one that an earlier step has set
  pub within : (i : ℕ) (step : Step) → IsStep body i step → All (λ reg. reg ≤ 15) (set_registers step)
  pub set_once : (i j reg : ℕ) (earlier later : Step) → i < j → IsStep body i earlier → IsStep body j later
      → Contains (set_registers earlier) reg → Contains (set_registers later) reg → ⊥
  -- each Store's register has an earlier Fresh
  pub fresh : (i reg : ℕ) (value : Value) → IsStep body i (Store reg value) → FreshBefore body i reg
  -- no two Stores have the same place
  pub stored_once : (i j a b : ℕ) (v w : Value) → i < j → IsStep body i (Store a v)
      → IsStep body j (Store b w) → store_place body i a ≢ store_place body j b
