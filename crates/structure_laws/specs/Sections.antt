-- How far a section has come in its body, and the locks that it holds.
use Rattle.std.specs.Prelude.{ℕ, ◌<◌, ◌≤◌, ◌^◌, ◌≡◌, ◌⊎◌, Bool, true, false, None, Some, slice_get}
use Rattle.map_history.specs.declared.op.Op.{Op}
use Rattle.map_history.specs.Keys.{DependsOn, value_given}
use Rattle.body_terms.specs.Word.{value_of}
use Rattle.body_terms.specs.declared.value.Value.{Value}
use Rattle.body_terms.specs.declared.value.Value.TheVariants.{Const, Of, Made}
use Rattle.body_terms.specs.declared.step.Step.{Step}
use Rattle.body_terms.specs.declared.step.Step.TheVariants.{Load, Want, Fresh, Take, Make, Stamp, Store, Retire, Answer}
use Rattle.structure_laws.specs.Scene.{Section, Scene}
use Rattle.structure_laws.specs.Meaning.{Meaning}

-- the greatest key of a request
abbrev pub key_max : ℕ
key_max = 4294967293

-- the operation's keys are within the limit, and the value that it gives has 32 bits
pub record IsAllowed (op : Op) : Type 0 where
  pub keys : (key : ℕ) → DependsOn op key → key ≤ key_max
  pub value : (v : ℕ) → value_given op ≡ Some v → v < 2 ^ 32

-- what a value of a step stands for, over the registers' words
abbrev pub value_in : (ℕ → ℕ) → Value → ℕ
value_in reg (Const n) = n
value_in reg (Of r) = value_of (reg r)
value_in reg (Made r) = value_of (reg r)

-- a constant has 32 bits
abbrev pub IsSmall : Value → Type 0
IsSmall (Const n) = n < 2 ^ 32
IsSmall (Of r) = Unit {0}
IsSmall (Made r) = Unit {0}

-- whether a run can leave at this step
abbrev pub is_exit : Step → Bool
is_exit (Want reg word) = true
is_exit (Fresh reg) = true
is_exit (Take place word) = true
is_exit (Load place into) = false
is_exit (Make init into) = false
is_exit Stamp = false
is_exit (Store reg value) = false
is_exit (Retire slot) = false
is_exit (Answer reply) = false

-- this descriptor has this open section
abbrev pub Here : Scene → ℕ → Section → Type 0
Here s d x = s.section d ≡ Some x

module _ (m : Meaning) where
  -- the step with number j of the section's body
  abbrev pub IsStep : Section → ℕ → Step → Type 0
  IsStep x j step = slice_get (m.body x.thunk) j ≡ Some step

  -- the section holds this lock: the outer one, or one that it took
  abbrev pub Holds : Section → ℕ → Type 0
  Holds x l = (l ≡ x.thunk.lock) ⊎ ((j w : ℕ) × (j < x.at) × IsStep x j (Take l w))

  -- no open section holds this lock
  abbrev pub Unheld : Scene → ℕ → Type 0
  Unheld s l = (d : ℕ) (x : Section) → Here s d x → Holds x l → ⊥

  -- its Takes, Wants and Freshes are passed
  abbrev pub Settled : Section → Type 0
  Settled x = (j : ℕ) (step : Step) → x.at ≤ j → IsStep x j step → is_exit step ≡ false

  -- its Stamp isn't passed
  abbrev pub Unstamped : Section → Type 0
  Unstamped x = (j : ℕ) → IsStep x j Stamp → x.at ≤ j

  -- it has made no Store
  abbrev pub Unstored : Section → Type 0
  Unstored x = (j r : ℕ) (v : Value) → IsStep x j (Store r v) → x.at ≤ j

  -- it has no Store still to make
  abbrev pub AllStored : Section → Type 0
  AllStored x = (j r : ℕ) (v : Value) → IsStep x j (Store r v) → j < x.at

  -- every step is passed
  abbrev pub Ended : Section → Type 0
  Ended x = slice_get (m.body x.thunk) x.at ≡ None

  -- nothing is pending: no stamped section has a Store still to make
  abbrev pub Complete : Scene → Type 0
  Complete s = (d : ℕ) (x : Section) → Here s d x → Unstamped x ⊎ AllStored x
