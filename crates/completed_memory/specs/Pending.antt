-- The Stores that stamped sections have still to make, and the memory in which they are made.
use Rattle.std.specs.Prelude.{ℕ, ◌≤◌, ◌≡◌, Bool, true, false, None}
use Rattle.structure_laws.specs.body_terms.specs.Word.{next_word}
use Rattle.structure_laws.specs.body_terms.specs.declared.value.Value.{Value}
use Rattle.structure_laws.specs.body_terms.specs.declared.step.Step.TheVariants.{Load, Stamp, Store}
use Rattle.structure_laws.specs.Scene.{Cells, Section, Scene}
use Rattle.structure_laws.specs.Meaning.{Meaning}
use Rattle.structure_laws.specs.Sections.{value_in, Here, IsStep, Unstamped}

-- by descriptor, whether its section has its stamp
abbrev pub Marks : Type 0
Marks = ℕ → Bool

module _ (m : Meaning) where
  -- the section comes to its Stamp, or has passed it
  abbrev pub HasCome : Section → Type 0
  HasCome x = (j : ℕ) × (j ≤ x.at) × IsStep m x j Stamp

  -- a stamped section has come to its Stamp, and no other one has passed it
  pub record AreMarked (s : Scene) (stamped : Marks) : Type 0 where
    pub come : (d : ℕ) (x : Section) → Here s d x → stamped d ≡ true → HasCome x
    pub before : (d : ℕ) (x : Section) → Here s d x → stamped d ≡ false → Unstamped m x

  -- the section has still to store this word to this place
  pub record StillStores (x : Section) (place word : ℕ) : Type 0 where
    pub at : ℕ
    pub loaded : ℕ
    pub reg : ℕ
    pub value : Value
    pub later : x.at ≤ at
    pub stores : IsStep m x at (Store reg value)
    pub loads : IsStep m x loaded (Load place reg)
    pub gives : word ≡ next_word (x.reg reg) (value_in x.reg value)

  -- a stamped section has still to store this word to this place
  pub record IsPending (s : Scene) (stamped : Marks) (place word : ℕ) : Type 0 where
    pub descriptor : ℕ
    pub section : Section
    pub here : Here s descriptor section
    pub marked : stamped descriptor ≡ true
    pub store : StillStores section place word

  -- these cells are those of the scene, once each stamped section has made its remaining Stores
  pub record IsCompleted (s : Scene) (stamped : Marks) (cells : Cells) : Type 0 where
    pub made : (p word : ℕ) → IsPending s stamped p word → cells p ≡ word
    pub kept : (p : ℕ) → ((word : ℕ) → IsPending s stamped p word → ⊥) → cells p ≡ s.cells p

  -- sections stand below this descriptor alone
  abbrev pub AreBelow : ℕ → Scene → Type 0
  AreBelow count s = (d : ℕ) → count ≤ d → s.section d ≡ None
