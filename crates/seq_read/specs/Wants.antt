-- What a read finds in the cells that a body loads.
use Rattle.std.specs.Prelude.{◌≡◌, ◌≢◌, ℕ, ◌<◌, List, [], ◌∷◌, Bool, true, false, not, ◌==◌, ◌&&◌, map, take, length, slice_get, Option, Some, None, IfSome}
use Rattle.std.specs.List.{list_any}
use Rattle.machine_states.specs.body_terms.specs.Shape.{IsStep, is_look}
use Rattle.machine_states.specs.body_terms.specs.declared.step.Step.{Step}
use Rattle.machine_states.specs.body_terms.specs.declared.step.Step.TheVariants.{Load, Want}
use Rattle.machine_states.specs.structure_laws.specs.Scene.{Readings}
use Rattle.caller_facts.specs.Asking.{WasRead}
use Rattle.seq_read.specs.declared.cells.Loaded.{Loaded}
use Rattle.seq_read.specs.declared.wants.Missed.{Missed}

-- this step of the body is the first that changes something: it is no Load, Want, Stamp or Answer
pub record IsFirstChange (body : List Step) (at : ℕ) : Type 0 where
  pub step : Step
  pub here : IsStep body at step
  pub changes : is_look step ≡ false
  pub before : (i : ℕ) (x : Step) → i < at → IsStep body i x → is_look x ≡ true

-- a Want of the body asks for this word of a register, which a Load sets from this place, and another word was found
-- there
pub record IsUnmet (body : List Step) (found : Readings) (place expected read : ℕ) : Type 0 where
  pub reg : ℕ
  pub load : ℕ
  pub want : ℕ
  pub loads : IsStep body load (Load place reg)
  pub wants : IsStep body want (Want reg expected)
  pub seen : WasRead found place read
  pub other : expected ≢ read

-- the cells that these steps load, each with its register
abbrev pub loads_in : List Step → List (ℕ × ℕ)
loads_in [] = []
loads_in (Load place into ∷ steps) = (place, into) ∷ loads_in steps
loads_in (step ∷ steps) = loads_in steps

-- what was loaded, as readings, and into which registers
abbrev pub readings_of : List Loaded → Readings
readings_of xs = map (λ (x : Loaded). (x.place, x.word)) xs

abbrev pub cells_of : List Loaded → List (ℕ × ℕ)
cells_of xs = map (λ (x : Loaded). (x.place, x.into)) xs

-- these are the first of the cells that the steps load, in their order
abbrev pub AreFirst : List Step → List Loaded → Type 0
AreFirst steps xs = cells_of xs ≡ take (length xs) (loads_in steps)

-- another word than this one was loaded into this register
abbrev pub is_other : ℕ → ℕ → Loaded → Bool
is_other reg word x = x.into == reg && not (x.word == word)

-- the step is a Want of a register into which another word was loaded
abbrev pub is_missed : List Loaded → Step → Bool
is_missed xs (Want reg word) = list_any (is_other reg word) xs
is_missed xs _ = false

-- this step wants a word of a register, and another one was loaded into it, from this place
pub record IsMiss (xs : List Loaded) (step : Step) (place expected read : ℕ) : Type 0 where
  pub reg : ℕ
  pub wants : step ≡ Want reg expected
  pub load : ℕ
  pub loaded : Loaded
  pub loads : slice_get xs load ≡ Some loaded
  pub into : loaded.into ≡ reg
  pub from : loaded.place ≡ place
  pub found : loaded.word ≡ read
  pub other : expected ≢ read

-- the step of one of these
abbrev pub IsAmong : List Step → Step → Type 0
IsAmong steps step = (i : ℕ) × IsStep steps i step

-- these steps want this word of this register, and no other one
pub record WantOne (steps : List Step) (reg word : ℕ) : Type 0 where
  pub wants : IsAmong steps (Want reg word)
  pub met : (x : Loaded) → x.into ≡ reg → x.word ≡ word → list_any (is_missed (x ∷ [])) steps ≡ false

-- what these steps missed in these cells, if they missed anything
pub record IsTested (steps : List Step) (xs : List Loaded) (missed : Option Missed) : Type 0 where
  pub some : IfSome missed (λ x. (step : Step) × IsAmong steps step × IsMiss xs step x.place x.expected x.read)
  pub none : missed ≡ None → list_any (is_missed xs) steps ≡ false
