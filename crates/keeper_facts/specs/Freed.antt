-- What the keeper's record of its steps tells of the locks, once it has joined all workers.
use Rattle.std.specs.Prelude.{◌≡◌, ◌≢◌, ◌⊎◌, ℕ, suc, ◌<◌, ◌≤◌, List, [], ◌∷◌, true, false, length, slice_get, None, Some}
use Rattle.machine_states.specs.body_terms.specs.Word.{value_of}
use Rattle.machine_states.specs.table_words.specs.declared.layout.Layout.{Layout}
use Rattle.machine_states.specs.table_words.specs.declared.spot.Spot.TheVariants.{Cell}
use Rattle.machine_states.specs.structure_laws.specs.Meaning.{Meaning}
use Rattle.machine_states.specs.runner_parts.specs.declared.entries.Left.{Left}
use Rattle.machine_states.specs.runner_parts.specs.declared.entries.Published.{Published}
use Rattle.machine_states.specs.runner_parts.specs.Tests.{has}
use Rattle.machine_states.specs.Sight.{Sight}
use Rattle.runner_facts.specs.Keeper.{AllJoined}

-- among what the keeper's steps since its last join left is this number in this cell
pub record HasLeft (left : List Left) (place number : ℕ) : Type 0 where
  pub at : ℕ
  pub entry : Left
  pub here : slice_get left at ≡ Some entry
  pub spot : entry.spot ≡ Cell place
  pub number_is : entry.number ≡ number

-- the keeper saw this lock free, or with two words
pub record IsCleared (left : List Left) (place : ℕ) : Type 0 where
  pub first : ℕ
  pub second : ℕ
  pub seen : HasLeft left place first
  pub also : HasLeft left place second
  pub why : (value_of first ≡ 0) ⊎ (first ≢ second)

-- a lock named the section in this descriptor, as the keeper saw it
pub record IsNamed (m : Meaning) (left : List Left) (d : ℕ) : Type 0 where
  pub place : ℕ
  pub lock : m.is_lock place ≡ true
  pub word : ℕ
  pub named : HasLeft left place word
  pub names : value_of word ≡ suc d

-- a lock named the section in this descriptor, and the keeper saw it with another word too
pub record IsFreed (m : Meaning) (left : List Left) (d : ℕ) : Type 0 where
  pub place : ℕ
  pub lock : m.is_lock place ≡ true
  pub word : ℕ
  pub other : ℕ
  pub named : HasLeft left place word
  pub names : value_of word ≡ suc d
  pub also : HasLeft left place other
  pub differs : other ≢ word

-- this worker has published a section in this descriptor, and not retired it
pub record IsPublished (l : Layout) (s : Sight) (d : ℕ) : Type 0 where
  pub worker : ℕ
  pub low : worker < l.runners
  pub section : Published
  pub published : (s.part worker).published ≡ Some section
  pub of_section : section.descriptor ≡ d

-- no number comes twice
abbrev pub AreApart : List ℕ → Type 0
AreApart [] = Unit {0}
AreApart (d ∷ ds) = (has ds d ≡ false) × AreApart ds

-- the keeper has joined all workers, and is in no run
pub record IsAlone (l : Layout) (s : Sight) : Type 0 where
  pub joined : AllJoined l s
  pub resting : (s.part l.runners).run ≡ None

-- what stands in this cell is in the keeper's record
pub record StandsSeen (left : List Left) (place word : ℕ) : Type 0 where
  pub number : ℕ
  pub has : HasLeft left place number
  pub is : word ≡ number

pub record LocksTell (m : Meaning) (l : Layout) (s : Sight) : Type 0 where
  -- no lock names a section that was freed: the keeper brought it to its end
  pub freed : IsAlone l s → (d place : ℕ) → IsFreed m (s.part l.runners).records.left d → m.is_lock place ≡ true
      → value_of (s.word (Cell place)) ≢ suc d
  -- a lock that was cleared names no section
  pub cleared : IsAlone l s → (place : ℕ) → IsCleared (s.part l.runners).records.left place → m.is_lock place ≡ true
      → value_of (s.word (Cell place)) ≡ 0
  -- a section that was freed is one that a worker has published still
  pub owned : AllJoined l s → (d : ℕ) → IsFreed m (s.part l.runners).records.left d → IsPublished l s d
  -- each worker left one section at most: so many were named by locks, as the keeper saw them
  pub few : AllJoined l s → (ds : List ℕ) → AreApart ds
      → ((d : ℕ) → has ds d ≡ true → IsNamed m (s.part l.runners).records.left d) → length ds ≤ l.runners
  -- a cell that the record has holds a number that the record has for it
  pub stands : AllJoined l s → (place number : ℕ) → HasLeft (s.part l.runners).records.left place number
      → StandsSeen (s.part l.runners).records.left place (s.word (Cell place))
