-- What the words of locks name that runners have read, where these are sure of the descriptor.
use Rattle.std.specs.Prelude.{ℕ, suc, ◌≡◌, ◌⊎◌, true, false, length, slice_get, Some}
use Rattle.machine_states.specs.body_terms.specs.Line.{line, micro_at}
use Rattle.machine_states.specs.body_terms.specs.Word.{value_of, held_word}
use Rattle.machine_states.specs.body_terms.specs.declared.micro.Micro.TheVariants.{NestedHold}
use Rattle.machine_states.specs.table_words.specs.declared.spot.Spot.{Spot}
use Rattle.machine_states.specs.structure_laws.specs.Meaning.{Meaning}
use Rattle.machine_states.specs.runner_parts.specs.State.{PartState}
use Rattle.machine_states.specs.runner_parts.specs.Tests.{has}
use Rattle.machine_states.specs.runner_steps.specs.Outside.{is_sure_of}
use Rattle.machine_states.specs.Sight.{Sight}
use Rattle.machine_facts.specs.machine_agreement.specs.machine_epochs.specs.Slots.{thunk_in}

-- the section whose thunk stands in this descriptor's words has this lock with this held word: its
-- outer lock, or that of one of its Takes
abbrev pub HasLock : Meaning → (Spot → ℕ) → ℕ → ℕ → ℕ → Type 0
HasLock m word d place held = ((place ≡ (thunk_in word d).lock) × (held ≡ held_word d (thunk_in word d).word))
    ⊎ ((i free : ℕ) × (micro_at (line (m.body (thunk_in word d))) i ≡ NestedHold place free)
    × (held ≡ held_word d free))

-- this is the last word that the runner read outside a run, in its walk
pub record HasReadLast (p : PartState) (place word : ℕ) : Type 0 where
  pub at : ℕ
  pub here : slice_get p.reads.walk at ≡ Some (place, word)
  pub last : length p.reads.walk ≡ suc at

-- the last word that this runner read in its walk is a lock's and names this descriptor, and the runner is sure of it:
-- its guard word names it, and it has seen it published since
pub record IsNamed (m : Meaning) (s : Sight) (r place word d : ℕ) : Type 0 where
  pub read : HasReadLast (s.part r) place word
  pub lock : m.is_lock place ≡ true
  pub names : value_of word ≡ suc d
  pub sure : is_sure_of (s.part r).guards d ≡ true

-- the section that the word named is still in the descriptor. And each descriptor of which a runner is sure is in
-- nobody's free list
pub record NamesStand (m : Meaning) (s : Sight) : Type 0 where
  pub lock : (r place word d : ℕ) → IsNamed m s r place word d → HasLock m s.word d place word
  pub unfree : (r d : ℕ) → is_sure_of (s.part r).guards d ≡ true → (r' : ℕ)
      → has (s.part r').descriptors.free d ≡ false
