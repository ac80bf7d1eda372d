-- What one event of the machine leaves of the table's words.
use Rattle.std.specs.Prelude.{◌≡◌, ◌≢◌, ℕ, suc, ◌⊎◌, Bool, true, Some}
use Rattle.machine_states.specs.body_terms.specs.Word.{value_of}
use Rattle.machine_states.specs.table_words.specs.declared.spot.Spot.{Spot}
use Rattle.machine_states.specs.table_words.specs.declared.spot.Spot.TheVariants.{Cell, Stamp, Reply, ThunkWord, DoneWord, LogWord}
use Rattle.machine_states.specs.structure_laws.specs.Meaning.{Meaning}
use Rattle.machine_states.specs.runner_parts.specs.declared.event.EventKind.{EventKind}
use Rattle.machine_states.specs.runner_parts.specs.declared.event.EventKind.TheVariants as kinds
use Rattle.machine_states.specs.runner_parts.specs.State.{RunState, PartState}

-- words that stand; `used` says of each descriptor whether a section was published there and the
-- descriptor isn't free again
pub record WordsStand (used : ℕ → Bool) (word word' : Spot → ℕ) : Type 0 where
  -- a stamp word and a reply word that isn't 0
  pub stamp : (q : ℕ) → word (Stamp q) ≢ 0 → word' (Stamp q) ≡ word (Stamp q)
  pub reply : (q : ℕ) → word (Reply q) ≢ 0 → word' (Reply q) ≡ word (Reply q)
  -- while a descriptor isn't free again, its thunk words, a log word that isn't 0, and a done word
  -- that isn't 0
  pub thunk : (d i : ℕ) → used d ≡ true → word' (ThunkWord d i) ≡ word (ThunkWord d i)
  pub log : (d k : ℕ) → used d ≡ true → word (LogWord d k) ≢ 0
      → word' (LogWord d k) ≡ word (LogWord d k)
  pub done : (d : ℕ) → used d ≡ true → word (DoneWord d) ≢ 0
      → word' (DoneWord d) ≡ word (DoneWord d)
  -- and once its section is done, every log word
  pub whole : (d k : ℕ) → used d ≡ true → word (DoneWord d) ≢ 0
      → word' (LogWord d k) ≡ word (LogWord d k)

-- the step of a runner with this part releases a lock in a run of the section that this descriptor
-- has, which is done
pub record IsRelease (p : PartState) (kind : EventKind) (word : Spot → ℕ) (d : ℕ) : Type 0 where
  pub release : kind ≡ kinds.Release
  pub run : RunState
  pub runs : p.run ≡ Some run
  pub of_section : run.descriptor ≡ d
  pub done : word (DoneWord d) ≢ 0

-- a lock that names a section stands until a run of that section releases it, and that only once it is done
abbrev pub LocksStand : Meaning → PartState → EventKind → (Spot → ℕ) → (Spot → ℕ) → Type 0
LocksStand m p kind word word' = (place d : ℕ) → m.is_lock place ≡ true
    → value_of (word (Cell place)) ≡ suc d
    → (word' (Cell place) ≡ word (Cell place)) ⊎ IsRelease p kind word d
