-- A lock that a section has got by a Take has the section's word until the section is done.
use Rattle.std.specs.Prelude.{◌≡◌, ℕ, suc, List, length, slice_get, Some}
use Rattle.machine_states.specs.map_history.specs.declared.op.Request.{Request}
use Rattle.machine_states.specs.body_terms.specs.Line.{micro_at}
use Rattle.machine_states.specs.body_terms.specs.Word.{held_word}
use Rattle.machine_states.specs.body_terms.specs.declared.micro.Micro.TheVariants.{NestedHold, OutcomeCommit}
use Rattle.machine_states.specs.table_words.specs.Limits.{IsWithinLimits}
use Rattle.machine_states.specs.table_words.specs.declared.layout.Layout.{Layout}
use Rattle.machine_states.specs.table_words.specs.declared.spot.Spot.TheVariants.{Cell, DoneWord}
use Rattle.machine_states.specs.structure_laws.specs.Meaning.{Meaning}
use Rattle.machine_states.specs.runner_parts.specs.State.{RunState}
use Rattle.machine_states.specs.runner_steps.specs.Sections.{line_of}
use Rattle.machine_states.specs.World.{World}
use Rattle.machine_states.specs.Reached.{Reached}
use Rattle.machine_states.specs.Sight.{Sight, sight}
use Rattle.machine_invariant.specs.After.{AreAllowed}

-- the run is behind a Take of this lock, which was expected to be free with this word: the outcome on which its section
-- has agreed there is the word by which the lock names the section
pub record HasGot (m : Meaning) (q : RunState) (place free : ℕ) : Type 0 where
  pub at : ℕ
  pub log : ℕ
  pub takes : micro_at (line_of m q) at ≡ NestedHold place free
  pub commits : micro_at (line_of m q) (suc (suc at)) ≡ OutcomeCommit place log
  pub agreed : slice_get q.trail log ≡ Some (held_word q.descriptor free)

-- until the section is done, the lock has that word
abbrev pub GotLocksAreHeld : Meaning → Sight → Type 0
GotLocksAreHeld m s = (r place free : ℕ) (q : RunState) → (s.part r).run ≡ Some q → length q.opened ≡ 13
    → HasGot m q place free → s.word (DoneWord q.descriptor) ≡ 0 → s.word (Cell place) ≡ held_word q.descriptor free

-- and so in each state that the machine reaches
abbrev pub ReachedGotLocksAreHeld : Meaning → Layout → List Request → Type 0
ReachedGotLocksAreHeld m l requests = IsWithinLimits l → AreAllowed requests → (w : World) → Reached m l requests w
    → GotLocksAreHeld m (sight m l requests w)
