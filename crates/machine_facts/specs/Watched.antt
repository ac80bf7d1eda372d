-- A lock that a runner read held, and that has another word now: the section that held it was done.
use Rattle.std.specs.Prelude.{◌≡◌, ◌≢◌, ◌⊎◌, ℕ, suc, true, List, Some}
use Rattle.machine_states.specs.map_history.specs.declared.op.Request.{Request}
use Rattle.machine_states.specs.body_terms.specs.Word.{value_of}
use Rattle.machine_states.specs.table_words.specs.Limits.{IsWithinLimits}
use Rattle.machine_states.specs.table_words.specs.declared.layout.Layout.{Layout}
use Rattle.machine_states.specs.table_words.specs.declared.spot.Spot.TheVariants.{Cell, DoneWord}
use Rattle.machine_states.specs.structure_laws.specs.Meaning.{Meaning}
use Rattle.machine_states.specs.runner_parts.specs.declared.event.Event.{Event}
use Rattle.machine_states.specs.runner_parts.specs.Tests.{has_pair}
use Rattle.machine_states.specs.World.{World, run}
use Rattle.machine_states.specs.Reached.{Reached}
use Rattle.machine_states.specs.Sight.{sight}
use Rattle.machine_invariant.specs.After.{AreAllowed}

module _ (m : Meaning) (l : Layout) (requests : List Request) where
  -- in a state from which events lead to this one, the lock at this place had this word, and the section that this
  -- descriptor then had was done
  pub record WasDone (w : World) (place word d : ℕ) : Type 0 where
    pub earlier : World
    pub reached : Reached m l requests earlier
    pub events : List Event
    pub leads : run m l requests earlier events ≡ Some w
    pub held : (sight m l requests earlier).word (Cell place) ≡ word
    pub done : (sight m l requests earlier).word (DoneWord d) ≢ 0

  -- a lock at which a runner has read, since it entered, a word that names a section has that word still, or the
  -- section was done while it had it
  abbrev pub SeenLocksStand : World → Type 0
  SeenLocksStand w = (r place word d : ℕ) → m.is_lock place ≡ true → value_of word ≡ suc d
      → has_pair ((sight m l requests w).part r).reads.cells place word ≡ true
      → ((sight m l requests w).word (Cell place) ≡ word) ⊎ WasDone w place word d

  -- so it is in each state that the machine reaches
  abbrev pub ReachedSeenLocksStand : Type 0
  ReachedSeenLocksStand = IsWithinLimits l → AreAllowed requests → (w : World) → Reached m l requests w
      → SeenLocksStand w
