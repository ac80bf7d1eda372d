-- What a plan may be refused by with one worker.
use Rattle.std.specs.Prelude.{◌≡◌, ◌⊎◌, ℕ, true, false, slice_get, Some, None}
use Rattle.machine_states.specs.map_history.specs.declared.op.Op.{Op}
use Rattle.machine_states.specs.table_words.specs.Limits.{IsWithinLimits}
use Rattle.machine_states.specs.table_words.specs.declared.spot.Spot.TheVariants.{Cell}
use Rattle.machine_states.specs.structure_laws.specs.Scene.{Readings}
use Rattle.machine_states.specs.structure_laws.specs.Meaning.{Meaning}
use Rattle.machine_states.specs.structure_laws.specs.Cells.{IsKnown}
use Rattle.machine_states.specs.structure_laws.specs.Sections.{IsAllowed}
use Rattle.machine_states.specs.epoch_core.specs.declared.stage.Stage.TheVariants as stages
use Rattle.machine_states.specs.Sight.{sight}
use Rattle.one_worker.specs.machine_facts.specs.machine_invariant.specs.After.{AreAllowed}
use Rattle.one_worker.specs.Alone.{HasPublishedNone}
use Rattle.lock_walks.specs.version_words.specs.RunnerState.{RunnerState}
use Rattle.lock_walks.specs.version_words.specs.Stages.{IsAt}
use Rattle.lock_walks.specs.try_lock.specs.declared.planned.Planned.{Planned}
use Rattle.lock_walks.specs.try_lock.specs.declared.planned.Planned.TheVariants as plans
use Rattle.lock_walks.specs.try_lock.specs.Planning.{Planning}
use Rattle.lock_walks.specs.try_lock.specs.Plans.{Loads, IsWalk, Answers}
use Rattle.lock_walks.specs.try_lock.specs.Reached.{IsReached}

-- no lock was held, no node was taken out, and no walk was too far: the plan is whole, or it met a word with too few
-- versions left, or its gate halted it
abbrev pub NobodyRefuses : Planned → Type 0
NobodyRefuses (plans.Busy place word) = ⊥
NobodyRefuses (plans.Stale place expected read) = ⊥
NobodyRefuses (plans.Far loads) = ⊥
NobodyRefuses _ = Unit {0}

module _ {T : Type 0} where
  -- a runner of a table with one worker
  pub record IsLone (r : RunnerState T) : Type 0 where
    pub limits : IsWithinLimits r.layout
    pub allowed : AreAllowed r.requests
    pub one : r.layout.runners ≡ 1

  -- it is the worker, is entered and in no run, and has published nothing since it entered
  pub record IsAlone (r : RunnerState T) : Type 0 where
    pub lone : IsLone r
    pub worker : r.number ≡ 0
    pub epoch : ℕ
    pub at : IsAt r (stages.Entered epoch) None
    pub fresh : HasPublishedNone r.part

module _ {T : Type 0} (m : Meaning) where
  -- since it entered it has read nothing but this walk of an operation that is served; so it was entered
  pub record HasWalkedAlone (planning : Planning) (op : Op) (readings : Readings) (entered r : RunnerState T)
      : Type 0 where
    pub alone : IsAlone r
    pub loads : Loads m readings entered r
    pub read : r.part.reads.walk ≡ readings
    pub reached : IsReached m r
    pub allowed : IsAllowed op
    pub served : planning.serves op ≡ true
    pub walk : IsWalk m planning r.layout op readings

  -- what it has read since it entered stands; of locks this is said where the readings give the place
  abbrev pub ReadingsStand : RunnerState T → Type 0
  ReadingsStand r = (is : IsReached m r) (i place word : ℕ) → slice_get r.part.reads.walk i ≡ Some (place, word)
      → (m.is_lock place ≡ false) ⊎ IsKnown m r.part.reads.walk place
      → (sight m r.layout r.requests is.world).word (Cell place) ≡ word

-- with one worker
pub record LonePlansMeetNobody (T : Type 0) (m : Meaning) (planning : Planning) : Type 0 where
  -- a plan is refused by nothing but a word with too few versions left
  pub answers : (op : Op) (number : ℕ) (readings : Readings) (answer : Planned) (entered r : RunnerState T)
      → HasWalkedAlone m planning op readings entered r
      → Answers m planning r.layout op number readings answer → NobodyRefuses answer
  -- and what was read stands
  pub stands : (r : RunnerState T) → IsAlone r → ReadingsStand m r
