-- A lock that is held is watched.
use Rattle.std.specs.Prelude.{◌≡◌, ℕ, ◌-◌, ◌<◌, ◌==◌, Bool, true, false, Some, None}
use Rattle.machine_states.specs.body_terms.specs.Word.{value_of, is_free}
use Rattle.machine_states.specs.table_words.specs.declared.spot.Spot.TheVariants.{Cell}
use Rattle.machine_states.specs.table_words.specs.Places.{descriptor_count}
use Rattle.machine_states.specs.structure_laws.specs.Meaning.{Meaning}
use Rattle.machine_states.specs.epoch_core.specs.declared.stage.Stage.TheVariants as stages
use Rattle.machine_states.specs.runner_parts.specs.declared.event.EventKind.TheVariants as kinds
use Rattle.machine_states.specs.runner_parts.specs.Lists.{walked}
use Rattle.machine_states.specs.Sight.{sight}
use Rattle.machine_states.specs.runner_steps.specs.Outside.{is_sure_of}
use Rattle.section_runs.specs.commit_log.specs.next_steps.specs.Rooms.{cell_count}
use Rattle.section_runs.specs.commit_log.specs.version_words.specs.RunnerState.{RunnerState}
use Rattle.section_runs.specs.commit_log.specs.version_words.specs.Events.{Makes, IsMade}
use Rattle.section_runs.specs.commit_log.specs.version_words.specs.Stages.{IsAt}
use Rattle.epoch_slots.specs.Entries.{KeepsOwn}
use Rattle.try_lock.specs.Reached.{IsReached}

module _ {T : Type 0} (m : Meaning) (place held : ℕ) where
  -- the runner is entered and in no run, and has no published section; at this place of the table is a lock, and the
  -- word names a descriptor of the table
  pub record MayWatch (r : RunnerState T) : Type 0 where
    pub epoch : ℕ
    pub at : IsAt r (stages.Entered epoch) None
    pub lock : m.is_lock place ≡ true
    pub within : place < cell_count m r.layout
    pub names : is_free held ≡ false
    pub few : value_of held - 1 < descriptor_count r.layout

  -- the guard word was stored to name the descriptor, and then the lock loaded
  pub record Watched (same : Bool) (old new : RunnerState T) : Type 0 where
    pub found : ℕ
    pub guarding : RunnerState T
    pub guard : IsMade m (kinds.Guard (Some (value_of held - 1))) old guarding
    pub load : Makes m (kinds.LoadCell (Some place)) found guarding new
    pub told : same ≡ (found == held)
    -- where the lock has the word still, the section may be helped
    pub sure : same ≡ true → is_sure_of new.part.guards (value_of held - 1) ≡ true
    pub at : (epoch : ℕ) → IsAt old (stages.Entered epoch) None → IsAt new (stages.Entered epoch) None
    pub reads : new.part.reads ≡ walked old.part.reads place found
    pub guarded : new.part.guards.named ≡ Some (value_of held - 1)
    pub keeps : KeepsOwn old new
    -- the state that the machine reaches then, in which the lock has the word that was found
    pub reached : IsReached m new
    pub here : (sight m new.layout new.requests reached.world).word (Cell place) ≡ found
