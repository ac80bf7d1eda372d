-- How far the keeper has come with the locks of a table whose workers it has joined.
use Rattle.std.specs.Prelude.{◌≡◌, ◌≢◌, ℕ, ◌+◌, ◌*◌, ◌-◌, ◌<◌, ◌≤◌, List, [], true, length, None}
use Rattle.machine_states.specs.body_terms.specs.Trail.{Agreed}
use Rattle.machine_states.specs.body_terms.specs.Word.{value_of}
use Rattle.machine_states.specs.body_terms.specs.declared.outcome.Outcome.{Outcome}
use Rattle.machine_states.specs.body_terms.specs.declared.thunk.Thunk.{Thunk}
use Rattle.machine_states.specs.table_words.specs.Places.{slot_count, descriptor_count}
use Rattle.machine_states.specs.table_words.specs.declared.layout.Layout.{Layout}
use Rattle.machine_states.specs.structure_laws.specs.Meaning.{Meaning}
use Rattle.machine_states.specs.epoch_core.specs.declared.stage.Stage.TheVariants as stages
use Rattle.machine_states.specs.runner_parts.specs.Tests.{has}
use Rattle.try_lock.specs.commit_log.specs.version_words.specs.RunnerState.{RunnerState}
use Rattle.try_lock.specs.commit_log.specs.version_words.specs.Stages.{IsAt}
use Rattle.try_lock.specs.section_runs.specs.Reached.{IsReached, run_blocks}
use Rattle.try_lock.specs.section_runs.specs.Ended.{EndsSo}
use Rattle.keeper_facts.specs.Freed.{HasLeft, IsCleared, IsFreed, AreApart}
use Rattle.settling.specs.Settled.{IsFront, LoadsLocks}

-- how many cells the table has
abbrev pub cell_count : Meaning → Layout → ℕ
cell_count m l = m.fixed_cells + 5 * slot_count l m.fixed_slots

module _ {T : Type 0} where
  -- what the keeper keeps along its way: whom it has joined and their parts, and what it knew
  pub record KeepsJoins (old new : RunnerState T) : Type 0 where
    pub layout : new.layout ≡ old.layout
    pub number : new.number ≡ old.number
    pub joined : new.joined ≡ old.joined
    pub told : new.part.records.joined ≡ old.part.records.joined
    pub crosses : new.part.records.crosses ≡ old.part.records.crosses
    pub known : IsFront old.part.records.known new.part.records.known
    -- it brought no fewer runs to their end, and where no more, its node slots are where they were
    pub more : length old.part.records.finished ≤ length new.part.records.finished
    pub quiet : length new.part.records.finished ≡ length old.part.records.finished → new.part.nodes ≡ old.part.nodes

  module _ (m : Meaning) where
    -- the keeper is entered and has gone over the locks below this place: each of them is cleared, and of the
    -- sections that it ran, which are different, no lock names one any more. Before the first of these runs it had
    -- brought so many to their end
    pub record IsUnderway (begun below : ℕ) (r : RunnerState T) : Type 0 where
      pub epoch : ℕ
      pub at : IsAt r (stages.Entered epoch) None
      pub keeper : r.number ≡ r.layout.runners
      pub told : (worker : ℕ) → worker < r.layout.runners → has r.part.records.joined worker ≡ true
      pub reached : IsReached m r
      pub hand : r.part.nodes.hand ≡ []
      pub tests : r.part.nodes.tests ≡ []
      pub loaded : LoadsLocks m r.part.reads.walk
      pub cleared : (place : ℕ) → place < below → m.is_lock place ≡ true → IsCleared r.part.records.left place
      pub freed : List ℕ
      pub apart : AreApart freed
      pub each : (d : ℕ) → has freed d ≡ true → IsFreed m r.part.records.left d
      pub reserve : 2 * r.layout.runners + 2 ≤ length r.part.nodes.free + 2 * length freed
      pub blocks : run_blocks * r.layout.runners ≤ length r.part.blocks.free + run_blocks * length freed
      pub runs : length r.part.records.finished ≡ begun + length freed
      -- no sweep is in progress
      pub looked : r.part.guards.looked ≡ []

    -- so it is, and its guard word names nothing
    pub record IsClearing (begun below : ℕ) (r : RunnerState T) : Type 0 where
      pub way : IsUnderway begun below r
      pub unguarded : r.part.guards.named ≡ None

    -- it has loaded the next lock too, which had this word, and so named a section
    pub record HasMet (begun place held : ℕ) (r : RunnerState T) : Type 0 where
      pub clearing : IsClearing begun place r
      pub seen : HasLeft r.part.records.left place held
      pub names : value_of held ≢ 0
      pub few : value_of held - 1 < descriptor_count r.layout

    -- the section in this descriptor was run to its end
    pub record HasRun (d : ℕ) (old new : RunnerState T) : Type 0 where
      pub thunk : Thunk
      pub outcome : Outcome
      pub trail : Agreed
      pub made : ℕ
      pub ends : EndsSo m d thunk outcome trail made old new
