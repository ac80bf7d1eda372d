-- The worker on its way to a section and through it.
use Rattle.std.specs.Prelude.{◌≡◌, ℕ, ◌<◌, ◌≤◌, List, [], true, length, slice_get, Some, None}
use Rattle.machine_states.specs.body_terms.specs.declared.thunk.Thunk.{Thunk}
use Rattle.machine_states.specs.table_words.specs.Places.{attempt_blocks}
use Rattle.machine_states.specs.structure_laws.specs.Tray.{tray}
use Rattle.machine_states.specs.runner_parts.specs.declared.entries.Known.{Known}
use Rattle.machine_states.specs.epoch_core.specs.declared.stage.Stage.TheVariants as stages
use Rattle.machine_states.specs.runner_parts.specs.Tests.{has_pair}
use Rattle.table_steps.specs.version_words.specs.RunnerState.{RunnerState}
use Rattle.table_steps.specs.version_words.specs.Stages.{IsAt}
use Rattle.try_lock.specs.epoch_slots.specs.Collects.{IsTidy}
use Rattle.try_lock.specs.Reached.{IsReached, MayRunSection}
use Rattle.try_lock.specs.declared.section.Section.{Section}

-- what is known is of requests below this one
pub record KnowsBelow (request : ℕ) (known : List Known) : Type 0 where
  pub below : (i : ℕ) (x : Known) → slice_get known i ≡ Some x → x.request < request

module _ {T : Type 0} where
  -- the worker is idle with an empty hand and no guard, and knows nothing of this request
  pub record IsBefore (request : ℕ) (r : RunnerState T) : Type 0 where
    pub tidy : IsTidy r
    pub number : r.number ≡ 0
    pub knows : KnowsBelow request r.part.records.known

  -- it is entered, has read this word of the lock, and has slots for a section
  pub record HasRead (request word : ℕ) (r : RunnerState T) : Type 0 where
    pub epoch : ℕ
    pub at : IsAt r (stages.Entered epoch) None
    pub read : has_pair r.part.reads.cells 0 word ≡ true
    pub number : r.number ≡ 0
    pub knows : KnowsBelow request r.part.records.known
    pub nodes : 2 ≤ length r.part.nodes.free
    pub descriptors : 1 ≤ length r.part.descriptors.free
    pub blocks : attempt_blocks ≤ length r.part.blocks.free
    pub hand : r.part.nodes.hand ≡ []
    pub tests : r.part.nodes.tests ≡ []
    pub looked : r.part.guards.looked ≡ []
    pub reached : IsReached tray r

  -- it may run the request's section, which is its own
  pub record MayRun (request : ℕ) (section : Section) (r : RunnerState T) : Type 0 where
    pub thunk : Thunk
    pub serves : thunk.request ≡ request
    pub may : MayRunSection tray r thunk section
    pub number : r.number ≡ 0
    pub knows : KnowsBelow request r.part.records.known
    pub hand : r.part.nodes.hand ≡ []
    pub tests : r.part.nodes.tests ≡ []
    pub looked : r.part.guards.looked ≡ []
