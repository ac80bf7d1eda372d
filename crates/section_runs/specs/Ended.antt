-- How a run of a section ended.
use Rattle.std.specs.Prelude.{◌≡◌, ◌≢◌, ℕ, suc, ◌+◌, ◌≤◌, ◌⊎◌, List, [], ◌∷◌, ◌++◌, Bool, true, count_by, sum_by, length, Some, None}
use Rattle.idem_cell.specs.machine_states.specs.body_terms.specs.Cost.{cost_of, step_cost}
use Rattle.idem_cell.specs.machine_states.specs.body_terms.specs.Line.{line, micro_at}
use Rattle.idem_cell.specs.machine_states.specs.body_terms.specs.Plain.{first_values}
use Rattle.idem_cell.specs.machine_states.specs.body_terms.specs.Shape.{is_make, is_retire, is_take}
use Rattle.idem_cell.specs.machine_states.specs.body_terms.specs.Run.{leaves}
use Rattle.idem_cell.specs.machine_states.specs.body_terms.specs.Trail.{Agreed}
use Rattle.idem_cell.specs.machine_states.specs.body_terms.specs.Word.{value_of}
use Rattle.idem_cell.specs.machine_states.specs.body_terms.specs.declared.outcome.Outcome.{Outcome}
use Rattle.idem_cell.specs.machine_states.specs.body_terms.specs.declared.outcome.Outcome.TheVariants.{Answered}
use Rattle.idem_cell.specs.machine_states.specs.body_terms.specs.declared.step.Step.{Step}
use Rattle.idem_cell.specs.machine_states.specs.body_terms.specs.declared.thunk.Thunk.{Thunk}
use Rattle.idem_cell.specs.machine_states.specs.table_words.specs.declared.spot.Spot.TheVariants.{Cell, DoneWord}
use Rattle.idem_cell.specs.runner_gate.specs.Asks.{Asks}
use Rattle.idem_cell.specs.machine_states.specs.structure_laws.specs.Meaning.{Meaning}
use Rattle.idem_cell.specs.machine_states.specs.body_terms.specs.block_words.specs.Blocks.{log_in}
use Rattle.idem_cell.specs.machine_states.specs.runner_parts.specs.declared.entries.Retired.{Retired}
use Rattle.idem_cell.specs.machine_states.specs.runner_parts.specs.State.{NodesState, BlocksState, FinishedState}
use Rattle.idem_cell.specs.machine_states.specs.runner_parts.specs.Tests.{is_answered}
use Rattle.idem_cell.specs.machine_states.specs.runner_parts.specs.Lists.{blocks_retired}
use Rattle.idem_cell.specs.machine_states.specs.runner_steps.specs.AfterInRun.{kept_unless, retired_if}
use Rattle.idem_cell.specs.machine_states.specs.runner_steps.specs.Sections.{setting_of}
use Rattle.idem_cell.specs.machine_states.specs.Sight.{Sight, sight}
use Rattle.idem_cell.specs.machine_epochs.specs.Slots.{thunk_in}
use Rattle.nested_lock.specs.machine_facts.specs.machine_invariant.specs.Along.{Components}
use Rattle.nested_lock.specs.machine_facts.specs.machine_invariant.specs.Trails.{IsEndOf}
use Rattle.nested_lock.specs.machine_facts.specs.States.{FactsStand}
use Rattle.idem_alloc.specs.commit_log.specs.version_words.specs.RunnerState.{RunnerState}
use Rattle.idem_alloc.specs.commit_log.specs.Runs.{Ran}
use Rattle.idem_alloc.specs.commit_log.specs.Asked.{IsAsked}
use Rattle.idem_alloc.specs.commit_log.specs.Halted.{IsHalted}
use Rattle.section_runs.specs.Reached.{IsReached, events_after}
use Rattle.section_runs.specs.Bodies.{body_blocks, body_links}
use Rattle.section_runs.specs.Opened.{Learns, ReadsOthers, IsOpening, HasOpened}
use Rattle.section_runs.specs.declared.runs.RunEnd.{RunEnd}
use Rattle.section_runs.specs.declared.runs.RunEnd.TheVariants.{Done, Halted}

-- what a run leaves of the own node slots: at most one free slot fewer for each Make, the hand and what was looked at
-- as before, and in limbo also what was retired in the run, at most one slot for each Retire
pub record NodesRan (body : List Step) (old new : NodesState) : Type 0 where
  pub free : length old.free ≤ length new.free + count_by is_make body
  pub hand : new.hand ≡ old.hand
  pub tests : old.tests ≡ [] → new.tests ≡ []
  pub more : List Retired
  pub limbo : new.limbo ≡ old.limbo ++ more
  pub few : length more ≤ count_by is_retire body

-- what a run of this descriptor's section leaves of the own blocks: at most so many were linked, which lie in limbo
-- under it, and the others are free
pub record BlocksRan (most d : ℕ) (old new : BlocksState) : Type 0 where
  pub won : List ℕ
  pub few : length won ≤ most
  pub free : length old.free ≤ length new.free + length won
  pub limbo : new.limbo ≡ (blocks_retired (record old { free = new.free }) won d).limbo

-- the section of this descriptor, with this thunk, is done, as the words of this state say: no lock names it, and its
-- log is the trail
pub record IsDone (m : Meaning) (d : ℕ) (t : Thunk) (trail : List ℕ) (s : Sight) : Type 0 where
  pub thunk : thunk_in s.word d ≡ t
  pub done : s.word (DoneWord d) ≢ 0
  pub unnamed : (p : ℕ) → m.is_lock p ≡ true → value_of (s.word (Cell p)) ≢ suc d
  pub whole : trail ≡ first_values (length trail) (log_in s.word d)
  pub over : (k : ℕ) → length trail ≤ k → log_in s.word d k ≡ 0

module _ {T : Type 0} (m : Meaning) where
  -- the runner ran this section to its end, in so many steps, with this outcome and this trail. What is kept of the run
  -- says so, the section is done, and all that is known of a reached state is known of this one: so outcome and trail
  -- are those of the plain run of the body with the choices of the log, and those of each other run of the section
  pub record EndsSo (d : ℕ) (t : Thunk) (outcome : Outcome) (trail : Agreed) (made : ℕ)
      (old new : RunnerState T) : Type 0 where
    pub finished : FinishedState
    pub kept : new.part.records.finished ≡ old.part.records.finished ++ finished ∷ []
    pub of_descriptor : finished.descriptor ≡ d
    pub lock : finished.lock ≡ t.lock
    pub word : finished.word ≡ t.word
    pub same_outcome : finished.outcome ≡ outcome
    pub same_trail : finished.trail ≡ trail.words
    pub same_late : finished.late ≡ trail.late
    pub reached : IsReached m new
    pub is_done : IsDone m d t trail.words (sight m new.layout new.requests reached.world)
    pub components : Components
    pub facts : FactsStand m new.layout (sight m new.layout new.requests reached.world) components
    pub used : components.agreement.used d ≡ true
    pub ends : IsEndOf m components.agreement (sight m new.layout new.requests reached.world) new.number d finished
    -- how it came there: its opening, and the steps behind it, which are counted
    pub opened : RunnerState T
    pub opening : HasOpened m d t trail.late old opened
    pub count : ℕ
    pub ran : Ran m count opened new
    pub counted : made ≡ 13 + count
    pub few : made ≤ cost_of (m.body t) + body_links (m.body t)
    pub events : new.part.records.events ≡ events_after old.part.records.events made
    -- what becomes of the own part
    pub layout : new.layout ≡ old.layout
    pub number : new.number ≡ old.number
    pub present : new.part.gone ≡ old.part.gone
    pub stage : new.part.stage ≡ old.part.stage
    pub resting : new.part.run ≡ None
    pub published : new.part.published ≡ kept_unless old.part.published d
    pub descriptors : new.part.descriptors ≡ retired_if old.part.descriptors old.part.published d
    pub nodes : NodesRan (m.body t) old.part.nodes new.part.nodes
    -- of the own blocks, those that the run linked lie in limbo under the section's descriptor, and it has no other one
    pub blocks : BlocksRan (body_blocks (m.body t)) d old.part.blocks new.part.blocks
    pub left_nodes : ((reply : ℕ) → outcome ≢ Answered reply) → new.part.nodes ≡ old.part.nodes
    -- its guard word names what it named, and it knows what it has read on the way to a lock, and without a lock
    pub guards : new.part.guards ≡ old.part.guards
    pub walk : new.part.reads.walk ≡ old.part.reads.walk
    pub look : new.part.reads.look ≡ old.part.reads.look
    -- in the run it didn't read the word again that its lock had when the section was published
    pub cells : ReadsOthers t.lock t.word old.part.reads.cells new.part.reads.cells
    -- what was learned is of the section's request
    pub learns : Learns t.request old.part.records.known new.part.records.known
    -- where the section answered, its runner knows both words of its request
    pub told : (answer : ℕ) → outcome ≡ Answered answer → is_answered new.part.records.known t.request ≡ true
    -- a section that left did so at a check of its body's line, by the words of the trail
    pub cause : ((reply : ℕ) → outcome ≢ Answered reply)
        → (at : ℕ)
        × (leaves (setting_of new.layout d) trail.words (micro_at (line (m.body t)) at) ≡ Some outcome)

  -- behind its opening, a gate halted the runner in its run
  pub record RanShort (d made : ℕ) (old new : RunnerState T) : Type 0 where
    pub thunk : Thunk
    pub late : Bool
    pub opened : RunnerState T
    pub opening : HasOpened m d thunk late old opened
    pub count : ℕ
    pub ran : Ran m count opened new
    pub counted : made ≡ 13 + count
    pub few : made ≤ cost_of (m.body thunk) + body_links (m.body thunk)

  -- a gate halted the runner behind one of the steps of its run, so many: in the opening or behind it
  abbrev pub IsCutShort : ℕ → ℕ → RunnerState T → RunnerState T → Type 0
  IsCutShort d made old new = ((words : List ℕ) × IsOpening m made d words old new) ⊎ RanShort d made old new

-- how many steps a run makes behind its opening
abbrev pub rest_of : List Step → ℕ
rest_of body = sum_by step_cost body + body_links body + (2 + count_by is_take body)

-- what a run tells behind its opening, of the section of this descriptor, with this thunk, which it found done or not
module _ {T : Type 0} (m : Meaning) where
  -- where it came to its end
  abbrev pub EndsOpened : ℕ → Thunk → Bool → RunEnd → RunnerState T → RunnerState T
      → ℕ → ℕ → Asks → Asks → ℕ → ℕ → Type 0
  EndsOpened d t late end old new halts halts' asks asks' steps steps' =
      (before : RunnerState T) (o : Outcome) (trail : Agreed) → HasOpened m d t late before old → end ≡ Done o trail
      → (made : ℕ) × EndsSo m d t o trail (13 + made) before new
      × IsAsked made true halts halts' asks asks' steps steps'

  -- and where the gate halted it
  abbrev pub HaltsOpened : Thunk → RunEnd → RunnerState T → RunnerState T
      → ℕ → ℕ → Asks → Asks → ℕ → ℕ → Type 0
  HaltsOpened t end old new halts halts' asks asks' steps steps' =
      end ≡ Halted → IsHalted m (rest_of (m.body t)) old new halts halts' asks asks' steps steps'
