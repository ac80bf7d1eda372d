-- How a run goes through the steps of its body.
use Rattle.std.specs.Prelude.{◌≡◌, ◌≢◌, ℕ, suc, ◌+◌, ◌≤◌, ◌<◌, cond, List, [], ◌++◌, count_by, take, length, false, None}
pub use Rattle.idem_cell.specs.machine_states.specs.body_terms.specs.Cost.{body_words, body_blocks, body_links}
use Rattle.idem_cell.specs.machine_states.specs.body_terms.specs.Line.{micro_at, is_event, registers_before, releases}
use Rattle.idem_cell.specs.machine_states.specs.body_terms.specs.Shape.{IsStep, phase, is_make, is_retire}
use Rattle.idem_cell.specs.machine_states.specs.body_terms.specs.declared.outcome.Outcome.{Outcome}
use Rattle.idem_cell.specs.machine_states.specs.body_terms.specs.declared.outcome.Outcome.TheVariants.{Answered}
use Rattle.idem_cell.specs.machine_states.specs.body_terms.specs.declared.step.Step.{Step}
use Rattle.idem_cell.specs.section_lines.specs.Rests.{rests, taken_releases}
use Rattle.idem_cell.specs.machine_states.specs.structure_laws.specs.Meaning.{Meaning}
use Rattle.idem_cell.specs.machine_states.specs.runner_parts.specs.declared.entries.Retired.{Retired}
use Rattle.idem_cell.specs.machine_states.specs.runner_parts.specs.State.{RunState, NodesState}
use Rattle.idem_cell.specs.machine_states.specs.runner_steps.specs.Sections.{thunk_of, setting_of, outcome_of, line_of}
use Rattle.idem_alloc.specs.commit_log.specs.version_words.specs.RunnerState.{RunnerState}
use Rattle.idem_alloc.specs.commit_log.specs.Runs.{IsRunning}
use Rattle.idem_alloc.specs.commit_log.specs.next_steps.specs.Steps.{stock}
use Rattle.section_runs.specs.Reached.{run_of}

-- what a step of a body leaves of the own node slots: a Make may take one off the free list, a Retire may put one into
-- limbo
pub record NodesStepped (step : Step) (old new : NodesState) : Type 0 where
  pub free : length old.free ≤ length new.free + cond (is_make step) 1 0
  pub hand : new.hand ≡ old.hand
  pub tests : old.tests ≡ [] → new.tests ≡ []
  pub more : List Retired
  pub limbo : new.limbo ≡ old.limbo ++ more
  pub few : length more ≤ cond (is_retire step) 1 0
  pub same : is_make step ≡ false → is_retire step ≡ false → new ≡ old

-- what the own node slots are behind so many steps of a body: at most one free slot fewer for each Make, the hand and
-- what was looked at as before, and in limbo also what was retired in the run; none of it changed before the first Make
pub record NodesGone (body : List Step) (n : ℕ) (old new : NodesState) : Type 0 where
  pub free : length old.free ≤ length new.free + count_by is_make (take n body)
  pub hand : new.hand ≡ old.hand
  pub tests : old.tests ≡ [] → new.tests ≡ []
  pub more : List Retired
  pub limbo : new.limbo ≡ old.limbo ++ more
  pub few : length more ≤ count_by is_retire (take n body)
  pub early : ((i : ℕ) (step : Step) → i < n → IsStep body i step → phase step ≤ 1) → new ≡ old

module _ {T : Type 0} (m : Meaning) where
  -- the steps of the run's body
  abbrev pub body_of : RunnerState T → List Step
  body_of r = m.body (thunk_of (run_of r).opened)

  -- this run of the runner stands before this step of its body, and there are blocks for all words of its log
  pub record StandsBefore (n : ℕ) (r : RunnerState T) (q : RunState) : Type 0 where
    pub running : IsRunning m r q
    pub at : q.at ≡ rests (setting_of r.layout q.descriptor) q.trail (m.body (thunk_of q.opened)) n
    pub count : length q.trail ≡ (registers_before (m.body (thunk_of q.opened)) n).count
    pub none : q.made ≡ None
    pub unended : q.ended ≡ 0
    pub room : body_blocks (m.body (thunk_of q.opened)) ≤ stock r.part q

  abbrev pub IsBefore : ℕ → RunnerState T → Type 0
  IsBefore n r = StandsBefore n r (run_of r)

  -- the run's next step of its body is this one
  pub record MayGo (step : Step) (r : RunnerState T) : Type 0 where
    pub n : ℕ
    pub before : IsBefore n r
    pub here : IsStep (body_of r) n step

  -- both are in the same run
  pub record IsSameRun (old new : RunnerState T) : Type 0 where
    pub opened : (run_of new).opened ≡ (run_of old).opened
    pub descriptor : (run_of new).descriptor ≡ (run_of old).descriptor
    pub layout : new.layout ≡ old.layout

  -- this run leaves its line before this step, or within it, with this outcome, or went through all steps: it stands
  -- before the exchange of its done word, and has the locks of the Takes before that step to release
  pub record StandsOver (n : ℕ) (o : Outcome) (r : RunnerState T) (q : RunState) : Type 0 where
    pub running : IsRunning m r q
    pub unended : q.ended ≡ 0
    pub none : q.made ≡ None
    pub no_event : is_event (micro_at (line_of m q) q.at) ≡ false
    pub locks : releases (take q.at (line_of m q)) ≡ taken_releases (take n (m.body (thunk_of q.opened)))
    pub outcome : outcome_of m r.layout q ≡ o

  abbrev pub IsOver : ℕ → Outcome → RunnerState T → Type 0
  IsOver n outcome r = StandsOver n outcome r (run_of r)

  -- the run went on behind this step
  pub record GoesOn (step : Step) (old new : RunnerState T) : Type 0 where
    pub before : (n : ℕ) → IsBefore n old → IsStep (body_of old) n step → IsBefore (suc n) new
    pub same : IsSameRun old new
    pub nodes : NodesStepped step old.part.nodes new.part.nodes

  -- or it left there with this outcome
  pub record Leaves (step : Step) (outcome : Outcome) (old new : RunnerState T) : Type 0 where
    pub over : (n : ℕ) → IsBefore n old → IsStep (body_of old) n step → IsOver n outcome new
    pub same : IsSameRun old new
    pub nodes : new.part.nodes ≡ old.part.nodes

  -- the run went through some steps of its body, and is to end with this outcome; the Takes among them are among so
  -- many first ones
  pub record HasWalked (taken : ℕ) (outcome : Outcome) (old new : RunnerState T) : Type 0 where
    pub over : IsOver taken outcome new
    pub within : taken ≤ length (body_of old)
    pub same : IsSameRun old new
    pub passed : ℕ
    pub nodes : NodesGone (body_of old) passed old.part.nodes new.part.nodes
    -- a run that leaves has made and retired nothing
    pub left : ((reply : ℕ) → outcome ≢ Answered reply) → new.part.nodes ≡ old.part.nodes
