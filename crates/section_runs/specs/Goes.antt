-- A step of a run's body, with the registers that its code keeps, and what came of it.
use Rattle.std.specs.Prelude.{◌≡◌, ◌≢◌, ℕ, suc, ◌+◌}
use Rattle.idem_cell.specs.machine_states.specs.body_terms.specs.Cost.{step_cost}
use Rattle.idem_cell.specs.machine_states.specs.body_terms.specs.Line.{registers_before, log_words}
use Rattle.idem_cell.specs.machine_states.specs.body_terms.specs.Shape.{IsStep, phase}
use Rattle.idem_cell.specs.machine_states.specs.body_terms.specs.Trail.{Agreed}
use Rattle.idem_cell.specs.machine_states.specs.body_terms.specs.declared.outcome.Outcome.{Outcome}
use Rattle.idem_cell.specs.machine_states.specs.body_terms.specs.declared.step.Step.{Step}
use Rattle.idem_cell.specs.runner_gate.specs.Asks.{Asks}
use Rattle.idem_cell.specs.machine_states.specs.structure_laws.specs.Meaning.{Meaning}
use Rattle.idem_alloc.specs.commit_log.specs.version_words.specs.RunnerState.{RunnerState}
use Rattle.idem_alloc.specs.commit_log.specs.Halted.{IsThrough, IsHalted}
use Rattle.idem_alloc.specs.commit_log.specs.Links.{links_cost}
use Rattle.section_runs.specs.Reached.{run_of}
use Rattle.section_runs.specs.Registers.{AreKept}
use Rattle.section_runs.specs.Bodies.{NodesStepped, body_of, IsBefore, MayGo, IsSameRun, IsOver}
use Rattle.section_runs.specs.declared.passed.Passed.{Passed}
use Rattle.section_runs.specs.declared.passed.Passed.TheVariants.{On, Left, Halted}
use Rattle.section_runs.specs.declared.registers.Places.{Places}

-- the run's next step of its body is this one, and these are the registers before it
pub record MayGoBy {T : Type 0} (m : Meaning) (step : Step) (kept : Places) (r : RunnerState T) : Type 0 where
  pub may : MayGo m step r
  pub registers : AreKept kept (registers_before (body_of m r) may.n)

-- the run stands before step n of its body, which is this one, and these are the registers before it
pub record MayGoAt {T : Type 0} (m : Meaning) (n : ℕ) (step : Step) (kept : Places) (r : RunnerState T) : Type 0 where
  pub before : IsBefore m n r
  pub here : IsStep (body_of m r) n step
  pub registers : AreKept kept (registers_before (body_of m r) n)

-- the run came through step n so: it goes on to the next one, leaves, which only a step of the first phase lets it, or
-- was halted; the trail has the agreed words then, and the atomic steps are counted
pub record Went {T : Type 0} (m : Meaning) (n : ℕ) (step : Step) (passed : Passed) (old new : RunnerState T)
    (trail trail' : Agreed) (halts halts' : ℕ) (asks asks' : Asks) (steps steps' : ℕ) : Type 0 where
  pub before : passed ≡ On → IsBefore m (suc n) new
  pub nodes : passed ≡ On → NodesStepped step old.part.nodes new.part.nodes
  pub over : (o : Outcome) → passed ≡ Left o → IsOver m n o new
  pub exit : (o : Outcome) → passed ≡ Left o → phase step ≡ 1
  pub unchanged : (o : Outcome) → passed ≡ Left o → new.part.nodes ≡ old.part.nodes
  pub same : passed ≢ Halted → IsSameRun m old new
  pub words : passed ≢ Halted → trail'.words ≡ (run_of new).trail
  pub late : trail'.late ≡ trail.late
  pub through : passed ≢ Halted → IsThrough m (step_cost step + links_cost (log_words step) (run_of old)) old new
      halts halts' asks asks' steps steps'
  pub halted : passed ≡ Halted → IsHalted m (step_cost step + links_cost (log_words step) (run_of old)) old new
      halts halts' asks asks' steps steps'
