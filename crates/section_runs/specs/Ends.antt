-- The end of a run.
use Rattle.std.specs.Prelude.{◌≡◌, ℕ, ◌+◌, ◌≤◌, count_by, take, true, false}
use Rattle.idem_cell.specs.machine_states.specs.body_terms.specs.declared.micro.Micro.TheVariants.{Release}
use Rattle.idem_cell.specs.machine_states.specs.body_terms.specs.Line.{micro_at, is_event, is_end, releases}
use Rattle.idem_cell.specs.machine_states.specs.body_terms.specs.Shape.{is_take}
use Rattle.idem_cell.specs.runner_gate.specs.Asks.{Asks}
use Rattle.idem_cell.specs.section_lines.specs.Rests.{taken_releases}
use Rattle.idem_cell.specs.machine_states.specs.structure_laws.specs.Meaning.{Meaning}
use Rattle.idem_cell.specs.machine_states.specs.runner_parts.specs.State.{RunState}
use Rattle.idem_cell.specs.machine_states.specs.runner_steps.specs.AfterInRun.{ended_more}
use Rattle.idem_cell.specs.machine_states.specs.runner_steps.specs.Sections.{thunk_of, line_of, next_of}
use Rattle.idem_alloc.specs.commit_log.specs.version_words.specs.RunnerState.{RunnerState}
use Rattle.idem_alloc.specs.commit_log.specs.Asked.{IsAsked}
use Rattle.idem_alloc.specs.commit_log.specs.Runs.{IsRunning, Stepped, Ran}
use Rattle.section_runs.specs.Reached.{run_of, IsInside}

module _ {T : Type 0} (m : Meaning) where
  -- this run has set its done word and released the locks of the Takes before this step, of those before `taken`
  pub record StandsEnding (taken n : ℕ) (r : RunnerState T) (q : RunState) : Type 0 where
    pub running : IsRunning m r q
    pub no_event : is_event (micro_at (line_of m q) q.at) ≡ false
    pub locks : releases (take q.at (line_of m q)) ≡ taken_releases (take taken (m.body (thunk_of q.opened)))
    pub ended : q.ended ≡ 1 + count_by is_take (take n (m.body (thunk_of q.opened)))

  abbrev pub IsEnding : ℕ → ℕ → RunnerState T → Type 0
  IsEnding taken n r = StandsEnding taken n r (run_of r)

  -- the run made more steps of its end, and is as before
  pub record EndsOn (old new : RunnerState T) : Type 0 where
    pub run : run_of new ≡ record (run_of old) { ended = (run_of new).ended }
    pub nodes : new.part.nodes ≡ old.part.nodes
    pub layout : new.layout ≡ old.layout

  -- the run released its outer lock, and is over
  pub record HasReleased (old new : RunnerState T) : Type 0 where
    pub found : ℕ
    pub step : Stepped m (run_of old)
        (Release (thunk_of (run_of old).opened).lock (thunk_of (run_of old).opened).word) found old new
    pub over : is_end (next_of m (ended_more (run_of old))) ≡ true

  -- the run set its done word and released its locks, the outer one last, and is over
  pub record HasEnded (old new : RunnerState T) : Type 0 where
    pub count : ℕ
    pub last : RunnerState T
    pub ran : Ran m count old last
    pub inside : IsInside m last
    pub on : EndsOn old last
    pub released : HasReleased last new

  -- so it is, and the gate let the runner go on behind each of these steps
  pub record EndsAsked (takes : ℕ) (old new : RunnerState T) (halts halts' : ℕ) (asks asks' : Asks)
      (steps steps' : ℕ) : Type 0 where
    pub ended : HasEnded old new
    pub few : ended.count ≤ 1 + takes
    pub asked : IsAsked (ended.count + 1) true halts halts' asks asks' steps steps'
