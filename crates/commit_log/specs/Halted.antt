-- What a gate's halt leaves.
use Rattle.std.specs.Prelude.{ℕ, ◌≤◌, true, false}
use Rattle.machine_states.specs.structure_laws.specs.Meaning.{Meaning}
use Rattle.version_words.specs.RunnerState.{RunnerState}
use Rattle.runner_gate.specs.Asks.{Asks}
use Rattle.commit_log.specs.Asked.{IsAsked}
use Rattle.commit_log.specs.Runs.{Ran}

-- a gate halted the runner behind one of these steps: it made the steps up to that one, and its run stands behind them
pub record IsHalted {T : Type 0} (m : Meaning) (most : ℕ) (old new : RunnerState T)
    (halts halts' : ℕ) (asks asks' : Asks) (steps steps' : ℕ) : Type 0 where
  pub made : ℕ
  pub some : 1 ≤ made
  pub few : made ≤ most
  pub ran : Ran m made old new
  pub asked : IsAsked made false halts halts' asks asks' steps steps'

-- a gate let the runner go on behind each of these steps
pub record IsThrough {T : Type 0} (m : Meaning) (most : ℕ) (old new : RunnerState T)
    (halts halts' : ℕ) (asks asks' : Asks) (steps steps' : ℕ) : Type 0 where
  pub made : ℕ
  pub few : made ≤ most
  pub ran : Ran m made old new
  pub asked : IsAsked made true halts halts' asks asks' steps steps'
