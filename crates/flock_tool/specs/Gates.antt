-- Whose gates the runners of a run had.
use Rattle.std.specs.Prelude.{◌≡◌, ◌<◌, ℕ, Bool, List, [], length, slice_get, Option, Some, IfSome}
use Rattle.machine_states.specs.structure_laws.specs.Meaning.{Meaning}
use Rattle.version_words.specs.TableState.{WordsState}
use Rattle.threaded_runs.specs.free_serving.specs.serving.specs.declared.answers.Served.{Served}
use Rattle.threaded_runs.specs.runner_gate.specs.Asks.{Asks}
use Rattle.threaded_runs.specs.Gates.{GatesCameBack}
use Rattle.command_line.specs.Halts.{ask_of}
use Rattle.command_line.specs.declared.command.Command.{Command}
use Rattle.command_line.specs.declared.command.Command.TheVariants as commands
use Rattle.command_line.specs.declared.halts.Halt.{Halt}
use Rattle.flock_tool.specs.Runs.{words_in, answers_in, meaning_of}
use Rattle.flock_tool.specs.Streams.{Gating}
use Rattle.flock_tool.specs.declared.ran.Ran.{Ran}

-- the halts that the words name
abbrev pub halts_named : Command → List Halt
halts_named (commands.Run options) = options.halts
halts_named (commands.Gen plan) = []
halts_named (commands.Load load) = load.run.halts
halts_named commands.Check = []

module _ {H : Type 0} (halts : H → ℕ) (asks : H → Asks) where
  -- each runner had the gate that was given out for it with the ask at which the words name it to halt, if they do:
  -- this gate halted exactly where the runner was halted, had let it go on before, and was asked about each of its
  -- requests that is served
  pub record HaveOwnGates {T : Type 0} (m : Meaning) (w : WordsState T) (answers : List Served) (named : List Halt)
      (reads_free : Bool) (gates : Gating) : Type 0 where
    pub entries : List (Option ℕ)
    pub each : length entries ≡ w.layout.runners
    pub ask : (runner : ℕ) → runner < w.layout.runners → slice_get entries runner ≡ Some (ask_of named runner)
    pub back : GatesCameBack m w reads_free halts asks entries answers gates.asks_before gates.asks_after

  -- so it was where a run came back, at whatever status
  abbrev pub GatesAreOwn : List Halt → Bool → ℕ × Option Ran → Gating → Type 0
  GatesAreOwn named reads_free result gates = IfSome result.1
      (λ ran. HaveOwnGates (meaning_of ran) (words_in ran) (answers_in ran) named reads_free gates)
