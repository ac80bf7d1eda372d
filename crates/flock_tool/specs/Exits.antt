-- How the program ends: with the status of its command, and what a run left behind it.
use Rattle.std.specs.Prelude.{◌≡◌, ◌⊎◌, ℕ, List, Option, None}
use Rattle.threaded_runs.specs.runner_gate.specs.Asks.{Asks}
use Rattle.command_line.specs.declared.command.Command.{Command}
use Rattle.flock_tool.specs.Alone.{KeepsVersions}
use Rattle.flock_tool.specs.Asks.{AsksFew, AsksOften}
use Rattle.flock_tool.specs.Commands.{Ends}
use Rattle.flock_tool.specs.Gates.{GatesAreOwn, halts_named}
use Rattle.flock_tool.specs.Reads.{ReadsFirst, reads_freely}
use Rattle.flock_tool.specs.Runs.{IsRunStatus}
use Rattle.flock_tool.specs.Streams.{Gating, Stream}
use Rattle.flock_tool.specs.Valid.{IsValid, IsWhole, NothingFails}
use Rattle.flock_tool.specs.declared.ran.Ran.{Ran}

module _ {H : Type 0} (halts : H → ℕ) (asks : H → Asks) where
  -- the program ended as this command does, with this status, on a source that holds this; the words of a run, if one
  -- came back, stood behind it. All that the top call says of a status and of these words holds of them together
  pub record Exits (command : Command) (number : ℕ) (input : Option (List ℕ)) (source sink faults : Stream)
      (gates : Gating) : Type 0 where
    pub back : Option Ran
    pub ends : Ends command (number, back) source sink faults gates
    pub complete : IsValid command input → NothingFails back source sink gates
        → IsWhole (number, back) ⊎ (number ≡ 7)
    pub versions : KeepsVersions (number, back)
    pub few : AsksFew (number, back) gates
    pub often : AsksOften (reads_freely command) (number, back) gates
    pub own : GatesAreOwn halts asks (halts_named command) (reads_freely command) (number, back) gates
    pub odd : ReadsFirst (reads_freely command) (number, back)
    pub none : (IsRunStatus number → ⊥) → back ≡ None
