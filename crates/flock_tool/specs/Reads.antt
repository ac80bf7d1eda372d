-- How the requests that only read are served.
use Rattle.std.specs.Prelude.{ℕ, Bool, false, Option, IfSome}
use Rattle.threaded_runs.specs.Lone.{ReadsAlone}
use Rattle.command_line.specs.Options.{are_free}
use Rattle.command_line.specs.declared.command.Command.{Command}
use Rattle.command_line.specs.declared.command.Command.TheVariants as commands
use Rattle.flock_tool.specs.Runs.{words_in, meaning_of}
use Rattle.flock_tool.specs.declared.ran.Ran.{Ran}

-- the words ask for reads without a lock
abbrev pub reads_freely : Command → Bool
reads_freely (commands.Run options) = are_free options.reads
reads_freely (commands.Gen plan) = false
reads_freely (commands.Load load) = are_free load.run.reads
reads_freely commands.Check = false

-- where a run of one runner came back, at whatever status, and its reads took no lock, each `get` that has an entry
-- has a read's stamp, an odd one
abbrev pub ReadsFirst : Bool → ℕ × Option Ran → Type 0
ReadsFirst reads_free result = IfSome result.1 (λ ran. ReadsAlone (meaning_of ran) (words_in ran) reads_free)
