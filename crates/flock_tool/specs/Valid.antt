-- Completeness: what is asked for within the limits, with slots enough, is done whole.
use Rattle.std.specs.Prelude.{◌≡◌, ◌≤◌, ◌+◌, ◌*◌, ℕ, List, Option, IfSome, Some, false}
use Rattle.machine_states.specs.table_words.specs.Limits.{most_nodes}
use Rattle.machine_states.specs.map_history.specs.Requests.{most_requests}
use Rattle.command_line.specs.trace_reader.specs.Answer.{AreTracesOf}
use Rattle.command_line.specs.trace_reader.specs.Generator.{generated}
use Rattle.command_line.specs.trace_reader.specs.declared.traces.Traces.{Traces}
use Rattle.report_check.specs.Inputs.{HasLegalReport}
use Rattle.threaded_runs.specs.free_serving.specs.resource_bounds.specs.Makes.{inserts}
use Rattle.command_line.specs.Halts.{names_below}
use Rattle.command_line.specs.Options.{runners_by}
use Rattle.command_line.specs.declared.command.Command.{Command}
use Rattle.command_line.specs.declared.command.Command.TheVariants as commands
use Rattle.command_line.specs.declared.options.RunOptions.{RunOptions}
use Rattle.threaded_runs.specs.Room.{HasEnoughVersions}
use Rattle.flock_tool.specs.Complete.{IsAnswered}
use Rattle.flock_tool.specs.Plans.{IsForAnotherTable, all_nodes, all_requests, layout_by}
use Rattle.flock_tool.specs.Runs.{meaning_of, words_in}
use Rattle.flock_tool.specs.Streams.{Fails, Gating, Halts, Stream}
use Rattle.flock_tool.specs.declared.ran.Ran.{Ran}

-- no runner that there is is named to halt; all together have no more node slots than the limit; and each has two for
-- each request that inserts, and two more
pub record HasRoom (options : RunOptions) (traces : Traces) : Type 0 where
  pub unhalted : names_below options.halts (runners_by options.runners traces.count) ≡ false
  pub few : all_nodes (layout_by options traces.count traces.requests) ≤ most_nodes
  pub enough : 2 * inserts traces.requests + 2 ≤ (layout_by options traces.count traces.requests).nodes

-- what is asked for is within the limits: the text of `run` is in the grammar and for the table that the words name,
-- `gen` and `load` generate no more requests than the limit, and what is run has room; the input of `check` has a legal
-- report
abbrev pub IsValid : Command → Option (List ℕ) → Type 0
IsValid (commands.Run options) left =
    (text : List ℕ) × (traces : Traces) × (left ≡ Some text) × AreTracesOf traces text
    × (IsForAnotherTable options traces → ⊥) × HasRoom options traces
IsValid (commands.Gen plan) left = all_requests plan ≤ most_requests
IsValid (commands.Load load) left =
    (all_requests load.plan ≤ most_requests)
    × HasRoom load.run (record { format = 1; count = load.plan.traces; requests = generated load.plan })
IsValid commands.Check left = (input : List ℕ) × (left ≡ Some input) × HasLegalReport input

-- no fault was counted, no gate counted a halt, and two versions at least are left of each closed cell
pub record NothingFails (back : Option Ran) (source sink : Stream) (gates : Gating) : Type 0 where
  pub read : Fails source → ⊥
  pub written : Fails sink → ⊥
  pub went : Halts gates → ⊥
  pub versions : IfSome back (λ ran. HasEnoughVersions (meaning_of ran) (words_in ran))

-- the status is 0, and each request that was run is answered
pub record IsWhole (result : ℕ × Option Ran) : Type 0 where
  pub status : result.0 ≡ 0
  pub answered : IfSome result.1 (λ ran. IsAnswered (meaning_of ran) (words_in ran))
