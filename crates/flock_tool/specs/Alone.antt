-- Completeness with one runner, whose slots are used again.
use Rattle.std.specs.Prelude.{◌≡◌, ◌≢◌, ◌≤◌, ◌+◌, ◌*◌, ℕ, List, Option, IfSome, Some, length}
use Rattle.machine_states.specs.table_words.specs.Limits.{most_nodes}
use Rattle.machine_states.specs.map_history.specs.Requests.{most_requests}
use Rattle.threaded_runs.specs.map_sizes.specs.Sizes.{peak}
use Rattle.command_line.specs.trace_reader.specs.Answer.{AreTracesOf}
use Rattle.command_line.specs.trace_reader.specs.Generator.{generated}
use Rattle.command_line.specs.trace_reader.specs.declared.traces.Traces.{Traces}
use Rattle.command_line.specs.declared.command.Command.{Command}
use Rattle.command_line.specs.declared.command.Command.TheVariants as commands
use Rattle.command_line.specs.declared.options.RunOptions.{RunOptions}
use Rattle.flock_tool.specs.Plans.{IsForAnotherTable, all_nodes, all_requests, layout_by}
use Rattle.flock_tool.specs.Runs.{words_in}
use Rattle.flock_tool.specs.Streams.{Fails, Gating, Halts, Stream}
use Rattle.flock_tool.specs.declared.ran.Ran.{Ran}

-- there is one runner. It has two node slots for each pair of the largest map that the requests leave on their way, and
-- sixteen more, and no more than the limit; one descriptor at least; and its words have eight versions for each
-- request, and eight more
pub record HasLoneRoom (options : RunOptions) (traces : Traces) : Type 0 where
  pub one : (layout_by options traces.count traces.requests).runners ≡ 1
  pub few : all_nodes (layout_by options traces.count traces.requests) ≤ most_nodes
  pub some : 1 ≤ (layout_by options traces.count traces.requests).sections
  pub slots : 2 * peak traces.requests + 16 ≤ (layout_by options traces.count traces.requests).nodes
  pub versions : 8 * length traces.requests + 8 ≤ (layout_by options traces.count traces.requests).version_max

-- a run is asked for within the limits, with room for one runner
abbrev pub IsValidAlone : Command → Option (List ℕ) → Type 0
IsValidAlone (commands.Run options) left =
    (text : List ℕ) × (traces : Traces) × (left ≡ Some text) × AreTracesOf traces text
    × (IsForAnotherTable options traces → ⊥) × HasLoneRoom options traces
IsValidAlone (commands.Gen plan) left = ⊥
IsValidAlone (commands.Load load) left =
    (all_requests load.plan ≤ most_requests)
    × HasLoneRoom load.run (record { format = 1; count = load.plan.traces; requests = generated load.plan })
IsValidAlone commands.Check left = ⊥

-- no fault was counted, and no gate counted a halt
pub record NothingStops (source sink : Stream) (gates : Gating) : Type 0 where
  pub read : Fails source → ⊥
  pub written : Fails sink → ⊥
  pub went : Halts gates → ⊥

-- a run of one runner with eight versions for each request, and eight more, doesn't end for want of versions
abbrev pub KeepsVersions : ℕ × Option Ran → Type 0
KeepsVersions result = IfSome result.1 (λ ran. (words_in ran).layout.runners ≡ 1
    → 8 * length (words_in ran).requests + 8 ≤ (words_in ran).layout.version_max → result.0 ≢ 6)
