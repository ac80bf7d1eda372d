-- How often the gates are asked, and which stamps are odd, by how each command ends.
use Rattle.std.specs.Prelude.{◌-◌, ◌^◌, min}
use Rattle.std.proofs.Common.{◌≡◌, ℕ, ◌+◌, ◌*◌, ◌≤◌, Bool, false, true, Option, subst, arith}
use Rattle.threaded_runs.specs.Asks.{AreAsked, AsksAlone}
use Rattle.threaded_runs.specs.Lone.{ReadsAlone}
use Rattle.threaded_runs.specs.free_serving.specs.serving.specs.Serving.{most_asks}
use Rattle.command_line.specs.Options.{are_free}
use Rattle.command_line.specs.declared.command.Command.{Command}
use Rattle.command_line.specs.declared.command.Command.TheVariants as commands
use Rattle.command_line.specs.declared.generated.LoadOptions.{LoadOptions}
use Rattle.command_line.specs.declared.options.RunOptions.{RunOptions}
use Rattle.flock_tool.specs.Asks.{asks_each, halted_of, nodes_of, served_of, AsksFew, AsksOften}
use Rattle.flock_tool.specs.Commands.{Ends, LoadRuns, RunEnds}
use Rattle.flock_tool.specs.Reads.{ReadsFirst, reads_freely}
use Rattle.flock_tool.specs.Runs.{words_in, answers_in, meaning_of}
use Rattle.flock_tool.specs.Streams.{Gating, Stream}
use Rattle.flock_tool.specs.declared.ran.Ran.{Ran}
use Rattle.flock_tool.proofs.Completing.{if_some}
use Rattle.flock_tool.proofs.Running.{if_none}

abbrev FewIn : Gating → Ran → Type 0
FewIn gates ran = (words_in ran).layout.runners ≡ 1
    → gates.asks_after ≤ gates.asks_before + (served_of ran + 1) * (6 * nodes_of ran + 256)

most_is : (count : ℕ) → most_asks count ≡ 6 * count + 256
most_is count = omega arith

few_in : (gates : Gating) (ran : Ran) → AsksAlone (meaning_of ran) (words_in ran) gates.asks_before gates.asks_after → FewIn gates ran
few_in gates ran asked = λ one. subst (λ (most : ℕ). gates.asks_after ≤ gates.asks_before + (served_of ran + 1) * most) (most_is (nodes_of ran)) (asked one)

pub run_asks : (options : RunOptions) (result : ℕ × Option Ran) (source sink faults : Stream) (gates : Gating)
    → RunEnds options result source sink faults gates → AsksFew result gates
run_asks options result source sink faults gates ends = if_some _ (FewIn gates) result.1 ends.ended (λ ran ended. few_in gates ran ended.1.asked.alone)

pub load_asks : (load : LoadOptions) (result : ℕ × Option Ran) (sink faults : Stream) (gates : Gating)
    → LoadRuns load result sink faults gates → AsksFew result gates
load_asks load result sink faults gates ends = if_some _ (FewIn gates) result.1 ends.ended (λ ran ended. few_in gates ran ended.0.asked.alone)

abbrev OftenIn : Bool → Gating → Ran → Type 0
OftenIn reads gates ran = min (gates.asks_before + asks_each reads * (served_of ran - halted_of ran)) (2 ^ 64 - 1) ≤ gates.asks_after

often_in : (reads : Bool) (gates : Gating) (ran : Ran) → AreAsked (meaning_of ran) (words_in ran) reads (answers_in ran) gates.asks_before gates.asks_after → OftenIn reads gates ran
often_in false gates ran asked = asked.often
often_in true gates ran asked = asked.often

-- at least so often
pub asks_often : (command : Command) (result : ℕ × Option Ran) (source sink faults : Stream) (gates : Gating)
    → Ends command result source sink faults gates → AsksOften (reads_freely command) result gates
asks_often (commands.Run options) result source sink faults gates ends =
    if_some _ (OftenIn (are_free options.reads) gates) result.1 ends.ended (λ ran ended. often_in (are_free options.reads) gates ran ended.1.asked)
asks_often (commands.Gen plan) result source sink faults gates ends = if_none (OftenIn false gates) result.1 ends.none
asks_often (commands.Load load) result source sink faults gates ends =
    if_some _ (OftenIn (are_free load.run.reads) gates) result.1 ends.runs.ended (λ ran ended. often_in (are_free load.run.reads) gates ran ended.0.asked)
asks_often commands.Check result source sink faults gates ends = if_none (OftenIn false gates) result.1 ends.none

-- which stamps are odd
pub reads_first : (command : Command) (result : ℕ × Option Ran) (source sink faults : Stream) (gates : Gating)
    → Ends command result source sink faults gates → ReadsFirst (reads_freely command) result
reads_first (commands.Run options) result source sink faults gates ends =
    if_some _ (λ ran. ReadsAlone (meaning_of ran) (words_in ran) (are_free options.reads)) result.1 ends.ended (λ ran ended. ended.1.run.read)
reads_first (commands.Gen plan) result source sink faults gates ends =
    if_none (λ ran. ReadsAlone (meaning_of ran) (words_in ran) false) result.1 ends.none
reads_first (commands.Load load) result source sink faults gates ends =
    if_some _ (λ ran. ReadsAlone (meaning_of ran) (words_in ran) (are_free load.run.reads)) result.1 ends.runs.ended (λ ran ended. ended.0.run.read)
reads_first commands.Check result source sink faults gates ends =
    if_none (λ ran. ReadsAlone (meaning_of ran) (words_in ran) false) result.1 ends.none
