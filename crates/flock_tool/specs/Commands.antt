-- What each command leaves, by its status.
use Rattle.std.specs.Prelude.{◌≡◌, ◌≢◌, ◌↔◌, ◌⊎◌, ◌<◌, ◌≤◌, ℕ, List, [], Option, IfSome, IsSome, None, codes}
use Rattle.machine_states.specs.map_history.specs.Requests.{most_requests}
use Rattle.machine_states.specs.map_history.specs.declared.op.Entry.{Entry}
use Rattle.command_line.specs.trace_reader.specs.Answer.{AreTracesOf, StopsBefore}
use Rattle.command_line.specs.trace_reader.specs.Text.{IsAccepted, IsFirstRefusal}
use Rattle.command_line.specs.trace_reader.specs.declared.generator.Gen.{Gen}
use Rattle.command_line.specs.trace_reader.specs.declared.traces.BadLine.{BadLine}
use Rattle.command_line.specs.trace_reader.specs.declared.traces.TraceError.{TraceError}
use Rattle.command_line.specs.trace_reader.specs.declared.traces.TraceError.TheVariants.{ReadFault, Memory, TooLarge, Malformed, TooManyTraces, TooManyRequests}
use Rattle.command_line.specs.trace_reader.specs.declared.traces.Traces.{Traces}
use Rattle.load_counts.specs.run_reports.specs.report_text.specs.Sink.{Extends, ExtendsInPart}
use Rattle.printed_traces.specs.Ends.{IsRead, Prints, PrintsInPart}
use Rattle.load_counts.specs.run_reports.specs.Reports.{HaveEntries}
use Rattle.load_counts.specs.Apart.{load_text}
use Rattle.command_line.specs.Commands.{AreAccepted, IsCommand}
use Rattle.command_line.specs.Written.{Text}
use Rattle.command_line.specs.declared.command.Command.{Command}
use Rattle.command_line.specs.declared.command.Command.TheVariants as commands
use Rattle.command_line.specs.declared.generated.LoadOptions.{LoadOptions}
use Rattle.command_line.specs.declared.options.RunOptions.{RunOptions}
use Rattle.flock_tool.specs.declared.ran.Ran.{Ran}
use Rattle.flock_tool.specs.declared.status.Stop.{Stop}
use Rattle.flock_tool.specs.declared.status.Stop.TheVariants as stops
use Rattle.flock_tool.specs.declared.status.Stop.TheVariants.{Words, Nodes, WriteFault}
use Rattle.flock_tool.specs.Checks.{CheckPrints}
use Rattle.flock_tool.specs.End.{IsLimit, error_line, error_status, nodes_line}
use Rattle.flock_tool.specs.Loads.{HasCounted, HasLoadRun}
use Rattle.flock_tool.specs.Plans.{AsksAnotherTable, AsksTooMuch, IsForAnotherTable, LoadAsksTooMuch, all_requests}
use Rattle.flock_tool.specs.Runs.{words_in, meaning_of, waits_out, AreServedInOrder, HasEnded, HasRun, IsRunStatus}
use Rattle.flock_tool.specs.Streams.{Fails, Gating, Halts, IsIdle, IsUntouched, Stream, Told}

-- `run` with these options
pub record RunEnds (options : RunOptions) (result : ℕ × Option Ran) (source sink faults : Stream) (gates : Gating)
    : Type 0 where
  -- a run came to its end exactly at 0, 1, 5, 6 and 9
  pub ran : IsSome result.1 ↔ IsRunStatus result.0
  -- it was of the table that the options and the text name. At 0, 1, 5 and 6 what the sink holds past what it held is
  -- the report on its closed words, which is legal; the status and the line are those of the answers, and at 0 each
  -- request is answered
  pub ended : IfSome result.1 (λ ran. (traces : ℕ) × HasRun options source.before traces ran gates
      × HasEnded ran traces (waits_out options.halts (words_in ran).layout.runners) result.0 sink faults)
  -- with one runner the first requests are served, in their order: the rank of each is its number
  pub in_order : IfSome result.1 (λ ran. (words_in ran).layout.runners ≡ 1
      → (entries : List (Option Entry)) → HaveEntries (meaning_of ran) (words_in ran) entries
      → AreServedInOrder entries)
  pub halted : result.0 ≡ 1 → Halts gates
  -- where the text is refused, or is for another table than the words name, nothing is run
  pub idle : (result.0 ≡ 2) ⊎ (result.0 ≡ 3) ⊎ (result.0 ≡ 4) ⊎ (result.0 ≡ 8) → IsIdle gates
  -- where the words name no halt, no gate is given with a plan
  pub unplanned : options.halts ≡ [] → gates.plans_after ≡ gates.plans_before
  -- where no fault is counted, a text in the grammar is run, unless it is for another table, the runners would have
  -- too many node slots or memory is wanting, and any other is refused for its first refusal
  pub grammatical : (Fails source → ⊥) → IfSome source.before (λ text. IsAccepted text
      → IsRunStatus result.0 ⊎ (result.0 ≡ 7)
      ⊎ ((result.0 ≡ 4) × (count : ℕ) × AsksTooMuch options source.before count)
      ⊎ ((result.0 ≡ 2) × AsksAnotherTable options source.before))
  -- one for another table never is
  pub another : (Fails source → ⊥) → IfSome source.before (λ text. (traces : Traces) → AreTracesOf traces text
      → IsForAnotherTable options traces → (result.0 ≡ 2) ⊎ (result.0 ≡ 7))
  pub refused : (Fails source → ⊥) → IfSome source.before (λ text. (error : TraceError) → IsFirstRefusal text error
      → (result.0 ≡ error_status error) ⊎ (result.0 ≡ 7))
  -- what each other status says, and what is told at it
  pub words : result.0 ≡ 2 → AsksAnotherTable options source.before × Told (codes "flock: words refused\n") faults
  pub malformed : result.0 ≡ 3 → (line : ℕ) × (kind : BadLine)
      × (IfSome source.before (λ text. IsFirstRefusal text (Malformed line kind))
      × Told (error_line (Malformed line kind)) faults)
  pub limit : result.0 ≡ 4
      → ((error : TraceError)
      × (IsLimit error × IfSome source.before (λ text. IsFirstRefusal text error) × Told (error_line error) faults))
      ⊎ ((count : ℕ) × (AsksTooMuch options source.before count × Told (nodes_line count) faults))
  pub memory : result.0 ≡ 7 → Told (codes "flock: memory\n") faults
  pub read : result.0 ≡ 8
      → Fails source × StopsBefore source.before source.after × Told (codes "flock: read fault\n") faults
  pub write : result.0 ≡ 9 → Fails sink × Told (codes "flock: write fault\n") faults

-- what `gen` of this plan prints: the text whole at 0, in part at 9 and not at all at 4 and 7
pub record GenPrints (plan : Gen) (number : ℕ) (sink faults : Stream) : Type 0 where
  pub statuses : (number ≡ 0) ⊎ (number ≡ 4) ⊎ (number ≡ 7) ⊎ (number ≡ 9)
  -- the text is that of the generator's requests, and the grammar relates it to them
  pub printed : number ≡ 0 → Prints plan sink.before sink.after × IsRead plan × IsUntouched faults
  -- too many requests are refused, and no fewer
  pub limit : number ≡ 4
      → (most_requests < all_requests plan) × Told (error_line (TooManyRequests (all_requests plan))) faults
  pub many : most_requests < all_requests plan → (number ≡ 4) ⊎ (number ≡ 7)
  pub memory : number ≡ 7 → Told (codes "flock: memory\n") faults
  pub write : number ≡ 9
      → Fails sink × PrintsInPart plan sink.before sink.after × Told (codes "flock: write fault\n") faults
  pub silent : number ≢ 0 → number ≢ 9 → sink.after ≡ sink.before
  pub steady : number ≢ 9 → sink.faults_after ≡ sink.faults_before

-- and nothing is read or run
pub record GenEnds (plan : Gen) (result : ℕ × Option Ran) (source sink faults : Stream) (gates : Gating) : Type 0 where
  pub none : result.1 ≡ None
  pub unread : IsUntouched source
  pub idle : IsIdle gates
  pub prints : GenPrints plan result.0 sink faults

-- what `load` with these options prints: the counts of each trace served by itself, whole at 0, in part at 9, and not
-- at all at 1, 4, 5, 6 and 7
pub record LoadRuns (load : LoadOptions) (result : ℕ × Option Ran) (sink faults : Stream) (gates : Gating)
    : Type 0 where
  pub ran : IsSome result.1 ↔ IsRunStatus result.0
  pub statuses : IsRunStatus result.0 ⊎ (result.0 ≡ 4) ⊎ (result.0 ≡ 7)
  -- the run was of the table that the options and the generator name; the status and the line are those of its answers
  pub ended : IfSome result.1 (λ ran. HasLoadRun load ran gates
      × HasCounted ran (waits_out load.run.halts (words_in ran).layout.runners) result.0 sink faults)
  pub printed : result.0 ≡ 0 → Extends sink.before (load_text load.plan) sink.after
  pub halted : result.0 ≡ 1 → Halts gates
  -- too many requests are refused, or else, where they are no more than the limit, too many node slots, and nothing
  -- else
  pub limit : result.0 ≡ 4
      → ((most_requests < all_requests load.plan) × Told (error_line (TooManyRequests (all_requests load.plan))) faults)
      ⊎ ((all_requests load.plan ≤ most_requests)
      × ((count : ℕ) × (LoadAsksTooMuch load count × Told (nodes_line count) faults)))
  -- and then nothing is run
  pub idle : result.0 ≡ 4 → IsIdle gates
  pub unplanned : load.run.halts ≡ [] → gates.plans_after ≡ gates.plans_before
  pub many : most_requests < all_requests load.plan → (result.0 ≡ 4) ⊎ (result.0 ≡ 7)
  pub memory : result.0 ≡ 7 → Told (codes "flock: memory\n") faults
  pub write : result.0 ≡ 9
      → Fails sink × ExtendsInPart sink.before (load_text load.plan) sink.after
      × Told (codes "flock: write fault\n") faults
  pub silent : (IsRunStatus result.0 → ⊥) → sink.after ≡ sink.before
  pub steady : result.0 ≢ 9 → sink.faults_after ≡ sink.faults_before

-- what `check` leaves: it reads and prints, and nothing is run
pub record CheckEnds (result : ℕ × Option Ran) (source sink faults : Stream) (gates : Gating) : Type 0 where
  pub none : result.1 ≡ None
  pub idle : IsIdle gates
  pub prints : CheckPrints result.0 source sink faults

-- and nothing is read
pub record LoadEnds (load : LoadOptions) (result : ℕ × Option Ran) (source sink faults : Stream) (gates : Gating)
    : Type 0 where
  pub unread : IsUntouched source
  pub runs : LoadRuns load result sink faults gates

abbrev pub Ends : Command → ℕ × Option Ran → (source sink faults : Stream) → Gating → Type 0
Ends (commands.Run options) = RunEnds options
Ends (commands.Gen plan) = GenEnds plan
Ends (commands.Load load) = LoadEnds load
Ends commands.Check = CheckEnds

-- these words are `run`, and name another table than one that serves the text
pub record NameAnotherTable (words : List Text) (left : Option (List ℕ)) : Type 0 where
  pub options : RunOptions
  pub command : IsCommand words (commands.Run options)
  pub another : AsksAnotherTable options left

-- words that are no command are refused, unless memory is wanting before they are known as such: nothing is read,
-- printed or run, and nothing comes back
pub record RefusedEnds (result : ℕ × Option Ran) (source sink faults : Stream) (gates : Gating) : Type 0 where
  pub status : (result.0 ≡ 2) ⊎ (result.0 ≡ 7)
  pub none : result.1 ≡ None
  pub unread : IsUntouched source
  pub silent : IsUntouched sink
  pub idle : IsIdle gates
  pub words : result.0 ≡ 2 → Told (codes "flock: words refused\n") faults
  pub memory : result.0 ≡ 7 → Told (codes "flock: memory\n") faults

-- these words are no command, or memory was wanting
abbrev pub IsNoCommand : List Text → Stop → Type 0
IsNoCommand words Words = AreAccepted words → ⊥
IsNoCommand words (stops.Text ReadFault) = ⊥
IsNoCommand words (stops.Text Memory) = Unit {0}
IsNoCommand words (stops.Text (TooLarge bytes)) = ⊥
IsNoCommand words (stops.Text (Malformed line kind)) = ⊥
IsNoCommand words (stops.Text (TooManyTraces count)) = ⊥
IsNoCommand words (stops.Text (TooManyRequests count)) = ⊥
IsNoCommand words (Nodes count) = ⊥
IsNoCommand words WriteFault = ⊥
