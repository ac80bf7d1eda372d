-- What a run of the program leaves.
use Rattle.std.specs.Prelude.{◌≡◌, ◌≢◌, ◌<◌, ◌≤◌, ◌⊎◌, ℕ, Bool, not, List, [], Option, IfSome, None, Some, false, true, codes, length, slice_get}
use Rattle.machine_states.specs.map_history.specs.declared.op.Entry.{Entry}
use Rattle.machine_states.specs.map_history.specs.declared.op.Request.{Request}
use Rattle.machine_states.specs.structure_laws.specs.Meaning.{Meaning}
use Rattle.leaf_tree.specs.tree_laws.specs.bucket_laws.specs.Buckets.{buckets_meaning, moves_meaning}
use Rattle.command_line.specs.trace_reader.specs.Answer.{AreTracesOf}
use Rattle.load_counts.specs.run_reports.specs.report_text.specs.Sink.{Extends, ExtendsInPart}
use Rattle.hash_table.specs.declared.table.HashTable.{HashTable}
use Rattle.key_move.specs.declared.table.MoveTable.{MoveTable}
use Rattle.leaf_tree.specs.declared.tree.LeafTree.{LeafTree}
use Rattle.leaf_tree.specs.tree_laws.specs.Leaves.{tree}
use Rattle.sorted_list.specs.declared.list.SortedList.{SortedList}
use Rattle.sorted_list.specs.list_laws.specs.Nodes.{list}
use Rattle.version_words.specs.TableState.{WordsState}
use Rattle.load_counts.specs.run_reports.specs.report_text.specs.Ranks.{ranks_of}
use Rattle.load_counts.specs.run_reports.specs.Reports.{IsReport, PrintsInPart}
use Rattle.threaded_runs.specs.free_serving.specs.serving.specs.declared.answers.Served.{Served}
use Rattle.threaded_runs.specs.runner_gate.specs.declared.counts.GatePlan.{GatePlan}
use Rattle.threaded_runs.specs.Counts.{halts_counted, returns_counted}
use Rattle.threaded_runs.specs.Asks.{AreAsked}
use Rattle.threaded_runs.specs.Lone.{ReadsAlone, ServesAlone}
use Rattle.threaded_runs.specs.Runs.{AreServed, IsMadeWith}
use Rattle.command_line.specs.Halts.{ask_of, names_below}
use Rattle.command_line.specs.declared.halts.Halt.{Halt}
use Rattle.command_line.specs.Options.{are_free, bits_by}
use Rattle.command_line.specs.declared.options.RunOptions.{RunOptions}
use Rattle.threaded_runs.specs.free_serving.specs.resource_bounds.specs.Makes.{inserts}
use Rattle.command_line.specs.declared.options.TableKind.TheVariants as kinds
use Rattle.flock_tool.specs.Complete.{Completes, SparesOthers}
use Rattle.flock_tool.specs.Finish.{any_halted, finish_by, finish_status, TellsFinish}
use Rattle.flock_tool.specs.Plans.{layout_by}
use Rattle.flock_tool.specs.Streams.{Fails, Gating, Stream, Told}
use Rattle.command_line.specs.trace_reader.specs.declared.traces.TraceError.TheVariants.{Memory}
use Rattle.flock_tool.specs.declared.plan.Plan.{Plan}
use Rattle.flock_tool.specs.declared.status.Stop.{Stop}
use Rattle.flock_tool.specs.declared.status.Stop.TheVariants as stops
use Rattle.flock_tool.specs.declared.status.Stop.TheVariants.{Words, Nodes, WriteFault}
use Rattle.flock_tool.specs.declared.ran.Ran.{Ran}
use Rattle.flock_tool.specs.declared.ran.Ran.TheVariants as tables

-- a table after a run: which structure kept the map, what its words mean, how many node slots a pair of the map keeps
-- in use at most, the closed words, and what the runners answered, in the order of their numbers
pub record Closed : Type 1 where
  pub structure : Type 0
  pub meaning : Meaning
  pub per_pair : ℕ
  pub words : WordsState structure
  pub answers : List Served

-- what is said of every table alike is said of this, so a further table costs a line here and one in `IsTableOf`
abbrev pub closed_of : Ran → Closed
closed_of (tables.Hash words answers) = record {
  structure = HashTable;
  meaning = buckets_meaning words.structure.bits;
  per_pair = 1;
  words = words;
  answers = answers.items;
}
closed_of (tables.Move words answers) = record {
  structure = MoveTable;
  meaning = moves_meaning words.structure.bits;
  per_pair = 1;
  words = words;
  answers = answers.items;
}
closed_of (tables.Tree words answers) = record {
  structure = LeafTree;
  meaning = tree;
  per_pair = 2;
  words = words;
  answers = answers.items;
}
closed_of (tables.List words answers) = record {
  structure = SortedList;
  meaning = list;
  per_pair = 1;
  words = words;
  answers = answers.items;
}

abbrev pub structure_in : Ran → Type 0
structure_in ran = (closed_of ran).structure

abbrev pub meaning_of : Ran → Meaning
meaning_of ran = (closed_of ran).meaning

abbrev pub per_pair_in : Ran → ℕ
per_pair_in ran = (closed_of ran).per_pair

abbrev pub words_in : (ran : Ran) → WordsState (structure_in ran)
words_in ran = (closed_of ran).words

abbrev pub answers_in : Ran → List Served
answers_in ran = (closed_of ran).answers

-- so many buckets, given as a power of two, are those that the options name
abbrev pub AreBucketsOf : RunOptions → List Request → ℕ → Type 0
AreBucketsOf options requests bits = bits ≡ bits_by options.bucket_bits (inserts requests)

-- the table was of the kind and of the size that the options name: for a text of format 3 the hash table is the one
-- that moves keys, too
abbrev pub IsTableOf : RunOptions → ℕ → Ran → Type 0
IsTableOf options format (tables.Hash words answers) =
    (options.table ≡ kinds.Hash) × (format ≢ 3) × AreBucketsOf options words.requests words.structure.bits
IsTableOf options format (tables.Move words answers) =
    (options.table ≡ kinds.Hash) × (format ≡ 3) × AreBucketsOf options words.requests words.structure.bits
IsTableOf options format (tables.Tree words answers) = (options.table ≡ kinds.Tree) × (format ≢ 3)
IsTableOf options format (tables.List words answers) = (options.table ≡ kinds.List) × (format ≢ 3)

-- for each runner a gate was given, in order of number, with the ask at which it is named to halt, if it is
pub record AreHaltsOf (halts : List Halt) (runners : ℕ) (planned : List GatePlan) : Type 0 where
  pub each : length planned ≡ runners
  pub asks : (runner : ℕ) → runner < runners
      → slice_get planned runner ≡ Some (record { runner = runner; halt = ask_of halts runner })

-- the gates of a run were given out for the runners and each came back: a runner answered that it was halted exactly
-- where its gate counted a halt, their plans were those that the words name, and where these name none for a runner
-- that there is, none was counted
pub record AreGiven (halts : List Halt) (runners : ℕ) (answers : List Served) (gates : Gating) : Type 0 where
  pub halted : gates.halts_after ≡ halts_counted gates.halts_before answers
  pub returned : gates.returned_after ≡ returns_counted gates.returned_before runners
  pub planned : gates.planned_before ≡ [] → AreHaltsOf halts runners gates.planned_after
  pub unplanned : names_below halts runners ≡ false → gates.plans_after ≡ gates.plans_before

-- whether a want of slots is waited out: where no halt is named for a runner that there is
abbrev pub waits_out : List Halt → ℕ → Bool
waits_out halts runners = not (names_below halts runners)

-- the run was of these options, of a text of this format, and of these traces and requests
pub record IsRunOf (options : RunOptions) (format traces : ℕ) (ran : Ran) : Type 0 where
  pub table : IsTableOf options format ran
  pub layout : (words_in ran).layout ≡ layout_by options traces (words_in ran).requests
  -- every runner has served its own traces, and has the cause of its answer
  pub served : AreServed (meaning_of ran) (words_in ran)
      (waits_out options.halts (words_in ran).layout.runners) (are_free options.reads) (answers_in ran)
  pub lone : ServesAlone (meaning_of ran) (per_pair_in ran) (words_in ran) (answers_in ran)
  pub read : ReadsAlone (meaning_of ran) (words_in ran) (are_free options.reads)

-- a run of this plan on a table of this structure left these words and answers; its gates were given out and came back
module _ {T : Type 0} (meaning : T → Meaning) (per_pair : ℕ) where
  pub record HasRunOn (structure : T) (plan : Plan) (words : WordsState T) (answers : List Served) (gates : Gating)
      : Type 0 where
    pub made : IsMadeWith structure plan.layout plan.traces.requests words
    pub served : AreServed (meaning words.structure) words (waits_out plan.options.halts plan.layout.runners)
        (are_free plan.options.reads) answers
    pub lone : ServesAlone (meaning words.structure) per_pair words answers
    pub read : ReadsAlone (meaning words.structure) words (are_free plan.options.reads)
    pub asked : AreAsked (meaning words.structure) words (are_free plan.options.reads) answers gates.asks_before
        gates.asks_after
    pub given : AreGiven plan.options.halts plan.layout.runners answers gates

-- the run was of this plan; its gates were given out and came back
pub record HasRunPlan (plan : Plan) (ran : Ran) (gates : Gating) : Type 0 where
  pub table : IsTableOf plan.options plan.traces.format ran
  pub layout : (words_in ran).layout ≡ plan.layout
  pub requests : (words_in ran).requests ≡ plan.traces.requests
  pub served : AreServed (meaning_of ran) (words_in ran)
      (waits_out plan.options.halts plan.layout.runners) (are_free plan.options.reads) (answers_in ran)
  pub lone : ServesAlone (meaning_of ran) (per_pair_in ran) (words_in ran) (answers_in ran)
  pub read : ReadsAlone (meaning_of ran) (words_in ran) (are_free plan.options.reads)
  pub asked : AreAsked (meaning_of ran) (words_in ran) (are_free plan.options.reads) (answers_in ran)
      gates.asks_before gates.asks_after
  pub given : AreGiven plan.options.halts plan.layout.runners (answers_in ran) gates

-- a run that these options and the text ask for; its gates were given out and came back
pub record HasRun (options : RunOptions) (left : Option (List ℕ)) (traces : ℕ) (ran : Ran) (gates : Gating)
    : Type 0 where
  -- the text is of this format
  pub format : ℕ
  pub text : IfSome left (AreTracesOf (record {
    format = format;
    count = traces;
    requests = (words_in ran).requests;
  }))
  pub run : IsRunOf options format traces ran
  pub asked : AreAsked (meaning_of ran) (words_in ran) (are_free options.reads) (answers_in ran) gates.asks_before
      gates.asks_after
  pub given : AreGiven options.halts (words_in ran).layout.runners (answers_in ran) gates

-- the statuses behind a run whose printing was begun
abbrev pub IsRunStatus : ℕ → Type 0
IsRunStatus n = (n ≡ 0) ⊎ (n ≡ 1) ⊎ (n ≡ 5) ⊎ (n ≡ 6) ⊎ (n ≡ 9)

-- why the report on these words wasn't printed whole
abbrev pub StopsReport : {T : Type 0} → Meaning → WordsState T → ℕ → Stop → Stream → Type 0
StopsReport m w traces Words sink = ⊥
StopsReport m w traces (stops.Text error) sink =
    (error ≡ Memory) × (sink.after ≡ sink.before) × (sink.faults_after ≡ sink.faults_before)
StopsReport m w traces (Nodes count) sink = ⊥
StopsReport m w traces WriteFault sink = PrintsInPart m w traces sink.before sink.after × Fails sink

-- the first of the requests, so many, are served, in their order: the rank of each is its number, and no other has one
pub record AreServedInOrder (entries : List (Option Entry)) : Type 0 where
  pub count : ℕ
  pub few : count ≤ length entries
  pub ranks : (number : ℕ) → number < count → slice_get (ranks_of entries) number ≡ Some (Some number)
  pub none : (number : ℕ) → count ≤ number → number < length entries → slice_get (ranks_of entries) number ≡ Some None

-- its report was printed whole, and the status and the line are those of its answers; or, at 9, the sink failed and
-- holds a part. A want of slots was waited out, or wasn't
pub record HasEnded (ran : Ran) (traces : ℕ) (waits : Bool) (number : ℕ) (sink faults : Stream) : Type 0 where
  pub unserved : ℕ
  pub report : List ℕ
  pub is_report : IsReport (meaning_of ran) (words_in ran) traces unserved report
  pub whole : number ≢ 9 → Extends sink.before report sink.after
  pub in_part : number ≡ 9 → ExtendsInPart sink.before report sink.after × Fails sink
  pub status : number ≢ 9 → number ≡ finish_status (finish_by (answers_in ran) unserved)
  -- at 0 each request is answered
  pub all : number ≡ 0 → unserved ≡ 0
  -- with slots and versions enough it isn't 5, where a want of slots is waited out, and isn't 6
  pub enough : Completes (meaning_of ran) (words_in ran) waits number
  -- whoever stops, the others are served
  pub others : SparesOthers (meaning_of ran) (words_in ran) (answers_in ran) number
  pub line : number ≢ 9 → TellsFinish (finish_by (answers_in ran) unserved) faults
  pub failed : number ≡ 9 → Told (codes "flock: write fault\n") faults

-- the report of a run was begun, and the run comes back with its status
pub record EndsRun (ran : Ran) (traces : ℕ) (waits : Bool) (result : ℕ × Option Ran) (sink faults : Stream) : Type 0
  where
    pub status : IsRunStatus result.0
    pub back : result.1 ≡ Some ran
    pub ended : HasEnded ran traces waits result.0 sink faults
    pub steady : result.0 ≢ 9 → sink.faults_after ≡ sink.faults_before
    pub halted : result.0 ≡ 1 → any_halted (answers_in ran) ≡ true

-- memory was wanting before it
pub record LacksMemory (result : ℕ × Option Ran) (sink faults : Stream) : Type 0 where
  pub status : result.0 ≡ 7
  pub none : result.1 ≡ None
  pub silent : sink.after ≡ sink.before
  pub steady : sink.faults_after ≡ sink.faults_before
  pub memory : Told (codes "flock: memory\n") faults

-- what comes of the report of a run
abbrev pub HasReported : Ran → ℕ → Bool → ℕ × Option Ran → (sink faults : Stream) → Type 0
HasReported ran traces waits result sink faults =
    EndsRun ran traces waits result sink faults ⊎ LacksMemory result sink faults
