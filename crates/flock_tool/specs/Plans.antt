-- What the options of a command and a text, or the generator, ask for.
use Rattle.std.specs.Prelude.{◌≡◌, ◌≢◌, ℕ, ◌*◌, ◌<◌, ◌≤◌, ◌⊎◌, List, Option, Result, Err, IsOk, IfSome}
use Rattle.machine_states.specs.table_words.specs.Limits.{most_nodes}
use Rattle.machine_states.specs.map_history.specs.declared.op.Request.{Request}
use Rattle.machine_states.specs.map_history.specs.Requests.{AreInOrder, AreOfFormat1, most_requests}
use Rattle.machine_states.specs.table_words.specs.declared.layout.Layout.{Layout}
use Rattle.threaded_runs.specs.free_serving.specs.resource_bounds.specs.Makes.{inserts}
use Rattle.command_line.specs.trace_reader.specs.Answer.{AreTracesOf, IsRefusal}
use Rattle.command_line.specs.trace_reader.specs.Formats.{AreOfFormat, IsFormat}
use Rattle.command_line.specs.trace_reader.specs.Generator.{generated}
use Rattle.command_line.specs.trace_reader.specs.Text.{IsAccepted, IsFirstRefusal}
use Rattle.command_line.specs.trace_reader.specs.declared.generator.Gen.{Gen}
use Rattle.command_line.specs.trace_reader.specs.declared.traces.TraceError.{TraceError}
use Rattle.command_line.specs.trace_reader.specs.declared.traces.TraceError.TheVariants.{ReadFault, Memory, TooLarge, Malformed, TooManyTraces, TooManyRequests}
use Rattle.command_line.specs.trace_reader.specs.declared.traces.Traces.{Traces}
use Rattle.command_line.specs.Options.{runners_by, nodes_by, AreInRange}
use Rattle.command_line.specs.declared.generated.LoadOptions.{LoadOptions}
use Rattle.command_line.specs.declared.options.RunOptions.{RunOptions}
use Rattle.command_line.specs.declared.options.TableKind.TheVariants as kinds
use Rattle.flock_tool.specs.declared.plan.Plan.{Plan}
use Rattle.flock_tool.specs.declared.status.Stop.{Stop}
use Rattle.flock_tool.specs.declared.status.Stop.TheVariants as stops
use Rattle.flock_tool.specs.declared.status.Stop.TheVariants.{Words, Nodes, WriteFault}

-- the numbers that fix the table
abbrev pub layout_by : RunOptions → ℕ → List Request → Layout
layout_by options traces requests = record {
  runners = runners_by options.runners traces;
  nodes = nodes_by options.nodes (inserts requests) (runners_by options.runners traces);
  sections = options.sections;
  version_max = options.version_max;
}

-- how many node slots the runners have together
abbrev pub all_nodes : Layout → ℕ
all_nodes layout = layout.nodes * layout.runners

-- the words name a table that doesn't serve this text: it is of format 3, and they name another one than the hash table
abbrev pub IsForAnotherTable : RunOptions → Traces → Type 0
IsForAnotherTable options traces = (traces.format ≡ 3) × (options.table ≢ kinds.Hash)

-- they name such a one for this text, where the source tells it
pub record AsksAnotherTable (options : RunOptions) (left : Option (List ℕ)) : Type 0 where
  pub traces : Traces
  pub text : IfSome left (AreTracesOf traces)
  pub another : IsForAnotherTable options traces

-- the options and the text, where the source tells it, ask for this
pub record IsPlanned (options : RunOptions) (left : Option (List ℕ)) (plan : Plan) : Type 0 where
  pub given : plan.options ≡ options
  pub ranges : AreInRange plan.options
  pub text : IfSome left (AreTracesOf plan.traces)
  pub ordered : AreInOrder plan.traces.requests plan.traces.count
  pub format : IsFormat plan.traces.format × AreOfFormat plan.traces.format plan.traces.requests
  pub served : IsForAnotherTable plan.options plan.traces → ⊥
  pub layout : plan.layout ≡ layout_by plan.options plan.traces.count plan.traces.requests

-- the runners would have more node slots together than the limit
abbrev pub IsTooMuch : Layout → Stop → Type 0
IsTooMuch layout Words = ⊥
IsTooMuch layout (stops.Text error) = ⊥
IsTooMuch layout (Nodes count) = (count ≡ all_nodes layout) × (most_nodes < count)
IsTooMuch layout WriteFault = ⊥

-- they ask for so many node slots, which are more than the limit, of a table that serves the text
pub record AsksTooMuch (options : RunOptions) (left : Option (List ℕ)) (slots : ℕ) : Type 0 where
  pub traces : Traces
  pub text : IfSome left (AreTracesOf traces)
  pub served : IsForAnotherTable options traces → ⊥
  pub count : slots ≡ all_nodes (layout_by options traces.count traces.requests)
  pub much : most_nodes < slots

-- why there is no plan
abbrev pub IsRefusedPlan : RunOptions → Option (List ℕ) → Stop → Type 0
IsRefusedPlan options left Words = AsksAnotherTable options left
IsRefusedPlan options left (stops.Text error) = IfSome left (IsRefusal error)
IsRefusedPlan options left (Nodes count) = AsksTooMuch options left count
IsRefusedPlan options left WriteFault = ⊥

-- a text in the grammar is planned, unless it is for another table or asks for too many node slots, and every other is
-- refused for its first refusal, if memory isn't wanting
pub record MustPlan (options : RunOptions) (result : Result Plan Stop) (text : List ℕ) : Type 0 where
  pub accepted : IsAccepted text → IsOk result ⊎ (result ≡ Err (stops.Text Memory))
      ⊎ ((count : ℕ) × (result ≡ Err (Nodes count))) ⊎ (result ≡ Err Words)
  -- one for another table is refused as such
  pub another : (traces : Traces) → AreTracesOf traces text → IsForAnotherTable options traces
      → (result ≡ Err Words) ⊎ (result ≡ Err (stops.Text Memory))
  pub refused : (error : TraceError) → IsFirstRefusal text error
      → (result ≡ Err (stops.Text error)) ⊎ (result ≡ Err (stops.Text Memory))

-- how many requests are to be generated
abbrev pub all_requests : Gen → ℕ
all_requests plan = plan.traces * plan.length

-- the options of `load` ask for this: the requests are the generator's
pub record IsLoadPlanned (load : LoadOptions) (plan : Plan) : Type 0 where
  pub given : plan.options ≡ load.run
  pub ranges : AreInRange plan.options
  pub count : plan.traces.count ≡ load.plan.traces
  pub requests : plan.traces.requests ≡ generated load.plan
  pub ordered : AreInOrder plan.traces.requests plan.traces.count
  pub header : plan.traces.format ≡ 1
  pub format : AreOfFormat1 plan.traces.requests
  pub layout : plan.layout ≡ layout_by plan.options plan.traces.count plan.traces.requests

-- they ask for so many node slots, which are more than the limit
pub record LoadAsksTooMuch (load : LoadOptions) (slots : ℕ) : Type 0 where
  pub count : slots ≡ all_nodes (layout_by load.run load.plan.traces (generated load.plan))
  pub much : most_nodes < slots

-- why there is no plan for them: too many requests, or else too many node slots, or want of memory
abbrev pub IsRefusedLoad : LoadOptions → Stop → Type 0
IsRefusedLoad load Words = ⊥
IsRefusedLoad load (stops.Text ReadFault) = ⊥
IsRefusedLoad load (stops.Text Memory) = Unit {0}
IsRefusedLoad load (stops.Text (TooLarge bytes)) = ⊥
IsRefusedLoad load (stops.Text (Malformed line kind)) = ⊥
IsRefusedLoad load (stops.Text (TooManyTraces count)) = ⊥
IsRefusedLoad load (stops.Text (TooManyRequests count)) = (count ≡ all_requests load.plan) × (most_requests < count)
IsRefusedLoad load (Nodes count) = (all_requests load.plan ≤ most_requests) × LoadAsksTooMuch load count
IsRefusedLoad load WriteFault = ⊥
