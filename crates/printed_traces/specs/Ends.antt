-- How the printing of generated requests ends.
use Rattle.std.specs.Prelude.{◌≡◌, ℕ, ◌*◌, ◌<◌, ◌≤◌, List, Option}
use Rattle.map_history.specs.Requests.{most_requests}
use Rattle.report_text.specs.fault_count.specs.Rose.{Rose}
use Rattle.report_text.specs.Sink.{Extends, ExtendsInPart}
use Rattle.trace_reader.specs.Answer.{AreTracesOf}
use Rattle.trace_reader.specs.Generator.{generated}
use Rattle.trace_reader.specs.Printed.{printed}
use Rattle.trace_reader.specs.declared.generator.Gen.{Gen}
use Rattle.printed_traces.specs.declared.print.PrintStop.{PrintStop}
use Rattle.printed_traces.specs.declared.print.PrintStop.TheVariants.{TooManyRequests, Memory, WriteFault}

-- a plan is in the ranges of the command line; all traces together may have too many requests
pub record IsPlanInRange (plan : Gen) : Type 0 where
  pub seed : plan.seed ≤ 2147483647
  pub traces : plan.traces ≤ 64
  pub count : plan.length ≤ most_requests
  pub some_keys : 1 ≤ plan.keys
  pub keys : plan.keys ≤ 32768

-- the text with the generator's requests
abbrev pub gen_text : Gen → List ℕ
gen_text plan = printed (generated plan) plan.traces

-- the grammar relates it to these requests, and it is of format 1
abbrev pub IsRead : Gen → Type 0
IsRead plan = AreTracesOf (record { format = 1; count = plan.traces; requests = generated plan }) (gen_text plan)

-- the text was added to the sink, and nothing else; or a part of it, from the front
abbrev pub Prints : Gen → Option (List ℕ) → Option (List ℕ) → Type 0
Prints plan before after = Extends before (gen_text plan) after

abbrev pub PrintsInPart : Gen → Option (List ℕ) → Option (List ℕ) → Type 0
PrintsInPart plan before after = ExtendsInPart before (gen_text plan) after

-- why it stopped, and what it left
abbrev pub Stops : PrintStop → Gen → (before after : Option (List ℕ)) → (faults_before faults_after : ℕ) → Type 0
Stops (TooManyRequests count) plan before after faults_before faults_after =
    (count ≡ plan.traces * plan.length) × (most_requests < count) × (after ≡ before) × (faults_after ≡ faults_before)
Stops Memory plan before after faults_before faults_after = (after ≡ before) × (faults_after ≡ faults_before)
Stops WriteFault plan before after faults_before faults_after =
    Rose faults_before faults_after × PrintsInPart plan before after
