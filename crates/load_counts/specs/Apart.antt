-- Requests of which each trace has keys of its own: what each trace is answered by itself.
use Rattle.std.specs.Prelude.{◌≡◌, ℕ, ◌==◌, ◌%◌, List, Option, All, count_by, filter, is_some, length, map, not}
use Rattle.std.specs.FinMap.{empty, len}
use Rattle.std.specs.List.{flat_map, range_with_len, sum_by}
use Rattle.structure_laws.specs.map_history.specs.declared.op.Entry.{Entry}
use Rattle.structure_laws.specs.map_history.specs.declared.op.Op.{Op}
use Rattle.structure_laws.specs.map_history.specs.declared.op.Request.{Request}
use Rattle.structure_laws.specs.map_history.specs.declared.reply.Reply.{Reply}
use Rattle.structure_laws.specs.map_history.specs.Keys.{key_of, IsOneKeyed}
use Rattle.structure_laws.specs.map_history.specs.Replay.{map_after_all, replies_of}
use Rattle.trace_reader.specs.Generator.{generated}
use Rattle.trace_reader.specs.declared.generator.Gen.{Gen}
use Rattle.load_counts.specs.Counts.{counts_of, counts_text}

-- the operations of a trace
abbrev pub ops_of_trace : List Request → ℕ → List Op
ops_of_trace requests trace =
    map (λ (request : Request). request.op) (filter (λ (request : Request). request.trace == trace) requests)

-- the replies where each trace is served by itself, from the empty map on
abbrev pub replies_alone : List Request → ℕ → List Reply
replies_alone requests traces =
    flat_map (λ trace. replies_of empty (ops_of_trace requests trace)) (range_with_len 0 traces)

-- and the pairs that all of them leave together
abbrev pub pairs_alone : List Request → ℕ → ℕ
pairs_alone requests traces =
    sum_by (λ trace. len (map_after_all empty (ops_of_trace requests trace))) (range_with_len 0 traces)

-- each request has one key, which tells its trace
abbrev pub AreApart : List Request → ℕ → Type 0
AreApart requests traces =
    All (λ (request : Request). IsOneKeyed request.op × (request.trace ≡ key_of request.op % traces)) requests

-- how many requests have no entry
abbrev pub unserved_in : List (Option Entry) → ℕ
unserved_in entries = count_by (λ (entry : Option Entry). not (is_some entry)) entries

-- what `load` prints: the counts where each of the generated traces is served by itself
abbrev pub load_text : Gen → List ℕ
load_text plan =
    counts_text (length (generated plan)) (counts_of (replies_alone (generated plan) plan.traces))
    (pairs_alone (generated plan) plan.traces)
