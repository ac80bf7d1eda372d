-- Whose gates come back from a run, and what each has counted.
use Rattle.std.specs.Prelude.{◌≡◌, ◌≢◌, ℕ, Bool, ◌+◌, ◌-◌, ◌*◌, ◌^◌, ◌<◌, ◌≤◌, ◌==◌, min, not, count_by, List, [], ◌∷◌, length, Option, None, Some, slice_index_or}
use Rattle.machine_states.specs.map_history.specs.declared.op.Request.{Request}
use Rattle.machine_states.specs.structure_laws.specs.Meaning.{Meaning}
use Rattle.settled_tables.specs.settling.specs.runner_gate.specs.Asks.{Asks, asked_on, unasked_of}
use Rattle.settled_tables.specs.settling.specs.runner_gate.specs.Counts.{plus}
use Rattle.version_words.specs.TableState.{WordsState}
use Rattle.free_serving.specs.serving.specs.declared.answers.Served.{Served}
use Rattle.free_serving.specs.serving.specs.declared.answers.Served.TheVariants as answers
use Rattle.free_serving.specs.Left.{least_asks}
use Rattle.lone_reads.specs.seq_read.specs.caller_facts.specs.Counted.{IsSeen}
use Rattle.threaded_runs.specs.Counts.{halted}
use Rattle.threaded_runs.specs.Own.{own_requests}
use Rattle.threaded_runs.specs.Runs.{stamp_of}

module _ {H : Type 0} (asks : H → Asks) where
  -- a count of asks once these gates came back, one after the other
  abbrev pub asks_of_all : ℕ → List H → ℕ
  asks_of_all count [] = count
  asks_of_all count (gate ∷ gates) = asks_of_all (plus count (asks gate).count) gates

module _ {T : Type 0} (m : Meaning) (w : WordsState T) where
  -- how many of a worker's requests are served
  abbrev pub served_by : ℕ → ℕ
  served_by worker = count_by (λ (request : Request). not (stamp_of m w request == 0))
      (own_requests w.layout.runners worker w.requests)

module _ {T H : Type 0} (m : Meaning) (w : WordsState T) (reads_free : Bool) (halts : H → ℕ)
    (asks : H → Asks) where
  -- the worker's gate had let it go on before: it was seen, not halted yet, with asks enough for each of the worker's
  -- served requests, but for one that somebody may have run to its end, and for the ask behind the last one
  abbrev pub HadLetGo : List (Option ℕ) → ℕ → Type 0
  HadLetGo entries worker = (more : ℕ) × (least_asks reads_free * (served_by m w worker - 1) ≤ more + 1)
      × IsSeen halts asks 0 (asked_on (unasked_of worker (slice_index_or entries worker None)) more)

  -- this is the gate that was given out for the worker with its entry of these, and the one that it asked: it halted
  -- once where the worker was halted, so at its last ask, and else never; and it was asked so often at least for each
  -- of the worker's served requests, but for one at most where it was halted, whose section somebody may have run to
  -- its end
  pub record IsGateOf (entries : List (Option ℕ)) (worker : ℕ) (answer : Served) (gate : H) : Type 0 where
    pub given : (asks gate).plan ≡ Some (record { runner = worker; halt = slice_index_or entries worker None })
    pub stopped : answer ≡ answers.Halted → halts gate ≡ 1
    pub went : answer ≢ answers.Halted → halts gate ≡ 0
    pub let_go : answer ≡ answers.Halted → HadLetGo entries worker
    pub often : min (least_asks reads_free * (served_by m w worker - halted answer)) (2 ^ 64 - 1) ≤ (asks gate).count

  -- the gates of workers with these answers came back, one of each, by which a count of asks rose so far
  pub record GatesCameBack (entries : List (Option ℕ)) (given : List Served) (before behind : ℕ) : Type 0 where
    pub gates : List H
    pub each : length gates ≡ length given
    pub of_worker : (worker : ℕ) (a : Served) (d : H) → worker < length gates
        → IsGateOf entries worker (slice_index_or given worker a) (slice_index_or gates worker d)
    pub asked : behind ≡ asks_of_all asks before gates
