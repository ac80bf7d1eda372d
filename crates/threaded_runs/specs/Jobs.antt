-- What a worker's thread is given, and what it gives back.
use Rattle.std.specs.Prelude.{◌≡◌, ◌≢◌, ℕ, ◌<◌, Bool, List, [], ◌∷◌, length, Option, None, Some, slice_index_or}
use Rattle.machine_states.specs.structure_laws.specs.Meaning.{Meaning}
use Rattle.settled_tables.specs.settling.specs.runner_gate.specs.Asks.{Asks, unasked_of}
use Rattle.machine_states.specs.runner_steps.specs.After.{leaves}
use Rattle.version_words.specs.RunnerState.{RunnerState}
use Rattle.version_words.specs.Shown.{left_part}
use Rattle.version_words.specs.TableState.{TableState, IsOf}
use Rattle.settled_tables.specs.settling.specs.try_lock.specs.Planning.{Planning}
use Rattle.lone_reads.specs.seq_read.specs.caller_facts.specs.Counted.{IsSeen}
use Rattle.free_serving.specs.serving.specs.Serving.{MayServe}
use Rattle.free_serving.specs.serving.specs.declared.answers.Served.{Served}
use Rattle.free_serving.specs.serving.specs.declared.answers.Served.TheVariants as answers
use Rattle.free_serving.specs.Freely.{ServesAll}
use Rattle.threaded_runs.specs.declared.job.Job.{Job}
use Rattle.threaded_runs.specs.declared.job.Finished.{Finished}
use Rattle.threaded_runs.specs.Gates.{asks_of_all}
use Rattle.threaded_runs.specs.Own.{own_requests}

module _ {T H : Type 0} where
  -- the worker may serve its requests on the table
  pub record MayRun (planning : Planning) (t : TableState T) (j : Job T H) : Type 0 where
    pub own : IsOf t j.runner
    pub next : MayServe planning j.requests.items j.runner

  -- the worker has this number, its requests are those of its traces, and it has run no section, retired nothing, and
  -- met no epoch
  pub record IsSeated (planning : Planning) (t : TableState T) (worker : ℕ) (j : Job T H) : Type 0 where
    pub may : MayRun planning t j
    pub number : j.runner.number ≡ worker
    pub requests : j.requests.items ≡ own_requests t.layout.runners worker t.requests
    pub fresh : j.runner.part.records.finished ≡ []
    pub nodes : j.runner.part.nodes.limbo ≡ []
    pub descriptors : j.runner.part.descriptors.limbo ≡ []
    pub unmet : j.runner.part.records.epoch_seen ≡ 0

  abbrev pub AllSeated : Planning → TableState T → List (Job T H) → Type 0
  AllSeated planning t jobs = (worker : ℕ) (d : Job T H) → worker < length jobs
      → IsSeated planning t worker (slice_index_or jobs worker d)

  -- the gates haven't halted yet
  abbrev pub AllUnhalted : (H → ℕ) → List (Job T H) → Type 0
  AllUnhalted halts jobs = (worker : ℕ) (d : Job T H) → worker < length jobs
      → halts (slice_index_or jobs worker d).gate ≡ 0

  -- each worker has the gate that was given out for it with its entry of these, and that wasn't asked yet
  abbrev pub AllGiven : (H → Asks) → List (Option ℕ) → List (Job T H) → Type 0
  AllGiven asks entries jobs = (worker : ℕ) (d : Job T H) → worker < length jobs
      → asks (slice_index_or jobs worker d).gate ≡ unasked_of worker (slice_index_or entries worker None)

  module _ (m : Meaning) (planning : Planning) (retry_short reads_free : Bool) (halts : H → ℕ) (asks : H → Asks)
      (t : TableState T) where
    -- the worker has served its requests, as the answer says, and has its gate still, which halted exactly where the
    -- answer is Halted
    pub record HasRun (j : Job T H) (f : Finished T H) : Type 0 where
      pub own : IsOf t f.runner
      -- so many steps were counted
      pub steps : ℕ
      -- with what that leaves, whichever way its requests were served
      pub serves : ServesAll m planning retry_short reads_free j.requests.items f.answer j.runner f.runner
          (IsSeen halts asks) (halts j.gate) (asks j.gate) (asks f.gate) 0 steps
      pub halted : halts j.gate ≡ 0 → f.answer ≡ answers.Halted → halts f.gate ≡ 1
      pub went : halts j.gate ≡ 0 → f.answer ≢ answers.Halted → halts f.gate ≡ 0

    abbrev pub AllRun : List (Job T H) → List (Finished T H) → Type 0
    AllRun jobs finished = (i : ℕ) (d : Job T H) (e : Finished T H) → i < length jobs
        → HasRun (slice_index_or jobs i d) (slice_index_or finished i e)

  -- the workers in their order, each of the table, with gates that halted exactly where the answer is Halted
  pub record IsBack (halts : H → ℕ) (t : TableState T) (worker : ℕ) (f : Finished T H) : Type 0 where
    pub own : IsOf t f.runner
    pub number : f.runner.number ≡ worker
    pub halted : f.answer ≡ answers.Halted → halts f.gate ≡ 1
    pub went : f.answer ≢ answers.Halted → halts f.gate ≡ 0

  abbrev pub AreBack : (H → ℕ) → TableState T → List (Finished T H) → Type 0
  AreBack halts t finished = (i : ℕ) (d : Finished T H) → i < length finished
      → IsBack halts t i (slice_index_or finished i d)

  -- the gates of these workers
  abbrev pub gates_of : List (Finished T H) → List H
  gates_of [] = []
  gates_of (f ∷ finished) = f.gate ∷ gates_of finished

  -- the count of asks once they came back, one after the other
  abbrev pub asks_counted : (H → Asks) → ℕ → List (Finished T H) → ℕ
  asks_counted asks count finished = asks_of_all asks count (gates_of finished)

  -- the answer is the worker's, and the keeper keeps the worker's part as it was joined
  pub record IsKept (keeper : RunnerState T) (worker : ℕ) (answer : Served) (f : Finished T H) : Type 0 where
    pub same : answer ≡ f.answer
    pub part : left_part keeper.joined worker ≡ Some (leaves f.runner.part)

  abbrev pub AllKept : RunnerState T → List Served → List (Finished T H) → Type 0
  AllKept keeper answers finished = (i : ℕ) (a : Served) (d : Finished T H) → i < length answers
      → IsKept keeper i (slice_index_or answers i a) (slice_index_or finished i d)
