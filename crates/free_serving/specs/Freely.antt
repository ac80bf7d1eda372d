-- The serving of a list of requests in which a `get` may be read first, without its lock.
use Rattle.std.specs.Prelude.{◌≡◌, ℕ, List, Bool, true, false}
use Rattle.machine_states.specs.map_history.specs.declared.op.Request.{Request}
use Rattle.machine_states.specs.body_terms.specs.Counted.{counted_on}
use Rattle.seq_read.specs.runner_gate.specs.Asks.{Asks, asked_on}
use Rattle.machine_states.specs.structure_laws.specs.Meaning.{Meaning}
use Rattle.version_words.specs.RunnerState.{RunnerState}
use Rattle.seq_read.specs.caller_facts.specs.try_lock.specs.Planning.{Planning}
use Rattle.serving.specs.Serving.{Try, Serves}
use Rattle.serving.specs.declared.answers.Served.{Served}
use Rattle.serving.specs.declared.answers.Served.TheVariants as answers
use Rattle.free_serving.specs.Services.{Service, steps_in, asks_in, tries_in, IsEnd, AreDone, all_asks_before}
use Rattle.free_serving.specs.Left.{Leaves}

module _ {T : Type 0} (m : Meaning) (planning : Planning) (retry_short : Bool) where
  -- what the serving does that reads each `get` first, service by service. Where a gate halted the runner, it was seen
  -- before the last part of the serving, in which it did: with as many halts as at first, and with so many more asks
  pub record ServesFreely (requests : List Request) (answer : Served) (old new : RunnerState T)
      (Seen : ℕ → Asks → Type 0) (halts : ℕ) (asks asks' : Asks) (steps steps' : ℕ) : Type 0 where
    -- the last one first
    pub services : List Service
    pub done : AreDone m planning retry_short requests services old new
    pub ends : IsEnd requests services answer
    pub counted : steps' ≡ counted_on steps (steps_in services)
    pub asked : asks' ≡ asked_on asks (asks_in services)
    pub let_go : answer ≡ answers.Halted
        → Seen halts (asked_on asks (all_asks_before m planning retry_short requests services old new done))

  -- and where no `get` is to be read first, it is `serve` of all requests
  abbrev pub ServesBy : Bool → List Request → Served → RunnerState T → RunnerState T → (ℕ → Asks → Type 0)
      → ℕ → Asks → Asks → ℕ → ℕ → Type 0
  ServesBy false requests answer old new Seen halts asks asks' steps steps' =
      Serves m planning retry_short requests answer old new Seen halts asks asks' steps steps'
  ServesBy true requests answer old new Seen halts asks asks' steps steps' =
      ServesFreely requests answer old new Seen halts asks asks' steps steps'

  -- its attempts, the last one first
  abbrev pub tries_of : (reads_free : Bool) (requests : List Request) (answer : Served) (old new : RunnerState T)
      (Seen : ℕ → Asks → Type 0) (halts : ℕ) (asks asks' : Asks) (steps steps' : ℕ)
      → ServesBy reads_free requests answer old new Seen halts asks asks' steps steps' → List Try
  tries_of false requests answer old new Seen halts asks asks' steps steps' does = does.tries
  tries_of true requests answer old new Seen halts asks asks' steps steps' does = tries_in does.services

  -- what it does, and what that leaves: where another one came between, it did in one of its own attempts
  pub record ServesAll (reads_free : Bool) (requests : List Request) (answer : Served) (old new : RunnerState T)
      (Seen : ℕ → Asks → Type 0) (halts : ℕ) (asks asks' : Asks) (steps steps' : ℕ) : Type 0 where
    pub does : ServesBy reads_free requests answer old new Seen halts asks asks' steps steps'
    pub tries : List Try
    pub by : tries ≡ tries_of reads_free requests answer old new Seen halts asks asks' steps steps' does
    pub left : Leaves m planning retry_short reads_free requests answer tries old new Seen halts asks asks'
