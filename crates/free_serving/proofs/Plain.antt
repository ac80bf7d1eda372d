-- What is left where each request is served under its lock.
use Rattle.std.specs.Prelude.{Bool, false}
use Rattle.std.proofs.Common.{ℕ, ◌+◌, List, length, refl, inl, inr, ⊎_elim}
use Rattle.machine_states.specs.map_history.specs.declared.op.Request.{Request}
use Rattle.seq_read.specs.runner_gate.specs.Asks.{Asks}
use Rattle.machine_states.specs.structure_laws.specs.Meaning.{Meaning}
use Rattle.version_words.specs.RunnerState.{RunnerState}
use Rattle.seq_read.specs.caller_facts.specs.try_lock.specs.Planning.{Planning}
use Rattle.serving.specs.Serving as serving
use Rattle.serving.specs.Serving.{Try, Stops, Serves}
use Rattle.serving.specs.declared.answers.Served.{Served}
use Rattle.serving.specs.declared.answers.Served.TheVariants as answers
use Rattle.free_serving.specs.Left.{StopsAt, HasStopped, Ends, Leaves}
use Rattle.free_serving.specs.Freely.{ServesAll}
use Rattle.free_serving.proofs.Single.{runs_few}

module _ {T : Type 0} (m : Meaning) (planning : Planning) (retry_short : Bool) (requests : List Request) (old new : RunnerState T) where
  stops_so : (answer : Served) (before : RunnerState T) (q : Request) → Stops m planning retry_short answer q before new
      → StopsAt m planning retry_short answer q before new
  stops_so answers.All before q is = is
  stops_so answers.Halted before q is = is
  stops_so (answers.Short short) before q is = is
  stops_so (answers.Spent place word) before q is = inl is

  stopped_so : (answer : Served) (q : Request) (tries : List Try) → serving.HasStopped m planning retry_short answer q tries old new
      → HasStopped m planning retry_short answer q tries old new
  stopped_so answer q tries is = record {
    before = is.before;
    number = is.knew.number;
    spared = is.spared;
    stops = stops_so answer is.before q is.stops;
    tidy = is.tidy;
    unanswered = is.unanswered;
  }

  ends_so : (answer : Served) (count : ℕ) (tries : List Try) → serving.Ends m planning retry_short requests answer count tries old new
      → Ends m planning retry_short requests answer count tries old new
  ends_so answers.All count tries is = is
  ends_so answers.Halted count tries is = is
  ends_so (answers.Short short) count tries is = (is.0, is.1, stopped_so (answers.Short short) is.0 tries is.2)
  ends_so (answers.Spent place word) count tries is = (is.0, is.1, stopped_so (answers.Spent place word) is.0 tries is.2)

  plain_leaves : (answer : Served) (Seen : ℕ → Asks → Type 0) (halts : ℕ) (asks asks' : Asks) (steps steps' : ℕ)
      → (serves : Serves m planning retry_short requests answer old new Seen halts asks asks' steps steps')
      → Leaves m planning retry_short false requests answer serves.tries old new Seen halts asks asks'
  plain_leaves answer Seen halts asks asks' steps steps' serves = record {
    count = serves.count;
    served = record {
      few = serves.served.few;
      answered = serves.served.answered;
      rising = serves.served.rising;
      behind = serves.served.behind;
    };
    ends = ends_so answer serves.count serves.tries serves.ends;
    knows = serves.knows;
    others = serves.others;
    made = serving.asks_in serves.tries + serves.count;
    full = serves.count;
    asked = serves.asked;
    least = serves.least;
    whole = inl refl;
    let_go = λ e. (serving.all_asks_let m planning retry_short requests serves.tries old new serves.tried, serves.least_let e, serves.let_go e);
    brief = ⊎_elim inl (λ brief. inr (record {
      runs = runs_few answer serves.count (length old.part.records.finished) (length new.part.records.finished) brief.runs;
      asked = brief.asked;
    })) serves.brief;
    read = λ free. absurd (let z = free in cc);
  }

  pub plain_serving : (answer : Served) (Seen : ℕ → Asks → Type 0) (halts : ℕ) (asks asks' : Asks) (steps steps' : ℕ)
      → Serves m planning retry_short requests answer old new Seen halts asks asks' steps steps'
      → ServesAll m planning retry_short false requests answer old new Seen halts asks asks' steps steps'
  plain_serving answer Seen halts asks asks' steps steps' serves =
      record { does = serves; tries = serves.tries; by = refl; left = plain_leaves answer Seen halts asks asks' steps steps' serves }
