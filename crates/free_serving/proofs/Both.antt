-- A `get` whose read came to nothing, and that is served under its lock then.
use Rattle.std.specs.Prelude.{◌*◌, ◌⊎◌, Bool}
use Rattle.std.proofs.Common.{◌≡◌, ℕ, ◌+◌, ◌≤◌, List, length, sym, ap, ◌∙◌, subst, inl, inr, arith, ⊎_elim, true}
use Rattle.machine_states.specs.map_history.specs.declared.op.Request.{Request}
use Rattle.machine_states.specs.table_words.specs.declared.layout.Layout.{Layout}
use Rattle.machine_states.specs.structure_laws.specs.Meaning.{Meaning}
use Rattle.machine_states.specs.structure_laws.specs.Cells.{slots}
use Rattle.version_words.specs.RunnerState.{RunnerState}
use Rattle.seq_read.specs.caller_facts.specs.Knowing.{KnowsMore, LearnsNoOther}
use Rattle.seq_read.specs.caller_facts.proofs.Knowing.{knows_on, no_other_on}
use Rattle.seq_read.specs.caller_facts.specs.try_lock.specs.Planning.{Planning}
use Rattle.seq_read.specs.caller_facts.specs.try_lock.specs.Reached.{IsReached}
use Rattle.serving.specs.attempt_bounds.specs.Spared.{IsSpared}
use Rattle.seq_read.specs.Reads.{most_of_get}
use Rattle.serving.specs.Serving.{Try, most_asks, WasCrossed}
use Rattle.serving.specs.declared.answers.Served.{Served}
use Rattle.serving.specs.declared.answers.Served.TheVariants as answers
use Rattle.serving.proofs.Standing.{entry_on, answered_more}
use Rattle.serving.proofs.Tries.{crossed_back}
use Rattle.seq_read.specs.declared.answers.Read.{Read}
use Rattle.free_serving.specs.Services.{is_refusal}
use Rattle.free_serving.specs.Left.{MostRuns, WasRefused, WasReadInVain, HasStopped}
use Rattle.free_serving.specs.One.{Ends, LeavesOne}
use Rattle.free_serving.proofs.Same.{Same}
use Rattle.free_serving.proofs.Light.{most_of_get as most_of_attempt}
use Rattle.free_serving.proofs.Single.{IsWithin}

-- the walk of a `get` twice, and a run of its section
both_within : (read tries count : ℕ) → read ≤ most_of_get count → tries ≤ most_of_attempt count + 3 → read + 1 + tries ≤ most_asks count
both_within read tries count few more = omega (arith, few, more)

more_asks : (full made asked : ℕ) → full * 8 ≤ asked → full * 8 ≤ made + 1 + asked
more_asks full made asked least = omega (arith, least)

-- a runner behind other steps of its own, on the same table
module _ {T : Type 0} (m : Meaning) (planning : Planning) (a b : RunnerState T) (same : Same a b) where
  pub refused_back : (request : Request) (answer : Read) → WasRefused m planning request answer b → WasRefused m planning request answer a
  refused_back request answer is = record {
    get = is.get;
    before = is.before;
    cut = is.cut;
    layout = is.layout ∙ same.0;
    requests = is.requests ∙ same.1;
    refused = is.refused;
  }

  pub came_back : (tries : List Try) → WasCrossed m planning tries b → WasCrossed m planning tries a
  came_back tries came = crossed_back m planning tries a b same.0 same.1 came

  pub vain_back : (request : Request) → WasReadInVain m planning request b → WasReadInVain m planning request a
  vain_back request is = record { answer = is.answer; refused = refused_back request is.answer is.refused; refusal = subst (λ (l : Layout). is_refusal l.runners is.answer ≡ true) same.0 is.refusal; looks = is.looks }

module _ {T : Type 0} (m : Meaning) (planning : Planning) (retry_short : Bool) (q : Request) (old mid new : RunnerState T) (same : Same old mid)
    (knows : KnowsMore old mid) (no_other : LearnsNoOther q.number old mid) (finished : mid.part.records.finished ≡ old.part.records.finished)
    (made : ℕ) (few : made ≤ most_of_get (slots m old.layout))
    (vain : WasReadInVain m planning q old) (spared : IsSpared old → IsSpared mid) (reached : IsReached m mid) (tries : List Try) where
  ran : (a : Served) (count : ℕ) → MostRuns a count (length mid.part.records.finished) (length new.part.records.finished)
      → MostRuns a count (length old.part.records.finished) (length new.part.records.finished)
  ran a count runs = subst (λ n. MostRuns a count n (length new.part.records.finished)) (ap length finished) runs

  stopped_back : (a : Served) → HasStopped m planning retry_short a q tries mid new → HasStopped m planning retry_short a q tries old new
  stopped_back a is = record {
    before = is.before;
    number = is.number ∙ knows.number;
    spared = λ unwaited was. ⊎_elim (λ came. inl (came_back m planning old mid same tries came)) inr (is.spared unwaited (spared was));
    stops = is.stops;
    tidy = is.tidy;
    unanswered = is.unanswered;
  }

  ends_back : (a : Served) (count : ℕ) → Ends m planning retry_short q a count tries mid new → Ends m planning retry_short q a count tries old new
  ends_back answers.All count is = is
  ends_back answers.Halted count is = is
  ends_back (answers.Short short) count is = (is.0, stopped_back (answers.Short short) is.1)
  ends_back (answers.Spent place word) count is = (is.0, stopped_back (answers.Spent place word) is.1)

  -- behind that it was served under its lock
  pub both_leaves : (answer : Served) (count full asked : ℕ) → LeavesOne m planning retry_short q answer count full asked tries mid new
      → WasCrossed m planning tries mid ⊎ IsWithin answer count asked (most_of_attempt (slots m mid.layout) + 3) mid new
      → LeavesOne m planning retry_short q answer count full (made + 1 + asked) tries old new
  both_leaves answer count full asked left brief = record {
    most = left.most;
    served = λ one. let is = left.served one in record {
      answered = is.answered;
      behind = λ x y hx isx was hy isy ofy. is.behind x y (entry_on old.part.records.known mid.part.records.known knows.known x hx) isx
          (answered_more old.part.records.known mid.part.records.known knows.known x.request was) hy isy ofy;
      odd = λ get. inr vain;
    };
    ends = ends_back answer count left.ends;
    reached = inl (⊎_elim (λ now. now) (λ stays. subst (λ (r : RunnerState T). IsReached m r) (sym stays) reached) left.reached);
    knows = knows_on old mid new knows left.knows;
    no_other = no_other_on q.number old mid new same.1 same.0 knows.number no_other left.no_other;
    least = more_asks full made asked left.least;
    whole = left.whole;
    brief = ⊎_elim (λ came. inl (came_back m planning old mid same tries came)) (λ within. inr (record {
      runs = ran answer count within.runs;
      few = both_within made asked (slots m old.layout) few (subst (λ (l : Layout). asked ≤ most_of_attempt (slots m l) + 3) same.0 within.few);
    })) brief;
    spared = λ all unwaited was. ⊎_elim (λ came. inl (came_back m planning old mid same tries came)) inr (left.spared all unwaited (spared was));
    next = λ get none was. vain;
  }
