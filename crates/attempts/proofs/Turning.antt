-- The answers of an attempt that was turned away.
use Rattle.std.specs.Prelude.{◌&&◌, not, Bool, true, false, if◌then◌else◌}
use Rattle.std.proofs.Common.{◌≡◌, ℕ, ◌+◌, ◌-◌, ◌≤◌, length, refl, sym, ap, ◌∙◌, subst, arith, Some, None}
use Rattle.std.proofs.lemmas.Bool.{true≢false}
use Rattle.machine_states.specs.map_history.specs.declared.op.Request.{Request}
use Rattle.machine_states.specs.body_terms.specs.Word.{value_of}
use Rattle.machine_states.specs.table_words.specs.Limits.{IsWithinLimits}
use Rattle.runner_gate.specs.Asks.{Asks, asked_on}
use Rattle.machine_states.specs.structure_laws.specs.Meaning.{Meaning}
use Rattle.machine_states.specs.structure_laws.specs.Laws.{Laws}
use Rattle.machine_states.specs.runner_parts.specs.declared.entries.Published.{Published}
use Rattle.machine_states.specs.runner_parts.specs.Tests.{is_answered}
use Rattle.machine_facts.specs.machine_invariant.specs.After.{AreAllowed}
use Rattle.version_words.specs.RunnerState.{RunnerState}
use Rattle.caller_facts.specs.try_lock.specs.Planning.{Planning}
use Rattle.caller_facts.specs.try_lock.specs.Ends.{IsCutShort}
use Rattle.caller_facts.specs.try_lock.specs.Watches.{Watched}
use Rattle.caller_facts.specs.Knowing.{IsOwn}
use Rattle.attempts.specs.Course.{IsRefused, refused_steps, is_refused_late}
use Rattle.caller_facts.specs.Counted.{IsCounted}
use Rattle.caller_facts.proofs.Standing.{untouched}
use Rattle.attempts.specs.Attempts.{is_halted, is_short, is_refusal, IsBrief, leaving_steps, leaving_helps, has_helped, IsTurnedAway, InHelpedRun, IsHalted, Answers, steps_of, has_published, has_met_held, asks_before}
use Rattle.attempts.specs.Rests.{HasTurned, Rests}
use Rattle.attempts.specs.declared.answers.Attempt.{Attempt}
use Rattle.attempts.specs.declared.answers.Attempt.TheVariants as answers
use Rattle.caller_facts.proofs.Knowing.{own_on}
use Rattle.caller_facts.proofs.Counting.{counted_steps}

pub halted_is : (got : Attempt) → is_halted got ≡ true → got ≡ answers.Halted
halted_is answers.Halted e = refl
halted_is (answers.Busy place word) e = absurd (let z = e in cc)
halted_is (answers.Stale place expected read) e = absurd (let z = e in cc)
halted_is (answers.Far loads) e = absurd (let z = e in cc)
halted_is (answers.Spent place word) e = absurd (let z = e in cc)
halted_is (answers.Done reply stamp) e = absurd (let z = e in cc)
halted_is (answers.Short short) e = absurd (let z = e in cc)

refusal_long : (answer : Attempt) → is_refusal answer ≡ true → is_short answer ≡ false
refusal_long (answers.Busy place word) e = refl
refusal_long (answers.Stale place expected read) e = refl
refusal_long (answers.Far loads) e = refl
refusal_long (answers.Spent place word) e = refl
refusal_long (answers.Done reply stamp) e = refl
refusal_long answers.Halted e = refl
refusal_long (answers.Short short) e = absurd (let z = e in cc)

module _ {T : Type 0} (m : Meaning) (laws : Laws m) (planning : Planning) (request : Request) (old here new : RunnerState T) (answer got : Attempt)
    (refusal : is_refusal answer ≡ true) (cause : IsRefused m planning request answer old here) (held : Bool) (before : ℕ)
    (before_is : before ≡ refused_steps m planning request answer old here cause) (held_is : held ≡ is_refused_late m planning request answer old here cause)
    (own : IsOwn here request) (unknown : is_answered here.part.records.known request.number ≡ false)
    (limits : IsWithinLimits new.layout) (allowed : AreAllowed new.requests) (layout : new.layout ≡ here.layout) (requests : new.requests ≡ here.requests)
    (Seen : ℕ → Asks → Type 0) (halts halts' : ℕ) (asks asks' : Asks) (steps steps' : ℕ) (seen : Seen halts asks)
    (turned : HasTurned m answer got here new halts halts' asks asks' steps steps') where
  unknown_still : is_answered new.part.records.known request.number ≡ false
  unknown_still = turned.no_own request own ∙ unknown

  -- an answer, and what is counted of it
  record IsTold (most : ℕ) (a : Attempt) : Type 0 where
    pub answers : Answers m planning request a old new
    pub made_is : before + turned.made ≡ steps_of m planning request a old new answers
    pub published_is : held ≡ has_published m planning request a old new answers
    pub let_go : is_halted a ≡ true → (more : ℕ)
        × ((if held then 2 else 1) + before + more ≡ asks_before m planning request a old new answers) × Seen halts (asked_on asks more)
    pub brief : has_met_held m planning request a old new answers ≡ false → IsBrief most (if held then 0 else 1) turned.made here new
    pub runs : is_halted a ≡ false → length new.part.records.finished
        ≡ length here.part.records.finished + ((if held && not held then 1 else 0) + (if has_helped m planning request a old new answers then 1 else 0))

  -- it left with its refusal
  abbrev away : is_halted got ≡ false → IsTurnedAway m planning request answer old new
  away going = record {
    cut = here;
    cause = cause;
    leaves = turned.leaves going;
    tidy = turned.tidy going;
    untouched = untouched m laws new request limits allowed turned.reached (turned.tidy going).at.published (turned.tidy going).at.settled
        (own_on here new requests layout turned.knows.number request own) unknown_still;
  }

  -- where it helped nobody, it made no step
  brief_of : (b : Bool) (most : ℕ) → turned.made ≡ 0 → length new.part.records.finished ≡ length here.part.records.finished + 0
      → IsBrief most (if b then 0 else 1) turned.made here new
  brief_of true most none runs = record { few_steps = omega (arith, none); few_runs = omega (arith, runs) }
  brief_of false most none runs = record { few_steps = omega (arith, none); few_runs = omega (arith, runs) }

  no_halt : {A : Type 0} → false ≡ true → A
  no_halt e = absurd (true≢false (sym e))

  none_more_of : (b : Bool) → ◌≡◌ {A = ℕ} (if b && not b then 1 else 0) 0
  none_more_of true = refl
  none_more_of false = refl

  with_none : (k : ℕ) → length new.part.records.finished ≡ length here.part.records.finished + k → length new.part.records.finished ≡ length here.part.records.finished + ((if held && not held then 1 else 0) + k)
  with_none k runs = let none = none_more_of held in omega (arith, runs, none)

  refused_told : (most : ℕ) (a : Attempt) → is_refusal a ≡ true → (is : IsTurnedAway m planning request a old new)
      → before ≡ refused_steps m planning request a old is.cut is.cause → turned.made ≡ leaving_steps m a is.cut new is.leaves
      → held ≡ is_refused_late m planning request a old is.cut is.cause
      → length new.part.records.finished ≡ length here.part.records.finished + (if leaving_helps m a is.cut new is.leaves then 1 else 0) → IsTold most a
  refused_told most (answers.Busy place word) e is before made late runs = record {
    answers = is;
    made_is = λ i. before i + made i;
    published_is = late;
    let_go = λ z. no_halt z;
    brief = λ z. absurd (true≢false z);
    runs = λ z. with_none _ runs;
  }
  refused_told most (answers.Stale place expected read) e is before made late runs = record {
    answers = is;
    made_is = λ i. before i + made i;
    published_is = late;
    let_go = λ z. no_halt z;
    brief = λ z. brief_of held most made runs;
    runs = λ z. with_none _ runs;
  }
  refused_told most (answers.Far loads) e is before made late runs = record {
    answers = is;
    made_is = λ i. before i + made i;
    published_is = late;
    let_go = λ z. no_halt z;
    brief = λ z. brief_of held most made runs;
    runs = λ z. with_none _ runs;
  }
  refused_told most (answers.Spent place word) e is before made late runs = record {
    answers = is;
    made_is = λ i. before i + made i;
    published_is = late;
    let_go = λ z. no_halt z;
    brief = λ z. brief_of held most made runs;
    runs = λ z. with_none _ runs;
  }
  refused_told most (answers.Done reply stamp) e is before made late runs = no_halt e
  refused_told most (answers.Short short) e is before made late runs = no_halt e
  refused_told most answers.Halted e is before made late runs = no_halt e

  going_told : (most : ℕ) → is_halted got ≡ false → IsTold most got
  going_told most going = subst (IsTold most) (sym (turned.same going))
      (refused_told most answer refusal (away going) before_is (turned.made_is going) held_is
      (turned.runs going))

  -- this answer's cause, and what is counted of it
  abbrev ByAnswer : Attempt → Type 0
  ByAnswer a = (by : IsRefused m planning request a old here) × (before ≡ refused_steps m planning request a old here by)
      × (held ≡ is_refused_late m planning request a old here by)

  -- or a gate halted it as it helped
  module _ (halted : is_halted got ≡ true) where
    at : (place : ℕ) × (word : ℕ) × (answer ≡ answers.Busy place word) × (watching : RunnerState T) × Watched m place word true here watching × IsCutShort m (value_of word - 1) turned.made watching new
    at = turned.short halted

    by : ByAnswer (answers.Busy at.0 at.1)
    by = subst ByAnswer at.2 (cause, before_is, held_is)

    some_none : (x : Published) → Some x ≡ None → ⊥
    some_none x e = let z = e in cc

    abbrev was_halted : IsHalted m planning request old new
    was_halted = record {
      at = InHelpedRun (record { place = at.0; word = at.1; cut = here; cause = by.0; watching = at.3; watches = at.4; made = turned.made; short = at.5 });
      published = λ x is. absurd (some_none x (sym is ∙ turned.halted halted));
      unknown = λ none elsewhere. unknown_still;
      ended = λ none. tt;
      reached = turned.reached;
    }

    none_more : (n : ℕ) → n + 0 ≡ n
    none_more n = omega arith

    halted_told : (most : ℕ) → IsTold most answers.Halted
    halted_told most = record {
      answers = was_halted;
      made_is = ap (λ n. n + turned.made) by.1;
      published_is = by.2;
      let_go = λ e. (0, none_more ((if held then 2 else 1) + before) ∙ (λ i. (if by.2 i then 2 else 1) + by.1 i), seen);
      brief = λ e. absurd (true≢false e);
      runs = λ e. no_halt (sym e);
    }

  told : (most : ℕ) → IsTold most got
  told most = choose (is_halted got) refl
    where
      choose : (b : Bool) → is_halted got ≡ b → IsTold most got
      choose true e = subst (IsTold most) (sym (halted_is got e)) (halted_told e most)
      choose false e = going_told most e

  long : (b : Bool) → is_halted got ≡ b → is_short got ≡ false
  long true e = ap is_short (halted_is got e)
  long false e = ap is_short (turned.same e) ∙ refusal_long answer refusal

  no_more : (b : Bool) → ◌≡◌ {A = ℕ} (if b && not b then 1 else 0) 0
  no_more true = refl
  no_more false = refl

  few_by : (b : Bool) → length new.part.records.finished ≤ length here.part.records.finished + (if b then 1 else 2)
  few_by true = turned.few_runs
  few_by false = let few = turned.few_runs in omega (arith, few)

  pub turned_rests : (most : ℕ) → Rests m planning request held before most got old here new Seen halts halts' asks asks' steps steps'
  turned_rests most =
      let t = told most in
      record {
        answers = t.answers;
        knows = turned.knows;
        no_other = λ q is ne. turned.no_own q is;
        made = turned.made;
        made_is = t.made_is;
        published = held;
        published_is = t.published_is;
        late = λ e. e;
        asked = subst (λ more. IsCounted turned.made more (not (is_halted got)) halts halts' asks asks' steps steps') (sym (no_more held))
            (counted_steps turned.made (not (is_halted got)) halts halts' asks asks' steps steps' turned.asked);
        let_go = t.let_go;
        entered = long (is_halted got) refl;
        runs = t.runs;
        few_runs = few_by held;
        brief = t.brief;
      }
