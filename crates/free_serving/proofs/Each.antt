-- What `serve_one` comes to, by how its request was served.
use Rattle.std.specs.Prelude.{◌%◌, ◌⊎◌, ◌==◌, Bool, true, false, not, slice_get, if◌then◌else◌}
use Rattle.std.proofs.Common.{◌≡◌, ◌≢◌, ℕ, ◌+◌, ◌≤◌, List, [], ◌∷◌, refl, sym, ap, ◌∙◌, subst, inl, inr, Option, Some, None, ⊎_elim, arith}
use Rattle.std.proofs.lemmas.Bool.{true≢false, eqb-true}
use Rattle.machine_states.specs.map_history.specs.declared.op.Request.{Request}
use Rattle.machine_states.specs.map_history.specs.declared.reply.Reply.{Reply}
use Rattle.machine_states.specs.table_words.specs.Limits.{IsWithinLimits}
use Rattle.machine_states.specs.table_words.specs.declared.layout.Layout.{Layout}
use Rattle.machine_states.specs.body_terms.specs.Counted.{counted_on}
use Rattle.seq_read.specs.runner_gate.specs.Asks.{Asks, asked_on}
use Rattle.machine_states.specs.structure_laws.specs.Meaning.{Meaning}
use Rattle.machine_states.specs.structure_laws.specs.Cells.{slots}
use Rattle.machine_states.specs.structure_laws.specs.Laws.{Laws}
use Rattle.machine_states.specs.runner_parts.specs.Tests.{is_answered}
use Rattle.version_words.specs.RunnerState.{RunnerState}
use Rattle.version_words.specs.TableState.{TableState, IsOf}
use Rattle.version_words.specs.machine_invariant.specs.After.{AreAllowed}
use Rattle.serving.specs.attempts.specs.commit_log.proofs.Asked.{counted_more, asked_on_more}
use Rattle.seq_read.specs.caller_facts.specs.try_lock.specs.Planning.{Planning}
use Rattle.serving.specs.attempt_bounds.specs.Spared.{AttemptsSpareSlots}
use Rattle.seq_read.specs.caller_facts.specs.lock_walks.specs.Gets.{GetsAreLight}
use Rattle.seq_read.specs.caller_facts.specs.Knowing.{IsOwn}
use Rattle.seq_read.specs.caller_facts.specs.Asking.{MayAttempt}
use Rattle.seq_read.specs.Reads.{is_halted, IsTurnedAway, Answers, has_answered, Reads}
use Rattle.seq_read.specs.declared.answers.Read.{Read}
use Rattle.seq_read.specs.declared.answers.Read.TheVariants as reads
use Rattle.serving.specs.Serving as serving
use Rattle.serving.specs.Serving.{Try, WasCrossed, IsTry, MayServe, Serves}
use Rattle.serving.specs.declared.answers.Served.{Served}
use Rattle.serving.specs.declared.answers.Served.TheVariants as answers
use Rattle.serving.proofs.Along.{along_begins, may_next}
use Rattle.serving.proofs.Trying.{same_layout, same_requests}
use Rattle.serving.proofs.Standing.{answered_more}
use Rattle.serving.proofs.Tries.{or_none}
use Rattle.free_serving.specs.Services.{is_get, is_refusal, ends_alone, ByRead, HaltedRead, SpentRead, BothWays, UnderLock, IsEnd, IsReading, IsServing}
use Rattle.free_serving.specs.Left.{WasReadInVain}
use Rattle.free_serving.specs.One.{ServesOne}
use Rattle.free_serving.proofs.Same.{Same}
use Rattle.free_serving.proofs.Chain.{only_place}
use Rattle.free_serving.proofs.Light.{most_of_get, attempt_few}
use Rattle.free_serving.proofs.Onward.{refused_spared}
use Rattle.free_serving.proofs.Reading.{key_of, done_all, done_halted, cut_leaves, spent_leaves, few_made}
use Rattle.free_serving.proofs.Single.{IsWithin, within, single_leaves}
use Rattle.free_serving.proofs.Both.{both_leaves}

-- the runner may attempt what it may serve
pub may_attempt : {T : Type 0} (planning : Planning) (q : Request) (r : RunnerState T) (t : TableState T) → IsOf t r → AreAllowed t.requests
    → MayServe planning (q ∷ []) r → MayAttempt planning q r
may_attempt planning q r t of_r allowed may = may_next planning (q ∷ []) r r t allowed of_r of_r may 0 q refl (along_begins planning (q ∷ []) r may)

module _ {T : Type 0} (m : Meaning) (laws : Laws m) (planning : Planning) (retry_short : Bool) (q : Request) (t : TableState T)
    (limits : IsWithinLimits t.layout) (allowed : AreAllowed t.requests) where
  abbrev serving_is : (answer : Served) (old new : RunnerState T) → MayServe planning (q ∷ []) old
      → (Seen : ℕ → Asks → Type 0) (halts : ℕ) (asks asks' : Asks) (steps steps' : ℕ)
      → (serves : Serves m planning retry_short (q ∷ []) answer old new Seen halts asks asks' steps steps')
      → IsServing m planning retry_short q answer serves.tries old new
  serving_is answer old new may Seen halts asks asks' steps steps' serves = record {
    may = may;
    tried = serves.tried;
    ends = subst (λ n. serving.Ends m planning retry_short (q ∷ []) answer n serves.tries old new) serves.count_is serves.ends;
  }

  -- the end of a serving under the lock, as that of a service
  end_under : (answer : Served) (tries : List Try) → IsEnd (q ∷ []) (UnderLock q answer tries ∷ []) answer
  end_under answers.All tries = (refl, refl)
  end_under answers.Halted tries = refl
  end_under (answers.Short short) tries = refl
  end_under (answers.Spent place word) tries = refl

  end_both : (read : Read) (made : ℕ) (answer : Served) (tries : List Try) → IsEnd (q ∷ []) (BothWays q read made answer tries ∷ []) answer
  end_both read made answers.All tries = (refl, refl)
  end_both read made answers.Halted tries = refl
  end_both read made (answers.Short short) tries = refl
  end_both read made (answers.Spent place word) tries = refl

  -- what is served under its lock at once
  module _ (old new : RunnerState T) (of_old : IsOf t old) (of_new : IsOf t new) (may : MayServe planning (q ∷ []) old) (spare : AttemptsSpareSlots T m planning)
      (answer : Served) (Seen : ℕ → Asks → Type 0) (halts : ℕ) (asks asks' : Asks) (steps steps' : ℕ)
      (serves : Serves m planning retry_short (q ∷ []) answer old new Seen halts asks asks' steps steps') where
    pub under_lock : is_get q.op ≡ false → ServesOne m planning retry_short q answer old new Seen halts asks asks' steps steps'
    under_lock other = record {
      service = UnderLock q answer serves.tries;
      of_request = refl;
      is = (other, serving_is answer old new may Seen halts asks asks' steps steps' serves);
      ends = end_under answer serves.tries;
      counted = serves.counted;
      asked = serves.asked ∙ ap (λ n. asked_on asks (serving.asks_in serves.tries + n)) serves.count_is;
      let_go = serves.let_go;
      let_least = λ e. let least = serves.least_let e in let is = serves.count_is in omega (arith, least, is);
      left = single_leaves m laws planning retry_short q t limits allowed old new of_old of_new answer Seen halts asks asks' steps steps' serves (may.own 0 q refl) spare
          (λ get. absurd (true≢false (sym get ∙ other)));
    }

  -- a `get` that was read
  module _ (get : is_get q.op ≡ true) (old new : RunnerState T) (of_old : IsOf t old) (of_new : IsOf t new) (may : MayServe planning (q ∷ []) old)
      (Seen : ℕ → Asks → Type 0) (halts halts1 : ℕ) (asks asks1 : Asks) (steps steps1 : ℕ) where
    limits_new : IsWithinLimits new.layout
    limits_new = subst IsWithinLimits (sym of_new.layout) limits

    allowed_new : AreAllowed new.requests
    allowed_new = subst AreAllowed (sym of_new.requests) allowed

    abbrev reading_is : (answer : Read) (read : Reads m planning q answer old new Seen halts halts1 asks asks1 steps steps1) → IsReading m planning q answer read.made old new
    reading_is answer read = record {
      get = get;
      may = may_attempt planning q old t of_old allowed may;
      answers = read.answers;
      made_is = read.made_is;
    }

    module _ (reply : Reply) (stamp : ℕ) (read : Reads m planning q (reads.Done reply stamp) old new Seen halts halts1 asks asks1 steps steps1)
        (asks2 : Asks) (asked : asks2 ≡ asked_on asks1 1) where
      all_asked : asks2 ≡ asked_on asks (read.made + 1 + 1)
      all_asked = asked ∙ (ap (λ (a : Asks). asked_on a 1) read.asked.asked ∙ asked_on_more asks (read.made + 1) 1)

      pub read_all : ServesOne m planning retry_short q answers.All old new Seen halts asks asks2 steps steps1
      read_all = record {
        service = ByRead q reply stamp read.made;
        of_request = refl;
        is = reading_is (reads.Done reply stamp) read;
        ends = (refl, refl);
        counted = read.asked.counted;
        asked = all_asked;
        let_go = λ e. absurd (let z = e in cc);
        let_least = λ e. absurd (let z = e in cc);
        left = done_all m planning retry_short q old laws new limits_new allowed_new get Seen halts halts1 asks asks1 steps steps1 reply stamp read;
      }

      -- or the ask behind it halted the runner: the gate was seen before it
      pub read_then_halted : Seen halts asks1 → ServesOne m planning retry_short q answers.Halted old new Seen halts asks asks2 steps steps1
      read_then_halted seen = record {
        service = ByRead q reply stamp read.made;
        of_request = refl;
        is = reading_is (reads.Done reply stamp) read;
        ends = refl;
        counted = read.asked.counted;
        asked = all_asked;
        let_go = λ e. subst (Seen halts) read.asked.asked seen;
        let_least = λ e. (done_halted m planning retry_short q old laws new limits_new allowed_new get Seen halts halts1 asks asks1 steps steps1 reply stamp read).least;
        left = done_halted m planning retry_short q old laws new limits_new allowed_new get Seen halts halts1 asks asks1 steps steps1 reply stamp read;
      }

    pub read_halted : Reads m planning q reads.Halted old new Seen halts halts1 asks asks1 steps steps1
        → ServesOne m planning retry_short q answers.Halted old new Seen halts asks asks1 steps steps1
    read_halted read = record {
      service = HaltedRead q (has_answered m planning q old new read.answers.at) read.made;
      of_request = refl;
      is = (reading_is reads.Halted read, refl);
      ends = refl;
      counted = read.asked.counted;
      asked = read.asked.asked;
      let_go = λ e. read.let_go refl;
      let_least = λ e. omega arith;
      left = cut_leaves m planning retry_short q old laws new limits_new allowed_new get Seen halts halts1 asks asks1 steps steps1 read;
    }

    -- or it met a lock with too few versions left, and it is the one runner
    pub read_spent : (place word : ℕ) → (old.layout.runners ≡ 1) → Reads m planning q (reads.Spent place word) old new Seen halts halts1 asks asks1 steps steps1
        → ServesOne m planning retry_short q (answers.Spent place word) old new Seen halts asks asks1 steps steps1
    read_spent place word alone read = record {
      service = SpentRead q place word read.made;
      of_request = refl;
      is = (alone, reading_is (reads.Spent place word) read);
      ends = refl;
      counted = read.asked.counted;
      asked = read.asked.asked;
      let_go = λ e. absurd (let z = e in cc);
      let_least = λ e. absurd (let z = e in cc);
      left = spent_leaves m planning retry_short q old laws new limits_new allowed_new get Seen halts halts1 asks asks1 steps steps1 alone place word read;
    }

  -- a read that was refused, and left the runner idle
  turned : (answer : Read) (old new : RunnerState T) → is_refusal old.layout.runners answer ≡ true → Answers m planning q answer old new → IsTurnedAway m planning q answer old new
  turned (reads.Locked at) old new e is = is
  turned (reads.Busy place word) old new e is = is
  turned (reads.Stale place expected read) old new e is = is
  turned (reads.Far loads) old new e is = is
  turned (reads.Spent place word) old new e is = is
  turned (reads.Done reply stamp) old new e is = absurd (true≢false (sym e))
  turned reads.Halted old new e is = absurd (true≢false (sym e))

  module _ (get : is_get q.op ≡ true) (old mid : RunnerState T) (of_old : IsOf t old) (of_mid : IsOf t mid) (may : MayServe planning (q ∷ []) old)
      (Seen : ℕ → Asks → Type 0) (halts halts1 : ℕ) (asks asks1 : Asks) (steps steps1 : ℕ)
      (read_answer : Read) (refusal : is_refusal old.layout.runners read_answer ≡ true) (read : Reads m planning q read_answer old mid Seen halts halts1 asks asks1 steps steps1) where
    away : IsTurnedAway m planning q read_answer old mid
    away = turned read_answer old mid refusal read.answers

    abbrev vain : WasReadInVain m planning q old
    vain = record {
      answer = read_answer;
      refused = record { get = get; before = old; cut = away.cut; layout = refl; requests = refl; refused = away.cause };
      refusal = refusal;
      looks = λ map at same. let key = key_of q.op get in read.looks map key.0 at key.1 same;
    }

    -- so it may be served under its lock
    pub may_still : MayServe planning (q ∷ []) mid
    may_still = record {
      tidy = away.tidy;
      own = λ i x there. let own = may.own i x there in record {
        there = ap (λ rs. slice_get rs x.number) (same_requests t old mid of_old of_mid) ∙ own.there;
        own = ap (λ l. x.trace % l.runners) (same_layout t old mid of_old of_mid) ∙ (own.own ∙ sym read.knows.number);
      };
      served = may.served;
      once = may.once;
      unanswered = λ i x there. subst (λ (y : Request). is_answered mid.part.records.known y.number ≡ false) (only i x there) away.untouched.unknown;
      earlier = λ i x y there own trace below. ⊎_elim
          (λ was. inl (still y was))
          inr
          (may.earlier i x y there (record {
            there = ap (λ rs. slice_get rs y.number) (sym (same_requests t old mid of_old of_mid)) ∙ own.there;
            own = ap (λ l. y.trace % l.runners) (sym (same_layout t old mid of_old of_mid)) ∙ (own.own ∙ read.knows.number);
          }) trace below);
    }
      where
        only : (i : ℕ) (x : Request) → slice_get (q ∷ []) i ≡ Some x → q ≡ x
        only i x there = (only_place q x i there).1

        still : (y : Request) → is_answered old.part.records.known y.number ≡ true → is_answered mid.part.records.known y.number ≡ true
        still y was = answered_more old.part.records.known mid.part.records.known read.knows.known y.number was

    module _ (gets : GetsAreLight m planning) (is_map : m.is_map ≡ true) (new : RunnerState T) (of_new : IsOf t new) (spare : AttemptsSpareSlots T m planning)
        (answer : Served) (asks2 : Asks) (steps2 : ℕ) (went : halts1 ≡ halts)
        (serves : Serves m planning retry_short (q ∷ []) answer mid new Seen halts1 asks1 asks2 steps1 steps2) where
      same : Same old mid
      same = (same_layout t old mid of_old of_mid, same_requests t old mid of_old of_mid)

      limits_of : (r : RunnerState T) → Same mid r → IsWithinLimits r.layout
      limits_of r s = subst IsWithinLimits (sym (s.0 ∙ of_mid.layout)) limits

      allowed_of : (r : RunnerState T) → Same mid r → AreAllowed r.requests
      allowed_of r s = subst AreAllowed (sym (s.1 ∙ of_mid.requests)) allowed

      few_each : (x : Try) (r s : RunnerState T) → Same mid r → q ≡ x.request → IsTry m planning x r s → x.crossed ≡ false → x.made ≤ most_of_get (slots m mid.layout)
      few_each x r s same_r of_q is e =
          let key = key_of x.request.op (ap (λ (y : Request). is_get y.op) (sym of_q) ∙ get) in
          let parts = or_none _ _ (sym is.crossed ∙ e) in
          subst (λ (l : Layout). x.made ≤ most_of_get (slots m l)) same_r.0
          (attempt_few m laws planning gets is_map x.request key.0 key.1 r (limits_of r same_r) (allowed_of r same_r) is.may x.answer x.made x.published s is.is parts.0 parts.1)

      few_asks : WasCrossed m planning serves.tries mid ⊎ IsWithin answer (serving.served_in serves.tries) (serving.asks_in serves.tries + serving.served_in serves.tries)
          (most_of_get (slots m mid.layout) + 3) mid new
      few_asks = within m laws planning retry_short q t limits allowed mid new of_mid of_new answer Seen halts1 asks1 asks2 steps1 steps2 serves own spare
          (most_of_get (slots m mid.layout)) few_each
        where
          own : IsOwn mid q
          own = may_still.own 0 q refl

      asked_both : asks2 ≡ asked_on asks (read.made + 1 + (serving.asks_in serves.tries + serving.served_in serves.tries))
      asked_both = serves.asked ∙ (ap (λ n. asked_on asks1 (serving.asks_in serves.tries + n)) serves.count_is
          ∙ (ap (λ (a : Asks). asked_on a (serving.asks_in serves.tries + serving.served_in serves.tries)) read.asked.asked
          ∙ asked_on_more asks (read.made + 1) (serving.asks_in serves.tries + serving.served_in serves.tries)))

      all_counted : steps2 ≡ counted_on steps (read.made + serving.steps_in serves.tries)
      all_counted = serves.counted ∙ (ap (λ n. counted_on n (serving.steps_in serves.tries)) read.asked.counted
          ∙ counted_more steps read.made (serving.steps_in serves.tries))

      abbrev reading_too : IsReading m planning q read_answer read.made old mid
      reading_too = record {
        get = get;
        may = may_attempt planning q old t of_old allowed may;
        answers = read.answers;
        made_is = read.made_is;
      }

      pub both_ways : ServesOne m planning retry_short q answer old new Seen halts asks asks2 steps steps2
      both_ways = record {
        service = BothWays q read_answer read.made answer serves.tries;
        of_request = refl;
        is = (refusal, mid, reading_too, serving_is answer mid new may_still Seen halts1 asks1 asks2 steps1 steps2 serves);
        ends = end_both read_answer read.made answer serves.tries;
        counted = all_counted;
        asked = asked_both;
        let_go = λ e. subst (λ h. Seen h (asked_on asks (read.made + 1 + serving.all_asks_let m planning retry_short (q ∷ []) serves.tries mid new serves.tried))) went
            (subst (Seen halts1) (ap (λ (a : Asks). asked_on a (serving.all_asks_let m planning retry_short (q ∷ []) serves.tries mid new serves.tried)) read.asked.asked
            ∙ asked_on_more asks (read.made + 1) (serving.all_asks_let m planning retry_short (q ∷ []) serves.tries mid new serves.tried)) (serves.let_go e));
        let_least = λ e. let least = serves.least_let e in let is = serves.count_is in omega (arith, least, is);
        left = both_leaves m planning retry_short q old mid new same read.knows read.no_other read.finished
            read.made (few_made m planning retry_short q old laws mid (limits_of mid (refl, refl)) (allowed_of mid (refl, refl)) get Seen halts halts1 asks asks1 steps steps1 read_answer read) vain
            (refused_spared m planning q old read_answer mid away read.finished) away.untouched.reached serves.tries
            answer (serving.served_in serves.tries) (serving.served_in serves.tries) (serving.asks_in serves.tries + serving.served_in serves.tries)
            (single_leaves m laws planning retry_short q t limits allowed mid new of_mid of_new answer Seen halts1 asks1 asks2 steps1 steps2 serves (may_still.own 0 q refl) spare
            (λ is. record { answer = read_answer; refused = record { get = get; before = old; cut = away.cut; layout = sym same.0; requests = sym same.1; refused = away.cause }; refusal = subst (λ (l : Layout). is_refusal l.runners read_answer ≡ true) (sym same.0) refusal; looks = vain.looks }))
            few_asks;
      }

abbrev served_in : Option Served → Served
served_in (Some served) = served
served_in None = answers.Halted

-- the runner is alone, its read met this lock, and the serving ended with it
abbrev pub MetAlone : ℕ → Read → Served → Type 0
MetAlone runners answer served = (place : ℕ) × (word : ℕ) × (runners ≡ 1) × (answer ≡ reads.Spent place word)
    × (served ≡ answers.Spent place word)

pub alone_met : (runners : ℕ) (answer : Read) (served : Served) → ends_alone runners answer ≡ Some served → MetAlone runners answer served
alone_met runners (reads.Spent place word) served some = by (runners == 1) refl some
  where
    by : (b : Bool) → (runners == 1) ≡ b → if◌then◌else◌ {A = Option Served} b (Some (answers.Spent place word)) None ≡ Some served
        → MetAlone runners (reads.Spent place word) served
    by true one e = (place, word, eqb-true runners 1 one, refl, ap served_in (sym e))
    by false one e = absurd (let z = e in cc)
alone_met runners (reads.Done reply stamp) served some = absurd (let z = some in cc)
alone_met runners (reads.Locked at) served some = absurd (let z = some in cc)
alone_met runners (reads.Busy at held) served some = absurd (let z = some in cc)
alone_met runners (reads.Stale at expected read) served some = absurd (let z = some in cc)
alone_met runners (reads.Far loads) served some = absurd (let z = some in cc)
alone_met runners reads.Halted served some = absurd (let z = some in cc)

-- any other answer that isn't Done or Halted is a refusal
pub refusal_of : (runners : ℕ) (answer : Read) → ((reply : Reply) (stamp : ℕ) → answer ≢ reads.Done reply stamp)
    → (answer ≢ reads.Halted) → ends_alone runners answer ≡ None → is_refusal runners answer ≡ true
refusal_of runners (reads.Done reply stamp) not_done not_halted none = absurd (not_done reply stamp refl)
refusal_of runners reads.Halted not_done not_halted none = absurd (not_halted refl)
refusal_of runners (reads.Locked at) not_done not_halted none = refl
refusal_of runners (reads.Busy place word) not_done not_halted none = refl
refusal_of runners (reads.Stale place expected read) not_done not_halted none = refl
refusal_of runners (reads.Far loads) not_done not_halted none = refl
refusal_of runners (reads.Spent place word) not_done not_halted none = by (runners == 1) none
  where
    by : (b : Bool) → if◌then◌else◌ {A = Option Served} b (Some (answers.Spent place word)) None ≡ None → not b ≡ true
    by true e = absurd (let z = e in cc)
    by false e = refl

-- so it is where these are the layouts of a runner and of its table
pub refused : (own told whole : Layout) → own ≡ whole → told ≡ whole → (answer : Read)
    → ((reply : Reply) (stamp : ℕ) → answer ≢ reads.Done reply stamp) → (answer ≢ reads.Halted)
    → (met : Option Served) → met ≡ ends_alone told.runners answer → met ≡ None → is_refusal own.runners answer ≡ true
refused own told whole own_is told_is answer not_done not_halted met is none = refusal_of own.runners answer not_done not_halted
    (subst (λ (l : Layout). ends_alone l.runners answer ≡ None) (told_is ∙ sym own_is) (sym is ∙ none))

-- the gate of a read that wasn't halted is as it was
pub going_on : (runners : ℕ) (answer : Read) → is_refusal runners answer ≡ true → not (is_halted answer) ≡ true
going_on runners reads.Halted e = absurd (true≢false (sym e))
going_on runners (reads.Done reply stamp) e = refl
going_on runners (reads.Locked at) e = refl
going_on runners (reads.Busy place word) e = refl
going_on runners (reads.Stale place expected read) e = refl
going_on runners (reads.Far loads) e = refl
going_on runners (reads.Spent place word) e = refl
