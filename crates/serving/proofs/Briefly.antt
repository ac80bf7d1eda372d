-- How many runs and asks the serving of a list makes, where no other one comes between.
use Rattle.std.specs.Prelude.{◌⊎◌, ◌||◌, Bool, true, false}
use Rattle.std.proofs.Common.{◌≡◌, ℕ, zero, suc, ◌+◌, ◌*◌, ◌≤◌, List, [], ◌∷◌, ◌++◌, length, refl, sym, ap, ◌∙◌, subst, arith, inl, inr, None}
use Rattle.std.proofs.lemmas.Bool.{true≢false}
use Rattle.std.proofs.Math.Nat.{suc-mul}
use Rattle.machine_states.specs.map_history.specs.declared.op.Request.{Request}
use Rattle.machine_states.specs.table_words.specs.declared.layout.Layout.{Layout}
use Rattle.machine_states.specs.structure_laws.specs.Meaning.{Meaning}
use Rattle.machine_states.specs.structure_laws.specs.Cells.{slots}
use Rattle.machine_states.proofs.Steps.{none_some}
use Rattle.attempt_bounds.specs.version_words.specs.RunnerState.{RunnerState}
use Rattle.attempt_bounds.specs.attempts.specs.try_lock.specs.Planning.{Planning}
use Rattle.machine_states.specs.body_terms.specs.Counted.{counted_on}
use Rattle.runner_gate.specs.Asks.{Asks, asked_on}
use Rattle.attempt_bounds.specs.attempts.specs.caller_facts.specs.Asking.{MayAttempt}
use Rattle.attempt_bounds.specs.attempts.specs.Attempts.{is_halted, asks_more, runs_of, most_of_attempt, has_helped, has_met_held, IsAttempt, Attempts}
use Rattle.attempt_bounds.specs.attempts.specs.declared.answers.Attempt.{Attempt}
use Rattle.attempt_bounds.specs.attempts.specs.declared.answers.Attempt.TheVariants as attempts
use Rattle.serving.specs.declared.answers.Served.{Served}
use Rattle.serving.specs.Serving.{is_tried_again, stop_of, is_crossed, TriedRuns, ServedRuns, most_asks, Try, WasCrossed, IsTry, TriesBriefly, ServesBriefly}
use Rattle.serving.proofs.Tries.{or_none, crossed_back, crossed_more, crossed_then, crossed_now, try_crossed}

-- a count rises by at most one each time
counted_few : (count n : ℕ) → counted_on count n ≤ count + n
counted_few count zero = omega arith
counted_few count (suc n) = let few = counted_few count n in omega (arith, few)

-- one bound more
one_more : (i k asks asks1 asks2 : ℕ) → asks1 ≤ asks + i * k → asks2 ≤ asks1 + k → asks2 ≤ asks + (i + 1) * k
one_more i k asks asks1 asks2 before here =
    let next : (i + 1) * k ≡ i * k + k = (let e : i + 1 ≡ suc i = omega arith in ap (λ n. n * k) e ∙ suc-mul i k) in
    omega (arith, before, here, next)

-- the asks of an attempt, and one more
asks_within : (made more count asks asks' : ℕ) → made ≤ most_of_attempt count → more ≤ 2 → asks' ≡ counted_on asks (made + more)
    → counted_on asks (made + more) ≤ asks + (made + more) → asks' + 1 ≤ asks + most_asks count
asks_within made more count asks asks' few two asked rises = omega (arith, few, two, asked, rises)

begun_within : (k asks : ℕ) → asks ≤ asks + 0 * k
begun_within k asks = omega arith

stays_within : (k asks : ℕ) → asks ≤ asks + k
stays_within k asks = omega arith

stops_within : (k asks1 asks2 : ℕ) → asks2 + 1 ≤ asks1 + k → asks2 ≤ asks1 + k
stops_within k asks1 asks2 few = omega (arith, few)

goes_within : (k asks1 asks2 asks3 : ℕ) → asks2 + 1 ≤ asks1 + k → asks3 ≡ counted_on asks2 1 → asks3 ≤ asks1 + k
goes_within k asks1 asks2 asks3 few asked = let rises = counted_few asks2 1 in omega (arith, few, rises, asked)

few_more : (answer : Attempt) (published : Bool) → asks_more answer published ≤ 2
few_more (attempts.Short short) published = omega arith
few_more (attempts.Done reply stamp) true = omega arith
few_more (attempts.Done reply stamp) false = omega arith
few_more (attempts.Busy place word) true = omega arith
few_more (attempts.Busy place word) false = omega arith
few_more (attempts.Stale place expected read) true = omega arith
few_more (attempts.Stale place expected read) false = omega arith
few_more (attempts.Far loads) true = omega arith
few_more (attempts.Far loads) false = omega arith
few_more (attempts.Spent place word) true = omega arith
few_more (attempts.Spent place word) false = omega arith
few_more attempts.Halted true = omega arith
few_more attempts.Halted false = omega arith

-- it ran nothing, and its gate wasn't asked
pub record IsQuiet {T : Type 0} (old r : RunnerState T) (asks asks' : Asks) : Type 0 where
  pub runs : length r.part.records.finished ≡ length old.part.records.finished
  pub asked : asks' ≡ asks

-- so many runs, and at most so many asks, for so many requests that are served
pub record IsBriefSoFar {T : Type 0} (m : Meaning) (count : ℕ) (old r : RunnerState T) (asks asks' : Asks) : Type 0 where
  pub runs : length r.part.records.finished ≡ length old.part.records.finished + count
  pub asked : asks'.count ≤ asks.count + count * most_asks (slots m old.layout)

module _ {T : Type 0} (m : Meaning) (planning : Planning) where
  pub brief_begins : (r : RunnerState T) (asks : Asks) → WasCrossed m planning [] r ⊎ IsBriefSoFar m 0 r r asks asks
  brief_begins r asks = inr (record { runs = omega arith; asked = begun_within (most_asks (slots m r.layout)) asks.count })

  -- one attempt
  module _ (request : Request) (answer : Attempt) (old new : RunnerState T) (Seen : ℕ → Asks → Type 0) (halts halts' : ℕ) (asks asks' : Asks) (steps steps' : ℕ)
      (is : Attempts m planning request answer old new Seen halts halts' asks asks' steps steps') (may : MayAttempt planning request old) where
    abbrev pub this_try : Try
    this_try = record {
      request = request;
      answer = answer;
      made = is.made;
      published = is.published;
      crossed = is_crossed answer || has_met_held m planning request answer old new is.is.answers;
    }

    pub is_try : IsTry m planning this_try old new
    is_try = record { may = may; is = is.is; crossed = refl }

    few_asks : is.made ≤ most_of_attempt (slots m old.layout) → asks'.count + 1 ≤ asks.count + most_asks (slots m old.layout)
    few_asks few =
        let asked = ap (λ (a : Asks). a.count) is.asked.asked in
        let rises = counted_few asks.count (is.made + asks_more answer is.published) in
        let more = few_more answer is.published in
        asks_within is.made (asks_more answer is.published) (slots m old.layout) asks.count asks'.count few more asked rises

    abbrev helped : Bool
    helped = has_helped m planning request answer old new is.is.answers

    told : (a : Attempt) → answer ≡ a → is_halted a ≡ false
        → length new.part.records.finished ≡ length old.part.records.finished + runs_of a is.published helped
    told a e going = is.is.runs (ap is_halted e ∙ going) ∙ ap (λ x. length old.part.records.finished + runs_of x is.published helped) e

    runs_by : (a : Attempt) → answer ≡ a → length new.part.records.finished ≤ length old.part.records.finished + 1
        → TriedRuns a (length old.part.records.finished) (length new.part.records.finished)
    runs_by (attempts.Done reply stamp) e few = told (attempts.Done reply stamp) e refl
    runs_by (attempts.Short short) e few = let same = told (attempts.Short short) e refl in omega (arith, same)
    runs_by (attempts.Busy place word) e few = few
    runs_by (attempts.Stale place expected read) e few = few
    runs_by (attempts.Far loads) e few = few
    runs_by (attempts.Spent place word) e few = few
    runs_by attempts.Halted e few = few

    -- it is the last one
    pub last_brief : (xs : List Try) → WasCrossed m planning (this_try ∷ xs) old ⊎ TriesBriefly m answer old new asks asks'
    last_brief xs = by this_try.crossed refl
      where
        by : (b : Bool) → this_try.crossed ≡ b → WasCrossed m planning (this_try ∷ xs) old ⊎ TriesBriefly m answer old new asks asks'
        by true e = inl (try_crossed m planning this_try xs old new is_try e)
        by false e = let brief = is.is.brief (or_none _ _ e).1 in inr (record {
          runs = runs_by answer refl brief.few_runs;
          asked = few_asks brief.few_steps;
        })

    -- the request is attempted again
    short_quiet : (a : Attempt) → answer ≡ a → (retry_short : Bool) → is_tried_again retry_short a ≡ true → is_crossed a ≡ false → IsQuiet old new asks asks'
    short_quiet (attempts.Short short) e retry again uncrossed = record {
      runs = let same = told (attempts.Short short) e refl in omega (arith, same);
      asked = is.asked.asked ∙ ap (asked_on asks) (none answer e is.made is.published is.is);
    }
      where
        none : (a : Attempt) → a ≡ attempts.Short short → (made : ℕ) (published : Bool) → IsAttempt m planning request a made published old new
            → made + asks_more a published ≡ 0
        none (attempts.Short other) same made published it = let made = it.made_is in omega (arith, made)
        none (attempts.Done reply stamp) same made published it = absurd (let z = same in cc)
        none (attempts.Spent place word) same made published it = absurd (let z = same in cc)
        none (attempts.Busy place word) same made published it = absurd (let z = same in cc)
        none (attempts.Stale place expected read) same made published it = absurd (let z = same in cc)
        none (attempts.Far loads) same made published it = absurd (let z = same in cc)
        none attempts.Halted same made published it = absurd (let z = same in cc)
    short_quiet (attempts.Busy place word) e retry again uncrossed = absurd (true≢false uncrossed)
    short_quiet (attempts.Stale place expected read) e retry again uncrossed = absurd (true≢false uncrossed)
    short_quiet (attempts.Far loads) e retry again uncrossed = absurd (true≢false uncrossed)
    short_quiet (attempts.Done reply stamp) e retry again uncrossed = absurd (true≢false (sym again))
    short_quiet (attempts.Spent place word) e retry again uncrossed = absurd (true≢false (sym again))
    short_quiet attempts.Halted e retry again uncrossed = absurd (true≢false (sym again))

    pub again_quiet : (retry_short : Bool) → is_tried_again retry_short answer ≡ true → (xs : List Try)
        → WasCrossed m planning (this_try ∷ xs) old ⊎ IsQuiet old new asks asks'
    again_quiet retry_short again xs = by this_try.crossed refl
      where
        by : (b : Bool) → this_try.crossed ≡ b → WasCrossed m planning (this_try ∷ xs) old ⊎ IsQuiet old new asks asks'
        by true e = inl (try_crossed m planning this_try xs old new is_try e)
        by false e = inr (short_quiet answer refl retry_short again (or_none _ _ e).0)

  -- behind attempts that ran nothing
  module _ (old r new : RunnerState T) (layout : r.layout ≡ old.layout) (requests : r.requests ≡ old.requests) (asks asks1 asks2 : Asks) where
    module _ (x : Try) (xs : List Try) where
      pub quiet_on : WasCrossed m planning xs old ⊎ IsQuiet old r asks asks1 → WasCrossed m planning (x ∷ xs) r ⊎ IsQuiet r new asks1 asks2
          → WasCrossed m planning (x ∷ xs) old ⊎ IsQuiet old new asks asks2
      quiet_on (inl was) here = inl (crossed_more m planning x xs old was)
      quiet_on (inr quiet) (inl was) = inl (crossed_back m planning (x ∷ xs) old r layout requests was)
      quiet_on (inr quiet) (inr here) = inr (record { runs = here.runs ∙ quiet.runs; asked = here.asked ∙ quiet.asked })

      pub tried_on : (answer : Attempt) → WasCrossed m planning xs old ⊎ IsQuiet old r asks asks1
          → WasCrossed m planning (x ∷ xs) r ⊎ TriesBriefly m answer r new asks1 asks2 → WasCrossed m planning (x ∷ xs) old ⊎ TriesBriefly m answer old new asks asks2
      tried_on answer (inl was) here = inl (crossed_more m planning x xs old was)
      tried_on answer (inr quiet) (inl was) = inl (crossed_back m planning (x ∷ xs) old r layout requests was)
      tried_on answer (inr quiet) (inr here) = inr (record {
        runs = subst (λ n. TriedRuns answer n (length new.part.records.finished)) quiet.runs here.runs;
        asked = subst (λ (a : Asks). asks2.count + 1 ≤ a.count + most_asks (slots m old.layout)) quiet.asked
            (subst (λ (l : Layout). asks2.count + 1 ≤ asks1.count + most_asks (slots m l)) layout here.asked);
      })

    -- behind so many requests that are served, by these attempts, this one was attempted
    module _ (ps xs : List Try) (count : ℕ) (so_far : WasCrossed m planning xs old ⊎ IsBriefSoFar m count old r asks asks1) where
      -- the asks of this one
      few_here : {answer : Attempt} → TriesBriefly m answer r new asks1 asks2 → asks2.count + 1 ≤ asks1.count + most_asks (slots m old.layout)
      few_here here = subst (λ (l : Layout). asks2.count + 1 ≤ asks1.count + most_asks (slots m l)) layout here.asked

      -- and it is served, and the gate asked once more
      pub served_on : (answer : Attempt) → stop_of answer ≡ None → WasCrossed m planning ps r ⊎ TriesBriefly m answer r new asks1 asks2
          → (asks3 : Asks) → asks3 ≡ asked_on asks2 1 → WasCrossed m planning (ps ++ xs) old ⊎ IsBriefSoFar m (count + 1) old new asks asks3
      served_on answer done here asks3 asked = by so_far here
        where
          one_run : (a : Attempt) (before behind : ℕ) → stop_of a ≡ None → TriedRuns a before behind → behind ≡ before + 1
          one_run (attempts.Done reply stamp) before behind e runs = runs
          one_run (attempts.Short short) before behind e runs = absurd (none_some _ e)
          one_run (attempts.Spent place word) before behind e runs = absurd (none_some _ e)
          one_run attempts.Halted before behind e runs = absurd (none_some _ e)
          one_run (attempts.Busy place word) before behind e runs = absurd (none_some _ e)
          one_run (attempts.Stale place expected read) before behind e runs = absurd (none_some _ e)
          one_run (attempts.Far loads) before behind e runs = absurd (none_some _ e)

          by : WasCrossed m planning xs old ⊎ IsBriefSoFar m count old r asks asks1 → WasCrossed m planning ps r ⊎ TriesBriefly m answer r new asks1 asks2
              → WasCrossed m planning (ps ++ xs) old ⊎ IsBriefSoFar m (count + 1) old new asks asks3
          by (inl was) tried = inl (crossed_then m planning ps xs old was)
          by (inr brief) (inl was) = inl (crossed_now m planning ps xs old (crossed_back m planning ps old r layout requests was))
          by (inr brief) (inr tried) = inr (record {
            runs =
                let before = brief.runs in
                let one = one_run answer (length r.part.records.finished) (length new.part.records.finished) done tried.runs in omega (arith, before, one);
            asked = one_more count (most_asks (slots m old.layout)) asks.count asks1.count asks3.count brief.asked
                (goes_within (most_asks (slots m old.layout)) asks1.count asks2.count asks3.count (few_here tried) (ap (λ (a : Asks). a.count) asked));
          })

      -- or the serving stops with it
      pub stopped_on : (answer : Attempt) (stopped : Served)
          → ((start before behind : ℕ) → before ≡ start + count → TriedRuns answer before behind → ServedRuns stopped count start behind)
          → WasCrossed m planning ps r ⊎ TriesBriefly m answer r new asks1 asks2
          → WasCrossed m planning (ps ++ xs) old ⊎ ServesBriefly m stopped count old new asks asks2
      stopped_on answer stopped runs = by so_far
        where
          by : WasCrossed m planning xs old ⊎ IsBriefSoFar m count old r asks asks1 → WasCrossed m planning ps r ⊎ TriesBriefly m answer r new asks1 asks2
              → WasCrossed m planning (ps ++ xs) old ⊎ ServesBriefly m stopped count old new asks asks2
          by (inl was) tried = inl (crossed_then m planning ps xs old was)
          by (inr brief) (inl was) = inl (crossed_now m planning ps xs old (crossed_back m planning ps old r layout requests was))
          by (inr brief) (inr tried) = inr (record {
            runs = runs (length old.part.records.finished) (length r.part.records.finished) (length new.part.records.finished) brief.runs tried.runs;
            asked = one_more count (most_asks (slots m old.layout)) asks.count asks1.count asks2.count brief.asked
                (stops_within (most_asks (slots m old.layout)) asks1.count asks2.count (few_here tried));
          })

  -- the serving ends behind so many served requests
  module _ (xs : List Try) (count : ℕ) (old new : RunnerState T) (asks asks' : Asks) where
    pub ended_brief : (stopped : Served)
        → ((start behind : ℕ) → behind ≡ start + count → ServedRuns stopped count start behind)
        → WasCrossed m planning xs old ⊎ IsBriefSoFar m count old new asks asks' → WasCrossed m planning xs old ⊎ ServesBriefly m stopped count old new asks asks'
    ended_brief stopped runs (inl was) = inl was
    ended_brief stopped runs (inr brief) = inr (record {
      runs = runs (length old.part.records.finished) (length new.part.records.finished) brief.runs;
      asked = one_more count (most_asks (slots m old.layout)) asks.count asks'.count asks'.count brief.asked (stays_within (most_asks (slots m old.layout)) asks'.count);
    })
