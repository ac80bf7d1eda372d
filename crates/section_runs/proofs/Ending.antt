-- The end of a run, exchange by exchange.
use Rattle.std.proofs.Common.{◌≡◌, ℕ, zero, suc, ◌+◌, ◌≤◌, ◌<◌, List, [], ◌∷◌, ◌++◌, length, take, true, false, refl, sym, ap, ◌∙◌, subst, arith, Option, Some, None}
use Rattle.std.specs.Prelude.{cond, count_by, slice_index_or, if◌then◌else◌}
use Rattle.std.proofs.lemmas.List.Sums.{sum_by-cons}
use Rattle.idem_cell.specs.machine_states.specs.body_terms.specs.declared.micro.Micro.{Micro}
use Rattle.idem_cell.specs.machine_states.specs.body_terms.specs.declared.micro.Micro.TheVariants as micros
use Rattle.idem_cell.specs.machine_states.specs.body_terms.specs.declared.outcome.Outcome.{Outcome}
use Rattle.idem_cell.specs.machine_states.specs.body_terms.specs.declared.step.Step.{Step}
use Rattle.idem_cell.specs.machine_states.specs.body_terms.specs.declared.step.Step.TheVariants.{Load, Want, Fresh, Take, Make, Stamp, Store, Retire, Answer}
use Rattle.idem_cell.specs.machine_states.specs.body_terms.specs.Line.{micro_at, is_event, is_end, releases, ending}
use Rattle.idem_cell.specs.machine_states.specs.body_terms.specs.Shape.{IsStep, is_take}
use Rattle.idem_cell.specs.machine_states.specs.body_terms.specs.Word.{next_word}
use Rattle.idem_cell.specs.machine_states.specs.body_terms.proofs.LineLemmas.{take_next}
use Rattle.idem_cell.specs.section_lines.specs.Rests.{taken_releases}
use Rattle.idem_cell.specs.machine_states.specs.table_words.specs.Limits.{IsWithinLimits}
use Rattle.idem_cell.specs.machine_states.specs.table_words.specs.declared.spot.Spot.TheVariants as spots
use Rattle.idem_cell.specs.machine_states.specs.table_words.specs.declared.access.Access.TheVariants.{Exchanges}
use Rattle.idem_cell.specs.machine_states.specs.structure_laws.specs.Meaning.{Meaning}
use Rattle.idem_cell.specs.machine_states.specs.structure_laws.specs.Laws.{Laws}
use Rattle.idem_cell.specs.machine_states.specs.runner_parts.specs.declared.event.EventKind.TheVariants as kinds
use Rattle.idem_cell.specs.machine_states.specs.runner_parts.specs.State.{RunState}
use Rattle.idem_cell.specs.machine_states.specs.runner_steps.specs.AfterInRun.{ended_more}
use Rattle.idem_cell.specs.machine_states.specs.runner_steps.specs.Sections.{thunk_of, line_of, next_of}
use Rattle.idem_cell.specs.machine_states.proofs.Steps.{some_same}
use Rattle.nested_lock.specs.machine_facts.specs.machine_invariant.specs.After.{AreAllowed}
use Rattle.idem_alloc.specs.commit_log.specs.version_words.specs.RunnerState.{RunnerState}
use Rattle.idem_alloc.specs.commit_log.specs.version_words.specs.TableState.{TableState, IsOf}
use Rattle.idem_alloc.specs.commit_log.specs.version_words.specs.Events.{met_by, Makes}
use Rattle.idem_alloc.specs.commit_log.specs.version_words.specs.Place.{own_done, held_by_run}
use Rattle.idem_alloc.specs.commit_log.specs.Runs.{IsRunning, Stepped}
use Rattle.idem_alloc.specs.commit_log.proofs.Running.{may_make, then_made}
use Rattle.section_runs.specs.Reached.{run_of}
use Rattle.section_runs.specs.Bodies.{body_of, IsOver}
use Rattle.section_runs.specs.Ends.{StandsEnding, IsEnding, EndsOn, HasReleased}
use Rattle.section_runs.proofs.Going.{run_is}

-- the releases of the steps before one
take_count : (step : Step) → is_take step ≡ true → (place word : ℕ) × (step ≡ Take place word)
take_count (Take place word) e = (place, word, refl)
take_count (Load place into) e = absurd (let z = e in cc)
take_count (Want reg word) e = absurd (let z = e in cc)
take_count (Fresh reg) e = absurd (let z = e in cc)
take_count (Make init into) e = absurd (let z = e in cc)
take_count Stamp e = absurd (let z = e in cc)
take_count (Store reg value) e = absurd (let z = e in cc)
take_count (Retire slot) e = absurd (let z = e in cc)
take_count (Answer reply) e = absurd (let z = e in cc)

abbrev counted : List Step → ℕ
counted steps = count_by is_take steps

count_cons : (step : Step) (steps : List Step) → counted (step ∷ steps) ≡ cond (is_take step) 1 0 + counted steps
count_cons step steps = sum_by-cons (λ s. cond (is_take s) 1 0) step steps

-- as many as the Takes
pub release_count : (steps : List Step) → length (taken_releases steps) ≡ counted steps
release_count [] = refl
release_count (Take place word ∷ steps) = let r = release_count steps in let c = count_cons (Take place word) steps in omega (arith, r, c)
release_count (Load place into ∷ steps) = let r = release_count steps in let c = count_cons (Load place into) steps in omega (arith, r, c)
release_count (Want reg word ∷ steps) = let r = release_count steps in let c = count_cons (Want reg word) steps in omega (arith, r, c)
release_count (Fresh reg ∷ steps) = let r = release_count steps in let c = count_cons (Fresh reg) steps in omega (arith, r, c)
release_count (Make init into ∷ steps) = let r = release_count steps in let c = count_cons (Make init into) steps in omega (arith, r, c)
release_count (Stamp ∷ steps) = let r = release_count steps in let c = count_cons Stamp steps in omega (arith, r, c)
release_count (Store reg value ∷ steps) = let r = release_count steps in let c = count_cons (Store reg value) steps in omega (arith, r, c)
release_count (Retire slot ∷ steps) = let r = release_count steps in let c = count_cons (Retire slot) steps in omega (arith, r, c)
release_count (Answer reply ∷ steps) = let r = release_count steps in let c = count_cons (Answer reply) steps in omega (arith, r, c)

-- each of them is a release
none_ends : (steps : List Step) (lock word k : ℕ) → k ≤ length (taken_releases steps) → is_end (slice_index_or (taken_releases steps ++ micros.Release lock word ∷ []) k micros.End) ≡ false
none_ends [] lock word zero le = refl
none_ends [] lock word (suc k) le = absurd (omega (arith, le))
none_ends (Take p w ∷ steps) lock word zero le = refl
none_ends (Take p w ∷ steps) lock word (suc k) le = none_ends steps lock word k (omega (arith, le))
none_ends (Load place into ∷ steps) lock word k le = none_ends steps lock word k le
none_ends (Want reg w ∷ steps) lock word k le = none_ends steps lock word k le
none_ends (Fresh reg ∷ steps) lock word k le = none_ends steps lock word k le
none_ends (Make init into ∷ steps) lock word k le = none_ends steps lock word k le
none_ends (Stamp ∷ steps) lock word k le = none_ends steps lock word k le
none_ends (Store reg value ∷ steps) lock word k le = none_ends steps lock word k le
none_ends (Retire slot ∷ steps) lock word k le = none_ends steps lock word k le
none_ends (Answer reply ∷ steps) lock word k le = none_ends steps lock word k le

-- the outer lock's is the last one, and nothing comes behind it
last_release : (ms : List Micro) (x : Micro) → slice_index_or (ms ++ x ∷ []) (length ms) micros.End ≡ x
last_release [] x = refl
last_release (m ∷ ms) x = last_release ms x

past_last : (ms : List Micro) (x : Micro) → slice_index_or (ms ++ x ∷ []) (suc (length ms)) micros.End ≡ micros.End
past_last [] x = refl
past_last (m ∷ ms) x = past_last ms x

-- a Take's own
take_release : (steps : List Step) (rest : List Micro) (n place word : ℕ) → IsStep steps n (Take place word)
    → slice_index_or (taken_releases steps ++ rest) (counted (take n steps)) micros.End ≡ micros.Release place word
take_release [] rest n place word here = absurd (let z = here in cc)
take_release (step ∷ steps) rest zero place word here = by step (some_same step (Take place word) here)
  where
    by : (s : Step) → s ≡ Take place word → slice_index_or (taken_releases (s ∷ steps) ++ rest) 0 micros.End ≡ micros.Release place word
    by s e = ap (λ (x : Step). slice_index_or (taken_releases (x ∷ steps) ++ rest) 0 micros.End) e
take_release (step ∷ steps) rest (suc n) place word here = later step (take_release steps rest n place word here) (count_cons step (take n steps))
  where
    later : (s : Step) → slice_index_or (taken_releases steps ++ rest) (counted (take n steps)) micros.End ≡ micros.Release place word
        → counted (s ∷ take n steps) ≡ cond (is_take s) 1 0 + counted (take n steps)
        → slice_index_or (taken_releases (s ∷ steps) ++ rest) (counted (s ∷ take n steps)) micros.End ≡ micros.Release place word
    later (Take p w) e c = let z : counted (Take p w ∷ take n steps) ≡ suc (counted (take n steps)) = omega (arith, c) in
        ap (λ k. slice_index_or (micros.Release p w ∷ (taken_releases steps ++ rest)) k micros.End) z ∙ e
    later (Load p i) e c = let z : counted (Load p i ∷ take n steps) ≡ counted (take n steps) = omega (arith, c) in
        ap (λ k. slice_index_or (taken_releases steps ++ rest) k micros.End) z ∙ e
    later (Want r w) e c = let z : counted (Want r w ∷ take n steps) ≡ counted (take n steps) = omega (arith, c) in
        ap (λ k. slice_index_or (taken_releases steps ++ rest) k micros.End) z ∙ e
    later (Fresh r) e c = let z : counted (Fresh r ∷ take n steps) ≡ counted (take n steps) = omega (arith, c) in
        ap (λ k. slice_index_or (taken_releases steps ++ rest) k micros.End) z ∙ e
    later (Make i t) e c = let z : counted (Make i t ∷ take n steps) ≡ counted (take n steps) = omega (arith, c) in
        ap (λ k. slice_index_or (taken_releases steps ++ rest) k micros.End) z ∙ e
    later Stamp e c = let z : counted (Stamp ∷ take n steps) ≡ counted (take n steps) = omega (arith, c) in
        ap (λ k. slice_index_or (taken_releases steps ++ rest) k micros.End) z ∙ e
    later (Store r v) e c = let z : counted (Store r v ∷ take n steps) ≡ counted (take n steps) = omega (arith, c) in
        ap (λ k. slice_index_or (taken_releases steps ++ rest) k micros.End) z ∙ e
    later (Retire s) e c = let z : counted (Retire s ∷ take n steps) ≡ counted (take n steps) = omega (arith, c) in
        ap (λ k. slice_index_or (taken_releases steps ++ rest) k micros.End) z ∙ e
    later (Answer a) e c = let z : counted (Answer a ∷ take n steps) ≡ counted (take n steps) = omega (arith, c) in
        ap (λ k. slice_index_or (taken_releases steps ++ rest) k micros.End) z ∙ e

-- a part's step is the whole's
taken_step : (steps : List Step) (taken n : ℕ) (step : Step) → n < taken → IsStep steps n step → IsStep (take taken steps) n step
taken_step [] taken n step low here = absurd (let z = here in cc)
taken_step (first ∷ steps) zero n step low here = absurd (omega (arith, low))
taken_step (first ∷ steps) (suc taken) zero step low here = here
taken_step (first ∷ steps) (suc taken) (suc n) step low here = taken_step steps taken n step (omega (arith, low)) here

-- no steps
abbrev empty : List Step
empty = []

take_take : (steps : List Step) (taken n : ℕ) → n ≤ taken → take n (take taken steps) ≡ take n steps
take_take steps taken zero le = nothing (take taken steps) ∙ sym (nothing steps)
  where
    nothing : (xs : List Step) → take 0 xs ≡ []
    nothing [] = refl
    nothing (x ∷ xs) = refl
take_take [] taken (suc n) le = ap (take (suc n)) (none taken)
  where
    none : (k : ℕ) → take k empty ≡ empty
    none zero = refl
    none (suc k) = refl
take_take (first ∷ steps) zero (suc n) le = absurd (omega (arith, le))
take_take (first ∷ steps) (suc taken) (suc n) le = ap (λ xs. first ∷ xs) (take_take steps taken n (omega (arith, le)))

-- fewer before than in all
pub fewer_before : (steps : List Step) (n k : ℕ) → n ≤ k → counted (take n steps) ≤ counted (take k steps)
fewer_before [] n k le = let a = none n in let b = none k in omega (arith, a, b)
  where
    none : (k : ℕ) → counted (take k []) ≡ 0
    none zero = refl
    none (suc k) = refl
fewer_before (step ∷ steps) zero k le = omega arith
fewer_before (step ∷ steps) (suc n) zero le = absurd (omega (arith, le))
fewer_before (step ∷ steps) (suc n) (suc k) le = let a = count_cons step (take n steps) in let b = count_cons step (take k steps) in
    let r = fewer_before steps n k (omega (arith, le)) in omega (arith, a, b, r)

module _ (m : Meaning) (taken : ℕ) (q : RunState) (no_event : is_event (micro_at (line_of m q) q.at) ≡ false)
    (locks : releases (take q.at (line_of m q)) ≡ taken_releases (take taken (m.body (thunk_of q.opened)))) where
  abbrev lock : ℕ
  lock = (thunk_of q.opened).lock

  abbrev word : ℕ
  word = (thunk_of q.opened).word

  -- what comes next at the end
  next_end : (k : ℕ) → q.ended ≡ k → next_of m q ≡ slice_index_or (micros.SetDone ∷ (taken_releases (take taken (m.body (thunk_of q.opened))) ++ micros.Release lock word ∷ [])) k micros.End
  next_end k e = ap (λ b. cond b (micro_at (line_of m q) q.at) (slice_index_or (ending (line_of m q) q.at lock word) q.ended micros.End)) no_event
      ∙ ((λ i. slice_index_or (micros.SetDone ∷ (locks i ++ micros.Release lock word ∷ [])) (e i) micros.End))

module _ {T : Type 0} (m : Meaning) (laws : Laws m) (t : TableState T) (limits : IsWithinLimits t.layout) (allowed : AreAllowed t.requests) (r : RunnerState T) (own : IsOf t r) where
  abbrev q : RunState
  q = run_of r

  abbrev body : List Step
  body = body_of m r

  -- behind a step of the end that isn't the last one
  behind : (taken n : ℕ) (micro : Micro) (found : ℕ) (new : RunnerState T) → Stepped m q micro found r new → new.part.run ≡ Some (ended_more q) → new.part.nodes ≡ r.part.nodes
      → is_event (micro_at (line_of m q) q.at) ≡ false → releases (take q.at (line_of m q)) ≡ taken_releases (take taken body)
      → q.ended + 1 ≡ 1 + counted (take n body) → IsEnding m taken n new × EndsOn m r new
  behind taken n micro found new step runs nodes no_event locks count =
      let is = step.goes_on (ended_more q) runs in
      let same = run_is m new (ended_more q) is in (
        subst (StandsEnding m taken n new) same (record { running = is; no_event = no_event; locks = locks; ended = count }),
        record { run = sym same ∙ ap (λ k. record q { ended = k }) (ap (λ (y : RunState). y.ended) same); nodes = nodes; layout = ap (λ (y : RunnerState T). y.layout) step.event.made },
      )

  -- the done word
  module _ (taken : ℕ) (o : Outcome) (over : IsOver m taken o r) where
    done_next : next_of m q ≡ micros.SetDone
    done_next = next_end m taken q over.no_event over.locks 0 over.unended

    pub may_finish : met_by m r kinds.SetDone ≡ Some (own_done r.part.run, Exchanges 0 1)
    may_finish = may_make m laws t limits allowed r own q over.running micros.SetDone done_next refl refl
        ∙ ap (λ (x : Option RunState). Some (own_done x, Exchanges 0 1)) (sym over.running.inside.running)

    pub finishes : (found : ℕ) (new : RunnerState T) → Makes m kinds.SetDone found r new → Stepped m q micros.SetDone found r new
    finishes found new made = then_made m laws t limits allowed r own q over.running micros.SetDone done_next refl refl found new made

    pub finished : (found : ℕ) (new : RunnerState T) → Stepped m q micros.SetDone found r new → IsEnding m taken 0 new × EndsOn m r new
    finished found new step = behind taken 0 micros.SetDone found new step step.behind.run step.behind.nodes over.no_event over.locks
        (let e = over.unended in let c = none body in omega (arith, e, c))
      where
        none : (steps : List Step) → counted (take 0 steps) ≡ 0
        none [] = refl
        none (x ∷ xs) = refl

  -- a release
  release_met : (place word : ℕ) (is : IsRunning m r q) → next_of m q ≡ micros.Release place word
      → met_by m r kinds.Release ≡ Some (spots.Cell place, Exchanges (held_by_run r.part.run word) (next_word (held_by_run r.part.run word) 0))
  release_met place word is ahead = may_make m laws t limits allowed r own q is (micros.Release place word) ahead refl refl
      ∙ ap (λ (x : Option RunState). Some (spots.Cell place, Exchanges (held_by_run x word) (next_word (held_by_run x word) 0))) (sym is.inside.running)

  -- that of a Take
  module _ (taken n place word : ℕ) (ending : IsEnding m taken n r) (low : n < taken) (here : IsStep body n (Take place word)) where
    take_next_is : next_of m q ≡ micros.Release place word
    take_next_is = next_end m taken q ending.no_event ending.locks (suc (counted (take n body))) (let e = ending.ended in omega (arith, e))
        ∙ (ap (λ k. slice_index_or (taken_releases (take taken body) ++ micros.Release (thunk_of q.opened).lock (thunk_of q.opened).word ∷ []) k micros.End)
        (ap counted (sym (take_take body taken n (omega (arith, low)))))
        ∙ take_release (take taken body) (micros.Release (thunk_of q.opened).lock (thunk_of q.opened).word ∷ []) n place word (taken_step body taken n (Take place word) low here))

    pub may_release_take : met_by m r kinds.Release ≡ Some (spots.Cell place, Exchanges (held_by_run r.part.run word) (next_word (held_by_run r.part.run word) 0))
    may_release_take = release_met place word ending.running take_next_is

    pub releases_take : (found : ℕ) (new : RunnerState T) → Makes m kinds.Release found r new → Stepped m q (micros.Release place word) found r new
    releases_take found new made = then_made m laws t limits allowed r own q ending.running (micros.Release place word) take_next_is refl refl found new made

    pub released_take : (found : ℕ) (new : RunnerState T) → Stepped m q (micros.Release place word) found r new → IsEnding m taken (n + 1) new × EndsOn m r new
    released_take found new step =
        let more : counted (take (suc n) body) ≡ counted (take n body) + 1 = ap counted (take_next body n (Take place word) here) ∙ count_last (take n body) place word in
        let below = fewer_before body (suc n) taken (omega (arith, low)) in
        let whole = release_count (take taken body) in
        let e = ending.ended in
        let goes_on : is_end (next_of m (ended_more q)) ≡ false = ap is_end (next_end m taken (ended_more q) ending.no_event ending.locks (suc (suc (counted (take n body)))) (omega (arith, e)))
        ∙ none_ends (take taken body) (thunk_of q.opened).lock (thunk_of q.opened).word (suc (counted (take n body))) (omega (arith, more, below, whole)) in
        behind taken (n + 1) (micros.Release place word) found new step
        (step.behind.run ∙ ap (λ b. if b then None else Some (ended_more q)) goes_on) step.behind.nodes ending.no_event ending.locks
        (let z : n + 1 ≡ suc n = omega arith in let c = ap (λ k. counted (take k body)) z in omega (arith, e, more, c))
      where
        count_last : (steps : List Step) (place word : ℕ) → counted (steps ++ Take place word ∷ []) ≡ counted steps + 1
        count_last [] place word = refl
        count_last (s ∷ steps) place word = let a = count_cons s (steps ++ Take place word ∷ []) in let b = count_cons s steps in let c = count_last steps place word in omega (arith, a, b, c)

  -- a step that takes no lock has none to release
  pub skipped : (taken n : ℕ) (step : Step) → IsEnding m taken n r → IsStep body n step → is_take step ≡ false → IsEnding m taken (n + 1) r
  skipped taken n step ending here other = record {
    running = ending.running;
    no_event = ending.no_event;
    locks = ending.locks;
    ended = ending.ended ∙ (let z : n + 1 ≡ suc n = omega arith in let c = ap (λ k. counted (take k body)) z in
        let d = ap counted (take_next body n step here) ∙ count_other (take n body) step other in omega (arith, c, d));
  }
    where
      count_other : (steps : List Step) (step : Step) → is_take step ≡ false → counted (steps ++ step ∷ []) ≡ counted steps
      count_other [] step other = count_cons step [] ∙ ap (λ b. cond b 1 0 + 0) other
      count_other (s ∷ steps) step other = let a = count_cons s (steps ++ step ∷ []) in let b = count_cons s steps in let c = count_other steps step other in omega (arith, a, b, c)

  -- the outer lock's
  module _ (taken : ℕ) (ending : IsEnding m taken taken r) where
    last_next : next_of m q ≡ micros.Release (thunk_of q.opened).lock (thunk_of q.opened).word
    last_next = next_end m taken q ending.no_event ending.locks (suc (length (taken_releases (take taken body))))
        (let e = ending.ended in let c = release_count (take taken body) in omega (arith, e, c))
        ∙ last_release (taken_releases (take taken body)) (micros.Release (thunk_of q.opened).lock (thunk_of q.opened).word)

    pub may_release : (place word : ℕ) → place ≡ (thunk_of q.opened).lock → word ≡ (thunk_of q.opened).word
        → met_by m r kinds.Release ≡ Some (spots.Cell place, Exchanges (held_by_run r.part.run word) (next_word (held_by_run r.part.run word) 0))
    may_release place word at with_word = subst (λ p. met_by m r kinds.Release ≡ Some (spots.Cell p, Exchanges (held_by_run r.part.run word) (next_word (held_by_run r.part.run word) 0))) (sym at)
        (subst (λ w. met_by m r kinds.Release ≡ Some (spots.Cell (thunk_of q.opened).lock, Exchanges (held_by_run r.part.run w) (next_word (held_by_run r.part.run w) 0))) (sym with_word)
        (release_met (thunk_of q.opened).lock (thunk_of q.opened).word ending.running last_next))

    pub has_released : (found : ℕ) (new : RunnerState T) → Makes m kinds.Release found r new → HasReleased m r new
    has_released found new made = record {
      found = found;
      step = then_made m laws t limits allowed r own q ending.running (micros.Release (thunk_of q.opened).lock (thunk_of q.opened).word) last_next refl refl found new made;
      over = ap is_end (next_end m taken (ended_more q) ending.no_event ending.locks (suc (suc (length (taken_releases (take taken body)))))
          (let e = ending.ended in let c = release_count (take taken body) in omega (arith, e, c))
          ∙ past_last (taken_releases (take taken body)) (micros.Release (thunk_of q.opened).lock (thunk_of q.opened).word));
    }

-- on and on
pub ends_more : {T : Type 0} (m : Meaning) (a b c : RunnerState T) → EndsOn m a b → EndsOn m b c → EndsOn m a c
ends_more m a b c one two = record {
  run = two.run ∙ ap (λ (y : RunState). record y { ended = (run_of c).ended }) one.run;
  nodes = two.nodes ∙ one.nodes;
  layout = two.layout ∙ one.layout;
}

pub ends_same : {T : Type 0} (m : Meaning) (r : RunnerState T) → EndsOn m r r
ends_same m r = record { run = refl; nodes = refl; layout = refl }

-- how many locks a step takes
abbrev pub taken_by : Step → ℕ
taken_by step = cond (is_take step) 1 0

-- the section is the same
module _ {T : Type 0} (m : Meaning) (old new : RunnerState T) (same : EndsOn m old new) where
  pub ends_body : body_of m new ≡ body_of m old
  ends_body = ap (λ (y : RunState). m.body (thunk_of y.opened)) same.run

  pub ends_lock : (thunk_of (run_of new).opened).lock ≡ (thunk_of (run_of old).opened).lock
  ends_lock = ap (λ (y : RunState). (thunk_of y.opened).lock) same.run

  pub ends_word : (thunk_of (run_of new).opened).word ≡ (thunk_of (run_of old).opened).word
  ends_word = ap (λ (y : RunState). (thunk_of y.opened).word) same.run

-- no Take takes nothing
pub not_take : (step : Step) → ((place word : ℕ) → step ≡ Take place word → ⊥) → is_take step ≡ false
not_take (Take place word) other = absurd (other place word refl)
not_take (Load place into) other = refl
not_take (Want reg word) other = refl
not_take (Fresh reg) other = refl
not_take (Make init into) other = refl
not_take Stamp other = refl
not_take (Store reg value) other = refl
not_take (Retire slot) other = refl
not_take (Answer reply) other = refl
