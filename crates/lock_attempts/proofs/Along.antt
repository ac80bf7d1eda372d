-- The rest of an attempt that was answered, from an earlier point on.
use Rattle.std.specs.Prelude.{true, false, Result, Ok, Err}
use Rattle.std.proofs.Common.{◌≡◌, ℕ, ◌+◌, ◌*◌, ◌≤◌, ◌∷◌, [], length, sym, ap, ◌∙◌, subst, arith}
use Rattle.machine_states.specs.epoch_core.specs.small_lemmas.proofs.Numbers.{from_zero as from_none}
use Rattle.machine_states.specs.map_history.specs.declared.op.Request.{Request}
use Rattle.machine_states.specs.body_terms.specs.Trail.{Agreed}
use Rattle.machine_states.specs.body_terms.specs.declared.outcome.Outcome.{Outcome}
use Rattle.machine_states.specs.body_terms.specs.declared.thunk.Thunk.{Thunk}
use Rattle.machine_states.specs.table_words.specs.declared.layout.Layout.{Layout}
use Rattle.machine_states.specs.table_words.specs.Limits.{IsWithinLimits}
use Rattle.runner_gate.specs.Asks.{Asks}
use Rattle.machine_states.specs.structure_laws.specs.Scene.{Readings}
use Rattle.machine_states.specs.structure_laws.specs.Meaning.{Meaning}
use Rattle.machine_states.specs.structure_laws.specs.Cells.{slots}
use Rattle.machine_states.specs.structure_laws.specs.Laws.{Laws}
use Rattle.version_words.specs.machine_invariant.specs.After.{AreAllowed}
use Rattle.machine_states.specs.runner_parts.specs.State.{ReadsState}
use Rattle.version_words.specs.RunnerState.{RunnerState}
use Rattle.version_words.specs.TableState.{TableState, IsOf}
use Rattle.attempts.specs.epoch_slots.specs.Entries.{Enters}
use Rattle.attempts.specs.commit_log.specs.Asked.{IsAsked}
use Rattle.attempts.specs.commit_log.proofs.Asked.{asked_none}
use Rattle.attempts.specs.try_lock.specs.declared.section.Section.{Section}
use Rattle.attempts.specs.try_lock.specs.Ends.{EndsSo}
use Rattle.attempts.specs.try_lock.specs.Planning.{Planning}
use Rattle.attempts.specs.try_lock.specs.Plans as plan
use Rattle.attempts.specs.try_lock.specs.Publishes.{Publishes}
use Rattle.attempts.specs.try_lock.specs.declared.planned.Planned.{Planned}
use Rattle.attempts.specs.try_lock.specs.declared.planned.Planned.TheVariants as plans
use Rattle.attempts.specs.lock_walks.specs.Way.{Way}
use Rattle.attempts.specs.lock_walks.specs.Own.{own_thunk, IsOwn}
use Rattle.attempts.specs.caller_facts.specs.Knowing.{IsStill}
use Rattle.attempts.specs.caller_facts.specs.Counted.{IsCounted}
use Rattle.attempts.specs.Course.{HasReserve, HasEntered, HasPlanned, HasTried}
use Rattle.attempts.specs.caller_facts.specs.Asking.{MayAttempt}
use Rattle.attempts.specs.Reclaims.{Reclaims}
use Rattle.attempts.specs.declared.answers.Attempt.{Attempt}
use Rattle.attempts.specs.Attempts.{most_of_run, most_of_attempt}
use Rattle.attempts.specs.caller_facts.proofs.Knowing.{knows_same, knows_on, no_other_same, no_other_on, no_other_learned, length_on}
use Rattle.attempts.proofs.Courses.{planned_reads}
use Rattle.attempts.proofs.Leaving.{ended_knows}
use Rattle.attempts.specs.caller_facts.proofs.Counting.{asked_then, steps_then}
use Rattle.attempts.proofs.Costs.{ended_costs}
use Rattle.attempts.proofs.Cutting.{ended_rests}
use Rattle.attempts.proofs.Wholly.{tried_rests, still_planned, going, thunk_rests, attempts_so}
use Rattle.lock_attempts.specs.Sections.{Answers, SectionAttempts}
use Rattle.lock_attempts.specs.Parts.{AnswersLast, SectionRests}

none_on : (n : ℕ) → n + 0 ≡ n
none_on n = omega arith

steps_on : (b n k : ℕ) → b + (n + k) ≡ b + n + k
steps_on b n k = omega arith

-- behind counted steps of a runner that learned nothing by them
pub answers_after : {T : Type 0} (m : Meaning) (planning : Planning) (request : Request) (own : Readings → Thunk) (before n most : ℕ) (reply : ℕ) (old here mid new : RunnerState T)
    (halts halts1 halts' : ℕ) (asks asks1 asks' : Asks) (steps steps1 steps' : ℕ) → IsStill here mid → IsAsked n true halts halts1 asks asks1 steps steps1
    → (since : ℕ) → before + n ≡ since → AnswersLast m planning request own false since most reply old mid new halts1 halts' asks1 asks' steps1 steps'
    → AnswersLast m planning request own false before (n + most) reply old here new halts halts' asks asks' steps steps'
answers_after m planning request own before n most reply old here mid new halts halts1 halts' asks asks1 asks' steps steps1 steps' still asked since sums rests = record {
  answers = rests.answers;
  knows = knows_on here mid new (knows_same here mid still.number still.known still.finished) rests.knows;
  no_other = no_other_on request.number here mid new still.requests still.layout still.number (no_other_same request.number here mid still.known) rests.no_other;
  made = n + rests.made;
  made_is = steps_on before n rests.made ∙ (ap (λ b. b + rests.made) sums ∙ rests.made_is);
  asked = steps_then n rests.made 1 true halts halts1 halts' asks asks1 asks' steps steps1 steps' asked rests.asked;
  runs = subst (λ fs. length new.part.records.finished ≡ length fs + 1) still.finished rests.runs;
  few = let few = rests.few in omega (arith, few);
}

-- a larger bound
pub answers_within : {T : Type 0} (m : Meaning) (planning : Planning) (request : Request) (own : Readings → Thunk) (before most more reply : ℕ) (old here new : RunnerState T)
    (halts halts' : ℕ) (asks asks' : Asks) (steps steps' : ℕ) → most ≤ more
    → AnswersLast m planning request own false before most reply old here new halts halts' asks asks' steps steps'
    → AnswersLast m planning request own false before more reply old here new halts halts' asks asks' steps steps'
answers_within m planning request own before most more reply old here new halts halts' asks asks' steps steps' low rests = record {
  answers = rests.answers;
  knows = rests.knows;
  no_other = rests.no_other;
  made = rests.made;
  made_is = rests.made_is;
  asked = rests.asked;
  runs = rests.runs;
  few = let few = rests.few in omega (arith, few, low);
}

loads_and_run : (loads count : ℕ) → loads ≤ 6 * count + 44 → loads + most_of_run ≤ most_of_attempt count
loads_and_run loads count few = omega (arith, few)

-- behind the loads of the plan
pub answers_planned : {T : Type 0} (m : Meaning) (planning : Planning) (request : Request) (own : Readings → Thunk) (n count reply : ℕ) (old here mid new : RunnerState T)
    (halts halts1 halts' : ℕ) (asks asks1 asks' : Asks) (steps steps1 steps' : ℕ) → IsStill here mid → IsAsked n true halts halts1 asks asks1 steps steps1
    → n ≤ 6 * count + 44 → AnswersLast m planning request own false n most_of_run reply old mid new halts1 halts' asks1 asks' steps1 steps'
    → AnswersLast m planning request own false 0 (most_of_attempt count) reply old here new halts halts' asks asks' steps steps'
answers_planned m planning request own n count reply old here mid new halts halts1 halts' asks asks1 asks' steps steps1 steps' still asked few rests =
    answers_within m planning request own 0 (n + most_of_run) (most_of_attempt count) reply old here new halts halts' asks asks' steps steps' (loads_and_run n count few)
    (answers_after m planning request own 0 n most_of_run reply old here mid new halts halts1 halts' asks asks1 asks' steps steps1 steps' still asked n (from_none n) rests)

-- the own run came to its end
module _ {T : Type 0} (m : Meaning) (laws : Laws m) (t : TableState T) (limits : IsWithinLimits t.layout) (allowed : AreAllowed t.requests)
    (planning : Planning) (request : Request) (own : Readings → Thunk) (section : Section) (thunk : Thunk) (old here : RunnerState T)
    (own_here : IsOf t here) (tried : HasTried m planning request thunk (Ok section) old here)
    (outcome : Outcome) (trail : Agreed) (ran : RunnerState T) (own_ran : IsOf t ran) (n : ℕ)
    (ends : EndsSo m section.descriptor thunk outcome trail n here ran) where
  own_run : length ran.part.records.finished ≡ length here.part.records.finished + 1
  own_run = length_on here.part.records.finished (ends.finished ∷ []) ran.part.records.finished ends.kept

  pub answers_run : (reply : ℕ) (new : RunnerState T)
      (halts halts1 halts2 halts' : ℕ) (asks asks1 asks2 asks' : Asks) (steps steps2 steps' : ℕ)
      → IsCounted 0 1 true halts halts1 asks asks1 steps steps → IsAsked n true halts1 halts2 asks1 asks2 steps steps2
      → AnswersLast m planning request own true (length tried.readings + n) 0 reply old ran new halts2 halts' asks2 asks' steps2 steps'
      → AnswersLast m planning request own false (length tried.readings) most_of_run reply old here new halts halts' asks asks' steps steps'
  answers_run reply new halts halts1 halts2 halts' asks asks1 asks2 asks' steps steps2 steps' ask asked rests = record {
    answers = rests.answers;
    knows = knows_on here ran new (ended_knows m section.descriptor thunk outcome trail n here ran ends) rests.knows;
    no_other = no_other_on request.number here ran new (own_ran.requests ∙ sym own_here.requests) (own_ran.layout ∙ sym own_here.layout) ends.number
        (no_other_learned request.number here ran (record {
          more = ends.learns.more;
          adds = ends.learns.adds;
          only = λ i y there. ends.learns.only i y there ∙ tried.plans.answers.request;
        })) rests.no_other;
    made = n + rests.made;
    made_is = steps_on (length tried.readings) n rests.made ∙ rests.made_is;
    asked = asked_then 1 (n + rests.made) 0 true halts halts1 halts' asks asks1 asks' steps steps' ask
        (steps_then n rests.made 0 true halts1 halts2 halts' asks1 asks2 asks' steps steps2 steps' asked rests.asked);
    runs = let one = own_run in let more = rests.runs in omega (arith, one, more);
    few = let few = rests.few in
        let cost = ended_costs m laws t limits allowed here ran own_ran section.descriptor thunk outcome trail n ends in omega (arith, few, cost);
  }

  pub section_run : (answer : Result ℕ Attempt) (new : RunnerState T) → IsOf t new → (Seen : ℕ → Asks → Type 0)
      (halts halts1 halts2 halts' : ℕ) (asks asks1 asks2 asks' : Asks) (steps steps2 steps' : ℕ)
      → IsCounted 0 1 true halts halts1 asks asks1 steps steps → IsAsked n true halts1 halts2 asks1 asks2 steps steps2
      → SectionRests m planning request own true (length tried.readings + n) 0 answer old ran new Seen halts2 halts' asks2 asks' steps2 steps'
      → SectionRests m planning request own false (length tried.readings) most_of_run answer old here new Seen halts halts' asks asks' steps steps'
  section_run (Ok reply) new own_new Seen halts halts1 halts2 halts' asks asks1 asks2 asks' steps steps2 steps' ask asked rests =
      answers_run reply new halts halts1 halts2 halts' asks asks1 asks2 asks' steps steps2 steps' ask asked rests
  section_run (Err answer) new own_new Seen halts halts1 halts2 halts' asks asks1 asks2 asks' steps steps2 steps' ask asked rests = (
    rests.0,
    ended_rests m laws t limits allowed planning request section thunk old here own_here tried outcome trail ran own_ran n ends
        answer new own_new Seen halts halts1 halts2 halts' asks asks1 asks2 asks' steps steps2 steps' ask asked rests.1,
  )

-- the section was published: the rest from the plan on
pub section_tried : {T : Type 0} (m : Meaning) (planning : Planning) (request : Request) (own : Readings → Thunk) (thunk : Thunk) (section : Section) (before : ℕ) (old r mid new : RunnerState T)
    (answer : Result ℕ Attempt) (publishes : Publishes m thunk (Ok section) r mid) → mid.layout ≡ r.layout → mid.requests ≡ r.requests
    → (Seen : ℕ → Asks → Type 0) (halts halts' : ℕ) (asks asks' : Asks) (steps steps' : ℕ)
    → SectionRests m planning request own false before most_of_run answer old mid new Seen halts halts' asks asks' steps steps'
    → SectionRests m planning request own false before most_of_run answer old r new Seen halts halts' asks asks' steps steps'
section_tried m planning request own thunk section before old r mid new (Ok reply) publishes layout requests Seen halts halts' asks asks' steps steps' rests =
    answers_after m planning request own before 0 most_of_run reply old r mid new halts halts halts' asks asks asks' steps steps steps'
    (record { layout = layout; requests = requests; number = publishes.number; known = publishes.known; finished = publishes.finished })
    (asked_none halts asks steps) before (none_on before) rests
section_tried m planning request own thunk section before old r mid new (Err answer) publishes layout requests Seen halts halts' asks asks' steps steps' rests =
    (rests.0, tried_rests m planning request thunk section before old r mid new answer publishes layout requests Seen halts halts' asks asks' steps steps' rests.1)

-- the thunk that was planned is the walk's own, by the readings of the plan
pub asked_for : {W T : Type 0} (m : Meaning) (way : Way W) (walk : W) (request : Request) (old r : RunnerState T) (readings : Readings) (answer : Planned)
    → HasPlanned m (way.planning walk) request readings answer old r → IsOwn way walk request.number r.part.reads.walk answer
    → (thunk : Thunk) → answer ≡ plans.Thunk thunk → thunk ≡ own_thunk way walk request.number readings
asked_for m way walk request old r readings answer planned own thunk is =
    let read : r.part.reads.walk ≡ readings = ap (λ (s : ReadsState). s.walk) (planned_reads m (way.planning walk) request old readings answer r planned) in
    subst (IsOwn way walk request.number r.part.reads.walk) is own ∙ ap (own_thunk way walk request.number) read

-- behind the plan
module _ {T : Type 0} (m : Meaning) (laws : Laws m) (t : TableState T) (limits : IsWithinLimits t.layout) (allowed : AreAllowed t.requests)
    (planning : Planning) (request : Request) (own : Readings → Thunk) (planned_as : Planned) (old here r : RunnerState T) (own_here : IsOf t here) (own_r : IsOf t r)
    (enters : HasEntered m planning request old here) (halts halts1 : ℕ) (asks asks1 : Asks) (steps steps1 : ℕ)
    (planned : plan.HasPlanned m planning request planned_as here r halts halts1 asks asks1 steps steps1) where
  pub section_planned : (answer : Result ℕ Attempt) (new : RunnerState T) (Seen : ℕ → Asks → Type 0) (halts' : ℕ) (asks' : Asks) (steps' : ℕ) → plan.is_halted planned_as ≡ false
      → SectionRests m planning request own false (length planned.readings) most_of_run answer old r new Seen halts1 halts' asks1 asks' steps1 steps'
      → SectionRests m planning request own false 0 (most_of_attempt (slots m t.layout)) answer old here new Seen halts halts' asks asks' steps steps'
  section_planned (Ok reply) new Seen halts' asks' steps' on rests =
      answers_planned m planning request own (length planned.readings) (slots m t.layout) reply old here r new halts halts1 halts' asks asks1 asks' steps steps1 steps'
      (still_planned m laws t limits allowed planning request planned_as old here r own_here own_r enters halts halts1 asks asks1 steps steps1 planned)
      (going m laws t limits allowed planning request planned_as old here r own_here own_r enters halts halts1 asks asks1 steps steps1 planned on)
      (subst (λ (l : Layout). length planned.readings ≤ 6 * slots m l + 44) own_here.layout planned.few) rests
  section_planned (Err answer) new Seen halts' asks' steps' on rests = (
    rests.0,
    thunk_rests m laws t limits allowed planning request planned_as old here r own_here own_r enters halts halts1 asks asks1 steps steps1 planned
        answer new Seen halts' asks' steps' on rests.1,
  )

-- behind the entry
pub answers_entered : {T : Type 0} (m : Meaning) (planning : Planning) (request : Request) (own : Readings → Thunk) (layout : Layout) (reply : ℕ) (old here new : RunnerState T)
    (halts halts1 halts' : ℕ) (asks asks1 asks' : Asks) (steps steps' : ℕ) → IsStill old here → old.layout ≡ layout → IsCounted 0 1 true halts halts1 asks asks1 steps steps
    → AnswersLast m planning request own false 0 (most_of_attempt (slots m layout)) reply old here new halts1 halts' asks1 asks' steps steps'
    → Answers m planning request own reply old new halts halts' asks asks' steps steps'
answers_entered m planning request own layout reply old here new halts halts1 halts' asks asks1 asks' steps steps' still same ask rests = record {
  made = rests.made;
  answers = rests.answers;
  made_is = sym (from_none rests.made) ∙ rests.made_is;
  knows = knows_on old here new (knows_same old here still.number still.known still.finished) rests.knows;
  no_other = no_other_on request.number old here new still.requests still.layout still.number (no_other_same request.number old here still.known) rests.no_other;
  asked = asked_then 1 rests.made 1 true halts halts1 halts' asks asks1 asks' steps steps' ask rests.asked;
  runs = subst (λ fs. length new.part.records.finished ≡ length fs + 1) still.finished rests.runs;
  few = subst (λ (l : Layout). rests.made ≤ most_of_attempt (slots m l)) (sym same) rests.few;
}

-- it enters, and goes on
module _ {T : Type 0} (m : Meaning) (laws : Laws m) (t : TableState T) (limits : IsWithinLimits t.layout) (allowed : AreAllowed t.requests)
    (planning : Planning) (request : Request) (own : Readings → Thunk) (old ready : RunnerState T) (own_old : IsOf t old) (own_ready : IsOf t ready)
    (may : MayAttempt planning request old) (reclaims : Reclaims m old ready) (reserve : HasReserve ready)
    (here : RunnerState T) (own_here : IsOf t here) (enters : Enters m ready here) where
  pub section_entered : (answer : Result ℕ Attempt) (new : RunnerState T) (Seen : ℕ → Asks → Type 0) (halts halts1 halts' : ℕ) (asks asks1 asks' : Asks) (steps steps' : ℕ)
      → IsCounted 0 1 true halts halts1 asks asks1 steps steps
      → SectionRests m planning request own false 0 (most_of_attempt (slots m t.layout)) answer old here new Seen halts1 halts' asks1 asks' steps steps'
      → SectionAttempts m planning request own answer old new Seen halts halts' asks asks' steps steps'
  section_entered (Ok reply) new Seen halts halts1 halts' asks asks1 asks' steps steps' ask rests =
      answers_entered m planning request own t.layout reply old here new halts halts1 halts' asks asks1 asks' steps steps'
      (record {
        layout = own_here.layout ∙ sym own_old.layout;
        requests = own_here.requests ∙ sym own_old.requests;
        number = enters.keeps.number ∙ reclaims.rested.number;
        known = enters.keeps.known ∙ reclaims.rested.known;
        finished = enters.keeps.finished ∙ reclaims.rested.finished;
      })
      own_old.layout ask rests
  section_entered (Err answer) new Seen halts halts1 halts' asks asks1 asks' steps steps' ask rests = (
    rests.0,
    attempts_so m laws t limits allowed planning request old ready own_old own_ready may reclaims reserve here own_here enters
        answer new Seen halts halts1 halts' asks asks1 asks' steps steps' ask rests.1,
  )
