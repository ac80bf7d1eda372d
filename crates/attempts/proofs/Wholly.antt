-- An attempt as a whole: its entry, its plan, and what follows.
use Rattle.std.specs.Prelude.{◌&&◌, not, Bool, true, false, if◌then◌else◌, Ok, Err}
use Rattle.std.proofs.Common.{◌≡◌, ◌≢◌, ℕ, ◌+◌, ◌*◌, ◌≤◌, length, refl, sym, ap, ◌∙◌, subst, arith, inl, inr, None, Some}
use Rattle.std.proofs.lemmas.Bool.{true≢false}
use Rattle.section_lines.specs.small_lemmas.proofs.Numbers.{from_zero as from_none}
use Rattle.machine_states.specs.map_history.specs.declared.op.Request.{Request}
use Rattle.machine_states.specs.body_terms.specs.Word.{is_free}
use Rattle.machine_states.specs.body_terms.specs.declared.outcome.Refused.{Refused}
use Rattle.machine_states.specs.body_terms.specs.declared.thunk.Thunk.{Thunk}
use Rattle.machine_states.specs.table_words.specs.declared.layout.Layout.{Layout}
use Rattle.machine_states.specs.table_words.specs.Limits.{IsWithinLimits}
use Rattle.runner_gate.specs.Asks.{Asks, asked_on}
use Rattle.machine_states.specs.structure_laws.specs.Scene.{Readings}
use Rattle.machine_states.specs.structure_laws.specs.Meaning.{Meaning}
use Rattle.machine_states.specs.structure_laws.specs.Cells.{slots}
use Rattle.machine_states.specs.structure_laws.specs.Laws.{Laws}
use Rattle.machine_states.specs.structure_laws.proofs.Pairs.{pair_read}
use Rattle.machine_states.specs.guard_core.specs.State.{most_linked}
use Rattle.machine_states.specs.epoch_core.specs.declared.stage.Stage.TheVariants as stages
use Rattle.machine_states.specs.runner_parts.specs.Tests.{has_pair, is_answered}
use Rattle.machine_states.specs.runner_parts.specs.State.{NodesState, DescriptorsState, ReadsState}
use Rattle.machine_states.proofs.Steps.{none_some}
use Rattle.machine_facts.specs.machine_invariant.specs.After.{AreAllowed}
use Rattle.version_words.specs.RunnerState.{RunnerState}
use Rattle.version_words.specs.TableState.{TableState, IsOf}
use Rattle.version_words.specs.Stages.{IsAt}
use Rattle.version_words.specs.Events.{IsMade}
use Rattle.machine_states.specs.runner_parts.specs.declared.event.EventKind.TheVariants as kinds
use Rattle.caller_facts.specs.lock_walks.specs.runner_facts.proofs.Names.{pair_last}
use Rattle.caller_facts.specs.try_lock.specs.Reached.{IsReached}
use Rattle.attempts.specs.Reclaims.{Reclaims}
use Rattle.caller_facts.specs.epoch_slots.specs.Entries.{Enters, KeepsOwn}
use Rattle.caller_facts.specs.epoch_slots.specs.Reserves.{counts_of}
use Rattle.caller_facts.specs.epoch_slots.specs.declared.reserves.Short.{Short}
use Rattle.caller_facts.specs.section_runs.specs.commit_log.specs.Asked.{IsAsked}
use Rattle.caller_facts.specs.section_runs.specs.commit_log.proofs.Asked.{asked_none}
use Rattle.caller_facts.specs.try_lock.specs.declared.planned.Planned.{Planned}
use Rattle.caller_facts.specs.try_lock.specs.declared.planned.Planned.TheVariants as plans
use Rattle.caller_facts.specs.try_lock.specs.declared.section.Section.{Section}
use Rattle.caller_facts.specs.try_lock.specs.Planning.{Planning}
use Rattle.caller_facts.specs.try_lock.specs.Plans as plan
use Rattle.caller_facts.specs.try_lock.specs.Publishes.{Publishes}
use Rattle.caller_facts.specs.Knowing.{IsStill}
use Rattle.attempts.specs.Course.{of_plan, of_refusal, HasReserve, HasEntered, HasPlanned, HasTried, PlanIsRefused, LockIsRefused}
use Rattle.caller_facts.specs.Asking.{MayAttempt, WasRead}
use Rattle.caller_facts.specs.Counted.{IsCounted}
use Rattle.attempts.specs.Attempts.{is_halted, is_short, asks_more, runs_of, has_helped, most_of_run, most_of_attempt, IsBrief, IsFew, IsShort, AtEntry, InPlan, IsHalted, Answers, has_published, Attempts}
use Rattle.attempts.specs.Rests.{MayLeave, HasTurned, Rests}
use Rattle.attempts.specs.declared.answers.Attempt.{Attempt}
use Rattle.attempts.specs.declared.answers.Attempt.TheVariants as answers
use Rattle.caller_facts.proofs.Knowing.{knows_same, knows_on, no_other_same, no_other_on}
use Rattle.attempts.proofs.Reaching.{enters_reached}
use Rattle.caller_facts.specs.try_lock.proofs.Blocks.{for_one}
use Rattle.attempts.proofs.Refilling.{short_reached, short_named, short_kept, short_lost}
use Rattle.caller_facts.proofs.Counting.{counted_steps, asked_then, steps_then, seen_then}
use Rattle.attempts.proofs.Held.{read_within, read_few}
use Rattle.caller_facts.specs.try_lock.proofs.Guarding.{guard_keeps, guard_reads}
use Rattle.attempts.proofs.Courses.{at_refused, refused_may_leave, planned_at, planned_reads, planned_leave}
use Rattle.caller_facts.proofs.Standing.{untouched, made_reached}
use Rattle.attempts.proofs.Turning.{turned_rests}
use Rattle.attempts.proofs.Trying.{tried_of, own_here, unknown_here, refusal_of_lock, runs_from_still, few_from_still, brief_from_still}
use Rattle.attempts.proofs.Planning.{planned_of}
use Rattle.attempts.proofs.Expected.{plan_stale, lock_stale}
use Rattle.attempts.proofs.Locks.{planned_shaped}
use Rattle.attempts.proofs.Refusing.{refuses, refusal_of_plan, busy_plan, plan_busy}

-- the loads of a plan, alone and with the steps of a run
none_within : (count : ℕ) → 0 ≤ most_of_attempt count
none_within count = omega arith

loads_within : (loads count : ℕ) → loads ≤ 6 * count + 44 → loads ≤ most_of_attempt count
loads_within loads count few = omega (arith, few)

loads_and_run : (loads count : ℕ) → loads ≤ 6 * count + 44 → loads + most_of_run ≤ most_of_attempt count
loads_and_run loads count few = omega (arith, few)

steps_on : (b n k : ℕ) → b + (n + k) ≡ b + n + k
steps_on b n k = omega arith

asks_on : (b n k : ℕ) → 1 + b + (n + k) ≡ 1 + (b + n) + k
asks_on b n k = omega arith

no_steps : (n : ℕ) → n + 0 ≡ n
no_steps n = omega arith

-- the rest, behind counted steps of a runner that learned nothing by them
pub rests_after : {T : Type 0} (m : Meaning) (planning : Planning) (request : Request) (before n most : ℕ) (answer : Attempt) (old here mid new : RunnerState T)
    (Seen : ℕ → Asks → Type 0) (halts halts1 halts' : ℕ) (asks asks1 asks' : Asks) (steps steps1 steps' : ℕ) → IsStill here mid → IsAsked n true halts halts1 asks asks1 steps steps1
    → (since : ℕ) → before + n ≡ since → Rests m planning request false since most answer old mid new Seen halts1 halts' asks1 asks' steps1 steps'
    → Rests m planning request false before (n + most) answer old here new Seen halts halts' asks asks' steps steps'
rests_after m planning request before n most answer old here mid new Seen halts halts1 halts' asks asks1 asks' steps steps1 steps' still asked since sums rests = record {
  answers = rests.answers;
  knows = knows_on here mid new (knows_same here mid still.number still.known still.finished) rests.knows;
  no_other = no_other_on request.number here mid new still.requests still.layout still.number (no_other_same request.number here mid still.known) rests.no_other;
  made = n + rests.made;
  made_is = steps_on before n rests.made ∙ (ap (λ b. b + rests.made) sums ∙ rests.made_is);
  published = rests.published;
  published_is = rests.published_is;
  late = rests.late;
  asked = steps_then n rests.made (if rests.published && not false then 1 else 0) (not (is_halted answer)) halts halts1 halts' asks asks1 asks' steps steps1 steps' asked rests.asked;
  let_go = λ halted. let last = rests.let_go halted in (
    n + last.0,
    asks_on before n last.0 ∙ (ap (λ b. 1 + b + last.0) sums ∙ last.1),
    seen_then Seen halts halts1 asks asks1 n last.0 (asked.went refl) asked.asked last.2,
  );
  entered = rests.entered;
  runs = λ on. runs_from_still m planning request answer old here mid new still ((if rests.published && not false then 1 else 0) + (if has_helped m planning request answer old new rests.answers then 1 else 0)) (rests.runs on);
  few_runs = few_from_still m planning request answer old here mid new still 2 rests.few_runs;
  brief = λ none. brief_from_still m planning request answer old here mid new still most 1 rests.made (n + most) (n + rests.made) (λ low. omega (arith, low)) (rests.brief none);
}

-- a larger bound
pub rests_within : {T : Type 0} (m : Meaning) (planning : Planning) (request : Request) (held : Bool) (before most more : ℕ) (answer : Attempt) (old here new : RunnerState T)
    (Seen : ℕ → Asks → Type 0) (halts halts' : ℕ) (asks asks' : Asks) (steps steps' : ℕ) → most ≤ more
    → Rests m planning request held before most answer old here new Seen halts halts' asks asks' steps steps'
    → Rests m planning request held before more answer old here new Seen halts halts' asks asks' steps steps'
rests_within m planning request held before most more answer old here new Seen halts halts' asks asks' steps steps' low rests = record {
  answers = rests.answers;
  knows = rests.knows;
  no_other = rests.no_other;
  made = rests.made;
  made_is = rests.made_is;
  published = rests.published;
  published_is = rests.published_is;
  late = rests.late;
  asked = rests.asked;
  let_go = rests.let_go;
  entered = rests.entered;
  runs = rests.runs;
  few_runs = rests.few_runs;
  brief = λ none. let brief = rests.brief none in record { few_steps = let few = brief.few_steps in omega (arith, few, low); few_runs = brief.few_runs };
}

-- the lock refused the publication
module _ {T : Type 0} (m : Meaning) (laws : Laws m) (t : TableState T) (limits : IsWithinLimits t.layout) (allowed : AreAllowed t.requests)
    (planning : Planning) (request : Request) (thunk : Thunk) (refused : Refused) (old r mid u : RunnerState T) (own_mid : IsOf t mid) (own_u : IsOf t u)
    (readings : Readings) (planned : HasPlanned m planning request readings (plans.Thunk thunk) old r)
    (publishes : Publishes m thunk (Err refused) r mid) (layout : mid.layout ≡ r.layout) (requests : mid.requests ≡ r.requests)
    (goes : IsMade m (kinds.Guard None) mid u) where
  abbrev pub lost : HasTried m planning request thunk (Err refused) old mid
  lost = tried_of m planning request old readings thunk r planned (Err refused) mid publishes layout requests

  -- it lets the guard go
  kept : KeepsOwn mid u
  kept = guard_keeps m None goes.found mid u goes.event (at_refused m planning request old thunk refused mid lost).resting

  still_gone : IsStill mid u
  still_gone = record { layout = own_u.layout ∙ sym own_mid.layout; requests = own_u.requests ∙ sym own_mid.requests; number = kept.number; known = kept.known; finished = kept.finished }

  then_still : (a b c : RunnerState T) → IsStill a b → IsStill b c → IsStill a c
  then_still a b c one two = record { layout = two.layout ∙ one.layout; requests = two.requests ∙ one.requests; number = two.number ∙ one.number; known = two.known ∙ one.known; finished = two.finished ∙ one.finished }

  still_lost : IsStill r u
  still_lost = then_still r mid u (record { layout = layout; requests = requests; number = publishes.number; known = publishes.known; finished = publishes.finished }) still_gone

  still_old : IsStill old u
  still_old = then_still old mid u lost.still still_gone

  limits_u : IsWithinLimits u.layout
  limits_u = subst IsWithinLimits (sym own_u.layout) limits

  allowed_u : AreAllowed u.requests
  allowed_u = subst AreAllowed (sym own_u.requests) allowed

  -- the lock is one
  outer_lock : m.is_lock thunk.lock ≡ true
  outer_lock = (planned_shaped m laws planning request readings thunk old r
      (subst IsWithinLimits (sym (sym layout ∙ own_mid.layout)) limits) (subst AreAllowed (sym (sym requests ∙ own_mid.requests)) allowed) planned).outer_lock

  -- the word that is told expected is the thunk's, which the plan read
  lost_stale : (place expected read : ℕ) → of_refusal thunk.lock refused ≡ answers.Stale place expected read → WasRead readings place expected × (expected ≢ read)
  lost_stale place expected read e =
      let h = lock_stale r.layout.version_max thunk.lock thunk.word publishes.found place expected read publishes.refused.lost refused publishes.refused.why e in
      let k = pair_read readings thunk.lock thunk.word planned.answers.read in
      ((k.0, k.1 ∙ (λ i. Some (sym h.0 i, sym h.1 i))), h.2)

  abbrev lost_cause : LockIsRefused m planning request (of_refusal thunk.lock refused) old u
  lost_cause = record { thunk = thunk; refusal = refused; guarded = mid; tries = lost; lets_go = goes; same = refl; lock = outer_lock; stale = lost_stale }

  here : IsReached m u
  here = made_reached m (kinds.Guard None) goes.found mid u goes.event

  -- the exchange read the lock
  found_read : has_pair u.part.reads.cells thunk.lock publishes.found ≡ true
  found_read = ap (λ (s : ReadsState). has_pair s.cells thunk.lock publishes.found) (guard_reads m None goes.found mid u goes.event (at_refused m planning request old thunk refused mid lost).resting)
      ∙ (ap (λ xs. has_pair xs thunk.lock publishes.found) publishes.read ∙ pair_last r.part.reads.cells thunk.lock publishes.found)

  pub lost_may_leave : MayLeave m (of_refusal thunk.lock refused) u
  lost_may_leave = refused_may_leave m planning request old thunk refused mid lost goes.found u goes.event outer_lock
      (read_within m laws u limits_u allowed_u here thunk.lock publishes.found found_read)
      (λ names. read_few m laws u limits_u allowed_u here thunk.lock publishes.found found_read outer_lock names)

  pub lost_rests : (got : Attempt) (new : RunnerState T) → IsOf t new → (Seen : ℕ → Asks → Type 0) (halts halts' : ℕ) (asks asks' : Asks) (steps steps' : ℕ)
      → Seen halts asks → HasTurned m (of_refusal thunk.lock refused) got u new halts halts' asks asks' steps steps'
      → Rests m planning request false (length readings) most_of_run got old r new Seen halts halts' asks asks' steps steps'
  lost_rests got new own_new Seen halts halts' asks asks' steps steps' seen turned =
      rests_after m planning request (length readings) 0 most_of_run got old r u new Seen halts halts halts' asks asks asks' steps steps steps' still_lost (asked_none halts asks steps)
      (length readings) (no_steps (length readings))
      (turned_rests m laws planning request old u new (of_refusal thunk.lock refused) got (refusal_of_lock thunk.lock refused)
      (inr (inl lost_cause)) false (length readings) refl refl
      (own_here planning request old planned.enters.may u still_old) (unknown_here planning request old planned.enters.may u still_old)
      (subst IsWithinLimits (sym own_new.layout) limits) (subst AreAllowed (sym own_new.requests) allowed)
      (own_new.layout ∙ sym own_u.layout) (own_new.requests ∙ sym own_u.requests) Seen halts halts' asks asks' steps steps' seen turned most_of_run)

-- the section was published: the rest from the plan on
pub tried_rests : {T : Type 0} (m : Meaning) (planning : Planning) (request : Request) (thunk : Thunk) (section : Section) (before : ℕ) (old r mid new : RunnerState T)
    (got : Attempt) (publishes : Publishes m thunk (Ok section) r mid) → mid.layout ≡ r.layout → mid.requests ≡ r.requests
    → (Seen : ℕ → Asks → Type 0) (halts halts' : ℕ) (asks asks' : Asks) (steps steps' : ℕ)
    → Rests m planning request false before most_of_run got old mid new Seen halts halts' asks asks' steps steps'
    → Rests m planning request false before most_of_run got old r new Seen halts halts' asks asks' steps steps'
tried_rests m planning request thunk section before old r mid new got publishes layout requests Seen halts halts' asks asks' steps steps' rests =
    rests_after m planning request before 0 most_of_run got old r mid new Seen halts halts halts' asks asks asks' steps steps steps'
    (record { layout = layout; requests = requests; number = publishes.number; known = publishes.known; finished = publishes.finished })
    (asked_none halts asks steps) before (no_steps before) rests

-- the plan
module _ {T : Type 0} (m : Meaning) (laws : Laws m) (t : TableState T) (limits : IsWithinLimits t.layout) (allowed : AreAllowed t.requests)
    (planning : Planning) (request : Request) (answer : Planned) (old here r : RunnerState T) (own_here' : IsOf t here) (own_r : IsOf t r)
    (enters : HasEntered m planning request old here) (halts halts1 : ℕ) (asks asks1 : Asks) (steps steps1 : ℕ)
    (planned : plan.HasPlanned m planning request answer here r halts halts1 asks asks1 steps steps1) where
  layout_still : r.layout ≡ here.layout
  layout_still = own_r.layout ∙ sym own_here'.layout

  requests_still : r.requests ≡ here.requests
  requests_still = own_r.requests ∙ sym own_here'.requests

  pub course : HasPlanned m planning request planned.readings answer old r
  course = planned_of m planning request old here enters answer r halts halts1 asks asks1 steps steps1 planned layout_still requests_still

  pub still_planned : IsStill here r
  still_planned = record {
    layout = layout_still;
    requests = requests_still;
    number = planned.walked.keeps.number;
    known = planned.walked.keeps.known;
    finished = planned.walked.keeps.finished;
  }

  pub going : plan.is_halted answer ≡ false → IsAsked (length planned.readings) true halts halts1 asks asks1 steps steps1
  going on = subst (λ b. IsAsked (length planned.readings) b halts halts1 asks asks1 steps steps1) (ap not on) planned.asked

  -- it makes at most so many loads
  few_loads : length planned.readings ≤ 6 * slots m t.layout + 44
  few_loads = subst (λ (l : Layout). length planned.readings ≤ 6 * slots m l + 44) own_here'.layout planned.few

  -- a gate halted it
  pub plan_halted : answer ≡ plans.Halted → (Seen : ℕ → Asks → Type 0) → Seen halts asks
      → Rests m planning request false 0 (most_of_attempt (slots m t.layout)) answers.Halted old here r Seen halts halts1 asks asks1 steps steps1
  plan_halted is Seen seen = record {
    answers = record {
      at = InPlan planned.readings (subst (λ (a : Planned). HasPlanned m planning request planned.readings a old r) is course);
      published = λ x some. absurd (none_some x (sym some ∙ at.published));
      unknown = λ none elsewhere. unknown;
      ended = λ none. tt;
      reached = planned.reached;
    };
    knows = knows_same here r still_planned.number still_planned.known still_planned.finished;
    no_other = no_other_same request.number here r still_planned.known;
    made = length planned.readings;
    made_is = from_none (length planned.readings);
    published = false;
    published_is = refl;
    late = λ e. absurd (true≢false (sym e));
    asked = counted_steps (length planned.readings) false halts halts1 asks asks1 steps steps1
        (subst (λ (a : Planned). IsAsked (length planned.readings) (not (plan.is_halted a)) halts halts1 asks asks1 steps steps1) is planned.asked);
    let_go = λ e. (0, refl, seen);
    entered = refl;
    runs = λ on. absurd (true≢false on);
    few_runs = let more : length r.part.records.finished ≤ length here.part.records.finished + 2 = omega (arith, same_runs) in more;
    brief = λ none. record {
      few_steps = loads_within (length planned.readings) (slots m t.layout) few_loads;
      few_runs = let more : length r.part.records.finished ≤ length here.part.records.finished + 1 = omega (arith, same_runs) in more;
    };
  }
    where
      same_runs : length r.part.records.finished ≡ length here.part.records.finished
      same_runs = ap length still_planned.finished

      at : IsAt r (stages.Entered course.enters.enters.epoch) None
      at = planned_at m planning request old planned.readings answer r course

      unknown : is_answered r.part.records.known request.number ≡ false
      unknown = unknown_here planning request old enters.may r course.still

  -- the thunk was tried
  pub thunk_rests : (got : Attempt) (new : RunnerState T) (Seen : ℕ → Asks → Type 0) (halts' : ℕ) (asks' : Asks) (steps' : ℕ) → plan.is_halted answer ≡ false
      → Rests m planning request false (length planned.readings) most_of_run got old r new Seen halts1 halts' asks1 asks' steps1 steps'
      → Rests m planning request false 0 (most_of_attempt (slots m t.layout)) got old here new Seen halts halts' asks asks' steps steps'
  thunk_rests got new Seen halts' asks' steps' on rests =
      rests_within m planning request false 0 (length planned.readings + most_of_run) (most_of_attempt (slots m t.layout)) got old here new Seen halts halts' asks asks' steps steps'
      (loads_and_run (length planned.readings) (slots m t.layout) few_loads)
      (rests_after m planning request 0 (length planned.readings) most_of_run got old here r new Seen halts halts1 halts' asks asks1 asks' steps steps1 steps'
      still_planned (going on) (length planned.readings) (from_none (length planned.readings)) rests)

  -- a reading refused it
  module _ (is : refuses answer ≡ true) where
    not_halted : (p : Planned) → refuses p ≡ true → plan.is_halted p ≡ false
    not_halted (plans.Busy place word) e = refl
    not_halted (plans.Stale place expected read) e = refl
    not_halted (plans.Spent place word) e = refl
    not_halted (plans.Far loads) e = refl
    not_halted (plans.Thunk thunk) e = refl
    not_halted plans.Halted e = absurd (true≢false (sym e))

    by_busy : (p : Planned) (place word : ℕ) → p ≡ plans.Busy place word → plan.Answers m planning old.layout request.op request.number planned.readings p
        → plan.IsRefused m planning old.layout request.op planned.readings (plans.Busy place word)
    by_busy p place word same is = subst (λ (a : Planned). plan.Answers m planning old.layout request.op request.number planned.readings a) same is

    pub plan_may_leave : MayLeave m (of_plan answer) r
    plan_may_leave = record {
      leave = planned_leave m planning request old planned.readings answer r course;
      hand = course.hand;
      reserve = course.has.nodes;
      blocks = for_one (length r.part.blocks.free) course.has.blocks;
      watch = λ place word named.
          let h = busy place word named in
          let at = planned_at m planning request old planned.readings answer r course in record {
            epoch = course.enters.enters.epoch;
            at = at;
            lock = h.2;
            within = read_within m laws r limits_r allowed_r course.reached place word h.1;
            names = h.0;
            few = read_few m laws r limits_r allowed_r course.reached place word h.1 h.2 h.0;
          };
      met = λ place word named. inl (busy place word named).1;
    }
      where
        limits_r : IsWithinLimits r.layout
        limits_r = subst IsWithinLimits (sym own_r.layout) limits

        allowed_r : AreAllowed r.requests
        allowed_r = subst AreAllowed (sym own_r.requests) allowed

        busy : (place word : ℕ) → of_plan answer ≡ answers.Busy place word → (is_free word ≡ false) × (has_pair r.part.reads.cells place word ≡ true) × (m.is_lock place ≡ true)
        busy place word named =
            let h = plan_busy m planning old.layout request.op place word planned.readings (by_busy answer place word (busy_plan answer place word named) course.answers) in
            (h.0, ap (λ (s : ReadsState). has_pair s.cells place word) (planned_reads m planning request old planned.readings answer r course) ∙ h.1, h.2)

    abbrev cause : PlanIsRefused m planning request (of_plan answer) old r
    cause = record {
      readings = planned.readings;
      refusal = answer;
      plans = course;
      same = refl;
      stale = λ place expected read e. plan_stale m planning old.layout request.op place expected read request.number planned.readings answer course.answers e;
    }

    pub refused_rests : (got : Attempt) (new : RunnerState T) → IsOf t new → (Seen : ℕ → Asks → Type 0) (halts' : ℕ) (asks' : Asks) (steps' : ℕ) → Seen halts1 asks1
        → HasTurned m (of_plan answer) got r new halts1 halts' asks1 asks' steps1 steps'
        → Rests m planning request false 0 (most_of_attempt (slots m t.layout)) got old here new Seen halts halts' asks asks' steps steps'
    refused_rests got new own_new Seen halts' asks' steps' seen turned =
        thunk_rests got new Seen halts' asks' steps' (not_halted answer is)
        (turned_rests m laws planning request old r new (of_plan answer) got (refusal_of_plan answer is) (inl cause) false (length planned.readings) refl refl
        (own_here planning request old enters.may r course.still) (unknown_here planning request old enters.may r course.still)
        (subst IsWithinLimits (sym own_new.layout) limits) (subst AreAllowed (sym own_new.requests) allowed)
        (own_new.layout ∙ sym own_r.layout) (own_new.requests ∙ sym own_r.requests) Seen halts1 halts' asks1 asks' steps1 steps' seen turned most_of_run)

-- the entry
module _ {T : Type 0} (m : Meaning) (laws : Laws m) (t : TableState T) (limits : IsWithinLimits t.layout) (allowed : AreAllowed t.requests)
    (planning : Planning) (request : Request) (old ready : RunnerState T) (own_old : IsOf t old) (own_ready : IsOf t ready)
    (may : MayAttempt planning request old) (reclaims : Reclaims m old ready) where
  still_ready : IsStill old ready
  still_ready = record {
    layout = own_ready.layout ∙ sym own_old.layout;
    requests = own_ready.requests ∙ sym own_old.requests;
    number = reclaims.rested.number;
    known = reclaims.rested.known;
    finished = reclaims.rested.finished;
  }

  ready_runs : length ready.part.records.finished ≡ length old.part.records.finished
  ready_runs = ap length still_ready.finished

  -- too few slots are free
  module _ (short : Short) (few : IsFew ready short.kind) (counts : short ≡ counts_of ready short.kind) where
    is_short_of : IsShort m short request.number old ready
    is_short_of = record {
      reclaims = reclaims;
      few = few;
      counts = counts;
      named = λ kind. subst (λ (x : Short). x.limbo ≤ ready.layout.runners) (sym (counts ∙ ap (counts_of ready) kind))
          (short_named m old ready (subst (IsFew ready) kind few).1 reclaims);
      kept = λ kind. subst (λ (x : Short). x.limbo ≤ most_linked * ready.layout.runners) (sym (counts ∙ ap (counts_of ready) kind))
          (short_kept m old ready (subst (IsFew ready) kind few).2 reclaims);
      board = λ kind. ap (λ (x : Short). x.board) (counts ∙ ap (counts_of ready) kind) ∙ short_lost m old ready reclaims (subst (IsFew ready) kind few);
      untouched = untouched m laws ready request (subst IsWithinLimits (sym own_ready.layout) limits) (subst AreAllowed (sym own_ready.requests) allowed)
          (short_reached m old ready short.kind few reclaims) reclaims.rested.tidy.at.published reclaims.rested.tidy.at.settled
          (own_here planning request old may ready still_ready) (unknown_here planning request old may ready still_ready);
    }

    pub short_attempts : (Seen : ℕ → Asks → Type 0) (halts : ℕ) (asks : Asks) (steps : ℕ)
        → Attempts m planning request (answers.Short short) old ready Seen halts halts asks asks steps steps
    short_attempts Seen halts asks steps = record {
      made = 0;
      published = false;
      is = record {
        answers = is_short_of;
        made_is = refl;
        published_is = refl;
        knows = knows_same old ready still_ready.number still_ready.known still_ready.finished;
        no_other = no_other_same request.number old ready still_ready.known;
        runs = λ on. omega (arith, ready_runs);
        few_runs = omega (arith, ready_runs);
        brief = λ none. record { few_steps = none_within (slots m old.layout); few_runs = omega (arith, ready_runs) };
      };
      asked = counted_steps 0 true halts halts asks asks steps steps (asked_none halts asks steps);
      let_go = λ e. absurd (true≢false (sym e));
    }

  -- it enters
  module _ (reserve : HasReserve ready) (here : RunnerState T) (own_new : IsOf t here) (enters : Enters m ready here) where
    still : IsStill old here
    still = record {
      layout = own_new.layout ∙ sym own_old.layout;
      requests = own_new.requests ∙ sym own_old.requests;
      number = enters.keeps.number ∙ reclaims.rested.number;
      known = enters.keeps.known ∙ reclaims.rested.known;
      finished = enters.keeps.finished ∙ reclaims.rested.finished;
    }

    pub entered_so : HasEntered m planning request old here
    entered_so = record {
      may = may;
      ready = ready;
      reclaims = reclaims;
      reserve = reserve;
      enters = enters;
      still = still;
      hand = record {
        hand = ap (λ (n : NodesState). n.hand) enters.keeps.nodes ∙ reclaims.rested.tidy.hand;
        tests = ap (λ (n : NodesState). n.tests) enters.keeps.nodes ∙ reclaims.rested.tidy.tests;
        looked = ap (λ g. g.looked) enters.guards;
      };
      has = record {
        nodes = subst (λ (n : NodesState). 2 ≤ length n.free) (sym enters.keeps.nodes) reserve.nodes;
        descriptors = subst (λ (d : DescriptorsState). 1 ≤ length d.free) (sym enters.keeps.descriptors) reserve.descriptors;
        blocks = (let had = reserve.blocks in let more = enters.keeps.blocks in omega (arith, had, more));
      };
    }

    here_runs : length here.part.records.finished ≡ length old.part.records.finished
    here_runs = ap length still.finished

    abbrev was_halted : IsHalted m planning request old here
    was_halted = record {
      at = AtEntry entered_so;
      published = λ x some. absurd (none_some x (sym some ∙ enters.at.published));
      unknown = λ none elsewhere. unknown_here planning request old may here still;
      ended = λ none. tt;
      reached = enters_reached m ready here enters;
    }

    -- a gate halts it there
    pub entry_halted : (Seen : ℕ → Asks → Type 0) (halts halts' : ℕ) (asks asks' : Asks) (steps : ℕ) → Seen halts asks
        → IsCounted 0 1 false halts halts' asks asks' steps steps
        → Attempts m planning request answers.Halted old here Seen halts halts' asks asks' steps steps
    entry_halted Seen halts halts' asks asks' steps seen asked = record {
      made = 0;
      published = false;
      is = record {
        answers = was_halted;
        made_is = refl;
        published_is = refl;
        knows = knows_same old here still.number still.known still.finished;
        no_other = no_other_same request.number old here still.known;
        runs = λ on. absurd (true≢false on);
        few_runs = omega (arith, here_runs);
        brief = λ none. record { few_steps = none_within (slots m old.layout); few_runs = omega (arith, here_runs) };
      };
      asked = asked;
      let_go = λ e. seen;
    }

    more_of : (a : Attempt) (b : Bool) → is_short a ≡ false → 1 + (if b && not false then 1 else 0) ≡ asks_more a b
    more_of (answers.Busy place word) true e = refl
    more_of (answers.Busy place word) false e = refl
    more_of (answers.Stale place expected read) true e = refl
    more_of (answers.Stale place expected read) false e = refl
    more_of (answers.Far loads) true e = refl
    more_of (answers.Far loads) false e = refl
    more_of (answers.Spent place word) true e = refl
    more_of (answers.Spent place word) false e = refl
    more_of (answers.Done reply stamp) true e = refl
    more_of (answers.Done reply stamp) false e = refl
    more_of answers.Halted true e = refl
    more_of answers.Halted false e = refl
    more_of (answers.Short short) b e = absurd (true≢false e)

    runs_are : (a : Attempt) (b : Bool) (new : RunnerState T) → is_short a ≡ false → (is : Answers m planning request a old new)
        → b ≡ has_published m planning request a old new is → (if b && not false then 1 else 0) + (if has_helped m planning request a old new is then 1 else 0)
        ≡ runs_of a b (has_helped m planning request a old new is)
    runs_are (answers.Busy place word) true new e is so = refl
    runs_are (answers.Busy place word) false new e is so = refl
    runs_are (answers.Stale place expected read) true new e is so = refl
    runs_are (answers.Stale place expected read) false new e is so = refl
    runs_are (answers.Far loads) true new e is so = refl
    runs_are (answers.Far loads) false new e is so = refl
    runs_are (answers.Spent place word) true new e is so = refl
    runs_are (answers.Spent place word) false new e is so = refl
    runs_are (answers.Done reply stamp) true new e is so = refl
    runs_are (answers.Done reply stamp) false new e is so = absurd (true≢false (sym so))
    runs_are answers.Halted true new e is so = refl
    runs_are answers.Halted false new e is so = refl
    runs_are (answers.Short short) b new e is so = absurd (true≢false e)

    brief_old : (new : RunnerState T) (made : ℕ) → IsBrief (most_of_attempt (slots m t.layout)) 1 made here new
        → IsBrief (most_of_attempt (slots m old.layout)) 1 made old new
    brief_old new made brief = record {
      few_steps = subst (λ (l : Layout). made ≤ most_of_attempt (slots m l)) (sym own_old.layout) brief.few_steps;
      few_runs = let few = brief.few_runs in omega (arith, few, here_runs);
    }

    -- it goes on
    pub attempts_so : (got : Attempt) (new : RunnerState T) (Seen : ℕ → Asks → Type 0) (halts halts1 halts' : ℕ) (asks asks1 asks' : Asks) (steps steps' : ℕ)
        → IsCounted 0 1 true halts halts1 asks asks1 steps steps
        → Rests m planning request false 0 (most_of_attempt (slots m t.layout)) got old here new Seen halts1 halts' asks1 asks' steps steps'
        → Attempts m planning request got old new Seen halts halts' asks asks' steps steps'
    attempts_so got new Seen halts halts1 halts' asks asks1 asks' steps steps' ask rests = record {
      made = rests.made;
      published = rests.published;
      is = record {
        answers = rests.answers;
        made_is = sym (from_none rests.made) ∙ rests.made_is;
        published_is = rests.published_is;
        knows = knows_on old here new (knows_same old here still.number still.known still.finished) rests.knows;
        no_other = no_other_on request.number old here new still.requests still.layout still.number (no_other_same request.number old here still.known) rests.no_other;
        runs = λ on.
            let more = rests.runs on in
            let own = runs_are got rests.published new rests.entered rests.answers rests.published_is in omega (arith, more, own, here_runs);
        few_runs = let few : length new.part.records.finished ≤ length here.part.records.finished + 2 = rests.few_runs in omega (arith, few, here_runs);
        brief = λ none. brief_old new rests.made (rests.brief none);
      };
      asked = subst (λ more. IsCounted rests.made more (not (is_halted got)) halts halts' asks asks' steps steps') (more_of got rests.published rests.entered)
          (asked_then 1 rests.made (if rests.published && not false then 1 else 0) (not (is_halted got)) halts halts1 halts' asks asks1 asks' steps steps' ask rests.asked);
      let_go = λ halted. let last = rests.let_go halted in
          subst (λ k. Seen halts (asked_on asks k)) last.1 (seen_then Seen halts halts1 asks asks1 1 last.0 (ask.went refl) ask.asked last.2);
    }
