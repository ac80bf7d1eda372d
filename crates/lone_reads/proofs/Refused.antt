-- A read of the one worker is refused by a spent word or its body alone.
use Rattle.std.specs.Prelude.{◌++◌, true, slice_get}
use Rattle.std.proofs.Common.{◌≡◌, ◌≢◌, ℕ, suc, List, [], ◌∷◌, length, refl, sym, ap, ◌∙◌, subst, inl, inr, arith, Some}
use Rattle.std.proofs.lemmas.Option.{slice_get_within}
use Rattle.runner_parts.specs.structure_laws.specs.map_history.specs.declared.op.Request.{Request}
use Rattle.runner_parts.specs.structure_laws.specs.body_terms.specs.declared.thunk.Thunk.{Thunk}
use Rattle.runner_parts.specs.block_words.specs.table_words.specs.declared.layout.Layout.{Layout}
use Rattle.runner_parts.specs.block_words.specs.table_words.specs.Limits.{IsWithinLimits}
use Rattle.runner_parts.specs.structure_laws.specs.Scene.{Readings}
use Rattle.runner_parts.specs.structure_laws.specs.Meaning.{Meaning}
use Rattle.runner_parts.specs.structure_laws.specs.Laws.{Laws}
use Rattle.runner_parts.specs.structure_laws.specs.Planner.{PlannerLaws}
use Rattle.runner_parts.specs.structure_laws.specs.Sections.{IsAllowed}
use Rattle.runner_parts.specs.structure_laws.proofs.Pairs.{pair_read}
use Rattle.runner_parts.specs.declared.event.EventKind.TheVariants as kinds
use Rattle.runner_parts.specs.State.{ReadsState}
use Rattle.version_words.specs.machine_invariant.specs.After.{AreAllowed}
use Rattle.version_words.specs.RunnerState.{RunnerState}
use Rattle.lone_plans.specs.Lone.{NobodyRefuses, IsLone, IsAlone, HasWalkedAlone}
use Rattle.lone_plans.proofs.Planned as alones
use Rattle.seq_read.specs.caller_facts.specs.lock_walks.specs.Steady.{IsSteady}
use Rattle.seq_read.specs.caller_facts.specs.lock_walks.proofs.Each.{get_left}
use Rattle.seq_read.specs.caller_facts.specs.epoch_slots.proofs.Outside.{reads_made}
use Rattle.seq_read.specs.caller_facts.specs.try_lock.specs.declared.planned.Planned.{Planned}
use Rattle.seq_read.specs.caller_facts.specs.try_lock.specs.declared.planned.Planned.TheVariants as plans
use Rattle.seq_read.specs.caller_facts.specs.try_lock.specs.Planning.{Planning}
use Rattle.seq_read.specs.caller_facts.specs.try_lock.specs.Plans.{IsWalk, Answers, reads_walked}
use Rattle.seq_read.specs.caller_facts.specs.Asking.{MayAttempt}
use Rattle.seq_read.specs.caller_facts.proofs.Shapes.{allowed_at}
use Rattle.seq_read.specs.Course.{of_plan, IsReading, HasPlanned, HasLoaded, HasAnnounced, HasClock, HasLock, CellDiffers}
use Rattle.seq_read.proofs.Courses.{planned_here, loaded_here, announced_here, clock_here, lock_here}
use Rattle.seq_read.proofs.Writing.{planned_shaped}
use Rattle.lone_reads.specs.Lone.{NobodyCameBetween}

-- what stands in a list stands in it with more before or behind
left_in : {X : Type 0} (xs ys : List X) (i : ℕ) (y : X) → slice_get xs i ≡ Some y → slice_get (xs ++ ys) i ≡ Some y
left_in xs ys i y h = get_left xs ys i (slice_get_within xs i y h) ∙ h

right_in : {X : Type 0} (xs ys : List X) (i : ℕ) (y : X) → slice_get ys i ≡ Some y → (k : ℕ) × (slice_get (xs ++ ys) k ≡ Some y)
right_in [] ys i y h = (i, h)
right_in (x ∷ xs) ys i y h = let behind = right_in xs ys i y h in (suc behind.0, behind.1)

-- walks read nothing else
only_walks : (old new : ReadsState) (readings : Readings) → new ≡ reads_walked old readings → old.cells ≡ old.walk → new.cells ≡ new.walk
only_walks old new readings same only = subst (λ (s : ReadsState). s.cells ≡ s.walk) (sym same) (ap (λ rs. rs ++ readings) only)

plan_met : (p : Planned) → NobodyRefuses p → NobodyCameBetween (of_plan p)
plan_met (plans.Busy place word) none = none
plan_met (plans.Spent place word) none = tt
plan_met (plans.Stale place expected read) none = none
plan_met (plans.Far loads) none = none
plan_met (plans.Thunk thunk) none = tt
plan_met plans.Halted none = tt

module _ {T : Type 0} (m : Meaning) (laws : Laws m) (planning : Planning) (request : Request) (old : RunnerState T) (lone : IsLone old) where
  alone_of : (r : RunnerState T) → MayAttempt planning request old → IsReading old r → r.part.reads.cells ≡ r.part.reads.walk → IsAlone r
  alone_of r may reading fresh = record {
    lone = record {
      limits = subst IsWithinLimits (sym reading.still.layout) lone.limits;
      allowed = subst AreAllowed (sym reading.still.requests) lone.allowed;
      one = ap (λ (l : Layout). l.runners) reading.still.layout ∙ lone.one;
    };
    worker = reading.still.number ∙ alones.worker_zero request old lone.one may.next;
    epoch = reading.epoch;
    at = reading.at;
    fresh = record { unpublished = reading.at.published; walked = let same = ap length fresh in omega (arith, same) };
  }

  module _ (readings : Readings) (answer : Planned) (r : RunnerState T) (is : HasPlanned m planning request readings answer old r) where
    -- it has read nothing but in its walks
    fresh_planned : r.part.reads.cells ≡ r.part.reads.walk
    fresh_planned = only_walks is.entered.part.reads r.part.reads readings is.walked.reads
        (subst (λ (s : ReadsState). s.cells ≡ s.walk) (sym is.enters.enters.reads) refl)

    allowed_planned : IsAllowed request.op
    allowed_planned = allowed_at old.requests request.number request is.enters.may.there lone.allowed.each

    walked_planned : HasWalkedAlone m planning request.op readings is.entered r
    walked_planned = record {
      alone = alone_of r is.enters.may is.reading fresh_planned;
      loads = is.walked.loads;
      read = (planned_here m planning request old readings answer r is).has_read;
      reached = is.reached;
      allowed = allowed_planned;
      served = is.enters.may.served;
      walk = subst (λ l. IsWalk m planning l request.op readings) (sym is.reading.still.layout) is.walk;
    }

  pub plan_so : IsSteady m planning → (readings : Readings) (answer : Planned) (r : RunnerState T) → HasPlanned m planning request readings answer old r
      → NobodyCameBetween (of_plan answer)
  plan_so steady readings answer r is = plan_met answer
      (alones.plan_so m laws planning steady request.op readings is.entered r (walked_planned readings answer r is) request.number answer
      (subst (λ l. Answers m planning l request.op request.number readings answer) (sym is.reading.still.layout) is.answers))

  -- a thunk that was planned fits what has been read since
  module _ (thunk : Thunk) (readings : Readings) (r : RunnerState T) (is : HasPlanned m planning request readings (plans.Thunk thunk) old r) where
    fits_on : (more : Readings) → m.fits old.layout request.op (readings ++ more) thunk ≡ true
    fits_on more = (laws.over old.layout lone.limits).fitting.fits_on readings more request.op thunk is.answers.fits

  module _ (thunk : Thunk) (found : Readings) where
    fresh_loaded : (r : RunnerState T) → HasLoaded m planning request thunk found old r → r.part.reads.cells ≡ r.part.reads.walk
    fresh_loaded r is = only_walks is.planned.part.reads r.part.reads found is.loads.reads (fresh_planned is.readings (plans.Thunk thunk) is.planned is.plans)

    fresh_announced : (r : RunnerState T) → HasAnnounced m planning request thunk found old r → r.part.reads.cells ≡ r.part.reads.walk
    fresh_announced r is = subst (λ (s : ReadsState). s.cells ≡ s.walk)
        (sym (reads_made m (kinds.ReadPlan thunk) is.announces.found is.loaded r is.announces.event (loaded_here m planning request old thunk found is.loaded is.finds.loads).resting))
        (fresh_loaded is.loaded is.finds.loads)

    fresh_clocked : (clock : ℕ) (r : RunnerState T) → HasClock m planning request thunk found clock old r → r.part.reads.cells ≡ r.part.reads.walk
    fresh_clocked clock r is = subst (λ (s : ReadsState). s.cells ≡ s.walk)
        (sym (reads_made m kinds.ReadClock clock is.announced r is.loads (announced_here m planning request old thunk found is.announced is.announces).resting))
        (fresh_announced is.announced is.announces)

    fresh_locked : (clock word : ℕ) (r : RunnerState T) → HasLock m planning request thunk found clock word old r → r.part.reads.cells ≡ r.part.reads.walk
    fresh_locked clock word r is = only_walks is.clocked.part.reads r.part.reads ((thunk.lock, word) ∷ [])
        (reads_made m (kinds.LoadCell (Some thunk.lock)) word is.clocked r is.loads (clock_here m planning request old thunk found clock is.clocked is.clocks).resting)
        (fresh_clocked clock is.clocked is.clocks)

  -- a cell that the body loads has the word that the plan has read, and so the one that the body wants
  pub no_cell : PlannerLaws m planning.per_pair → (place expected read : ℕ) (r : RunnerState T) → CellDiffers m planning request place expected read old r → ⊥
  no_cell planner place expected read r is =
      let loads = is.loads in
      let plan = loads.plans in
      let unmet = is.unmet in
      let alone = alone_of r plan.enters.may loads.reading (fresh_loaded is.thunk is.found r loads) in
      let walk = (loaded_here m planning request old is.thunk is.found r loads).has_read in
      let unlocked = (planned_shaped m laws planning request old lone.limits lone.allowed is.thunk loads.readings loads.planned plan).load_unlocked unmet.load place unmet.reg unmet.loads in
      let wanted = (planner.over old.layout lone.limits).want_read loads.readings request.op is.thunk (allowed_planned loads.readings (plans.Thunk is.thunk) loads.planned plan)
      plan.answers.fits unmet.load unmet.want place unmet.reg expected unmet.loads unmet.wants in
      let loaded = right_in loads.readings is.found unmet.seen.0 (place, read) unmet.seen.1 in
      let stands = alones.readings_stand m laws r alone loads.reached in
      unmet.other
      (sym (stands wanted.0 place expected (ap (λ (rs : Readings). slice_get rs wanted.0) walk ∙ left_in loads.readings is.found wanted.0 (place, expected) wanted.1) (inl unlocked))
      ∙ stands loaded.0 place read (ap (λ (rs : Readings). slice_get rs loaded.0) walk ∙ loaded.1) (inl unlocked))

  -- and the lock has its word again
  pub no_lock : (thunk : Thunk) (found : Readings) (clock word : ℕ) (r : RunnerState T) → HasLock m planning request thunk found clock word old r → word ≢ thunk.word → ⊥
  no_lock thunk found clock word r is other =
      let loads = is.clocks.announces.finds.loads in
      let plan = loads.plans in
      let last : Readings = (thunk.lock, word) ∷ [] in
      let alone = alone_of r plan.enters.may is.reading (fresh_locked thunk found clock word r is) in
      let walk = (lock_here m planning request old thunk found clock word r is).has_read in
      let read = pair_read loads.readings thunk.lock thunk.word plan.answers.read in
      let shown = is.loads.shown in
      let fits = subst (λ l. m.fits l request.op r.part.reads.walk thunk ≡ true) (sym is.reading.still.layout)
      (subst (λ (rs : Readings). m.fits old.layout request.op rs thunk ≡ true) (sym walk)
      ((laws.over old.layout lone.limits).fitting.fits_on (loads.readings ++ found) last request.op thunk (fits_on thunk loads.readings loads.planned plan found))) in
      let shaped = alones.shaped m laws r alone shown.world shown.reached shown.own request.op thunk (allowed_planned loads.readings (plans.Thunk thunk) loads.planned plan) fits in
      other (sym (alones.found_here m thunk.lock word is.clocked r is.loads)
      ∙ alones.stands m laws r alone shown.world shown.reached shown.own read.0 thunk.lock thunk.word
      (ap (λ (rs : Readings). slice_get rs read.0) walk
      ∙ left_in (loads.readings ++ found) last read.0 (thunk.lock, thunk.word) (left_in loads.readings found read.0 (thunk.lock, thunk.word) read.1))
      (inr shaped.outer_known))
