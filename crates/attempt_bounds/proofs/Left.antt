-- A section of the one worker that leaves does so by a spent word.
use Rattle.std.specs.Prelude.{slice_get, Bool, true, false, Ok, if◌then◌else◌}
use Rattle.std.proofs.Common.{◌≡◌, ◌≢◌, ℕ, zero, suc, ◌<◌, ◌≤◌, List, [], ◌∷◌, ◌++◌, length, length-append, append-nil, append_assoc, refl, sym, ap, ◌∙◌, subst, inl, inr, arith, Some, None}
use Rattle.machine_states.specs.epoch_core.specs.small_lemmas.proofs.Lists.{get_last}
use Rattle.machine_states.specs.map_history.specs.declared.op.Request.{Request}
use Rattle.machine_states.specs.body_terms.specs.Line.{is_end}
use Rattle.machine_states.specs.body_terms.specs.Trail.{Agreed}
use Rattle.machine_states.specs.body_terms.specs.declared.micro.Micro.{Micro}
use Rattle.machine_states.specs.body_terms.specs.declared.micro.Micro.TheVariants as micros
use Rattle.machine_states.specs.body_terms.specs.declared.outcome.Outcome.{Outcome}
use Rattle.machine_states.specs.body_terms.specs.declared.outcome.Outcome.TheVariants as outcomes
use Rattle.machine_states.specs.body_terms.specs.declared.thunk.Thunk.{Thunk}
use Rattle.machine_states.specs.table_words.specs.declared.layout.Layout.{Layout}
use Rattle.machine_states.specs.table_words.specs.Limits.{IsWithinLimits}
use Rattle.machine_states.specs.structure_laws.specs.Meaning.{Meaning}
use Rattle.machine_states.specs.structure_laws.specs.Laws.{Laws}
use Rattle.machine_states.specs.structure_laws.specs.Planner.{PlannerLaws}
use Rattle.machine_states.specs.runner_parts.specs.State.{RunState, FinishedState, ReadsState, PartState}
use Rattle.machine_states.specs.runner_steps.specs.AfterInRun.{ended_more, kept_unless, finished_of}
use Rattle.machine_states.specs.runner_steps.specs.AfterOutside.{published_by}
use Rattle.machine_states.specs.runner_steps.specs.Sections.{next_of, outcome_of}
use Rattle.machine_states.specs.Sight.{Sight, sight, part_or_first}
use Rattle.machine_states.proofs.Steps.{none_some}
use Rattle.lone_plans.specs.one_worker.specs.Lone.{IsAnswerOrSpent, IsLastReading, IsFirstPublished}
use Rattle.lone_plans.specs.one_worker.proofs.SectionsReached.{reached_through}
use Rattle.version_words.specs.machine_invariant.specs.After.{AreAllowed}
use Rattle.version_words.specs.RunnerState.{RunnerState}
use Rattle.lone_plans.specs.one_worker.specs.next_steps.specs.Stages.{run_behind, reads_behind, published_behind}
use Rattle.attempts.specs.commit_log.specs.Runs.{Stepped, LinkStepped, Moved, Ran}
use Rattle.attempts.specs.commit_log.proofs.Running.{moved_running}
use Rattle.attempts.specs.commit_log.proofs.Linking.{same_line}
use Rattle.attempts.specs.caller_facts.specs.section_runs.proofs.Linked.{link_runs}
use Rattle.attempts.specs.try_lock.specs.Planning.{Planning}
use Rattle.attempts.specs.try_lock.specs.declared.planned.Planned.TheVariants as plans
use Rattle.attempts.specs.try_lock.specs.declared.section.Section.{Section}
use Rattle.attempts.specs.try_lock.specs.Ends.{EndsSo}
use Rattle.attempts.specs.try_lock.specs.Publishes.{IsPublished}
use Rattle.attempts.specs.lock_walks.specs.Steady.{IsSteady}
use Rattle.attempts.specs.Course.{of_outcome, HasTried, HasEnded}
use Rattle.attempts.specs.caller_facts.proofs.Knowing.{get_on}
use Rattle.attempts.proofs.Placing.{IsLast, is_last}
use Rattle.attempt_bounds.specs.Lone.{NobodyCameBetween, IsLone}
use Rattle.attempt_bounds.proofs.Planned as planned

-- the last elements of one list
abbrev last_or : {A : Type 0} → A → List A → A
last_or x [] = x
last_or x (y ∷ ys) = last_or y ys

last_is : {A : Type 0} (xs : List A) (x y : A) → last_or y (xs ++ x ∷ []) ≡ x
last_is [] x y = refl
last_is (z ∷ xs) x y = last_is xs x z

same_last : {A : Type 0} (xs ys : List A) (x y : A) → xs ++ x ∷ [] ≡ ys ++ y ∷ [] → x ≡ y
same_last xs ys x y e = sym (last_is xs x x) ∙ (ap (last_or x) e ∙ last_is ys y x)

-- an element of the second of two lists
get_behind : {A : Type 0} (xs ys : List A) (i : ℕ) (x : A) → length xs ≤ i → slice_get (xs ++ ys) i ≡ Some x → (k : ℕ) × (slice_get ys k ≡ Some x)
get_behind [] ys i x low here = (i, here)
get_behind (y ∷ xs) ys zero x low here = absurd (omega (arith, low))
get_behind (y ∷ xs) ys (suc i) x low here = get_behind xs ys i x (omega (arith, low)) here

no_refusal : (o : Outcome) → IsAnswerOrSpent o → NobodyCameBetween (of_outcome o)
no_refusal (outcomes.Answered reply) is = tt
no_refusal (outcomes.Spent place word) is = tt
no_refusal (outcomes.Busy place word) is = absurd is
no_refusal (outcomes.Stale place expected read) is = absurd is

-- the one list is the other's front
record Front {A : Type 0} (xs ys : List A) : Type 0 where
  pub more : List A
  pub is : ys ≡ xs ++ more

front_on : {A : Type 0} (xs ys zs : List A) → Front xs ys → Front ys zs → Front xs zs
front_on xs ys zs one two = record { more = one.more ++ two.more; is = two.is ∙ (ap (λ s. s ++ two.more) one.is ∙ append_assoc xs one.more two.more) }

-- what a step of a run has read is added
reads_on : (p : PartState) (q : RunState) (micro : Micro) (found : ℕ) → Front p.reads.cells (reads_behind p q micro found).cells
reads_on p q (micros.LoadCell place log) found = record { more = (place, found) ∷ []; is = refl }
reads_on p q (micros.NestedLoad place log) found = record { more = (place, found) ∷ []; is = refl }
reads_on p q (micros.NestedHold place word) found = record { more = (place, found) ∷ []; is = refl }
reads_on p q (micros.OutcomeLoad place log) found = record { more = (place, found) ∷ []; is = refl }
reads_on p q (micros.ExchangeCell place log value) found = record { more = (place, found) ∷ []; is = refl }
reads_on p q (micros.Release place word) found = record { more = (place, found) ∷ []; is = refl }
reads_on p q _ found = record { more = []; is = sym (append-nil p.reads.cells) }

module _ {T : Type 0} (m : Meaning) where
  -- what a run's steps but the last one leave: the own section is published still, and what was read is known on
  record StillPublished (old new : RunnerState T) : Type 0 where
    pub requests : new.requests ≡ old.requests
    pub published : new.part.published ≡ old.part.published
    pub cells : Front old.part.reads.cells new.part.reads.cells

  -- a step behind which the run goes on
  still_step : (q after : RunState) (micro : Micro) (found : ℕ) (old new : RunnerState T) → Stepped m q micro found old new → new.part.run ≡ Some after
      → StillPublished old new
  still_step q after micro found old new step runs = record {
    requests = ap (λ (r : RunnerState T). r.requests) step.event.made;
    published = step.behind.published ∙ by micro (sym step.behind.run ∙ runs);
    cells = subst (Front old.part.reads.cells) (ap (λ (s : ReadsState). s.cells) (sym step.behind.reads)) (reads_on old.part q micro found);
  }
    where
      by : (k : Micro) → run_behind m old.layout old.part q k found ≡ Some after → published_behind m old.part q k ≡ old.part.published
      by (micros.Release place word) e = by_end (is_end (next_of m (ended_more q))) e
        where
          by_end : (b : Bool) → (if b then None else Some (ended_more q)) ≡ Some after
              → (if b then kept_unless old.part.published q.descriptor else old.part.published) ≡ old.part.published
          by_end true e = absurd (none_some after (sym e))
          by_end false e = refl
      by _ e = refl

  -- so is one by which it links a block
  still_linked : (q : RunState) (found : ℕ) (old new : RunnerState T) → LinkStepped m q found old new → StillPublished old new
  still_linked q found old new link = let same = same_line m q found old new link in record {
    requests = same.requests;
    published = same.published;
    cells = record { more = []; is = ap (λ (s : ReadsState). s.cells) same.reads ∙ sym (append-nil old.part.reads.cells) };
  }

  still_moved : (q after : RunState) (found : ℕ) (old new : RunnerState T) → Moved m q found old new → new.part.run ≡ Some after → StillPublished old new
  still_moved q after found old new (inl step) runs = still_step q after step.0 found old new step.1 runs
  still_moved q after found old new (inr link) runs = still_linked q found old new link

  -- the last step of a run that is over
  record HasLast (old new : RunnerState T) : Type 0 where
    pub before : RunnerState T
    pub run : RunState
    pub micro : Micro
    pub found : ℕ
    pub step : Stepped m run micro found before new
    pub still : StillPublished old before

  last_step : (n : ℕ) (old new : RunnerState T) → Ran m (suc n) old new → new.part.run ≡ None → HasLast old new
  last_step zero old new ran over = by (subst (λ (y : RunnerState T). Moved m ran.1 ran.2 old y) (sym ran.4) ran.3)
    where
      by : Moved m ran.1 ran.2 old new → HasLast old new
      by (inl step) = record {
        before = old;
        run = ran.1;
        micro = step.0;
        found = ran.2;
        step = step.1;
        still = record { requests = refl; published = refl; cells = record { more = []; is = sym (append-nil old.part.reads.cells) } };
      }
      by (inr link) = absurd (link_runs m old new ran.1 ran.2 link over)
  last_step (suc n) old new ran over =
      let next = ran.4 in
      let later = last_step n ran.0 new next over in
      let here = still_moved ran.1 next.1 ran.2 old ran.0 ran.3 (moved_running m next.1 next.2 ran.0 next.0 next.3).inside.running in
      record {
        before = later.before;
        run = later.run;
        micro = later.micro;
        found = later.found;
        step = later.step;
        still = record {
          requests = later.still.requests ∙ here.requests;
          published = later.still.published ∙ here.published;
          cells = front_on old.part.reads.cells ran.0.part.reads.cells later.before.part.reads.cells here.cells later.still.cells;
        };
      }

module _ {T : Type 0} (m : Meaning) (laws : Laws m) (planning : Planning) (planner : PlannerLaws m planning.per_pair) (steady : IsSteady m planning)
    (request : Request) (old ran : RunnerState T) (lone : IsLone old) (section : Section) (thunk : Thunk) (outcome : Outcome) (trail : Agreed)
    (ended : HasEnded m planning request section thunk outcome trail old ran) where
  abbrev published : RunnerState T
  published = ended.published

  tries : HasTried m planning request thunk (Ok section) old published
  tries = ended.tries

  ends : EndsSo m section.descriptor thunk outcome trail ended.made published ran
  ends = ended.ends

  won : IsPublished thunk tries.publishes.descriptor tries.publishes.found tries.planned published section
  won = tries.publishes.published

  last_by : (n : ℕ) → Ran m n ends.opened ran → HasLast m ends.opened ran
  last_by zero same = absurd (none_some _ (sym (ap (λ (r : RunnerState T). r.part.run) same ∙ ends.opening.run) ∙ ends.resting))
  last_by (suc n) steps = last_step m n ends.opened ran steps ends.resting

  last : HasLast m ends.opened ran
  last = last_by ends.count ends.ran

  abbrev before : RunnerState T
  before = last.before

  abbrev q : RunState
  q = last.run

  over : IsLast m before.layout before.part q last.found last.micro
  over = is_last m before.layout before.part q last.found last.micro (sym last.step.behind.run ∙ ends.resting)

  release : Stepped m q (micros.Release over.place over.word) last.found before ran
  release = subst (λ micro. Stepped m q micro last.found before ran) over.is last.step

  abbrev kept : FinishedState
  kept = finished_of m before.layout (ended_more q)

  finished_is : ends.finished ≡ kept
  finished_is = same_last published.part.records.finished before.part.records.finished ends.finished kept
      (sym ends.kept ∙ (release.behind.finished
      ∙ ap (λ b. if b then before.part.records.finished ++ kept ∷ [] else before.part.records.finished) over.over))

  layout_is : before.layout ≡ old.layout
  layout_is = sym (ap (λ (r : RunnerState T). r.layout) release.event.made) ∙ (ends.layout ∙ tries.still.layout)

  requests_is : before.requests ≡ old.requests
  requests_is = last.still.requests ∙ (ends.opening.stays.requests ∙ tries.still.requests)

  number_is : before.number ≡ 0
  number_is = sym (ap (λ (r : RunnerState T). r.number) release.event.made)
      ∙ (ends.number ∙ (tries.still.number ∙ planned.worker_zero m planning request old lone.one tries.plans.enters.may))

  lone_is : IsLone before
  lone_is = record {
    limits = subst IsWithinLimits (sym layout_is) lone.limits;
    allowed = subst AreAllowed (sym requests_is) lone.allowed;
    one = ap (λ (l : Layout). l.runners) layout_is ∙ lone.one;
  }

  abbrev s : Sight
  s = sight m before.layout before.requests release.running.inside.world

  part_is : s.part 0 ≡ before.part
  part_is = ap s.part (sym number_is) ∙ ap part_or_first release.running.inside.own

  abbrev walked : ℕ
  walked = length tries.planned.part.reads.walk

  -- as the section was published, its lock's free word was read, and before it only what the walk met
  cells_then : published.part.reads.cells ≡ tries.planned.part.reads.cells ++ (thunk.lock, thunk.word) ∷ []
  cells_then = ap (λ (x : ReadsState). x.cells) won.reads ∙ ap (λ n. tries.planned.part.reads.cells ++ (thunk.lock, n) ∷ []) won.won

  cells_walked : length tries.planned.part.reads.cells ≡ walked
  cells_walked =
      let cells = planned.cells_is m laws planning steady request old tries.planned lone tries.readings (plans.Thunk thunk) tries.plans in
      let walk = planned.walk_is m laws planning steady request old tries.planned lone tries.readings (plans.Thunk thunk) tries.plans in
      ap length (cells ∙ sym walk)

  cells_more : Front published.part.reads.cells before.part.reads.cells
  cells_more = subst (λ xs. Front xs before.part.reads.cells) (ap (λ (x : ReadsState). x.cells) ends.opening.reads) last.still.cells

  read_then : slice_get before.part.reads.cells walked ≡ Some (thunk.lock, thunk.word)
  read_then = ap (λ xs. slice_get xs walked) cells_more.is
      ∙ get_on published.part.reads.cells cells_more.more walked (thunk.lock, thunk.word)
      (ap (λ xs. slice_get xs walked) cells_then
      ∙ (ap (slice_get (tries.planned.part.reads.cells ++ (thunk.lock, thunk.word) ∷ [])) (sym cells_walked)
      ∙ get_last tries.planned.part.reads.cells (thunk.lock, thunk.word)))

  -- and the run has read it no more
  read_last : (i : ℕ) → walked < i → slice_get before.part.reads.cells i ≢ Some (thunk.lock, thunk.word)
  read_last i behind here =
      let on : slice_get ran.part.reads.cells i ≡ Some (thunk.lock, thunk.word) = ap (λ (x : ReadsState). slice_get x.cells i) release.behind.reads
      ∙ get_on before.part.reads.cells ((over.place, last.found) ∷ []) i (thunk.lock, thunk.word) here in
      let so_many : length published.part.reads.cells ≡ suc walked =
      ap length cells_then ∙ (length-append tries.planned.part.reads.cells ((thunk.lock, thunk.word) ∷ []) ∙ (let same = cells_walked in omega (arith, same))) in
      let late = get_behind published.part.reads.cells ends.cells.more i (thunk.lock, thunk.word) (omega (arith, so_many, behind))
      (ap (λ xs. slice_get xs i) (sym ends.cells.adds) ∙ on) in
      ends.cells.others late.0 late.1

  first : IsFirstPublished s section.descriptor
  first = record {
    section = published_by thunk tries.publishes.descriptor tries.planned.part;
    published = ap (λ (p : PartState). p.published) part_is ∙ (last.still.published ∙ (ends.opening.stays.published ∙ won.published));
    descriptor = sym won.own;
    first = subst (λ (p : PartState). IsLastReading p.reads.cells walked thunk.lock thunk.word) (sym part_is) (record { here = read_then; last = read_last });
  }

  ended_so : IsAnswerOrSpent (outcome_of m before.layout q)
  ended_so = reached_through m laws before.layout lone_is.limits before.requests lone_is.allowed planning.per_pair planner
      release.running.inside.world release.running.inside.reached lone_is.one section.descriptor 0 q first
      (ap (λ (p : PartState). p.run) part_is ∙ release.running.inside.running)
      (ap (λ (f : FinishedState). f.descriptor) (sym finished_is) ∙ ends.of_descriptor) release.running.opened

  pub left_so : NobodyCameBetween (of_outcome outcome)
  left_so = no_refusal outcome (subst IsAnswerOrSpent (ap (λ (f : FinishedState). f.outcome) (sym finished_is) ∙ ends.same_outcome) ended_so)
