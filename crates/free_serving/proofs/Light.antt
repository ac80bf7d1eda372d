-- What an attempt of a `get` counts at most: its walk is short, and its section changes nothing.
use Rattle.std.specs.List.{list_all}
use Rattle.std.specs.Prelude.{◌*◌, count_by, sum_by, cond, Bool, true, false, Ok}
use Rattle.std.proofs.Common.{◌≡◌, ℕ, zero, suc, ◌+◌, ◌≤◌, List, [], ◌∷◌, length, refl, sym, ap, ◌∙◌, subst, inl, inr, arith, Some}
use Rattle.std.proofs.lemmas.Bool.{true≢false, and_parts}
use Rattle.std.proofs.lemmas.List.Sums.{sum_by-cons}
use Rattle.machine_states.specs.map_history.specs.declared.op.Op.{Op}
use Rattle.machine_states.specs.map_history.specs.declared.op.Op.TheVariants.{Get}
use Rattle.machine_states.specs.map_history.specs.declared.op.Request.{Request}
use Rattle.machine_states.specs.body_terms.specs.Cost.{step_cost, body_blocks, run_cost}
use Rattle.machine_states.specs.body_terms.specs.Line.{log_words}
use Rattle.machine_states.specs.body_terms.proofs.CostLemmas.{words_in}
use Rattle.machine_states.specs.body_terms.specs.Shape.{is_look, is_take, IsShaped}
use Rattle.machine_states.specs.body_terms.specs.Trail.{Agreed}
use Rattle.machine_states.specs.body_terms.specs.declared.outcome.Outcome.{Outcome}
use Rattle.machine_states.specs.body_terms.specs.declared.step.Step.{Step}
use Rattle.machine_states.specs.body_terms.specs.declared.step.Step.TheVariants as kinds_of
use Rattle.machine_states.specs.body_terms.specs.declared.thunk.Thunk.{Thunk}
use Rattle.machine_states.specs.table_words.specs.Limits.{IsWithinLimits}
use Rattle.machine_states.specs.structure_laws.specs.Meaning.{Meaning}
use Rattle.machine_states.specs.structure_laws.specs.Cells.{slots}
use Rattle.machine_states.specs.structure_laws.specs.Laws.{Laws}
use Rattle.machine_states.specs.structure_laws.specs.Scene.{Readings}
use Rattle.machine_states.specs.structure_laws.specs.Sections.{IsAllowed}
use Rattle.machine_states.specs.runner_parts.specs.declared.entries.Published.{Published}
use Rattle.machine_states.specs.runner_parts.specs.State.{RunState, PartState}
use Rattle.machine_states.specs.runner_steps.specs.Sections.{thunk_of}
use Rattle.machine_states.specs.Sight.{Sight, sight, part_or_first}
use Rattle.machine_epochs.specs.Slots.{thunk_in}
use Rattle.version_words.specs.RunnerState.{RunnerState}
use Rattle.version_words.specs.machine_invariant.specs.After.{AreAllowed}
use Rattle.serving.specs.one_worker.specs.machine_facts.specs.machine_agreement.proofs.RunPlaces.{opened_thunk}
use Rattle.serving.specs.one_worker.specs.machine_facts.specs.After.{AreFactsAfter}
use Rattle.serving.specs.one_worker.specs.machine_facts.proofs.Following.{facts_after}
use Rattle.serving.specs.one_worker.specs.next_steps.proofs.Enabled.{reached_enabled}
use Rattle.serving.specs.one_worker.specs.next_steps.proofs.Stages.{in_table}
use Rattle.seq_read.specs.caller_facts.specs.try_lock.specs.Planning.{Planning}
use Rattle.seq_read.specs.caller_facts.specs.try_lock.specs.Plans.{IsWalk}
use Rattle.seq_read.specs.caller_facts.specs.try_lock.specs.Ends.{EndsSo, IsCutShort}
use Rattle.seq_read.specs.caller_facts.specs.try_lock.specs.declared.section.Section.{Section}
use Rattle.seq_read.specs.caller_facts.specs.try_lock.specs.declared.planned.Planned.{Planned}
use Rattle.seq_read.specs.caller_facts.specs.try_lock.specs.declared.planned.Planned.TheVariants as plans
use Rattle.seq_read.specs.caller_facts.specs.lock_walks.specs.Gets.{GetsAreLight}
use Rattle.seq_read.specs.caller_facts.specs.section_runs.specs.Reached.{run_of, run_or}
use Rattle.seq_read.specs.caller_facts.specs.section_runs.specs.Opened.{opening, IsOpening, HasOpened}
use Rattle.serving.specs.attempts.specs.Course.{HasPlanned, HasTried, IsRefused, refused_steps}
use Rattle.seq_read.specs.caller_facts.specs.Asking.{MayAttempt}
use Rattle.serving.specs.attempts.specs.Attempts.{has_met_held, is_stop_helping, IsAttempt, Stops, AtEntry, InPlan, BehindHold, InOwnRun, InHelpedRun, stop_steps}
use Rattle.serving.specs.attempts.specs.declared.answers.Attempt.{Attempt}
use Rattle.serving.specs.attempts.specs.declared.answers.Attempt.TheVariants as attempts
use Rattle.seq_read.specs.caller_facts.proofs.Shapes.{allowed_at}
use Rattle.serving.specs.Serving.{is_crossed}

-- a step that changes nothing costs little, takes no lock, and commits one word at most
look_step : (x : Step) → is_look x ≡ true → (step_cost x ≤ 3) × (◌≡◌ {A = ℕ} (cond (is_take x) 1 0) 0) × (log_words x ≤ 1)
look_step (kinds_of.Load place into) e = ((let few : 2 ≤ 3 = omega arith in few), refl, (let one : 1 ≤ 1 = omega arith in one))
look_step (kinds_of.Want reg word) e = ((let few : 0 ≤ 3 = omega arith in few), refl, (let none : 0 ≤ 1 = omega arith in none))
look_step kinds_of.Stamp e = ((let few : 3 ≤ 3 = omega arith in few), refl, (let none : 0 ≤ 1 = omega arith in none))
look_step (kinds_of.Answer reply) e = ((let few : 1 ≤ 3 = omega arith in few), refl, (let none : 0 ≤ 1 = omega arith in none))
look_step (kinds_of.Fresh reg) e = absurd (true≢false (sym e))
look_step (kinds_of.Take place word) e = absurd (true≢false (sym e))
look_step (kinds_of.Make init into) e = absurd (true≢false (sym e))
look_step (kinds_of.Store reg value) e = absurd (true≢false (sym e))
look_step (kinds_of.Retire slot) e = absurd (true≢false (sym e))

look_steps : (body : List Step) → list_all is_look body ≡ true
    → (sum_by step_cost body ≤ 3 * length body) × (count_by is_take body ≡ 0) × (sum_by log_words body ≤ length body)
look_steps [] e = ((let few : 0 ≤ 3 * 0 = omega arith in few), refl, (let none : 0 ≤ 0 = omega arith in none))
look_steps (x ∷ body) e =
    let parts = and_parts (is_look x) (list_all is_look body) e in
    let rest = look_steps body parts.1 in
    let here = look_step x parts.0 in
    let costs : sum_by step_cost (x ∷ body) ≡ step_cost x + sum_by step_cost body = sum_by-cons step_cost x body in
    let words : sum_by log_words (x ∷ body) ≡ log_words x + sum_by log_words body = sum_by-cons log_words x body in
    let takes : count_by is_take (x ∷ body) ≡ cond (is_take x) 1 0 + count_by is_take body = sum_by-cons (λ (y : Step). cond (is_take y) 1 0) x body in (
      (let more : sum_by step_cost (x ∷ body) ≤ 3 * suc (length body) = omega (arith, rest.0, here.0, costs) in more),
      omega (arith, rest.1, here.1, takes),
      (let more : sum_by log_words (x ∷ body) ≤ suc (length body) = omega (arith, rest.2, here.2, words) in more),
    )

-- one run of such a body makes at most so many steps, with those that link four blocks
abbrev pub most_of_look : ℕ
most_of_look = 147

look_cost : (body : List Step) → list_all is_look body ≡ true → length body ≤ 32 → run_cost body ≤ most_of_look
look_cost body looks short =
    let each = look_steps body looks in
    let costs = each.0 in
    let takes = each.1 in
    let few = each.2 in
    let words = words_in body in
    let blocks : body_blocks body ≤ 4 = omega (arith, few, words, short) in omega (arith, costs, takes, blocks, short)

-- the loads of a `get`'s walk, and such a run
abbrev pub most_of_get : ℕ → ℕ
most_of_get count = 3 * count + 28 + most_of_look

loads_few : (loads count : ℕ) → loads ≤ 3 * count + 28 → loads ≤ most_of_get count
loads_few loads count few = omega (arith, few)

none_few : (count : ℕ) → 0 ≤ most_of_get count
none_few count = omega arith

loads_and_run : (loads run count : ℕ) → loads ≤ 3 * count + 28 → run ≤ most_of_look → loads + run ≤ most_of_get count
loads_and_run loads run count few ran = omega (arith, few, ran)

module _ {T : Type 0} (m : Meaning) (laws : Laws m) (r : RunnerState T) (limits : IsWithinLimits r.layout) (allowed : AreAllowed r.requests) where
  module _ (here : RunnerState T) (d : ℕ) (thunk : Thunk) (late : Bool) (is : HasOpened m d thunk late here r) where
    -- the body of a run that was opened has the shape
    opened_shape : IsShaped (m.body thunk)
    opened_shape = subst (λ (x : Thunk). IsShaped (m.body x)) is.thunk
        (subst (λ (q : RunState). IsShaped (m.body (thunk_of q.opened))) (ap run_or is.run)
        ((in_table m laws r.layout limits r.requests allowed r.number r.part (run_of r) is.inside.inside).body is.inside.opened))

    -- and where it is of a section that the runner has published, its thunk is the published one
    module _ (x : Published) (published : here.part.published ≡ Some x) (of : x.descriptor ≡ d) where
      abbrev s : Sight
      s = sight m r.layout r.requests is.inside.inside.world

      all : AreFactsAfter m r.layout r.requests is.inside.inside.reached.events is.inside.inside.world is.inside.inside.reached.after
      all = facts_after m laws r.layout r.requests is.inside.inside.reached.events is.inside.inside.world limits allowed is.inside.inside.reached.after

      part : s.part r.number ≡ r.part
      part = ap part_or_first is.inside.inside.own

      runs : (s.part r.number).run ≡ Some (run_of r)
      runs = ap (λ (p : PartState). p.run) part ∙ is.inside.inside.running

      of_run : thunk_in s.word (run_of r).descriptor ≡ thunk
      of_run = opened_thunk m r.layout all.components.agreement s all.here.sound.sections.joined r.number (run_of r) runs is.inside.opened
          ∙ (ap (λ (q : RunState). thunk_of q.opened) (ap run_or is.run) ∙ is.thunk)

      of_own : thunk_in s.word x.descriptor ≡ x.thunk
      of_own = all.here.sound.sections.in_published.thunk r.number x (ap (λ (p : PartState). p.published) part ∙ (is.stays.published ∙ published))

      opened_own : thunk ≡ x.thunk
      opened_own = sym of_run ∙ (ap (λ (q : RunState). thunk_in s.word q.descriptor) (ap run_or is.run) ∙ (ap (thunk_in s.word) (sym of) ∙ of_own))

  -- a run whose opening was cut short
  opening_few : (made d : ℕ) (words : List ℕ) (old : RunnerState T) → IsOpening m made d words old r → made ≤ most_of_look
  opening_few zero d words old is = omega arith
  opening_few (suc n) d words old is =
      let most = (reached_enabled m laws r.layout limits r.requests allowed is.reached.world is.reached.reached).runs r.number (opening d words)
      (ap (λ (p : PartState). p.run) (ap part_or_first is.reached.own) ∙ is.run) in
      let few : length words ≤ 13 = most.most in
      let count = is.count in omega (arith, few, count)

module _ {T : Type 0} (m : Meaning) (laws : Laws m) (planning : Planning) (gets : GetsAreLight m planning) (is_map : m.is_map ≡ true)
    (q : Request) (key : ℕ) (get : q.op ≡ Get key) (old : RunnerState T) (limits : IsWithinLimits old.layout) (allowed : AreAllowed old.requests)
    (may : MayAttempt planning q old) where
  -- the loads of its walk
  planned_few : (readings : Readings) (answer : Planned) (new : RunnerState T) → HasPlanned m planning q readings answer old new
      → length readings ≤ 3 * slots m old.layout + 28
  planned_few readings answer new is = gets.few old.layout key readings limits
      (subst IsAllowed get (allowed_at old.requests q.number q may.there allowed.each))
      (subst (λ (op : Op). planning.serves op ≡ true) get may.served)
      (subst (λ (op : Op). IsWalk m planning old.layout op readings) get is.walk)

  module _ (thunk : Thunk) (section : Section) (here : RunnerState T) (tried : HasTried m planning q thunk (Ok section) old here) where
    looks : list_all is_look (m.body thunk) ≡ true
    looks = gets.looks is_map old.layout key tried.readings thunk (subst (λ (op : Op). m.fits old.layout op tried.readings thunk ≡ true) get tried.plans.answers.fits)

    limits_of : (r : RunnerState T) → r.layout ≡ here.layout → IsWithinLimits r.layout
    limits_of r same = subst IsWithinLimits (sym (same ∙ tried.still.layout)) limits

    allowed_of : (r : RunnerState T) → r.requests ≡ here.requests → AreAllowed r.requests
    allowed_of r same = subst AreAllowed (sym (same ∙ tried.still.requests)) allowed

    ended_few : (d : ℕ) (outcome : Outcome) (trail : Agreed) (made : ℕ) (ran : RunnerState T) → EndsSo m d thunk outcome trail made here ran → made ≤ most_of_look
    ended_few d outcome trail made ran ends =
        let opened = ends.opened in
        let shape = opened_shape m laws opened (limits_of opened ends.opening.stays.layout) (allowed_of opened ends.opening.stays.requests) here d thunk trail.late ends.opening in
        let cost = look_cost (m.body thunk) looks shape.short in
        let few = ends.few in omega (arith, few, cost)

    cut_few : (made : ℕ) (new : RunnerState T) → IsCutShort m section.descriptor made here new → made ≤ most_of_look
    cut_few made new (inl is) = opening_few m laws new (limits_of new is.1.stays.layout) (allowed_of new is.1.stays.requests) made section.descriptor is.0 here is.1
    cut_few made new (inr ran) =
        let opened = ran.opened in
        let own = tried.publishes.published.section in
        let limits_then = limits_of opened ran.opening.stays.layout in
        let allowed_then = allowed_of opened ran.opening.stays.requests in
        let shape = opened_shape m laws opened limits_then allowed_then here section.descriptor ran.thunk ran.late ran.opening in
        let same : ran.thunk ≡ thunk = opened_own m laws opened limits_then allowed_then here section.descriptor ran.thunk ran.late ran.opening
        own.published own.own own.descriptor ∙ own.thunk in
        let cost = look_cost (m.body ran.thunk) (ap (λ (x : Thunk). list_all is_look (m.body x)) same ∙ looks) shape.short in
        let few = ran.few in omega (arith, few, cost)

    loads : length tried.readings ≤ 3 * slots m old.layout + 28
    loads = planned_few tried.readings (plans.Thunk thunk) tried.planned tried.plans

  refused_few : (answer : Attempt) (cut : RunnerState T) (is : IsRefused m planning q answer old cut)
      → refused_steps m planning q answer old cut is ≤ most_of_get (slots m old.layout)
  refused_few answer cut (inl plan) = loads_few (length plan.readings) (slots m old.layout) (planned_few plan.readings plan.refusal cut plan.plans)
  refused_few answer cut (inr (inl lock)) = loads_few (length lock.tries.readings) (slots m old.layout)
      (planned_few lock.tries.readings (plans.Thunk lock.thunk) lock.tries.planned lock.tries.plans)
  refused_few answer cut (inr (inr section)) =
      let ended = section.left.run.ended in
      loads_and_run (length ended.tries.readings) ended.made (slots m old.layout)
      (planned_few ended.tries.readings (plans.Thunk section.thunk) ended.tries.planned ended.tries.plans)
      (ended_few section.thunk section.left.run.section ended.published ended.tries section.left.run.section.descriptor section.outcome section.left.trail ended.made
      section.left.run.ran ended.ends)

  stopped_few : (new : RunnerState T) (at : Stops m planning q old new) → is_stop_helping m planning q old new at ≡ false
      → stop_steps m planning q old new at ≤ most_of_get (slots m old.layout)
  stopped_few new (AtEntry enters) alone = none_few (slots m old.layout)
  stopped_few new (InPlan readings planned) alone = loads_few (length readings) (slots m old.layout) (planned_few readings plans.Halted new planned)
  stopped_few new (BehindHold thunk section tries) alone = loads_few (length tries.readings) (slots m old.layout)
      (planned_few tries.readings (plans.Thunk thunk) tries.planned tries.plans)
  stopped_few new (InOwnRun thunk section published made tries short) alone =
      loads_and_run (length tries.readings) made (slots m old.layout)
      (planned_few tries.readings (plans.Thunk thunk) tries.planned tries.plans)
      (cut_few thunk section published tries made new short)
  stopped_few new (InHelpedRun is) alone = absurd (true≢false alone)

  refused_only : (n : ℕ) → n + 0 ≡ n
  refused_only n = omega arith

  -- an attempt that isn't crossed
  pub attempt_few : (answer : Attempt) (made : ℕ) (published : Bool) (new : RunnerState T) (is : IsAttempt m planning q answer made published old new)
      → is_crossed answer ≡ false → has_met_held m planning q answer old new is.answers ≡ false → made ≤ most_of_get (slots m old.layout)
  attempt_few (attempts.Done reply stamp) made published new is uncrossed alone =
      let ended = is.answers.run.ended in
      subst (λ n. n ≤ most_of_get (slots m old.layout)) (sym is.made_is)
      (loads_and_run (length ended.tries.readings) ended.made (slots m old.layout)
      (planned_few ended.tries.readings (plans.Thunk is.answers.thunk) ended.tries.planned ended.tries.plans)
      (ended_few is.answers.thunk is.answers.run.section ended.published ended.tries is.answers.run.section.descriptor _ is.answers.trail ended.made is.answers.run.ran ended.ends))
  attempt_few (attempts.Short short) made published new is uncrossed alone =
      subst (λ n. n ≤ most_of_get (slots m old.layout)) (sym is.made_is) (none_few (slots m old.layout))
  attempt_few (attempts.Spent place word) made published new is uncrossed alone =
      subst (λ n. n ≤ most_of_get (slots m old.layout)) (sym (is.made_is ∙ refused_only _))
      (refused_few (attempts.Spent place word) is.answers.cut is.answers.cause)
  attempt_few attempts.Halted made published new is uncrossed alone =
      subst (λ n. n ≤ most_of_get (slots m old.layout)) (sym is.made_is) (stopped_few new is.answers.at alone)
  attempt_few (attempts.Busy place word) made published new is uncrossed alone = absurd (true≢false uncrossed)
  attempt_few (attempts.Stale place expected read) made published new is uncrossed alone = absurd (true≢false uncrossed)
  attempt_few (attempts.Far far) made published new is uncrossed alone = absurd (true≢false uncrossed)
