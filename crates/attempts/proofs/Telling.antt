-- What a run of a section tells its runner, ended or cut.
use Rattle.std.specs.Prelude.{true, ◌⊎◌, if◌then◌else◌}
use Rattle.std.proofs.Common.{◌≡◌, ◌≢◌, ℕ, zero, suc, List, [], ◌∷◌, ◌++◌, refl, sym, ap, ◌∙◌, subst, ⊎_elim, inl, inr, arith, Option, Some, None}
use Rattle.machine_states.specs.body_terms.specs.Trail.{Agreed}
use Rattle.machine_states.specs.body_terms.specs.declared.micro.Micro.TheVariants as micros
use Rattle.machine_states.specs.body_terms.specs.declared.outcome.Outcome.{Outcome}
use Rattle.machine_states.specs.body_terms.specs.declared.outcome.Outcome.TheVariants.{Answered}
use Rattle.machine_states.specs.body_terms.specs.declared.thunk.Thunk.{Thunk}
use Rattle.machine_states.specs.table_words.specs.Limits.{IsWithinLimits}
use Rattle.machine_states.specs.structure_laws.specs.Meaning.{Meaning}
use Rattle.machine_states.specs.structure_laws.specs.Laws.{Laws}
use Rattle.machine_states.specs.runner_parts.specs.State.{RunState, FinishedState}
use Rattle.machine_states.specs.runner_parts.specs.Tests.{is_answered}
use Rattle.machine_states.specs.runner_steps.specs.AfterInRun.{ended_more, kept_unless, finished_of}
use Rattle.machine_states.specs.runner_steps.specs.Sections.{thunk_of}
use Rattle.machine_states.specs.Sight.{sight}
use Rattle.machine_states.proofs.Steps.{none_some}
use Rattle.machine_facts.specs.machine_invariant.specs.After.{AreAllowed}
use Rattle.machine_facts.specs.machine_invariant.specs.Sections.{IsAnswered, IsLeft}
use Rattle.version_words.specs.RunnerState.{RunnerState}
use Rattle.version_words.specs.TableState.{TableState, IsOf}
use Rattle.caller_facts.specs.section_runs.specs.commit_log.specs.Runs.{Ran, Stepped}
use Rattle.caller_facts.specs.section_runs.specs.commit_log.proofs.Running.{moved_running}
use Rattle.caller_facts.specs.section_runs.specs.Opened.{IsOpening}
use Rattle.caller_facts.specs.section_runs.proofs.Told.{answered_told}
use Rattle.caller_facts.specs.try_lock.specs.Reached.{IsReached}
use Rattle.caller_facts.specs.try_lock.specs.Ends.{EndsSo, RanShort, IsCutShort}
use Rattle.attempts.specs.Learned.{HasLearned, IsCut}
use Rattle.caller_facts.proofs.Knowing.{append_none}
use Rattle.attempts.proofs.Placing.{IsLast, is_last}
use Rattle.attempts.proofs.Along.{IsAlong, IsTelling, telling_learned, opened_tells, moved_stays, ran_tells, HasLastMove, HasLastStep, ran_last, last_step, ran_back}
use Rattle.attempts.proofs.LastSteps.{last_same, last_quiet, last_left}

module _ {T : Type 0} (m : Meaning) (laws : Laws m) (t : TableState T) (limits : IsWithinLimits t.layout) (allowed : AreAllowed t.requests)
    (old new : RunnerState T) (own : IsOf t new) where
  -- a run that came to its end by its last step
  pub record IsAtEnd (d : ℕ) (thunk : Thunk) : Type 0 where
    pub last : HasLastStep m laws t limits allowed old d thunk new
    pub resting : new.part.run ≡ None

  module _ (d : ℕ) (thunk : Thunk) (is : IsAtEnd d thunk) where
    abbrev before : RunnerState T
    before = is.last.before

    abbrev run : RunState
    run = is.last.run

    pub along : IsAlong m laws t limits allowed old d thunk before run is.last.telling.learns.more
    along = is.last.telling.along run is.last.step.running

    over : IsLast m before.layout before.part run is.last.found is.last.micro
    over = is_last m before.layout before.part run is.last.found is.last.micro (sym is.last.step.behind.run ∙ is.resting)

    release : Stepped m run (micros.Release over.place over.word) is.last.found before new
    release = subst (λ micro. Stepped m run micro is.last.found before new) over.is is.last.step

    -- what is kept of it
    abbrev pub kept : FinishedState
    kept = finished_of m before.layout (ended_more run)

    pub kept_is : new.part.records.finished ≡ old.part.records.finished ++ kept ∷ []
    kept_is = release.behind.finished
        ∙ (ap (λ b. if b then before.part.records.finished ++ kept ∷ [] else before.part.records.finished) over.over
        ∙ ap (λ fs. fs ++ kept ∷ []) along.finished)

    -- the section is published no more
    pub end_published : new.part.published ≡ kept_unless old.part.published d
    end_published = release.behind.published
        ∙ (ap (λ b. if b then kept_unless before.part.published run.descriptor else before.part.published) over.over
        ∙ (λ i. kept_unless (along.published i) (along.descriptor i)))

    -- the last step told nothing
    pub end_quiet : new.part.records.known ≡ before.part.records.known
    end_quiet = last_quiet m laws t limits allowed old d thunk before new is.last.own run over.place over.word is.last.found release is.last.telling

    -- where it answered both words of its request are known, also before the last step
    pub end_told : (answer : ℕ) → kept.outcome ≡ Answered answer → is_answered new.part.records.known thunk.request ≡ true
    end_told answer e = subst (λ (x : Thunk). is_answered new.part.records.known x.request ≡ true) along.thunk_is
        (answered_told m laws t limits allowed before new is.last.own run over.place over.word is.last.found release along.rests answer e)

    -- and where it left it was told nothing
    pub end_left : (outcome : Outcome) → kept.outcome ≡ outcome → ((reply : ℕ) → outcome ≢ Answered reply)
        → new.part.records.known ≡ old.part.records.known
    end_left outcome e other = last_left m laws t limits allowed old d thunk before new is.last.own run over.place over.word is.last.found release is.last.telling
        outcome e other

  -- a run that came to its end
  module _ (d : ℕ) (thunk : Thunk) (outcome : Outcome) (trail : Agreed) (made : ℕ) (ends : EndsSo m d thunk outcome trail made old new) where
    abbrev Tells : RunnerState T → Type 0
    Tells r = IsTelling m laws t limits allowed old d thunk r

    opened_own : IsOf t ends.opened
    opened_own = ran_back m t ends.count ends.opened new ends.ran own

    opened_telling : Tells ends.opened
    opened_telling = opened_tells m laws t limits allowed old d thunk trail.late ends.opened opened_own ends.opening

    -- what was learned is of the section's request, and the first of it at the exchange of its stamp
    pub ended_learned : HasLearned m d thunk old new
    ended_learned = telling_learned m laws t limits allowed old d thunk new
        (ran_tells m laws t limits allowed old d thunk ends.count ends.opened new opened_own ends.ran opened_telling)

    -- its last step
    last_by : (n : ℕ) → Ran m n ends.opened new → HasLastStep m laws t limits allowed old d thunk new
    last_by zero same = absurd (none_some _ (sym (ap (λ (y : RunnerState T). y.part.run) same ∙ ends.opening.run) ∙ ends.resting))
    last_by (suc n) ran = last_step m laws t limits allowed old d thunk new (ran_last m laws t limits allowed old d thunk n ends.opened new opened_own ran opened_telling) ends.resting

    pub ended_end : IsAtEnd d thunk
    ended_end = record { last = last_by ends.count ends.ran; resting = ends.resting }

    kept_outcome : (kept d thunk ended_end).outcome ≡ outcome
    kept_outcome = ap (λ (f : FinishedState). f.outcome)
        (last_same old.part.records.finished (kept d thunk ended_end) ends.finished (sym (kept_is d thunk ended_end) ∙ ends.kept)) ∙ ends.same_outcome

    -- one that left told nothing, and its section left
    pub left_known : ((reply : ℕ) → outcome ≢ Answered reply) → new.part.records.known ≡ old.part.records.known
    left_known other = end_left d thunk ended_end outcome kept_outcome other

    pub left_is : ((reply : ℕ) → outcome ≢ Answered reply)
        → IsLeft m ends.components.agreement (sight m new.layout new.requests ends.reached.world) d
    left_is other = ⊎_elim
        (λ (answered : IsAnswered m ends.components.agreement (sight m new.layout new.requests ends.reached.world) d).
        absurd (other _ (sym ends.same_outcome ∙ ends.facts.outcomes.answered new.number d ends.finished ends.used ends.ends answered)))
        (λ (left : IsLeft m ends.components.agreement (sight m new.layout new.requests ends.reached.world) d). left)
        (ends.facts.sound.sections.in_effects.over d ends.used ends.is_done.done)

  -- a run that a gate cut short: it is on still, or it came to its end by its last step
  module _ (d : ℕ) where
    pub record IsOn : Type 0 where
      pub published : new.part.published ≡ old.part.published
      pub finished : new.part.records.finished ≡ old.part.records.finished

    cut_of : new.number ≡ old.number → IsReached m new → (thunk : Thunk) → HasLearned m d thunk old new → IsOn ⊎ IsAtEnd d thunk → IsCut m d old new
    cut_of number reached thunk learned (inl on) = record {
      number = number;
      published = inl on.published;
      thunk = thunk;
      learned = learned;
      more = [];
      finished = on.finished ∙ sym (append_none old.part.records.finished);
      few = omega arith;
      reached = reached;
    }
    cut_of number reached thunk learned (inr end) = record {
      number = number;
      published = inr (end_published d thunk end);
      thunk = thunk;
      learned = learned;
      more = kept d thunk end ∷ [];
      finished = kept_is d thunk end;
      few = omega arith;
      reached = reached;
    }

    -- cut in its opening
    module _ (made : ℕ) (words : List ℕ) (opening : IsOpening m made d words old new) where
      opening_on : IsOn
      opening_on = record { published = opening.stays.published; finished = opening.stays.finished }

      opening_learned : HasLearned m d (thunk_of words) old new
      opening_learned = record {
        learns = record { more = []; adds = opening.known ∙ sym (append_none old.part.records.known); only = λ i x at. absurd (none_some x (sym at)) };
        stood = λ some. absurd (some refl);
      }

    -- or behind it
    module _ (made : ℕ) (short : RanShort m d made old new) where
      short_own : IsOf t short.opened
      short_own = ran_back m t short.count short.opened new short.ran own

      short_telling : IsTelling m laws t limits allowed old d short.thunk short.opened
      short_telling = opened_tells m laws t limits allowed old d short.thunk short.late short.opened short_own short.opening

      here : IsTelling m laws t limits allowed old d short.thunk new
      here = ran_tells m laws t limits allowed old d short.thunk short.count short.opened new short_own short.ran short_telling

      none_on : new ≡ short.opened → IsOn
      none_on same = record {
        published = ap (λ (y : RunnerState T). y.part.published) same ∙ short.opening.stays.published;
        finished = ap (λ (y : RunnerState T). y.part.records.finished) same ∙ short.opening.stays.finished;
      }

      last_on : HasLastMove m laws t limits allowed old d short.thunk new → IsOn ⊎ IsAtEnd d short.thunk
      last_on last = by new.part.run refl
        where
          by : (o : Option RunState) → new.part.run ≡ o → IsOn ⊎ IsAtEnd d short.thunk
          by (Some y) runs =
              let stays = moved_stays m laws t limits allowed old d short.thunk last.before new last.own last.run last.found last.moved y runs in
              let there = last.telling.along last.run (moved_running m last.run last.found last.before new last.moved) in
              inl (record { published = stays.published ∙ there.published; finished = stays.finished ∙ there.finished })
          by None rests = inr (record { last = last_step m laws t limits allowed old d short.thunk new last rests; resting = rests })

      ran_on : (n : ℕ) → Ran m n short.opened new → IsOn ⊎ IsAtEnd d short.thunk
      ran_on zero same = inl (none_on same)
      ran_on (suc n) ran = last_on (ran_last m laws t limits allowed old d short.thunk n short.opened new short_own ran short_telling)

    pub cut_end : (made : ℕ) → IsCutShort m d made old new → IsOn ⊎ ((thunk : Thunk) × IsAtEnd d thunk)
    cut_end made (inl opening) = inl (opening_on made opening.0 opening.1)
    cut_end made (inr short) = ⊎_elim (λ on. inl on) (λ end. inr (short.thunk, end)) (ran_on made short short.count short.ran)

    pub cut_is : (made : ℕ) → IsCutShort m d made old new → IsCut m d old new
    cut_is made (inl opening) = cut_of opening.1.stays.number opening.1.reached (thunk_of opening.0)
        (opening_learned made opening.0 opening.1) (inl (opening_on made opening.0 opening.1))
    cut_is made (inr short) = cut_of (here made short).number (here made short).reached short.thunk
        (telling_learned m laws t limits allowed old d short.thunk new (here made short)) (ran_on made short short.count short.ran)
