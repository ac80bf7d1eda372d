-- The end of an attempt's own section.
use Rattle.std.specs.Prelude.{cond, nat_lt, [], Bool, true, false}
use Rattle.std.proofs.Common.{◌≡◌, ◌≢◌, ℕ, ◌+◌, length, refl, sym, ap, ◌∙◌, subst, ⊎_elim, arith, None}
use Rattle.std.proofs.lemmas.Bool.{true≢false}
use Rattle.machine_states.specs.epoch_core.specs.small_lemmas.proofs.Numbers.{tested_equal}
use Rattle.machine_states.specs.map_history.specs.declared.op.Request.{Request}
use Rattle.machine_states.specs.body_terms.specs.Line.{is_check, is_end}
use Rattle.machine_states.specs.body_terms.specs.Trail.{Agreed}
use Rattle.machine_states.specs.body_terms.specs.declared.micro.Micro.{Micro}
use Rattle.machine_states.specs.body_terms.specs.declared.micro.Micro.TheVariants.{CheckWord, ExchangeCell}
use Rattle.machine_states.specs.body_terms.specs.declared.outcome.Outcome.{Outcome}
use Rattle.machine_states.specs.body_terms.specs.declared.outcome.Outcome.TheVariants as outcomes
use Rattle.machine_states.specs.body_terms.specs.declared.thunk.Thunk.{Thunk}
use Rattle.machine_states.specs.table_words.specs.Limits.{IsWithinLimits}
use Rattle.runner_gate.specs.Asks.{Asks}
use Rattle.machine_states.specs.structure_laws.specs.Scene.{Readings}
use Rattle.machine_states.specs.structure_laws.specs.Meaning.{Meaning}
use Rattle.machine_states.specs.structure_laws.specs.Laws.{Laws}
use Rattle.agreement_core.specs.section_lines.specs.Line.{phase}
use Rattle.agreement_core.specs.Checks.{passes}
use Rattle.agreement_core.specs.History as agreement_history
use Rattle.agreement_core.specs.History.{change_of, moves_of}
use Rattle.agreement_core.specs.State as agreement
use Rattle.agreement_core.proofs.Lasting.{before_end}
use Rattle.agreement_core.proofs.Noting.{is_exchange, no_change, below}
use Rattle.machine_states.specs.runner_parts.specs.declared.event.EventKind.TheVariants as kinds
use Rattle.machine_states.specs.runner_parts.specs.Tests.{is_answered}
use Rattle.machine_states.specs.runner_steps.specs.Sections.{reply_in}
use Rattle.machine_states.specs.Sight.{Sight, sight}
use Rattle.attempts.specs.runner_facts.specs.machine_facts.specs.machine_agreement.specs.Joined.{IsJoinedToAgreement}
use Rattle.version_words.specs.machine_invariant.specs.After.{AreAllowed}
use Rattle.version_words.specs.machine_invariant.specs.Sections.{IsAnswered, IsLeft}
use Rattle.version_words.specs.machine_invariant.specs.Trails.{step_at, log_of}
use Rattle.version_words.specs.RunnerState.{RunnerState}
use Rattle.version_words.specs.TableState.{TableState, IsOf}
use Rattle.version_words.specs.Events.{IsMade}
use Rattle.attempts.specs.epoch_slots.specs.Entries.{KeepsOwn, HasLeave, Exits}
use Rattle.attempts.specs.commit_log.proofs.Asked.{asked_none}
use Rattle.attempts.specs.try_lock.specs.declared.section.Section.{Section}
use Rattle.attempts.specs.try_lock.specs.Planning.{Planning}
use Rattle.attempts.specs.try_lock.proofs.Guarding.{guard_keeps}
use Rattle.attempts.specs.caller_facts.specs.Knowing.{KnowsMore}
use Rattle.attempts.specs.Course.{HasEnded, HasRun}
use Rattle.attempts.specs.Attempts.{is_halted, is_refusal}
use Rattle.attempts.specs.Rests.{MayLearn}
use Rattle.attempts.specs.declared.answers.Attempt.{Attempt}
use Rattle.attempts.specs.declared.answers.Attempt.TheVariants as answers
use Rattle.attempts.specs.caller_facts.proofs.Knowing.{knows_same, knows_on, no_other_same}
use Rattle.attempts.proofs.Reaching.{exits_reached}
use Rattle.attempts.specs.caller_facts.proofs.Counting.{counted_steps}
use Rattle.attempts.proofs.LettingGo.{exits_tidy}
use Rattle.attempts.proofs.Courses.{ended_go}
use Rattle.attempts.proofs.Concluding.{may_learn}
use Rattle.lock_attempts.specs.Sections.{is_done, HappenedOnce, HasAnswered}
use Rattle.lock_attempts.specs.Parts.{AnswersLast}

-- who turns away answers its refusal, or was halted
pub undone : (got answer : Attempt) → (is_halted got ≡ false → got ≡ answer) → is_refusal answer ≡ true → is_done got ≡ false
undone (answers.Done reply stamp) answer same refusal = absurd (true≢false (sym refusal ∙ ap is_refusal (sym (same refl))))
undone (answers.Busy place word) answer same refusal = refl
undone (answers.Stale place expected read) answer same refusal = refl
undone (answers.Far loads) answer same refusal = refl
undone (answers.Short short) answer same refusal = refl
undone (answers.Spent place word) answer same refusal = refl
undone answers.Halted answer same refusal = refl

module _ {T : Type 0} (m : Meaning) (laws : Laws m) (t : TableState T) (limits : IsWithinLimits t.layout) (allowed : AreAllowed t.requests)
    (planning : Planning) (request : Request) (section : Section) (thunk : Thunk) (outcome : Outcome) (trail : Agreed) (old ran : RunnerState T)
    (own_ran : IsOf t ran) (is : HasEnded m planning request section thunk outcome trail old ran)
    (gone : RunnerState T) (own_gone : IsOf t gone) (goes : IsMade m (kinds.Guard None) ran gone)
    (answer : ℕ) (answered : outcome ≡ outcomes.Answered answer) where
  abbrev s : Sight
  s = sight m ran.layout ran.requests is.ends.reached.world

  learns : MayLearn m request gone
  learns = may_learn m laws t limits allowed planning request section thunk outcome trail old ran own_ran is gone own_gone goes answer answered

  pub answered_leave : HasLeave gone
  answered_leave = learns.leave

  -- the guard's step
  kept : KeepsOwn ran gone
  kept = guard_keeps m None goes.found ran gone goes.event (ended_go m planning request old section thunk outcome trail ran is).at.resting

  section_answered : IsAnswered m is.ends.components.agreement s section.descriptor
  section_answered = ⊎_elim
      (λ (done : IsAnswered m is.ends.components.agreement s section.descriptor). done)
      (λ (left : IsLeft m is.ends.components.agreement s section.descriptor).
      absurd (is.ends.facts.outcomes.left ran.number section.descriptor answer is.ends.finished is.ends.used is.ends.ends left (is.ends.same_outcome ∙ answered)))
      (is.ends.facts.sound.sections.in_effects.over section.descriptor is.ends.used is.ends.is_done.done)

  -- the section as agreement has it: where it ended, and which words it wanted
  abbrev d : ℕ
  d = section.descriptor

  joined : IsJoinedToAgreement m ran.layout is.ends.components.agreement s
  joined = is.ends.facts.sound.sections.joined

  abbrev x : agreement.Section
  x = is.ends.components.agreement.section d

  abbrev rules : agreement.CellRules
  rules = record { is_lock = m.is_lock; version_max = ran.layout.version_max }

  ended : agreement_history.HasAnswered x
  ended = record {
    done = λ zero. section_answered.done (sym (joined.sections d).done ∙ zero);
    ended = ap is_end ((joined.thunks d is.ends.used).code x.edge) ∙ section_answered.ended;
  }

  wanted : (i place log word : ℕ) → step_at m is.ends.components.agreement s d i ≡ CheckWord place log word
      → log_of m is.ends.components.agreement s d log ≡ word
  wanted i place log word step =
      let code : x.code i ≡ CheckWord place log word = (joined.thunks d is.ends.used).code i ∙ step in
      let first : phase (x.code i) ≡ 1 = ap phase code in
      let low = before_end rules is.ends.components.agreement joined.sound d is.ends.used ended i (omega (arith, first)) in
      let passed = (joined.sound.sections d is.ends.used).section.in_log.passed i low (ap is_check code) in
      tested_equal (x.log log) word (sym (ap (passes rules d x.log) code) ∙ passed)

  -- what the exchange at each place of its line changed
  changed : (i : ℕ) → is.ends.components.changes.moved (is.ends.components.changes.section d) i
      ≡ change_of (log_of m is.ends.components.agreement s d) (step_at m is.ends.components.agreement s d i)
  changed i = is.ends.facts.exact.changes.moved d i is.ends.used
      ∙ (by (is_exchange (x.code i)) refl ∙ ap (change_of x.log) ((joined.thunks d is.ends.used).code i))
    where
      none : (b : Bool) → change_of x.log (x.code i) ≡ [] → cond b (change_of x.log (x.code i)) [] ≡ change_of x.log (x.code i)
      none true e = refl
      none false e = sym e

      four : (micro : Micro) → is_exchange micro ≡ true → phase micro ≡ 4
      four (ExchangeCell place log value) e = refl
      four micro e = grind arith

      by : (b : Bool) → is_exchange (x.code i) ≡ b → moves_of x i ≡ change_of x.log (x.code i)
      by true e = let late = four (x.code i) e in
          below i x.edge _ _ (before_end rules is.ends.components.agreement joined.sound d is.ends.used ended i (omega (arith, late)))
      by false e = none (nat_lt i x.edge) (no_change x.log (x.code i) e)

  once : HappenedOnce m is.ends.components s section.descriptor
  once =
      let effects = is.ends.facts.sound.sections.in_effects in
      record {
        answered = section_answered;
        wanted = wanted;
        stored = λ i place log value step. effects.stored section.descriptor i place log value section_answered step;
        changed = changed;
        stamped = effects.stamped section.descriptor section_answered;
        replied = effects.replied section.descriptor section_answered;
      }

  abbrev pub counted : ℕ
  counted = length is.tries.readings + is.made

  -- it answered what its body says
  abbrev number_of : Outcome → ℕ
  number_of (outcomes.Answered n) = n
  number_of _ = 0

  said : answer ≡ reply_in (m.body thunk)
  said = ap number_of (sym answered ∙ (sym is.ends.same_outcome
      ∙ is.ends.facts.outcomes.answered ran.number d is.ends.finished is.ends.used is.ends.ends section_answered))
      ∙ ap (λ t. reply_in (m.body t)) is.ends.is_done.thunk

  module _ (own : Readings → Thunk) (is_own : thunk ≡ own is.tries.readings) where
    -- the own run, with its answer, in as many steps
    abbrev Answering : Outcome → Type 0
    Answering o = (r : HasRun m planning request thunk o trail old gone) × (counted ≡ length r.ended.tries.readings + r.ended.made)
        × HappenedOnce m r.ended.ends.components (sight m r.ran.layout r.ran.requests r.ended.ends.reached.world) r.section.descriptor
        × (thunk ≡ own r.ended.tries.readings)

    answering : Answering (outcomes.Answered answer)
    answering = subst Answering answered (record { section = section; ran = ran; ended = is; lets_go = goes }, refl, once, is_own)

    module _ (new : RunnerState T) (exits : Exits m gone new) where
      abbrev has_answered : HasAnswered m planning request own answer old new
      has_answered = record {
        thunk = thunk;
        trail = trail;
        unguarded = gone;
        run = answering.0;
        is_own = answering.3;
        answer = said;
        once = answering.2;
        exits = exits;
        knows = ap (λ xs. is_answered xs request.number) exits.keeps.known ∙ learns.knows;
        tidy = exits_tidy m gone new learns.hand learns.leave.unguarded exits;
        reached = exits_reached m gone new exits;
      }

      knows_ran : KnowsMore ran gone
      knows_ran = knows_same ran gone kept.number kept.known kept.finished

      same_runs : length new.part.records.finished ≡ length ran.part.records.finished
      same_runs = ap length (exits.keeps.finished ∙ kept.finished)

      no_steps : (n : ℕ) → n + 0 ≡ n
      no_steps n = omega arith

      pub answered_last : (halts : ℕ) (asks : Asks) (steps : ℕ)
          → AnswersLast m planning request own true counted 0 answer old ran new halts halts asks asks steps steps
      answered_last halts asks steps = record {
        answers = has_answered;
        knows = knows_on ran gone new knows_ran (knows_same gone new exits.keeps.number exits.keeps.known exits.keeps.finished);
        no_other = no_other_same request.number ran new (exits.keeps.known ∙ kept.known);
        made = 0;
        made_is = no_steps counted ∙ answering.1;
        asked = counted_steps 0 true halts halts asks asks steps steps (asked_none halts asks steps);
        runs = omega (arith, same_runs);
        few = omega arith;
      }
