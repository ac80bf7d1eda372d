-- What is kept of runs that came to their end is what the plain run of the section's body gives.
use Rattle.std.proofs.Common.{◌≡◌, ◌≢◌, ℕ, zero, suc, true, cond, List, [], ◌∷◌, refl, sym, ap, ◌∙◌, ⊎_elim, arith, Option, Some, None}
use Rattle.std.specs.Prelude.{count_by}
use Rattle.std.proofs.lemmas.List.Sums.{sum_by-cons}
use Rattle.machine_states.specs.body_terms.specs.Line.{line, micro_at, is_check, is_end}
use Rattle.machine_states.specs.body_terms.specs.Run.{Setting, Run, leaves}
use Rattle.machine_states.specs.body_terms.specs.Shape.{IsStep, IsShaped, is_answer}
use Rattle.machine_states.specs.body_terms.specs.declared.outcome.Outcome.{Outcome}
use Rattle.machine_states.specs.body_terms.specs.declared.outcome.Outcome.TheVariants.{Answered}
use Rattle.machine_states.specs.body_terms.specs.declared.step.Step.{Step}
use Rattle.machine_states.specs.body_terms.specs.declared.step.Step.TheVariants.{Load, Want, Fresh, Take, Make, Stamp, Store, Retire, Answer}
use Rattle.machine_states.specs.body_terms.specs.declared.micro.Micro.{Micro}
use Rattle.machine_states.specs.body_terms.specs.declared.micro.Micro.TheVariants as micros
use Rattle.machine_states.specs.body_terms.proofs.SoundLemmas.{counted}
use Rattle.agreement_core.specs.section_lines.proofs.Sources.{of_answer}
use Rattle.agreement_core.specs.section_lines.specs.Runs.{agreed}
use Rattle.machine_states.specs.table_words.specs.declared.layout.Layout.{Layout}
use Rattle.machine_states.specs.table_words.specs.declared.spot.Spot.TheVariants.{DoneWord}
use Rattle.machine_states.specs.structure_laws.specs.Meaning.{Meaning}
use Rattle.machine_states.specs.runner_parts.specs.State.{FinishedState}
use Rattle.machine_states.specs.runner_steps.specs.Sections.{setting_of, outcome_or, reply_in}
use Rattle.agreement_core.specs.State.{Section, AgreementState}
use Rattle.agreement_core.specs.History.{HasAnswered, HasLeft}
use Rattle.agreement_core.specs.PlainRuns.{chosen, IsOver, start_over, FollowsPlainRun}
use Rattle.machine_states.specs.Sight.{Sight}
use Rattle.machine_invariant.specs.machine_blocks.specs.machine_guards.specs.machine_agreement.specs.machine_scenes.specs.Shown.{rules_of}
use Rattle.machine_invariant.specs.Along.{Components}
use Rattle.machine_invariant.specs.States.{StateIsSound}
use Rattle.machine_invariant.specs.Trails.{thunk_at, IsEndOf}
use Rattle.machine_invariant.specs.Sections.{IsAnswered, IsLeft}
use Rattle.machine_facts.specs.Outcomes.{plain_run, OutcomesAgree}
use Rattle.machine_facts.proofs.Outcomes.{end_of, OutcomesKept}

-- the first Answer of a body that has one
answer_in : (body : List Step) (i n : ℕ) → IsStep body i (Answer n) → count_by is_answer body ≡ 1 → reply_in body ≡ n
answer_in [] i n here one = absurd (omega arith)
answer_in (Answer reply ∷ steps) zero n here one = cc
answer_in (Answer reply ∷ steps) (suc i) n here one =
    absurd (let two = counted is_answer steps i (Answer n) here refl in let all = sum_by-cons (λ s. cond (is_answer s) 1 0) (Answer reply) steps in omega arith)
answer_in (Load place into ∷ steps) zero n here one = cc
answer_in (Load place into ∷ steps) (suc i) n here one = answer_in steps i n here (let all = sum_by-cons (λ s. cond (is_answer s) 1 0) (Load place into) steps in omega arith)
answer_in (Want reg word ∷ steps) zero n here one = cc
answer_in (Want reg word ∷ steps) (suc i) n here one = answer_in steps i n here (let all = sum_by-cons (λ s. cond (is_answer s) 1 0) (Want reg word) steps in omega arith)
answer_in (Fresh reg ∷ steps) zero n here one = cc
answer_in (Fresh reg ∷ steps) (suc i) n here one = answer_in steps i n here (let all = sum_by-cons (λ s. cond (is_answer s) 1 0) (Fresh reg) steps in omega arith)
answer_in (Take place word ∷ steps) zero n here one = cc
answer_in (Take place word ∷ steps) (suc i) n here one = answer_in steps i n here (let all = sum_by-cons (λ s. cond (is_answer s) 1 0) (Take place word) steps in omega arith)
answer_in (Make init into ∷ steps) zero n here one = cc
answer_in (Make init into ∷ steps) (suc i) n here one = answer_in steps i n here (let all = sum_by-cons (λ s. cond (is_answer s) 1 0) (Make init into) steps in omega arith)
answer_in (Stamp ∷ steps) zero n here one = cc
answer_in (Stamp ∷ steps) (suc i) n here one = answer_in steps i n here (let all = sum_by-cons (λ s. cond (is_answer s) 1 0) Stamp steps in omega arith)
answer_in (Store reg value ∷ steps) zero n here one = cc
answer_in (Store reg value ∷ steps) (suc i) n here one = answer_in steps i n here (let all = sum_by-cons (λ s. cond (is_answer s) 1 0) (Store reg value) steps in omega arith)
answer_in (Retire slot ∷ steps) zero n here one = cc
answer_in (Retire slot ∷ steps) (suc i) n here one = answer_in steps i n here (let all = sum_by-cons (λ s. cond (is_answer s) 1 0) (Retire slot) steps in omega arith)

-- the reply of a body's line is that of its Answer
reply_is : (body : List Step) → IsShaped body → (i n : ℕ) → micro_at (line body) i ≡ micros.ReplyExchange n → reply_in body ≡ n
reply_is body shaped i n at =
    let o = of_answer body i (micros.ReplyExchange n) at refl in
    let same : micros.ReplyExchange n ≡ micros.ReplyExchange o.0 = o.1.same in
    answer_in body o.1.from.n o.0 o.1.from.here shaped.answers ∙ (let e : o.0 ≡ n = cc in e)

end_passes : (s : Setting) (trail : List ℕ) (x : Micro) → is_end x ≡ true → leaves s trail x ≡ None
end_passes s trail x e = grind arith

left_by : (o : Option Outcome) (outcome : Outcome) (reply : ℕ) → o ≡ Some outcome → outcome_or o reply ≡ outcome
left_by o outcome reply e = ap (λ (x : Option Outcome). outcome_or x reply) e

-- no check answers
never_answers : (s : Setting) (trail : List ℕ) (x : Micro) (reply : ℕ) → leaves s trail x ≢ Some (Answered reply)
never_answers s trail x reply e = grind arith

-- by what the checks of a run go, and the choices of a section's plain run, are the same for checks
leaves_same : (m : Meaning) (l : Layout) (d : ℕ) (x : Section) (fixed_cells : ℕ) (first : ℕ → ℕ → ℕ) (clock : ℕ) (trail : List ℕ) (micro : Micro)
    → leaves (setting_of l d) trail micro ≡ leaves (chosen (rules_of m l) d x fixed_cells first clock) trail micro
leaves_same m l d x fixed_cells first clock trail (micros.CheckWord place log word) = refl
leaves_same m l d x fixed_cells first clock trail (micros.CheckFresh place log) = refl
leaves_same m l d x fixed_cells first clock trail (micros.CheckFree place log word) = refl
leaves_same m l d x fixed_cells first clock trail (micros.CheckHeld place log word) = refl
leaves_same m l d x fixed_cells first clock trail _ = refl

module _ (m : Meaning) (l : Layout) (s : Sight) (k : Components) (sound : StateIsSound m l s k)
    (shaped : (d : ℕ) → k.agreement.used d ≡ true → IsShaped (m.body (thunk_at m k.agreement s d))) (kept : OutcomesKept m l k.agreement s) where
  abbrev a : AgreementState
  a = k.agreement

  module _ (r d : ℕ) (f : FinishedState) (used : a.used d ≡ true) (end : IsEndOf m a s r d f) where
    abbrev body : List Step
    body = m.body (thunk_at m a s d)

    abbrev agreed_trail : List ℕ
    agreed_trail = agreed (line body) ((a.section d).log) ((a.section d).edge)

    done_word : s.word (DoneWord d) ≢ 0
    done_word = sound.sections.in_trails.done r d f used end

    done : (a.section d).done ≢ 0
    done z = done_word (sym ((sound.sections.joined.sections d).done) ∙ z)

    code_is : (i : ℕ) → (a.section d).code i ≡ micro_at (line body) i
    code_is = (sound.sections.joined.thunks d used).code

    -- the kept trail is what was agreed
    trail_is : f.trail ≡ agreed_trail
    trail_is = sound.sections.in_trails.whole r d f used end

    ended : f.outcome ≡ outcome_or (leaves (setting_of l d) agreed_trail (micro_at (line body) ((a.section d).edge))) (reply_in body)
    ended = kept.ended r d f used end ∙ ap (end_of m l a s d) trail_is

    has_left : IsLeft m a s d → HasLeft (a.section d)
    has_left x = record { done = done; check = ap is_check (code_is ((a.section d).edge)) ∙ x.check }

    has_answered : IsAnswered m a s d → HasAnswered (a.section d)
    has_answered x = record { done = done; ended = ap is_end (code_is ((a.section d).edge)) ∙ x.ended }

    answers : IsAnswered m a s d → f.outcome ≡ Answered (reply_in body)
    answers x = ended ∙ ap (λ (o : Option Outcome). outcome_or o (reply_in body)) (end_passes (setting_of l d) agreed_trail (micro_at (line body) ((a.section d).edge)) x.ended)

    module _ (fixed_cells : ℕ) (first : ℕ → ℕ → ℕ) (clock : ℕ) (start : Run) (over : IsOver (a.section d) start) where
      follows : FollowsPlainRun (a.section d) body (chosen (rules_of m l) d (a.section d) fixed_cells first clock) start
      follows = sound.sections.laws.follow d fixed_cells first clock start used over

      trail_plain : (plain_run m l a s d fixed_cells first clock start).trail ≡ f.trail
      trail_plain = follows.whole done ∙ sym trail_is

      leaves_so : IsLeft m a s d → (outcome : Outcome)
          × (leaves (setting_of l d) agreed_trail (micro_at (line body) ((a.section d).edge)) ≡ Some outcome)
          × ((plain_run m l a s d fixed_cells first clock start).outcome ≡ Some outcome)
      leaves_so x = let y = follows.left (has_left x) in
          (y.0, leaves_same m l d (a.section d) fixed_cells first clock agreed_trail (micro_at (line body) ((a.section d).edge)) ∙ y.1, y.2)

      outcome_left : IsLeft m a s d → (plain_run m l a s d fixed_cells first clock start).outcome ≡ Some f.outcome
      outcome_left x = let y = leaves_so x in
          y.2 ∙ ap (λ (o : Outcome). Some o) (sym (ended ∙ left_by _ y.0 (reply_in body) y.1))

      outcome_answered : IsAnswered m a s d → (plain_run m l a s d fixed_cells first clock start).outcome ≡ Some f.outcome
      outcome_answered x =
          let line_is = (sound.sections.joined.sound.sections d used).published.line.stamped in
          let at = line_is.answers in
          follows.answer (has_answered x) line_is.answer line_is.reply at
          ∙ ap (λ (o : Outcome). Some o) (ap Answered (sym (reply_is body (shaped d used) line_is.answer line_is.reply (sym (code_is line_is.answer) ∙ at)))
          ∙ sym (answers x))

      outcome_plain : (plain_run m l a s d fixed_cells first clock start).outcome ≡ Some f.outcome
      outcome_plain = ⊎_elim (λ x. outcome_answered x) (λ x. outcome_left x) (sound.sections.in_effects.over d used done_word)

    not_answered : (reply : ℕ) → IsLeft m a s d → f.outcome ≢ Answered reply
    not_answered reply x is =
        let y = leaves_so 0 (λ i j. 0) 0 (start_over (a.section d)) (sound.sections.laws.start d used) x in
        never_answers (setting_of l d) agreed_trail (micro_at (line body) ((a.section d).edge)) reply
        (y.1 ∙ ap (λ (o : Outcome). Some o) (sym (left_by _ y.0 (reply_in body) y.1) ∙ (sym ended ∙ is)))

  pub outcomes_agree : OutcomesAgree m l a s
  outcomes_agree = record {
    outcome = λ r d fixed_cells f first clock start used end over. outcome_plain r d f used end fixed_cells first clock start over;
    trail = λ r d fixed_cells f first clock start used end over. trail_plain r d f used end fixed_cells first clock start over;
    answered = answers;
    left = λ r d reply f used end x. not_answered r d f used end reply x;
    equal = kept.equal;
  }
