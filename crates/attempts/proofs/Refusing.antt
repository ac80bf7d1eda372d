-- What refused a plan, or made a section leave, as an answer of an attempt.
use Rattle.std.specs.Prelude.{◌⊎◌, cond, Bool, true, false, slice_index, if◌then◌else◌}
use Rattle.std.proofs.Common.{◌≡◌, ◌≢◌, ℕ, List, [], ◌∷◌, ◌++◌, refl, sym, ap, ◌∙◌, subst, inl, inr, Option, Some, None}
use Rattle.machine_states.specs.map_history.specs.declared.op.Op.{Op}
use Rattle.machine_states.specs.body_terms.specs.Run.{Setting, leaves, refusal, is_takable}
use Rattle.machine_states.specs.body_terms.specs.Word.{is_free, is_spent}
use Rattle.machine_states.specs.body_terms.specs.declared.micro.Micro.{Micro}
use Rattle.machine_states.specs.body_terms.specs.declared.micro.Micro.TheVariants as micros
use Rattle.machine_states.specs.body_terms.specs.declared.outcome.Outcome.{Outcome}
use Rattle.machine_states.specs.body_terms.specs.declared.outcome.Outcome.TheVariants as outcomes
use Rattle.machine_states.specs.table_words.specs.declared.layout.Layout.{Layout}
use Rattle.machine_states.specs.structure_laws.specs.Scene.{Readings}
use Rattle.machine_states.specs.structure_laws.specs.Meaning.{Meaning}
use Rattle.machine_states.specs.runner_parts.specs.Tests.{has_pair}
use Rattle.machine_states.specs.runner_steps.specs.Sections.{setting_of}
use Rattle.machine_states.proofs.Steps.{some_same, none_some}
use Rattle.caller_facts.specs.lock_walks.specs.runner_facts.proofs.Names.{pair_last}
use Rattle.caller_facts.specs.try_lock.specs.declared.planned.Planned.{Planned}
use Rattle.caller_facts.specs.try_lock.specs.declared.planned.Planned.TheVariants as plans
use Rattle.caller_facts.specs.try_lock.specs.Planning.{Planning}
use Rattle.caller_facts.specs.try_lock.specs.Plans as plan
use Rattle.attempts.specs.Course.{of_plan, of_outcome}
use Rattle.attempts.specs.Attempts.{is_refusal}
use Rattle.attempts.specs.declared.answers.Attempt.TheVariants as answers

-- a section that found a lock held at a check of a Take read a word there that names a descriptor
module _ (l : Layout) (d : ℕ) (trail : List ℕ) (place word : ℕ) where
  abbrev s : Setting
  s = setting_of l d

  -- a check of a Take of the lock at this place
  abbrev pub ChecksTake : Micro → Type 0
  ChecksTake micro = (log expected : ℕ) × ((micro ≡ micros.CheckFree place log expected) ⊎ (micro ≡ micros.CheckHeld place log expected))

  by_word : (free spent : Bool) (p expected read : ℕ)
      → cond free (cond spent (outcomes.Spent p read) (outcomes.Stale p expected read)) (outcomes.Busy p read) ≡ outcomes.Busy place word
      → (free ≡ false) × (read ≡ word) × (p ≡ place)
  by_word true true p expected read e = absurd (let z = e in cc)
  by_word true false p expected read e = absurd (let z = e in cc)
  by_word false spent p expected read e = (refl, let z = e in cc, let z = e in cc)

  by_refusal : (p expected read : ℕ) → refusal s p expected read ≡ outcomes.Busy place word → (is_free word ≡ false) × (p ≡ place)
  by_refusal p expected read e = let h = by_word (is_free read) (is_spent l.version_max read) p expected read e in
      (subst (λ w. is_free w ≡ false) h.1 h.0, h.2)

  by_test : (b : Bool) (p expected read : ℕ) → cond b None (Some (refusal s p expected read)) ≡ Some (outcomes.Busy place word) → (is_free word ≡ false) × (p ≡ place)
  by_test true p expected read e = absurd (none_some _ (sym e))
  by_test false p expected read e = by_refusal p expected read (some_same _ _ e)

  by_want : (b : Bool) (p expected read : ℕ) → cond b None (Some (outcomes.Stale p expected read)) ≡ Some (outcomes.Busy place word) → ⊥
  by_want true p expected read e = none_some _ (sym e)
  by_want false p expected read e = let z = some_same _ _ e in cc

  by_fresh : (b : Bool) (p read : ℕ) → cond b (Some (outcomes.Spent p read)) None ≡ Some (outcomes.Busy place word) → ⊥
  by_fresh false p read e = none_some _ (sym e)
  by_fresh true p read e = let z = some_same _ _ e in cc

  pub left_busy : (micro : Micro) → leaves s trail micro ≡ Some (outcomes.Busy place word) → (is_free word ≡ false) × ChecksTake micro
  left_busy (micros.CheckWord p log w) e = absurd (by_want _ p w (slice_index trail log) e)
  left_busy (micros.CheckFresh p log) e = absurd (by_fresh _ p (slice_index trail log) e)
  left_busy (micros.CheckFree p log w) e =
      let h = by_test (is_takable s w (slice_index trail log)) p w (slice_index trail log) e in (h.0, (log, w, inl (ap (λ x. micros.CheckFree x log w) h.1)))
  left_busy (micros.CheckHeld p log w) e =
      let h = by_test _ p w (slice_index trail log) e in (h.0, (log, w, inr (ap (λ x. micros.CheckHeld x log w) h.1)))
  left_busy _ e = absurd (none_some _ (sym e))

pub refusal_of_outcome : (o : Outcome) → ((reply : ℕ) → o ≢ outcomes.Answered reply) → is_refusal (of_outcome o) ≡ true
refusal_of_outcome (outcomes.Busy place word) other = refl
refusal_of_outcome (outcomes.Stale place expected read) other = refl
refusal_of_outcome (outcomes.Spent place word) other = refl
refusal_of_outcome (outcomes.Answered reply) other = absurd (other reply refl)

pub busy_outcome : (o : Outcome) (place word : ℕ) → of_outcome o ≡ answers.Busy place word → o ≡ outcomes.Busy place word
busy_outcome (outcomes.Busy p w) place word e = let z = e in cc
busy_outcome (outcomes.Stale p expected read) place word e = absurd (let z = e in cc)
busy_outcome (outcomes.Spent p w) place word e = absurd (let z = e in cc)
busy_outcome (outcomes.Answered reply) place word e = absurd (let z = e in cc)

-- a plan's answer that is neither a thunk nor a halt
abbrev pub refuses : Planned → Bool
refuses (plans.Thunk thunk) = false
refuses plans.Halted = false
refuses _ = true

pub refusal_of_plan : (p : Planned) → refuses p ≡ true → is_refusal (of_plan p) ≡ true
refusal_of_plan (plans.Busy place word) e = refl
refusal_of_plan (plans.Stale place expected read) e = refl
refusal_of_plan (plans.Spent place word) e = refl
refusal_of_plan (plans.Far loads) e = refl
refusal_of_plan (plans.Thunk thunk) e = absurd (let z = e in cc)
refusal_of_plan plans.Halted e = absurd (let z = e in cc)

pub refuses_by : (p : Planned) → ((thunk : _) → p ≢ plans.Thunk thunk) → p ≢ plans.Halted → refuses p ≡ true
refuses_by (plans.Busy place word) no_thunk no_halt = refl
refuses_by (plans.Stale place expected read) no_thunk no_halt = refl
refuses_by (plans.Spent place word) no_thunk no_halt = refl
refuses_by (plans.Far loads) no_thunk no_halt = refl
refuses_by (plans.Thunk thunk) no_thunk no_halt = absurd (no_thunk thunk refl)
refuses_by plans.Halted no_thunk no_halt = absurd (no_halt refl)

pub busy_plan : (p : Planned) (place word : ℕ) → of_plan p ≡ answers.Busy place word → p ≡ plans.Busy place word
busy_plan (plans.Busy p w) place word e = let z = e in cc
busy_plan (plans.Stale p expected read) place word e = absurd (let z = e in cc)
busy_plan (plans.Spent p w) place word e = absurd (let z = e in cc)
busy_plan (plans.Far loads) place word e = absurd (let z = e in cc)
busy_plan (plans.Thunk thunk) place word e = absurd (let z = e in cc)
busy_plan plans.Halted place word e = absurd (let z = e in cc)

module _ (m : Meaning) (planning : Planning) (l : Layout) (op : Op) (place word : ℕ) where
  module _ (p w : ℕ) where
    by_free : (free spent : Bool) → is_free w ≡ free
        → (if free then (if spent then Some (plans.Spent p w) else None) else Some (plans.Busy p w)) ≡ Some (plans.Busy place word)
        → (is_free word ≡ false) × (word ≡ w) × (place ≡ p)
    by_free true true is e = absurd (let z = some_same _ _ e in cc)
    by_free true false is e = absurd (none_some _ (sym e))
    by_free false spent is e =
        let z = some_same (plans.Busy p w) (plans.Busy place word) e in
        let same : w ≡ word = cc in
        (subst (λ n. is_free n ≡ false) same is, sym same, cc)

    by_rest : (marked far : Bool) (expected loads : ℕ)
        → (if marked then Some (plans.Stale p expected w) else (if far then Some (plans.Far loads) else None)) ≡ Some (plans.Busy place word) → ⊥
    by_rest true far expected loads e = let z = some_same _ _ e in cc
    by_rest false true expected loads e = let z = some_same _ _ e in cc
    by_rest false false expected loads e = none_some _ (sym e)

    by_lock : (lock : Bool) (rest : Option Planned) → (rest ≡ Some (plans.Busy place word) → ⊥) → m.is_lock p ≡ lock
        → (if lock then plan.refused_by_lock l.version_max p w else rest) ≡ Some (plans.Busy place word)
        → (is_free word ≡ false) × (word ≡ w) × (m.is_lock p ≡ true) × (place ≡ p)
    by_lock true rest none is e =
        let h = by_free (is_free w) (is_spent l.version_max w) refl e in
        (h.0, h.1, is, h.2)
    by_lock false rest none is e = absurd (none e)

  -- a plan that found a lock held read a word there that names a descriptor
  pub plan_busy : (readings : Readings) → plan.IsRefused m planning l op readings (plans.Busy place word)
      → (is_free word ≡ false) × (has_pair readings place word ≡ true) × (m.is_lock place ≡ true)
  plan_busy readings is =
      let h = by_lock is.place is.word (m.is_lock is.place) _
      (by_rest is.place is.word _ _ _ _) refl is.cause in (
        h.0,
        ap (λ rs. has_pair rs place word) is.last
            ∙ (ap (λ w. has_pair (is.before ++ (is.place, is.word) ∷ []) place w) h.1
            ∙ (ap (λ p. has_pair (is.before ++ (is.place, is.word) ∷ []) p is.word) h.3 ∙ pair_last is.before is.place is.word)),
        ap m.is_lock h.3 ∙ h.2,
      )
