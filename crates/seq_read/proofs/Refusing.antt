-- What refused a plan, as an answer of a read.
use Rattle.std.specs.Prelude.{◌==◌, ◌&&◌, ◌-◌, Bool, true, false, slice_get, if◌then◌else◌}
use Rattle.std.proofs.Common.{◌≡◌, ◌≢◌, ℕ, ◌+◌, [], ◌∷◌, ◌++◌, length, refl, sym, ap, ◌∙◌, subst, Some, None}
use Rattle.machine_states.specs.epoch_core.specs.small_lemmas.proofs.Bools.{both_of}
use Rattle.machine_states.specs.epoch_core.specs.small_lemmas.proofs.Numbers.{tested_equal}
use Rattle.machine_states.specs.map_history.specs.declared.op.Op.{Op}
use Rattle.machine_states.specs.body_terms.specs.Word.{value_of, version_of, pack, is_free, is_spent}
use Rattle.machine_states.specs.table_words.specs.declared.layout.Layout.{Layout}
use Rattle.machine_states.specs.structure_laws.specs.Scene.{Readings}
use Rattle.machine_states.specs.structure_laws.specs.Meaning.{Meaning}
use Rattle.machine_states.specs.structure_laws.specs.Cells.{slots}
use Rattle.machine_states.proofs.Steps.{some_same, none_some}
use Rattle.caller_facts.specs.try_lock.specs.declared.planned.Planned.{Planned}
use Rattle.caller_facts.specs.try_lock.specs.declared.planned.Planned.TheVariants as plans
use Rattle.caller_facts.specs.try_lock.specs.Planning.{Planning}
use Rattle.caller_facts.specs.try_lock.specs.Plans as plan
use Rattle.caller_facts.specs.lock_walks.proofs.Each.{get_last}
use Rattle.caller_facts.specs.Asking.{IsMarked}
use Rattle.seq_read.specs.Course.{of_plan}
use Rattle.seq_read.specs.declared.answers.Read.TheVariants as answers
use Rattle.seq_read.proofs.Resting.{is_refusal}

-- a plan's answer that is neither a thunk nor a halt
abbrev pub refuses : Planned → Bool
refuses (plans.Thunk thunk) = false
refuses plans.Halted = false
refuses _ = true

pub refuses_by : (p : Planned) → ((thunk : _) → p ≢ plans.Thunk thunk) → p ≢ plans.Halted → refuses p ≡ true
refuses_by (plans.Busy place word) no_thunk no_halt = refl
refuses_by (plans.Stale place expected read) no_thunk no_halt = refl
refuses_by (plans.Spent place word) no_thunk no_halt = refl
refuses_by (plans.Far loads) no_thunk no_halt = refl
refuses_by (plans.Thunk thunk) no_thunk no_halt = absurd (no_thunk thunk refl)
refuses_by plans.Halted no_thunk no_halt = absurd (no_halt refl)

pub refusal_of_plan : (p : Planned) → refuses p ≡ true → is_refusal (of_plan p) ≡ true
refusal_of_plan (plans.Busy place word) e = refl
refusal_of_plan (plans.Stale place expected read) e = refl
refusal_of_plan (plans.Spent place word) e = refl
refusal_of_plan (plans.Far loads) e = refl
refusal_of_plan (plans.Thunk thunk) e = absurd (let z = e in cc)
refusal_of_plan plans.Halted e = absurd (let z = e in cc)

pub refusal_goes_on : (p : Planned) → refuses p ≡ true → plan.is_halted p ≡ false
refusal_goes_on (plans.Busy place word) e = refl
refusal_goes_on (plans.Stale place expected read) e = refl
refusal_goes_on (plans.Spent place word) e = refl
refusal_goes_on (plans.Far loads) e = refl
refusal_goes_on (plans.Thunk thunk) e = refl
refusal_goes_on plans.Halted e = absurd (let z = e in cc)

-- which reading refuses a plan as stale
module _ (m : Meaning) (planning : Planning) (l : Layout) (op : Op) (place expected read : ℕ) where
  abbrev told : Planned
  told = plans.Stale place expected read

  module _ (before : Readings) (p w : ℕ) where
    abbrev Marks : Type 0
    Marks = (planning.is_mark p ≡ true) × (p ≡ place) × (w ≡ read) × (value_of w ≡ 1) × (pack 0 (version_of w - 1) ≡ expected)

    by_lock : (free spent : Bool) → (if free then (if spent then Some (plans.Spent p w) else None) else Some (plans.Busy p w)) ≡ Some told → ⊥
    by_lock true true e = let z = some_same _ _ e in cc
    by_lock true false e = none_some _ (sym e)
    by_lock false spent e = let z = some_same _ _ e in cc

    by_mark : (marked far : Bool) (unmarked loads : ℕ) → (planning.is_mark p && (value_of w == 1)) ≡ marked → pack 0 (version_of w - 1) ≡ unmarked
        → (if marked then Some (plans.Stale p unmarked w) else (if far then Some (plans.Far loads) else None)) ≡ Some told → Marks
    by_mark true far unmarked loads test is e =
        let z = some_same (plans.Stale p unmarked w) told e in
        let both = both_of (planning.is_mark p) (value_of w == 1) test in
        let same : unmarked ≡ expected = cc in
        (both.0, cc, cc, tested_equal (value_of w) 1 both.1, is ∙ same)
    by_mark false true unmarked loads test is e = absurd (let z = some_same _ _ e in cc)
    by_mark false false unmarked loads test is e = absurd (none_some _ (sym e))

    marked_at : plan.refused_at m planning l op before p w ≡ Some told → Marks
    marked_at = by (m.is_lock p)
      where
        by : (b : Bool) → (if b then plan.refused_by_lock l.version_max p w
            else (if planning.is_mark p && (value_of w == 1) then Some (plans.Stale p (pack 0 (version_of w - 1)) w)
            else (if planning.is_far l op (before ++ (p, w) ∷ []) then Some (plans.Far (slots m l + 8)) else None))) ≡ Some told → Marks
        by true e = absurd (by_lock (is_free w) (is_spent l.version_max w) e)
        by false e = by_mark (planning.is_mark p && (value_of w == 1)) (planning.is_far l op (before ++ (p, w) ∷ []))
            (pack 0 (version_of w - 1)) (slots m l + 8) refl refl e

  -- a plan is stale by a mark alone
  marked_of : (readings : Readings) → plan.IsRefused m planning l op readings told → IsMarked planning readings place expected read
  marked_of readings is =
      let h = marked_at is.before is.place is.word is.cause in
      record {
        mark = ap planning.is_mark (sym h.1) ∙ h.0;
        seen = (
          length is.before,
          ap (λ xs. slice_get xs (length is.before)) is.last
              ∙ (get_last is.before (is.place, is.word) ∙ (λ i. Some (h.1 i, h.2 i))),
        );
        marked = ap value_of (sym h.2) ∙ h.3;
        unmarked = sym h.4 ∙ ap (λ n. pack 0 (version_of n - 1)) h.2;
      }

  pub plan_stale : (number : ℕ) (readings : Readings) (answer : Planned) → plan.Answers m planning l op number readings answer
      → of_plan answer ≡ answers.Stale place expected read → IsMarked planning readings place expected read
  plan_stale number readings (plans.Stale p x y) is e =
      let same : plans.Stale p x y ≡ told = cc in
      marked_of readings (subst (λ a. plan.IsRefused m planning l op readings a) same is)
  plan_stale number readings (plans.Busy p w) is e = absurd (let z = e in cc)
  plan_stale number readings (plans.Spent p w) is e = absurd (let z = e in cc)
  plan_stale number readings (plans.Far loads) is e = absurd (let z = e in cc)
  plan_stale number readings (plans.Thunk thunk) is e = absurd (let z = e in cc)
  plan_stale number readings plans.Halted is e = absurd (let z = e in cc)
