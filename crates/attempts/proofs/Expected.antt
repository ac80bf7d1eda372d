-- What a Stale tells as expected: a mark's unmarked word, or a word that the plan had read.
use Rattle.std.specs.Prelude.{◌==◌, ◌&&◌, ◌||◌, ◌-◌, ◌⊎◌, cond, Bool, true, false, slice_get, slice_index, if◌then◌else◌}
use Rattle.std.proofs.Common.{◌≡◌, ◌≢◌, ℕ, zero, suc, ◌+◌, List, [], ◌∷◌, ◌++◌, length, refl, sym, ap, ◌∙◌, subst, ⊎_elim, inl, inr, arith, Some, None}
use Rattle.std.proofs.lemmas.Bool.Decides.{nat_tests}
use Rattle.section_lines.specs.small_lemmas.proofs.Bools.{both_of, or_first, or_second}
use Rattle.section_lines.specs.small_lemmas.proofs.Numbers.{tested_equal, self_tested}
use Rattle.machine_states.specs.map_history.specs.declared.op.Op.{Op}
use Rattle.machine_states.specs.body_terms.specs.Line.{line, micro_at}
use Rattle.machine_states.specs.body_terms.specs.Run.{leaves, refusal, is_takable}
use Rattle.machine_states.specs.body_terms.specs.Word.{value_of, version_of, pack, held_word, is_free, is_spent}
use Rattle.machine_states.specs.body_terms.specs.declared.micro.Micro.{Micro}
use Rattle.machine_states.specs.body_terms.specs.declared.micro.Micro.TheVariants.{CheckWord, CheckFresh, CheckFree, CheckHeld}
use Rattle.machine_states.specs.body_terms.specs.declared.outcome.Outcome.{Outcome}
use Rattle.machine_states.specs.body_terms.specs.declared.outcome.Outcome.TheVariants as outcomes
use Rattle.machine_states.specs.body_terms.specs.declared.outcome.Refused.{Refused}
use Rattle.machine_states.specs.body_terms.specs.declared.outcome.Refused.TheVariants as refusals
use Rattle.machine_states.specs.body_terms.specs.declared.step.Step.TheVariants.{Take}
use Rattle.machine_states.specs.body_terms.specs.declared.thunk.Thunk.{Thunk}
use Rattle.section_lines.proofs.Sources.{of_take}
use Rattle.section_lines.proofs.Wants.{wanted_at}
use Rattle.machine_states.specs.table_words.specs.declared.layout.Layout.{Layout}
use Rattle.machine_states.specs.table_words.specs.Limits.{IsWithinLimits}
use Rattle.machine_states.specs.structure_laws.specs.Scene.{Readings}
use Rattle.machine_states.specs.structure_laws.specs.Meaning.{Meaning}
use Rattle.machine_states.specs.structure_laws.specs.Cells.{slots}
use Rattle.machine_states.specs.structure_laws.specs.Sections.{IsAllowed}
use Rattle.machine_states.specs.structure_laws.specs.Shape.{HasStep, Shaped}
use Rattle.machine_states.specs.runner_parts.specs.Tests.{has_pair}
use Rattle.machine_states.specs.runner_steps.specs.Sections.{setting_of}
use Rattle.machine_states.proofs.Steps.{some_same, none_some}
use Rattle.caller_facts.specs.try_lock.specs.declared.planned.Planned.{Planned}
use Rattle.caller_facts.specs.try_lock.specs.declared.planned.Planned.TheVariants as plans
use Rattle.caller_facts.specs.try_lock.specs.Planning.{Planning}
use Rattle.caller_facts.specs.try_lock.specs.Plans as plan
use Rattle.caller_facts.specs.try_lock.specs.Publishes.{refused_by}
use Rattle.caller_facts.specs.lock_walks.proofs.Each.{get_last}
use Rattle.caller_facts.specs.lock_walks.specs.Wants.{WantsWereRead}
use Rattle.attempts.specs.Course.{of_plan, of_refusal, of_outcome}
use Rattle.caller_facts.specs.Asking.{WasRead, IsMarked}
use Rattle.attempts.specs.declared.answers.Attempt.TheVariants as answers
use Rattle.attempts.proofs.Refusing.{ChecksTake, left_busy}

-- which reading refuses a plan as stale
module _ (m : Meaning) (planning : Planning) (l : Layout) (op : Op) (place expected read : ℕ) where
  abbrev told : Planned
  told = plans.Stale place expected read

  module _ (before : Readings) (p w : ℕ) where
    abbrev Marks : Type 0
    Marks = (planning.is_mark p ≡ true) × (p ≡ place) × (w ≡ read) × (value_of w ≡ 1) × (pack 0 (version_of w - 1) ≡ expected)

    by_lock : (free spent : Bool) → (if free then (if spent then Some (plans.Spent p w) else None) else Some (plans.Busy p w)) ≡ Some told → ⊥
    by_lock true true e = let z = some_same _ _ e in cc
    by_lock true false e = none_some _ (sym e)
    by_lock false spent e = let z = some_same _ _ e in cc

    by_mark : (marked far : Bool) (unmarked loads : ℕ) → (planning.is_mark p && (value_of w == 1)) ≡ marked → pack 0 (version_of w - 1) ≡ unmarked
        → (if marked then Some (plans.Stale p unmarked w) else (if far then Some (plans.Far loads) else None)) ≡ Some told → Marks
    by_mark true far unmarked loads test is e =
        let z = some_same (plans.Stale p unmarked w) told e in
        let both = both_of (planning.is_mark p) (value_of w == 1) test in
        let same : unmarked ≡ expected = cc in
        (both.0, cc, cc, tested_equal (value_of w) 1 both.1, is ∙ same)
    by_mark false true unmarked loads test is e = absurd (let z = some_same _ _ e in cc)
    by_mark false false unmarked loads test is e = absurd (none_some _ (sym e))

    marked_at : plan.refused_at m planning l op before p w ≡ Some told → Marks
    marked_at = by (m.is_lock p)
      where
        by : (b : Bool) → (if b then plan.refused_by_lock l.version_max p w
            else (if planning.is_mark p && (value_of w == 1) then Some (plans.Stale p (pack 0 (version_of w - 1)) w)
            else (if planning.is_far l op (before ++ (p, w) ∷ []) then Some (plans.Far (slots m l + 8)) else None))) ≡ Some told → Marks
        by true e = absurd (by_lock (is_free w) (is_spent l.version_max w) e)
        by false e = by_mark (planning.is_mark p && (value_of w == 1)) (planning.is_far l op (before ++ (p, w) ∷ []))
            (pack 0 (version_of w - 1)) (slots m l + 8) refl refl e

  -- a plan is stale by a mark
  marked_of : (readings : Readings) → plan.IsRefused m planning l op readings told → IsMarked planning readings place expected read
  marked_of readings is =
      let h = marked_at is.before is.place is.word is.cause in
      record {
        mark = ap planning.is_mark (sym h.1) ∙ h.0;
        seen = (
          length is.before,
          ap (λ xs. slice_get xs (length is.before)) is.last
              ∙ (get_last is.before (is.place, is.word) ∙ (λ i. Some (h.1 i, h.2 i))),
        );
        marked = ap value_of (sym h.2) ∙ h.3;
        unmarked = sym h.4 ∙ ap (λ n. pack 0 (version_of n - 1)) h.2;
      }

  pub plan_stale : (number : ℕ) (readings : Readings) (answer : Planned) → plan.Answers m planning l op number readings answer
      → of_plan answer ≡ answers.Stale place expected read → IsMarked planning readings place expected read
  plan_stale number readings (plans.Stale p x y) is e =
      let same : plans.Stale p x y ≡ told = cc in
      marked_of readings (subst (λ a. plan.IsRefused m planning l op readings a) same is)
  plan_stale number readings (plans.Busy p w) is e = absurd (let z = e in cc)
  plan_stale number readings (plans.Spent p w) is e = absurd (let z = e in cc)
  plan_stale number readings (plans.Far loads) is e = absurd (let z = e in cc)
  plan_stale number readings (plans.Thunk thunk) is e = absurd (let z = e in cc)
  plan_stale number readings plans.Halted is e = absurd (let z = e in cc)

-- a publication is stale by the word of its lock, which isn't the thunk's
module _ (version_max lock free found place expected read : ℕ) (lost : (found == free) ≡ false) where
  abbrev IsThis : Type 0
  IsThis = (place ≡ lock) × (expected ≡ free) × (expected ≢ read)

  by_found : (is spent : Bool) (p x y : ℕ) → refusals.Stale x y ≡ cond is (cond spent (refusals.Spent found) (refusals.Stale free found)) (refusals.Busy found)
      → answers.Stale p x y ≡ answers.Stale place expected read → p ≡ lock → IsThis
  by_found true true p x y why e at = absurd (let z = why in cc)
  by_found true false p x y why e at =
      let one : x ≡ free = cc in
      let two : y ≡ found = cc in
      let word : expected ≡ x = cc in
      let met : y ≡ read = cc in
      let here : place ≡ p = cc in
      (here ∙ at, word ∙ one, λ same. not_same found free lost (sym two ∙ (met ∙ (sym same ∙ (word ∙ one)))))
    where
      not_same : (a b : ℕ) → (a == b) ≡ false → a ≡ b → ⊥
      not_same a b h same = grind (arith, nat_tests)
  by_found false spent p x y why e at = absurd (let z = why in cc)

  pub lock_stale : (refused : Refused) → refused ≡ refused_by version_max free found
      → of_refusal lock refused ≡ answers.Stale place expected read → IsThis
  lock_stale (refusals.Stale x y) why e = by_found (is_free found) (is_spent version_max found) lock x y why e refl
  lock_stale (refusals.Busy w) why e = absurd (let z = e in cc)
  lock_stale (refusals.Spent w) why e = absurd (let z = e in cc)

pub stale_outcome : (o : Outcome) (place expected read : ℕ) → of_outcome o ≡ answers.Stale place expected read → o ≡ outcomes.Stale place expected read
stale_outcome (outcomes.Stale p x y) place expected read e = let z = e in cc
stale_outcome (outcomes.Busy p w) place expected read e = absurd (let z = e in cc)
stale_outcome (outcomes.Spent p w) place expected read e = absurd (let z = e in cc)
stale_outcome (outcomes.Answered reply) place expected read e = absurd (let z = e in cc)

-- the check at which a section leaves as stale
module _ (l : Layout) (d : ℕ) (trail : List ℕ) (place expected read : ℕ) where
  abbrev told_by : Outcome
  told_by = outcomes.Stale place expected read

  -- a cell's, or one of a Take
  abbrev IsStaleAt : Micro → Type 0
  IsStaleAt micro = ((log : ℕ) × (micro ≡ CheckWord place log expected))
      ⊎ (((log : ℕ) × (micro ≡ CheckFree place log expected)) ⊎ ((log : ℕ) × (micro ≡ CheckHeld place log expected)))

  abbrev Same : ℕ → ℕ → ℕ → Type 0
  Same p x y = (p ≡ place) × (x ≡ expected) × (y ≡ read)

  same_words : (p x y : ℕ) → outcomes.Stale p x y ≡ told_by → Same p x y
  same_words p x y e = (cc, cc, cc)

  by_refusal : (free spent : Bool) (p x y : ℕ) → cond free (cond spent (outcomes.Spent p y) (outcomes.Stale p x y)) (outcomes.Busy p y) ≡ told_by → Same p x y
  by_refusal true true p x y e = absurd (let z = e in cc)
  by_refusal true false p x y e = same_words p x y e
  by_refusal false spent p x y e = absurd (let z = e in cc)

  by_test : (b : Bool) (p x y : ℕ) → cond b None (Some (refusal (setting_of l d) p x y)) ≡ Some told_by → Same p x y
  by_test true p x y e = absurd (none_some _ (sym e))
  by_test false p x y e = by_refusal (is_free y) (is_spent l.version_max y) p x y (some_same _ _ e)

  by_want : (b : Bool) (p x y : ℕ) → cond b None (Some (outcomes.Stale p x y)) ≡ Some told_by → Same p x y
  by_want true p x y e = absurd (none_some _ (sym e))
  by_want false p x y e = same_words p x y (some_same _ _ e)

  by_fresh : (b : Bool) (p y : ℕ) → cond b (Some (outcomes.Spent p y)) None ≡ Some told_by → ⊥
  by_fresh true p y e = let z = some_same _ _ e in cc
  by_fresh false p y e = none_some _ (sym e)

  stale_at : (micro : Micro) → leaves (setting_of l d) trail micro ≡ Some told_by → IsStaleAt micro
  stale_at (CheckWord p log x) e =
      let h = by_want (slice_index trail log == x) p x (slice_index trail log) e in
      inl (log, λ i. CheckWord (h.0 i) log (h.1 i))
  stale_at (CheckFresh p log) e = absurd (by_fresh _ p (slice_index trail log) e)
  stale_at (CheckFree p log x) e =
      let h = by_test (is_takable (setting_of l d) x (slice_index trail log)) p x (slice_index trail log) e in
      inr (inl (log, λ i. CheckFree (h.0 i) log (h.1 i)))
  stale_at (CheckHeld p log x) e =
      let h = by_test (slice_index trail log == held_word d x) p x (slice_index trail log) e in
      inr (inr (log, λ i. CheckHeld (h.0 i) log (h.1 i)))
  stale_at _ e = absurd (none_some _ (sym e))

-- so the plan had read the word
module _ (m : Meaning) (wants : WantsWereRead m) (l : Layout) (limits : IsWithinLimits l) (op : Op) (allowed : IsAllowed op)
    (readings : Readings) (thunk : Thunk) (fits : m.fits l op readings thunk ≡ true) (shaped : Shaped m l readings thunk)
    (d : ℕ) (trail : List ℕ) (place expected read : ℕ) where
  taken : (n p w : ℕ) → HasStep m thunk n (Take p w) → p ≡ place → w ≡ expected → WasRead readings place expected
  taken n p w here same_place same_word = let k = shaped.take_read n p w here in (k.0, k.1 ∙ (λ i. Some (same_place i, same_word i)))

  was_planned : (at : ℕ) → IsStaleAt l d trail place expected read (micro_at (line (m.body thunk)) at) → WasRead readings place expected
  was_planned at stale = ⊎_elim
      (λ want. let w = wanted_at (m.body thunk) shaped.shape at place want.0 expected want.1 in
      wants l limits readings op thunk allowed fits w.load w.want place w.register expected w.loads w.wants)
      (λ take. ⊎_elim
      (λ free. let o = of_take (m.body thunk) at (CheckFree place free.0 expected) free.1 refl in
      let same = o.2.same in
      taken o.2.from.n o.0 o.1 o.2.from.here (let z = same in cc) (let z = same in cc))
      (λ held. let o = of_take (m.body thunk) at (CheckHeld place held.0 expected) held.1 refl in
      let same = o.2.same in
      taken o.2.from.n o.0 o.1 o.2.from.here (let z = same in cc) (let z = same in cc))
      take)
      stale

  pub section_stale : (at : ℕ) → leaves (setting_of l d) trail (micro_at (line (m.body thunk)) at) ≡ Some (outcomes.Stale place expected read)
      → WasRead readings place expected
  section_stale at e = was_planned at (stale_at l d trail place expected read (micro_at (line (m.body thunk)) at) e)

-- a word that stands among readings is found there
pair_here : (xs : Readings) (i p w : ℕ) → slice_get xs i ≡ Some (p, w) → has_pair xs p w ≡ true
pair_here [] i p w e = absurd (none_some _ (sym e))
pair_here (x ∷ xs) zero p w e = subst (λ (y : ℕ × ℕ). ((y.0 == p && y.1 == w) || has_pair xs p w) ≡ true) (sym (some_same x (p, w) e))
    (or_first (p == p && w == w) (has_pair xs p w) (ap (λ b. b && (w == w)) (self_tested p) ∙ self_tested w))
pair_here (x ∷ xs) (suc i) p w e = or_second (x.0 == p && x.1 == w) (has_pair xs p w) (pair_here xs i p w e)

-- of the lock that a section found held its plan had read a word
module _ (m : Meaning) (l : Layout) (readings : Readings) (thunk : Thunk) (shaped : Shaped m l readings thunk) (d : ℕ) (trail : List ℕ) (place word at : ℕ)
    (left : leaves (setting_of l d) trail (micro_at (line (m.body thunk)) at) ≡ Some (outcomes.Busy place word)) where
  had_read : (n p w : ℕ) → HasStep m thunk n (Take p w) → p ≡ place → (v : ℕ) × (has_pair readings place v ≡ true)
  had_read n p w here same = let k = shaped.take_read n p w here in
      (w, pair_here readings k.0 place w (k.1 ∙ ap (λ (i : ℕ). Some (i, w)) same))

  by_check : ChecksTake l d trail place word (micro_at (line (m.body thunk)) at) → (v : ℕ) × (has_pair readings place v ≡ true)
  by_check check = ⊎_elim
      (λ free. let o = of_take (m.body thunk) at (CheckFree place check.0 check.1) free refl in
      let same = o.2.same in had_read o.2.from.n o.0 o.1 o.2.from.here (let z = same in cc))
      (λ held. let o = of_take (m.body thunk) at (CheckHeld place check.0 check.1) held refl in
      let same = o.2.same in had_read o.2.from.n o.0 o.1 o.2.from.here (let z = same in cc))
      check.2

  pub busy_read : (v : ℕ) × (has_pair readings place v ≡ true)
  busy_read = by_check (left_busy l d trail place word (micro_at (line (m.body thunk)) at) left).1
