-- A read of a `get`: its plan loads few cells, and its body changes nothing.
use Rattle.std.specs.Prelude.{true, false, if◌then◌else◌, Bool, not, position, Option, Some, None}
use Rattle.std.specs.List.{list_all}
use Rattle.std.proofs.Common.{◌≡◌, ℕ, zero, suc, List, [], ◌∷◌, ◌+◌, ◌*◌, ◌≤◌, length, refl, sym, ap, subst, ◌∙◌}
use Rattle.machine_states.specs.map_history.specs.declared.op.Op.TheVariants.{Get}
use Rattle.machine_states.specs.map_history.specs.declared.op.Request.{Request}
use Rattle.machine_states.specs.body_terms.specs.Shape.{IsStep, is_look}
use Rattle.machine_states.specs.body_terms.specs.declared.step.Step.{Step}
use Rattle.machine_states.specs.body_terms.specs.Word.{is_free}
use Rattle.machine_states.specs.body_terms.specs.declared.thunk.Thunk.{Thunk}
use Rattle.machine_states.specs.table_words.specs.Limits.{IsWithinLimits}
use Rattle.machine_states.specs.structure_laws.specs.Scene.{Readings}
use Rattle.machine_states.specs.structure_laws.specs.Meaning.{Meaning}
use Rattle.machine_states.specs.structure_laws.specs.Cells.{slots}
use Rattle.machine_states.specs.structure_laws.specs.Sections.{IsAllowed}
use Rattle.machine_states.specs.structure_laws.proofs.Changes.{both_true}
use Rattle.machine_states.proofs.Steps.{some_same}
use Rattle.caller_facts.proofs.Shapes.{allowed_at}
use Rattle.caller_facts.specs.version_words.specs.machine_invariant.specs.After.{AreAllowed}
use Rattle.caller_facts.specs.version_words.specs.RunnerState.{RunnerState}
use Rattle.caller_facts.specs.lock_walks.specs.Gets.{GetsAreLight}
use Rattle.caller_facts.specs.try_lock.specs.declared.planned.Planned.{Planned}
use Rattle.caller_facts.specs.try_lock.specs.declared.planned.Planned.TheVariants as plans
use Rattle.caller_facts.specs.try_lock.specs.Planning.{Planning}
use Rattle.caller_facts.specs.try_lock.specs.Plans.{IsWalk}
use Rattle.seq_read.specs.Course.{of_plan, of_lock, HasPlanned, IsRefused, ByPlan, ByBody, ByCell, ByLock}
use Rattle.seq_read.specs.declared.answers.Read.TheVariants as answers
use Rattle.seq_read.proofs.Finding.{first_change_is}

-- no refusal of a plan, and no other word of the lock, is told as Locked
no_plan : (at : ℕ) (refusal : Planned) → answers.Locked at ≡ of_plan refusal → ⊥
no_plan at (plans.Busy place word) e = cc
no_plan at (plans.Spent place word) e = cc
no_plan at (plans.Stale place expected read) e = cc
no_plan at (plans.Far loads) e = cc
no_plan at (plans.Thunk thunk) e = cc
no_plan at plans.Halted e = cc

no_lock : (at : ℕ) (thunk : Thunk) (word : ℕ) → answers.Locked at ≡ of_lock thunk word → ⊥
no_lock at thunk word e = by (is_free word) e
  where
    by : (b : Bool) → answers.Locked at ≡ (if b then answers.Stale thunk.lock thunk.word word else answers.Busy thunk.lock word) → ⊥
    by true e = cc
    by false e = cc

true_false : true ≡ false → ⊥
true_false e = cc

-- each step of a body that changes nothing
all_look : (steps : List Step) (i : ℕ) (step : Step) → list_all is_look steps ≡ true → IsStep steps i step → is_look step ≡ true
all_look [] i step looks here = absurd (cc)
all_look (x ∷ steps) zero step looks here = subst (λ y. is_look y ≡ true) (some_same x step here) (both_true (is_look x) (list_all is_look steps) looks).0
all_look (x ∷ steps) (suc i) step looks here = all_look steps i step (both_true (is_look x) (list_all is_look steps) looks).1 here

module _ {T : Type 0} (m : Meaning) (planning : Planning) (light : GetsAreLight m planning) (request : Request) (key : ℕ) (get : request.op ≡ Get key) (old : RunnerState T) where
  pub get_few : IsWithinLimits old.layout → AreAllowed old.requests → (readings : Readings) (answer : Planned) (r : RunnerState T)
      → HasPlanned m planning request readings answer old r → length readings ≤ 3 * slots m old.layout + 28
  get_few limits allowed readings answer r is = light.few old.layout key readings limits
      (subst IsAllowed get (allowed_at old.requests request.number request is.enters.may.there allowed.each))
      (ap planning.serves (sym get) ∙ is.enters.may.served)
      (subst (λ op. IsWalk m planning old.layout op readings) get is.walk)

  -- no step of its body changes anything
  body_looks : m.is_map ≡ true → (readings : Readings) (thunk : Thunk) (r : RunnerState T)
      → HasPlanned m planning request readings (plans.Thunk thunk) old r → list_all is_look (m.body thunk) ≡ true
  body_looks map readings thunk r is =
      light.looks map old.layout key readings thunk (subst (λ op. m.fits old.layout op readings thunk ≡ true) get is.answers.fits)

  pub get_looks : m.is_map ≡ true → (at : ℕ) (cut : RunnerState T) → IsRefused m planning request (answers.Locked at) old cut → ⊥
  get_looks map at cut (ByPlan is) = no_plan at is.refusal is.same
  get_looks map at cut (ByBody change same is) =
      let looks = body_looks map is.readings is.thunk cut is.plans in
      true_false (sym (all_look (m.body is.thunk) change is.first.step looks is.first.here) ∙ is.first.changes)
  get_looks map at cut (ByCell place expected read same is) = cc
  get_looks map at cut (ByLock is) = no_lock at is.thunk is.word is.same

  -- so there is no first one that does
  pub get_changes_none : m.is_map ≡ true → (readings : Readings) (thunk : Thunk) (r : RunnerState T)
      → HasPlanned m planning request readings (plans.Thunk thunk) old r → position (λ step. not (is_look step)) (m.body thunk) ≡ None
  get_changes_none map readings thunk r is = by (position (λ step. not (is_look step)) (m.body thunk)) refl
    where
      by : (o : Option ℕ) → position (λ step. not (is_look step)) (m.body thunk) ≡ o → o ≡ None
      by None e = refl
      by (Some at) e =
          let first = first_change_is (m.body thunk) at e in
          absurd (true_false (sym (all_look (m.body thunk) at first.step (body_looks map readings thunk r is) first.here) ∙ first.changes))
