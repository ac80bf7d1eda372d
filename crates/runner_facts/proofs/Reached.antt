-- So it is in every reached state.
use Rattle.std.specs.Prelude.{◌==◌, ◌||◌, ◌*◌, nat_lt, cond, Bool, true, false}
use Rattle.std.proofs.Common.{◌≡◌, ℕ, zero, suc, ◌+◌, ◌<◌, ◌≤◌, List, [], refl, sym, ap, ◌∙◌, subst, inl, ⊎_elim, arith, Option, Some, None}
use Rattle.std.proofs.lemmas.Bool.{cases_eq}
use Rattle.std.proofs.lemmas.Bool.Decides.{nat_tests}
use Rattle.machine_states.specs.map_history.specs.declared.op.Request.{Request}
use Rattle.machine_states.specs.table_words.specs.declared.layout.Layout.{Layout}
use Rattle.machine_states.specs.table_words.specs.Limits.{IsWithinLimits}
use Rattle.machine_states.specs.structure_laws.specs.Meaning.{Meaning}
use Rattle.machine_states.specs.structure_laws.specs.Laws.{Laws}
use Rattle.machine_states.specs.runner_parts.specs.declared.event.EventKind.{EventKind}
use Rattle.machine_states.specs.runner_parts.specs.declared.event.EventKind.TheVariants as kinds
use Rattle.machine_states.specs.runner_parts.specs.State.{RunState, PartState}
use Rattle.machine_states.specs.runner_parts.specs.Tests.{has}
use Rattle.machine_states.specs.runner_steps.specs.Asks.{ask_by, outside_ask}
use Rattle.machine_states.specs.runner_steps.specs.After.{after_by}
use Rattle.machine_states.specs.World.{World}
use Rattle.machine_states.specs.First.{falling, first_part, keeper_part, worker_part}
use Rattle.machine_states.specs.Reached.{Reached}
use Rattle.machine_states.specs.Sight.{Sight, sight}
use Rattle.machine_states.proofs.FirstSights.{first_part_of, first_parts}
use Rattle.machine_states.proofs.Sights.{unless_gone, joins}
use Rattle.machine_facts.specs.machine_agreement.specs.machine_epochs.proofs.OutsideAsked.{hold_asked}
use Rattle.machine_facts.specs.machine_invariant.specs.After.{AreAllowed}
use Rattle.machine_facts.specs.machine_invariant.proofs.Keeping.{IsStep, reached_keeps}
use Rattle.next_steps.proofs.Parts.{each_part}
use Rattle.runner_facts.specs.Own.{HasOwn, OwnStand}
use Rattle.runner_facts.proofs.OwnKeeping.{inside_keeps, MayHold, outside_keeps}

module _ (m : Meaning) (l : Layout) (rs : List Request) (s s' : Sight) (r : ℕ) (kind : EventKind) (st : IsStep m l rs s s' r kind) where
  abbrev p : PartState
  p = s.part r

  abbrev found : ℕ
  found = s.word st.step.ask.0

  may_hold : (d : ℕ) (k : EventKind) → outside_ask m l rs r k p ≡ Some st.step.ask → MayHold m l d p found k
  may_hold d (kinds.Hold t d0) e = (hold_asked m l rs r t d0 p st.step.ask e).unpublished
  may_hold d _ e = tt

  own : (d : ℕ) (o : Option RunState) → ask_by m l rs r kind p o ≡ Some st.step.ask → HasOwn p d → HasOwn (after_by m l kind p o found) d
  own d None e = (outside_keeps m l d p found kind (may_hold d kind e)).own
  own d (Some q) e = (inside_keeps m l d p found q kind).own

  kept : OwnStand l s → OwnStand l s'
  kept old i d low from to = subst (λ (y : Sight). HasOwn (y.part i) d) (sym st.step.next)
      (each_part m l s r st.step.ask (λ k p'. HasOwn (s.part k) d → HasOwn p' d) (λ k p' blocks board records gone h. h) kind
      (joins m l rs kind r p st.step.ask st.step.asked) (own d p.run (unless_gone _ p.gone _ st.step.ask st.step.asked).1) (λ k ne h. h) i
      (old i d low from to))

falling_has : (from n d : ℕ) → from ≤ d → d < from + n → has (falling from n) d ≡ true
falling_has from zero d low high = absurd (omega (arith, low, high))
falling_has from (suc n) d low high = ⊎_elim
    (λ e. ap (λ b. b || has (falling from n) d) (same (from + n) d e))
    (λ ne. ap (λ b. (from + n == d) || b) (falling_has from n d low (omega (arith, high, ne))) ∙ or_right (from + n == d))
    (cases_eq (from + n) d)
  where
    same : (a b : ℕ) → a ≡ b → (a == b) ≡ true
    same a b e = grind (arith, nat_tests)

    or_right : (a : Bool) → (a || true) ≡ true
    or_right true = refl
    or_right false = refl

pub reached_own : (m : Meaning) → Laws m → (l : Layout) → IsWithinLimits l → (rs : List Request) → AreAllowed rs → (w : World)
    → Reached m l rs w → OwnStand l (sight m l rs w)
reached_own m laws l limits rs allowed w reached =
    reached_keeps m laws l limits rs allowed (OwnStand l)
    (λ v start r d low from to. subst (λ (p : PartState). HasOwn p d) (sym (first_parts m l v.parts start.parts r)) (first r d low from to))
    (λ s s' r kind st old. kept m l rs s s' r kind st old) w reached
  where
    below : (r n : ℕ) → r < n → (r == n) ≡ false
    below r n low = grind (arith, nat_tests)

    less : (r n : ℕ) → r < n → nat_lt r n ≡ true
    less r n low = grind (arith, nat_tests)

    first : (r d : ℕ) → r < l.runners → l.sections * r ≤ d → d < l.sections * r + l.sections → HasOwn (first_part_of m l r) d
    first r d low from to = inl (
        ap (λ b. has (cond b (keeper_part m l) (cond (nat_lt r l.runners) (worker_part m l r) (first_part [] [] []))).descriptors.free d) (below r l.runners low)
        ∙ (ap (λ b. has (cond b (worker_part m l r) (first_part [] [] [])).descriptors.free d) (less r l.runners low)
        ∙ falling_has (l.sections * r) l.sections d from to))
