-- Each runner has its own descriptors still.
use Rattle.std.specs.Prelude.{◌==◌, ◌*◌, nat_lt, cond, false}
use Rattle.std.proofs.Common.{◌≡◌, ℕ, zero, suc, ◌+◌, ◌<◌, List, [], length, refl, ap, ◌∙◌, arith, Option, Some, None}
use Rattle.std.proofs.lemmas.Bool.Decides.{nat_tests}
use Rattle.section_lines.specs.small_lemmas.proofs.Numbers.{less_tested, self_tested}
use Rattle.machine_states.specs.map_history.specs.declared.op.Request.{Request}
use Rattle.machine_states.specs.table_words.specs.declared.layout.Layout.{Layout}
use Rattle.machine_states.specs.table_words.specs.Limits.{IsWithinLimits}
use Rattle.machine_states.specs.structure_laws.specs.Meaning.{Meaning}
use Rattle.machine_states.specs.structure_laws.specs.Laws.{Laws}
use Rattle.machine_states.specs.runner_parts.specs.declared.event.EventKind.{EventKind}
use Rattle.machine_states.specs.runner_parts.specs.declared.event.EventKind.TheVariants as kinds
use Rattle.machine_states.specs.runner_parts.specs.State.{RunState, PartState}
use Rattle.machine_states.specs.runner_steps.specs.Asks.{ask_by, outside_ask}
use Rattle.machine_states.specs.runner_steps.specs.After.{after_by}
use Rattle.machine_states.specs.epoch_core.specs.declared.location.Location.TheVariants.{Free}
use Rattle.machine_states.specs.epoch_core.specs.Lists.{in_free}
use Rattle.machine_states.specs.World.{World}
use Rattle.machine_states.specs.First.{falling, first_part, keeper_part, worker_part}
use Rattle.machine_states.specs.Reached.{Reached}
use Rattle.machine_states.specs.Sight.{Sight, sight}
use Rattle.machine_states.proofs.FirstSights.{first_part_of, first_parts}
use Rattle.machine_states.proofs.Sights.{unless_gone, joins}
use Rattle.machine_facts.specs.machine_agreement.specs.machine_epochs.proofs.OutsideAsked.{hold_asked}
use Rattle.machine_facts.specs.machine_agreement.specs.machine_epochs.proofs.Places.{free_descriptor}
use Rattle.machine_facts.specs.machine_invariant.specs.After.{AreAllowed}
use Rattle.machine_facts.specs.machine_invariant.proofs.Keeping.{IsStep, reached_keeps}
use Rattle.next_steps.proofs.Parts.{each_part}
use Rattle.runner_facts.specs.Facts.{descriptors_of, DescriptorsAreKept}
use Rattle.runner_facts.proofs.Keeping.{inside_keeps, MayHold, outside_keeps}

-- as many as at first
abbrev AsAtFirst : Meaning → Layout → Sight → Type 0
AsAtFirst m l s = (r : ℕ) → descriptors_of (s.part r) ≡ descriptors_of (first_part_of m l r)

module _ (m : Meaning) (l : Layout) (rs : List Request) (s s' : Sight) (r : ℕ) (kind : EventKind) (st : IsStep m l rs s s' r kind) where
  abbrev p : PartState
  p = s.part r

  abbrev found : ℕ
  found = s.word st.step.ask.0

  self : (a : ℕ) → in_free a (Free a) ≡ 1
  self a = grind (arith, nat_tests)

  -- a publication is one of a free descriptor, with none published
  pub may_hold : (k : EventKind) → outside_ask m l rs r k p ≡ Some st.step.ask → MayHold m l p found k
  may_hold (kinds.Hold t d) e =
      let h = hold_asked m l rs r t d p st.step.ask e in
      let at = free_descriptor m l st.beside.epochs s st.whole.slots r d h.few h.free in
      (st.whole.slots.listed.free_descriptors r d h.few ∙ (ap (in_free r) at ∙ self r), h.unpublished)
  may_hold _ e = tt

  outside_count : (k : EventKind) → outside_ask m l rs r k p ≡ Some st.step.ask → descriptors_of (after_by m l k p None found) ≡ descriptors_of p
  outside_count (kinds.Join worker) e = refl
  outside_count k e = (outside_keeps m l p found k refl (may_hold k e)).count

  own_count : (o : Option RunState) → ask_by m l rs r kind p o ≡ Some st.step.ask → descriptors_of (after_by m l kind p o found) ≡ descriptors_of p
  own_count None e = outside_count kind e
  own_count (Some q) e = (inside_keeps m l p q found kind).count

  counts_kept : AsAtFirst m l s → AsAtFirst m l s'
  counts_kept old i = ap (λ (y : Sight). descriptors_of (y.part i)) st.step.next
      ∙ (each_part m l s r st.step.ask (λ k p'. descriptors_of p' ≡ descriptors_of (s.part k)) (λ k p' blocks board records gone h. h) kind
      (joins m l rs kind r p st.step.ask st.step.asked) (own_count p.run (unless_gone _ p.gone _ st.step.ask st.step.asked).1) (λ k ne. refl) i
      ∙ old i)

pub falling_length : (from n : ℕ) → length (falling from n) ≡ n
falling_length from zero = refl
falling_length from (suc n) = ap suc (falling_length from n)

-- the first part of a worker, and the keeper's
pub first_worker : (m : Meaning) (l : Layout) (r : ℕ) → r < l.runners → first_part_of m l r ≡ worker_part m l r
first_worker m l r low =
    ap (λ b. cond b (keeper_part m l) (cond (nat_lt r l.runners) (worker_part m l r) (first_part [] [] []))) (below r l.runners low)
    ∙ ap (λ b. cond b (worker_part m l r) (first_part [] [] [])) (less_tested r l.runners low)
  where
    below : (r n : ℕ) → r < n → (r == n) ≡ false
    below r n low = grind (arith, nat_tests)

pub first_keeper : (m : Meaning) (l : Layout) → first_part_of m l l.runners ≡ keeper_part m l
first_keeper m l = ap (λ b. cond b (keeper_part m l) (cond (nat_lt l.runners l.runners) (worker_part m l l.runners) (first_part [] [] []))) (self_tested l.runners)

pub no_more : (a b : ℕ) → a ≡ b → a + (0 + 0) ≡ b
no_more a b e = omega (arith, e)

reached_as : (m : Meaning) → Laws m → (l : Layout) → IsWithinLimits l → (rs : List Request) → AreAllowed rs → (w : World)
    → Reached m l rs w → AsAtFirst m l (sight m l rs w)
reached_as m laws l limits rs allowed w reached =
    reached_keeps m laws l limits rs allowed (AsAtFirst m l)
    (λ v start r. ap (λ (p : PartState). descriptors_of p) (first_parts m l v.parts start.parts r))
    (λ s s' r kind st old. counts_kept m l rs s s' r kind st old) w reached

pub reached_counts : (m : Meaning) → Laws m → (l : Layout) → IsWithinLimits l → (rs : List Request) → AreAllowed rs → (w : World)
    → Reached m l rs w → DescriptorsAreKept l (sight m l rs w)
reached_counts m laws l limits rs allowed w reached = record {
  worker = λ r low. reached_as m laws l limits rs allowed w reached r
      ∙ (ap descriptors_of (first_worker m l r low) ∙ no_more _ l.sections (falling_length (l.sections * r) l.sections));
  keeper = reached_as m laws l limits rs allowed w reached l.runners
      ∙ (ap descriptors_of (first_keeper m l) ∙ no_more _ l.runners (falling_length (l.sections * l.runners) l.runners));
}
