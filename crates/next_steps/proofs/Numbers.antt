-- In every reached state the numbers that the runners keep are the table's.
use Rattle.std.specs.Prelude.{◌⊎◌, ◌==◌, ◌||◌, ◌*◌, cond, nat_lt, Bool, true, false}
use Rattle.std.proofs.Common.{◌≡◌, ℕ, zero, suc, ◌+◌, ◌<◌, ◌≤◌, List, [], mul-suc, mul-le-mul_left, inl, inr, ⊎_elim, sym, refl, ap, ◌∙◌, subst, arith, Option, Some, None}
use Rattle.std.proofs.lemmas.Bool.Decides.{nat_tests}
use Rattle.machine_states.specs.map_history.specs.declared.op.Request.{Request}
use Rattle.machine_states.specs.table_words.specs.declared.layout.Layout.{Layout}
use Rattle.machine_states.specs.table_words.specs.Limits.{IsWithinLimits}
use Rattle.machine_states.specs.table_words.specs.Places.{slot_count, descriptor_count}
use Rattle.machine_states.specs.structure_laws.specs.Meaning.{Meaning}
use Rattle.machine_states.specs.structure_laws.specs.Laws.{Laws}
use Rattle.machine_states.specs.runner_parts.specs.declared.event.EventKind.{EventKind}
use Rattle.machine_states.specs.epoch_core.specs.declared.stage.Stage.TheVariants.{Entered}
use Rattle.machine_states.specs.runner_parts.specs.State.{RunState, PartState}
use Rattle.machine_states.specs.runner_parts.specs.Tests.{has, has_pair}
use Rattle.machine_states.specs.runner_steps.specs.Asks.{ask_by}
use Rattle.machine_states.specs.runner_steps.specs.After.{after_by}
use Rattle.machine_states.specs.World.{World}
use Rattle.machine_states.specs.First.{IsFirst, falling, first_part, keeper_part, worker_part}
use Rattle.machine_states.specs.Reached.{Reached}
use Rattle.machine_states.specs.Sight.{Sight, sight}
use Rattle.machine_states.proofs.FirstSights.{first_parts}
use Rattle.machine_states.proofs.Sights.{some_none, unless_gone, joins}
use Rattle.machine_invariant.specs.machine_blocks.specs.machine_guards.specs.machine_agreement.specs.machine_epochs.specs.Entries.{counts_of}
use Rattle.machine_invariant.specs.machine_blocks.specs.machine_guards.specs.machine_agreement.specs.machine_epochs.proofs.FirstJoin as FirstJoin
use Rattle.machine_invariant.specs.machine_blocks.specs.machine_guards.specs.machine_agreement.specs.machine_scenes.specs.Shown.{scene_of}
use Rattle.machine_invariant.specs.machine_blocks.specs.machine_guards.specs.machine_agreement.specs.machine_scenes.proofs.Links.{gives}
use Rattle.machine_invariant.specs.After.{AreAllowed}
use Rattle.machine_invariant.specs.Whole.{Beside, states_of, IsWhole}
use Rattle.machine_invariant.proofs.After.{reached_whole}
use Rattle.machine_invariant.proofs.Asked.{entered_at}
use Rattle.next_steps.specs.Numbers.{PartFits, NumbersFit}
use Rattle.machine_invariant.proofs.Keeping.{IsStep, reached_keeps}
use Rattle.next_steps.proofs.Parts.{each_part}
use Rattle.next_steps.proofs.Fits.{safe_within}
use Rattle.next_steps.proofs.PartNumbers.{inside_fits, outside_fits}
use Rattle.machine_invariant.proofs.Basics.{not_both}

abbrev PartsFit : Meaning → Layout → Sight → Type 0
PartsFit m l s = (r : ℕ) → PartFits m l (s.part r)

module _ (m : Meaning) (l : Layout) (rs : List Request) (s s' : Sight) (r : ℕ) (kind : EventKind) (st : IsStep m l rs s s' r kind) (old : PartsFit m l s) where
  own_fits : (o : Option RunState) → ask_by m l rs r kind (s.part r) o ≡ Some st.step.ask
      → PartFits m l (after_by m l kind (s.part r) o (s.word st.step.ask.0))
  own_fits None e = outside_fits m l (s.part r) (old r) (s.word st.step.ask.0) rs r kind st.step.ask st.step.has_word e
  own_fits (Some q) e = inside_fits m l (s.part r) (old r) q (s.word st.step.ask.0) rs st.step.ask st.step.has_word r kind e

  parts_kept : PartsFit m l s'
  parts_kept i = subst (λ (y : Sight). PartFits m l (y.part i)) (sym st.step.next)
      (each_part m l s r st.step.ask (λ k p. PartFits m l p)
      (λ k p blocks board records gone h. record { free = h.free; limbo = h.limbo; published = h.published; read = h.read; walked = h.walked })
      kind (joins m l rs kind r (s.part r) st.step.ask st.step.asked)
      (own_fits (s.part r).run (unless_gone _ (s.part r).gone _ st.step.ask st.step.asked).1)
      (λ k ne. old k) i)

-- at first each runner has descriptors of the table, and has read nothing
falling_below : (from n d : ℕ) → has (falling from n) d ≡ true → d < from + n
falling_below from zero d e = absurd (let z = e in cc)
falling_below from (suc n) d e = by (falling_below from n d) e
  where
    first : (a d : ℕ) (b : Bool) → ((a == d) || b) ≡ true → (d ≡ a) ⊎ (b ≡ true)
    first a d true e = inr refl
    first a d false e = inl (same a d e)
      where
        same : (a d : ℕ) → ((a == d) || false) ≡ true → d ≡ a
        same a d e = grind (arith, nat_tests)

    by : (has (falling from n) d ≡ true → d < from + n) → ((from + n == d) || has (falling from n) d) ≡ true → d < from + suc n
    by rest e = ⊎_elim (λ here. omega arith) (λ later. let low = rest later in omega arith) (first (from + n) d (has (falling from n) d) e)

row_low : (sections r runners d : ℕ) → r < runners → d < sections * r + sections → d < sections * runners + runners
row_low sections r runners d low below =
    let more = mul-le-mul_left sections (let le : r + 1 ≤ runners = omega arith in le) in
    let one = mul-suc sections r in
    let same : sections * (r + 1) ≡ sections * suc r = ap (λ k. sections * k) (let e : r + 1 ≡ suc r = omega arith in e) in omega arith

module _ (m : Meaning) (l : Layout) (rs : List Request) (w : World) (start : IsFirst m l rs w) where
  first_free : (r d : ℕ) → has ((sight m l rs w).part r).descriptors.free d ≡ true → d < descriptor_count l
  first_free r d e = by (r == l.runners) (nat_lt r l.runners) refl
      (ap (λ (p : PartState). has p.descriptors.free d) (sym (first_parts m l w.parts start.parts r)) ∙ e)
    where
      less : (a b : ℕ) → nat_lt a b ≡ true → a < b
      less a b e = grind (arith, nat_tests)

      by : (b b' : Bool) → nat_lt r l.runners ≡ b'
          → has (cond b (keeper_part m l) (cond b' (worker_part m l r) (first_part [] [] []))).descriptors.free d ≡ true → d < descriptor_count l
      by true b' low has_it = falling_below (l.sections * l.runners) l.runners d has_it
      by false true low has_it = row_low l.sections r l.runners d (less r l.runners low) (falling_below (l.sections * r) l.sections d has_it)
      by false false low has_it = absurd (let z = has_it in cc)

  first_of : (Q : PartState → Type 0) → Q (keeper_part m l) → ((k : ℕ) → Q (worker_part m l k)) → Q (first_part [] [] []) → (r : ℕ) → Q ((sight m l rs w).part r)
  first_of Q keeper worker nobody r = subst Q (sym (first_parts m l w.parts start.parts r)) (FirstJoin.each_part m l Q keeper worker nobody r)

  first_parts_fit : PartsFit m l (sight m l rs w)
  first_parts_fit r = record {
    free = first_free r;
    limbo = λ d e. absurd (let none = first_of (λ p. has p.descriptors.limbo d ≡ false) refl (λ k. refl) refl r in not_both e none);
    published = λ x e. some_none x (sym (first_of (λ p. p.published ≡ None) refl (λ k. refl) refl r) ∙ e);
    read = λ place word e. not_both e (first_of (λ p. has_pair p.reads.cells place word ≡ false) refl (λ k. refl) refl r);
    walked = λ place word e. not_both e (first_of (λ p. has_pair p.reads.walk place word ≡ false) refl (λ k. refl) refl r);
  }

module _ (m : Meaning) (laws : Laws m) (l : Layout) (limits : IsWithinLimits l) (g : Beside) (s : Sight) (whole : IsWhole m l g s) where
  -- what an entered runner's readings reach was live or not retired long ago
  reached_fits : (r entry t : ℕ) → (s.part r).stage ≡ Entered entry → m.reaches (s.part r).reads.walk t ≡ true → t < slot_count l m.fixed_slots
  reached_fits r entry t at reaches =
      let scene = scene_of m (counts_of m l) (states_of g s) in
      let walk = (s.part r).reads.walk in
      let reader : scene.reader r ≡ Some walk = ap (λ (b : Bool). cond b (Some walk) None) (entered_at m l g.epochs s whole.slots r entry at) in
      let by = (gives m laws l limits scene whole.kept.lawful).reach walk t (inl (r, reader)) reaches in
      safe_within m laws l limits g s whole t ((whole.kept.lawful.sound.readers r walk reader).safe by.0 by.1 by.2 t by.3 by.4 by.5)

pub reached_numbers : (m : Meaning) → Laws m → (l : Layout) → IsWithinLimits l → (rs : List Request) → AreAllowed rs → (w : World)
    → Reached m l rs w → NumbersFit m l (sight m l rs w)
reached_numbers m laws l limits rs allowed w reached =
    let whole = reached_whole m laws l rs reached.events w limits allowed reached.after in record {
      parts = reached_keeps m laws l limits rs allowed (PartsFit m l) (first_parts_fit m l rs)
          (λ s s' r kind st old. parts_kept m l rs s s' r kind st old) w reached;
      guarded = λ r d is. (whole.1.slots.tied r).numbered d is;
      reached = reached_fits m laws l limits whole.0 (sight m l rs w) whole.1;
    }
