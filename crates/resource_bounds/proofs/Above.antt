-- What a step leaves of its runner's node slots, and that a give which left too few stays on record.
use Rattle.std.specs.Prelude.{Bool, true}
use Rattle.std.proofs.Common.{◌≡◌, ℕ, ◌≤◌, List, refl, sym, ap, ◌∙◌, ⊎_elim, arith, Option, Some, None}
use Rattle.std.proofs.lemmas.Bool.{cases_eq}
use Rattle.machine_states.specs.map_history.specs.declared.op.Request.{Request}
use Rattle.machine_states.specs.table_words.specs.declared.layout.Layout.{Layout}
use Rattle.machine_states.specs.table_words.specs.declared.spot.Spot.{Spot}
use Rattle.machine_states.specs.table_words.specs.declared.access.Access.{Access}
use Rattle.machine_states.specs.table_words.specs.Seen.{upd}
use Rattle.machine_states.specs.structure_laws.specs.Meaning.{Meaning}
use Rattle.machine_states.specs.runner_parts.specs.declared.event.EventKind.{EventKind}
use Rattle.machine_states.specs.runner_parts.specs.declared.event.EventKind.TheVariants as kinds
use Rattle.machine_states.specs.runner_parts.specs.State.{RunState, PartState}
use Rattle.machine_states.specs.runner_steps.specs.After.{knows_also, leaves}
use Rattle.machine_states.specs.runner_steps.specs.Asks.{ask_by, outside_ask}
use Rattle.machine_states.specs.runner_steps.specs.After.{after_by, after}
use Rattle.machine_states.specs.Sight.{Sight, sight_after, Steps}
use Rattle.machine_states.proofs.Sights.{unless_gone, Joins, joins}
use Rattle.machine_states.proofs.Updates.{upd_here, upd_else, upd_split}
use Rattle.machine_epochs.proofs.OutsideAsked.{hold_asked}
use Rattle.reached_histories.specs.machine_facts.specs.machine_invariant.specs.Slots.{times_among}
use Rattle.resource_bounds.proofs.Entries.{Leaves, inside_leaves, MayGo, outside_leaves}

module _ (m : Meaning) (l : Layout) (rs : List Request) (s s' : Sight) (r : ℕ) (kind : EventKind) (st : Steps m l rs s s' r kind)
    (once : (t : ℕ) → times_among (s.part r).nodes t ≤ 1) where
  abbrev p : PartState
  p = s.part r

  abbrev x : Spot × Access
  x = st.ask

  abbrev found : ℕ
  found = s.word x.0

  may : (k : EventKind) → outside_ask m l rs r k p ≡ Some x → MayGo m l p once found k
  may (kinds.Hold t d) h = (hold_asked m l rs r t d p x h).unpublished
  may _ h = tt

  pub leaves_own : Leaves l p (after_by m l kind p p.run found) kind found
  leaves_own = by p.run refl (unless_gone _ p.gone _ x st.asked).1
    where
      by : (o : Option RunState) → p.run ≡ o → ask_by m l rs r kind p o ≡ Some x → Leaves l p (after_by m l kind p o found) kind found
      by None is h = outside_leaves m l p once found kind (may kind h)
      by (Some q) is h = inside_leaves m l p once found q is kind

  abbrev above : ℕ → Bool
  above i = (s.part i).records.gave_above

  -- whether a runner gave away too many is told by its own steps alone
  above_at : (k : EventKind) → Joins l k r → (i : ℕ) → ((sight_after m l s r k x).part i).records.gave_above ≡ upd above r (after_by m l k p p.run found).records.gave_above i
  above_at (kinds.Join worker) joins i =
      let own = (after_by m l (kinds.Join worker) p p.run found).records.gave_above in
      let keeper = knows_also (after m l r (kinds.Join worker) x.0 x.1 p found) (s.part worker) in
      let runner = joins.0 in let low = joins.1 in
      upd_split (upd s.part r keeper) worker (leaves (s.part worker)) (λ k q. q.records.gave_above ≡ upd above r own k) (sym (upd_else above r own worker (λ same. omega (arith, runner, low, same))))
      (λ k ne. upd_split s.part r keeper (λ j q. q.records.gave_above ≡ upd above r own j) (sym (upd_here above r own)) (λ j ne'. sym (upd_else above r own j ne')) k) i
  above_at k joins i =
      let own = (after_by m l k p p.run found).records.gave_above in
      upd_split s.part r (after m l r k x.0 x.1 p found) (λ j q. q.records.gave_above ≡ upd above r own j) (sym (upd_here above r own)) (λ j ne. sym (upd_else above r own j ne)) i

  above_is : (i : ℕ) → (s'.part i).records.gave_above ≡ upd above r (after_by m l kind p p.run found).records.gave_above i
  above_is i = ap (λ (y : Sight). (y.part i).records.gave_above) st.next ∙ above_at kind (joins m l rs kind r p x st.asked) i

  pub above_own : (s'.part r).records.gave_above ≡ true → (after_by m l kind p p.run found).records.gave_above ≡ true
  above_own is = sym (upd_here above r _) ∙ (sym (above_is r) ∙ is)

  -- where no give left too few, none did before
  pub above_before : (i : ℕ) → (s'.part i).records.gave_above ≡ true → above i ≡ true
  above_before i is = ⊎_elim
      (λ same. ap above same ∙ leaves_own.above (above_own (ap (λ k. (s'.part k).records.gave_above) (sym same) ∙ is)))
      (λ ne. sym (upd_else above r _ i ne) ∙ (sym (above_is i) ∙ is))
      (cases_eq i r)
