-- What follows from the invariant: agreement, cells and locks.
use Rattle.std.proofs.Common.{◌≡◌, ◌≢◌, ℕ, suc, ◌<◌, ◌≤◌, true, refl, sym, ap, ◌∙◌, subst, inl, inr, ⊎_elim, arith}
use Rattle.std.proofs.lemmas.Bool.{cases_lt}
use Rattle.std.specs.Prelude.{◌⊎◌}
use Rattle.section_lines.specs.structure_laws.specs.body_terms.specs.Word.{value_of, version_of, held_word}
use Rattle.agreement_core.specs.State.{CellRules, AgreementState, section_of}
use Rattle.agreement_core.specs.Checks.{stored_word}
use Rattle.agreement_core.specs.Sound.{IsOf, IsSound}
use Rattle.agreement_core.specs.Trails.{RunsAgree, HoldsNothing}
use Rattle.agreement_core.specs.Rising.{IsNotFuture}
use Rattle.agreement_core.specs.Standing.{CellsStand, LocksStand, TakesStand, IsDoneLate}
use Rattle.agreement_core.proofs.Words.{value_held}
use Rattle.agreement_core.proofs.Holding.{same_hold}
use Rattle.agreement_core.proofs.Lines.{version_stored, hold_lock, hold_once, hold_inner}

pub agree : (c : CellRules) (w : AgreementState) → IsSound c w → RunsAgree w
agree c w old = record {
  logs = λ d u. let o = (old.sections d u).section.in_log in record { full = o.full; empty = o.empty };
  trails = λ r is.
      let o = (old.runs r is).in_trail in
      let s = section_of w r in
      let most = (old.sections _ (old.running_used r is)).published.line.counted.slot_rises ((w.run r).at) s.edge o.behind in
      record { short = subst (λ n. n ≤ s.slot s.edge) (sym o.counted) most; agreed = o.agreed };
  whole = old.finished.whole;
  equal = old.finished.equal;
}

pub not_future : (c : CellRules) (w : AgreementState) → IsSound c w → IsNotFuture w
not_future c w old p word h = ⊎_elim (λ e. subst (λ n. version_of n ≤ version_of (w.shared.cells p)) e (omega arith))
    (λ lt. below _ _ lt) (old.versions.past p word h)
  where
    below : (a b : ℕ) → a < b → a ≤ b
    below a b lt = omega arith

next_or_later : (m n : ℕ) → m < n → (n ≡ suc m) ⊎ (suc m < n)
next_or_later m n lt = ⊎_elim inr (λ le. inl (omega arith)) (cases_lt (suc m) n)

pub cells_stand : (c : CellRules) (w : AgreementState) → IsSound c w → (d : ℕ) → w.used d ≡ true → CellsStand w d
cells_stand c w old d u =
    let o = old.sections d u in
    let s = w.section d in
    let x = o.section.in_cells in
    record {
      loaded = λ is_open p k h none. x.loaded is_open.undone h.at p k h.passed h.step
          (λ j k' v lt e. none (s.log k') (stored_word s.log k' v)
          (record { at = j; log = k'; value = v; passed = lt; step = e; old = refl; new = refl }));
      stored = λ is_open p agreed word h. x.stored is_open.undone h.at p h.log h.value h.passed h.step ∙ sym h.new;
      lasting = λ p agreed word h.
          let up = version_stored c s.lock s.code s.slot o.published.line o.published.whole h.at p h.log h.value s.log h.step in
          ⊎_elim (λ e. inl (x.lasting h.at p h.log h.value h.passed h.step e ∙ sym h.new))
          (λ lt. inr (subst (λ n. n < version_of (w.shared.cells p)) (sym (ap version_of h.new ∙ up)) lt))
          (next_or_later _ _ (x.left h.at p h.log h.value h.passed h.step));
    }

pub locks_stand : (c : CellRules) (w : AgreementState) → IsSound c w → LocksStand c w
locks_stand c w old = record {
  published = λ p d lock v. old.live_used d (old.named p d lock v);
  live = old.named;
  held = λ p d lock v. (old.sections d (old.live_used d (old.named p d lock v))).section.in_locks.held p lock v;
  outer = λ d is_open. (old.sections d is_open.used).section.in_locks.outer_held is_open.undone;
}

pub takes_stand : (c : CellRules) (w : AgreementState) → IsSound c w → (d : ℕ) → w.used d ≡ true → TakesStand c w d
takes_stand c w old d u =
    let o = old.sections d u in
    let s = w.section d in
    let x = o.section.in_locks in
    record {
      past = λ p free outcome h. x.nested_past h.at p free (let lt = h.passed in omega arith) h.hold;
      held = λ is_open p free outcome h e.
          let names = ap value_of (sym h.agreed ∙ e) ∙ value_held d free o.published.link in
          x.outcome_held is_open.undone (suc (suc h.at)) p h.log h.passed h.commit names ∙ sym h.agreed;
      refused = λ p free outcome h ne v.
          let lock = hold_lock c s.lock s.code s.slot o.published.line h.at p free h.hold in
          let named : outcome ≡ w.shared.cells p = h.agreed ∙ x.outcome_named (suc (suc h.at)) p h.log h.passed h.commit v in
          ⊎_elim (λ outer. hold_inner c s.lock s.code s.slot o.published.line h.at p free h.hold outer.0)
          (λ n. let same = hold_once c s.lock s.code s.slot o.published.line n.0 h.at p n.1 free n.3 h.hold in
          let free_same = (same_hold p n.1 p free (sym n.3 ∙ ap s.code same ∙ h.hold)).1 in
          ne (named ∙ n.4 ∙ ap (held_word d) free_same))
          (x.held p lock v);
    }

pub done_late : (c : CellRules) (w : AgreementState) → IsSound c w → (d : ℕ) → w.used d ≡ true → (w.section d).done ≢ 0 → IsDoneLate c w d
done_late c w old d u done =
    let o = old.sections d u in
    record {
      stops = o.section.in_log.stops done;
      stored = λ p agreed word h.
          subst (λ n. version_of n < version_of (w.shared.cells p)) (sym h.old)
          (o.section.in_cells.left h.at p h.log h.value h.passed h.step);
    }

pub holds_nothing : (c : CellRules) (w : AgreementState) → IsSound c w → (r i d : ℕ) → i < w.finishes r → w.used d ≡ true
    → IsOf (w.finished r i) (w.section d) → HoldsNothing c w d
holds_nothing c w old r i d lt used is =
    let over = old.finished.ended r i d lt used is in
    let o = old.sections d used in
    record { done = o.over_done over; unnamed = o.over_unnamed over }
