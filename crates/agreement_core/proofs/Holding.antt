-- A section whose first run takes a nested lock.
use Rattle.std.proofs.Common.{◌≡◌, ◌≢◌, ℕ, ◌<◌, ◌≤◌, true, false, sym, ap, ◌∙◌, subst, inr, ⊎_elim, arith}
use Rattle.std.proofs.lemmas.Bool.{cases_eq}
use Rattle.section_lines.specs.structure_laws.specs.body_terms.specs.Update.{upd}
use Rattle.section_lines.specs.structure_laws.specs.body_terms.specs.Line.{is_event, is_commit}
use Rattle.section_lines.specs.structure_laws.specs.body_terms.specs.Word.{value_of, version_of, held_word}
use Rattle.section_lines.specs.structure_laws.specs.body_terms.specs.declared.micro.Micro.TheVariants as micros
use Rattle.section_lines.specs.Line.{phase, is_clock_raise}
use Rattle.agreement_core.specs.State.{CellRules, Shared, Section}
use Rattle.agreement_core.specs.Checks.{is_stop, is_stamp_exchange, is_reply_exchange}
use Rattle.agreement_core.specs.Events.{IsPublishable}
use Rattle.agreement_core.specs.Sections.{LocksAreSound, SectionIsSound, HoldsWith}
use Rattle.agreement_core.proofs.Frame.{LeavesLoaded, undone, not_both, cells_frame, request_frame}
use Rattle.agreement_core.proofs.Going.{goes, at_edge, log_goes, cells_goes, holds_goes, request_goes}
use Rattle.agreement_core.proofs.Committing.{upd_here, upd_else}
use Rattle.agreement_core.proofs.Storing.{puts, puts_words, puts_rises}
use Rattle.agreement_core.proofs.Words.{past_later, version_held}
use Rattle.agreement_core.proofs.Lines.{event_goes, hold_lock, hold_inner, hold_once, hold_of_outcome, commit_unlocked}

-- a change of a lock leaves the loaded cells
pub puts_lock : (c : CellRules) (d : ℕ) (s : Section) (x : Shared) (place word : ℕ) → IsPublishable c d s.lock s.word s.code s.slot
    → c.is_lock place ≡ true → LeavesLoaded s x.cells (puts x place word).cells
puts_lock c d s x place word p lock un place' come = upd_else x.cells place place' word
    (λ e. not_both _ lock (ap c.is_lock (sym e) ∙ commit_unlocked c s.lock s.code s.slot p.line come.0 place' come.1 come.3))

pub same_hold : (p' w' p w : ℕ) → micros.NestedHold p' w' ≡ micros.NestedHold p w → (p' ≡ p) × (w' ≡ w)
same_hold p' w' p w e = (grind arith, grind arith)

module _ (c : CellRules) (x : Shared) (d : ℕ) (s : Section) (place w : ℕ) (p : IsPublishable c d s.lock s.word s.code s.slot)
    (at : s.code s.edge ≡ micros.NestedHold place w) (old : SectionIsSound c x d s) (finds : x.cells place ≡ w) where
  abbrev new : ℕ
  new = held_word d w

  pub hold_goes : is_stop c d s.log (s.code s.edge) ≡ false
  hold_goes = event_goes c d s.log _ (ap is_event at)

  pub hold_undone : s.done ≡ 0
  hold_undone = undone c d s old.in_log hold_goes

  is_lock : c.is_lock place ≡ true
  is_lock = hold_lock c s.lock s.code s.slot p.line s.edge place w at

  pub hold_rises : version_of (x.cells place) < version_of new
  hold_rises = let a : version_of (x.cells place) ≡ version_of w = ap version_of finds in let b = version_held d w p.link in grind arith

  -- an outcome at the edge or below it is of another lock
  pub other_outcome : (i p' k : ℕ) → i ≤ s.edge → s.code i ≡ micros.OutcomeCommit p' k → p' ≢ place
  other_outcome i p' k le e q =
      let j = hold_of_outcome c s.lock s.code s.slot p.line i p' k e in
      let same = hold_once c s.lock s.code s.slot p.line j.0 s.edge place j.1 w (j.3 ∙ ap (λ n. micros.NestedHold n j.1) q) at in
      let far = j.2 in
      omega arith

  else : (i p' k : ℕ) → i ≤ s.edge → s.code i ≡ micros.OutcomeCommit p' k → upd x.cells place new p' ≡ x.cells p'
  else i p' k le e = upd_else x.cells place p' new (other_outcome i p' k le e)

  no_commit : is_commit (s.code s.edge) ≡ false
  no_commit = ap is_commit at

  no_outcome : (i p' k : ℕ) → i ≡ s.edge → s.code i ≡ micros.OutcomeCommit p' k → ⊥
  no_outcome i p' k q e = not_both _ (ap is_commit (ap s.code (sym q) ∙ e)) no_commit

  locks_hold : LocksAreSound c (puts x place new) d (goes s)
  locks_hold = record {
    outer_held = λ un. upd_else x.cells place s.lock new (λ q. hold_inner c s.lock s.code s.slot p.line s.edge place w at (sym q))
        ∙ old.in_locks.outer_held un;
    outer_past = past_later _ _ _ old.in_locks.outer_past (puts_rises x place new hold_rises s.lock);
    nested_past = λ i p' free lt e. ⊎_elim
        (λ l. past_later _ _ _ (old.in_locks.nested_past i p' free l e) (puts_rises x place new hold_rises p'))
        (λ q. let f = same_hold p' free place w (sym e ∙ ap s.code q ∙ at) in
        let a : upd x.cells place new p' ≡ new = ap (upd x.cells place new) f.0 ∙ upd_here x.cells place new in
        subst (λ n. version_of free < version_of n) (sym a)
        (subst (λ n. version_of n < version_of new) (sym f.1) (subst (λ n. version_of n < version_of new) finds hold_rises)))
        (at_edge i s.edge lt);
    nested_read = λ i p' k lt e. ⊎_elim (λ l. old.in_locks.nested_read i p' k l e)
        (λ q. absurd (not_both _ (ap is_commit (ap s.code (sym q) ∙ e)) no_commit)) (at_edge i s.edge lt);
    outcome_read = λ i p' k lt e. ⊎_elim (λ l. old.in_locks.outcome_read i p' k l e)
        (λ q. absurd (no_outcome i p' k q e)) (at_edge i s.edge lt);
    outcome_held = λ un i p' k lt e v. ⊎_elim (λ l. else i p' k (omega arith) e ∙ old.in_locks.outcome_held un i p' k l e v)
        (λ q. absurd (no_outcome i p' k q e)) (at_edge i s.edge lt);
    outcome_named = λ i p' k lt e v. ⊎_elim
        (λ l. let same = else i p' k (omega arith) e in old.in_locks.outcome_named i p' k l e (ap value_of (sym same) ∙ v) ∙ sym same)
        (λ q. absurd (no_outcome i p' k q e)) (at_edge i s.edge lt);
    held = λ p' lock v. ⊎_elim
        (λ q. inr (
          s.edge,
          w,
          omega arith,
          at ∙ ap (λ n. micros.NestedHold n w) (sym q),
          ap (upd x.cells place new) q
              ∙ upd_here x.cells place new,
        ))
        (λ ne. let same = upd_else x.cells place p' new ne in
        subst (HoldsWith d (goes s) p') (sym same) (holds_goes d s p' (x.cells p')
        (old.in_locks.held p' lock (ap value_of (sym same) ∙ v))))
        (cases_eq p' place);
  }

  pub section_hold : SectionIsSound c (puts x place new) d (goes s)
  section_hold =
      let x' = puts x place new in
      let rises = puts_rises x place new hold_rises in
      record {
        in_log = log_goes c d s hold_goes no_commit (p.line.counted.slot_same s.edge no_commit) old.in_log;
        in_cells = cells_goes x' s no_commit (λ p' k v e. absurd (let a : 1 ≡ 4 = ap phase (sym at ∙ e) in omega arith))
            (cells_frame c d s p x x' rises (puts_words x place new) (puts_lock c d s x place new p is_lock) old.in_cells);
        in_locks = locks_hold;
        in_request = request_goes x' s (λ e. absurd (not_both _ e (ap is_stamp_exchange at)))
            (λ e. absurd (not_both _ e (ap is_clock_raise at))) (λ e. absurd (not_both _ e (ap is_reply_exchange at)))
            (request_frame c d s p x x' rises (puts_words x place new) old.in_request);
      }
