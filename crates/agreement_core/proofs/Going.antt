-- A section whose first run goes on behind a step that commits nothing and changes no cell.
use Rattle.std.proofs.Common.{◌≡◌, ◌≢◌, ℕ, suc, ◌/◌, ◌<◌, ◌≤◌, true, false, sym, ap, ◌∙◌, subst, inl, inr, ⊎_elim, arith}
use Rattle.std.specs.Prelude.{◌⊎◌}
use Rattle.section_lines.specs.structure_laws.specs.body_terms.specs.Line.{is_commit, is_check, is_end}
use Rattle.section_lines.specs.structure_laws.specs.body_terms.specs.Word.{version_of}
use Rattle.section_lines.specs.structure_laws.specs.body_terms.specs.declared.micro.Source.{Source}
use Rattle.section_lines.specs.structure_laws.specs.body_terms.specs.declared.micro.Micro.{Micro}
use Rattle.section_lines.specs.structure_laws.specs.body_terms.specs.declared.micro.Micro.TheVariants as micros
use Rattle.section_lines.specs.Line.{is_clock_raise}
use Rattle.agreement_core.specs.State.{CellRules, Shared, Section}
use Rattle.agreement_core.specs.Checks.{passes, is_stop, is_stamp_exchange, is_reply_exchange}
use Rattle.agreement_core.specs.Sections.{LogIsSound, CellsAreSound, LocksAreSound, RequestIsSound, HoldsWith}
use Rattle.agreement_core.proofs.Frame.{undone, not_both}

-- the edge moves by one
abbrev pub goes : Section → Section
goes s = record s { edge = suc s.edge }

pub at_edge : (i n : ℕ) → i < suc n → (i < n) ⊎ (i ≡ n)
at_edge i n lt = grind arith

check_passes : (c : CellRules) (d : ℕ) (log : ℕ → ℕ) (m : Micro) → is_stop c d log m ≡ false → is_check m ≡ true → passes c d log m ≡ true
check_passes c d log m goes check = grind arith

stop_at_end : (c : CellRules) (d : ℕ) (log : ℕ → ℕ) (m : Micro) → is_stop c d log m ≡ false → is_end m ≡ false
stop_at_end c d log m goes = grind arith

pub log_goes : (c : CellRules) (d : ℕ) (s : Section) → is_stop c d s.log (s.code s.edge) ≡ false → is_commit (s.code s.edge) ≡ false
    → s.slot (suc s.edge) ≡ s.slot s.edge → LogIsSound c d s → LogIsSound c d (goes s)
log_goes c d s going no_commit same old = record {
  full = λ k lt. old.full k (subst (λ n. k < n) same lt);
  empty = λ k le. old.empty k (subst (λ n. n ≤ k) same le);
  passed = λ i lt e. ⊎_elim (λ l. old.passed i l e) (λ q. let h : is_check (s.code s.edge) ≡ true = ap (λ n. is_check (s.code n)) (sym q)
      ∙ e in ap (λ n. passes c d s.log (s.code n)) q ∙ check_passes c d s.log _ going h) (at_edge i s.edge lt);
  within = λ i lt. ⊎_elim (λ l. old.within i l) (λ q. ap (λ n. is_end (s.code n)) q ∙ stop_at_end c d s.log _ going) (at_edge i s.edge lt);
  retired = λ i slot k lt e. ⊎_elim (λ l. old.retired i slot k l e)
      (λ q. absurd (not_both _ (ap is_commit (ap s.code (sym q) ∙ e)) no_commit)) (at_edge i s.edge lt);
  stops = λ ne. absurd (ne (undone c d s old going));
}

pub cells_goes : (x : Shared) (s : Section) → is_commit (s.code s.edge) ≡ false
    → ((p k : ℕ) (v : Source) → s.code s.edge ≢ micros.ExchangeCell p k v) → CellsAreSound x s → CellsAreSound x (goes s)
cells_goes x s no_commit no_exchange old = record {
  loaded = λ un i p k lt e none. ⊎_elim (λ l. old.loaded un i p k l e (λ j k' v l'. none j k' v (omega arith)))
      (λ q. absurd (not_both _ (ap is_commit (ap s.code (sym q) ∙ e)) no_commit)) (at_edge i s.edge lt);
  stored = λ un i p k v lt e. ⊎_elim (λ l. old.stored un i p k v l e)
      (λ q. absurd (no_exchange p k v (ap s.code (sym q) ∙ e))) (at_edge i s.edge lt);
  left = λ i p k v lt e. ⊎_elim (λ l. old.left i p k v l e) (λ q. absurd (no_exchange p k v (ap s.code (sym q) ∙ e))) (at_edge i s.edge lt);
  lasting = λ i p k v lt e is. ⊎_elim (λ l. old.lasting i p k v l e is)
      (λ q. absurd (no_exchange p k v (ap s.code (sym q) ∙ e))) (at_edge i s.edge lt);
  read = λ i p k lt e. ⊎_elim (λ l. old.read i p k l e)
      (λ q. absurd (not_both _ (ap is_commit (ap s.code (sym q) ∙ e)) no_commit)) (at_edge i s.edge lt);
}

-- what a section holds it holds later
pub holds_goes : (d : ℕ) (s : Section) (p word : ℕ) → HoldsWith d s p word → HoldsWith d (goes s) p word
holds_goes d s p word h = ⊎_elim inl (λ n. inr (n.0, n.1, omega arith, n.3, n.4)) h

pub locks_goes : (c : CellRules) (x : Shared) (d : ℕ) (s : Section) → is_commit (s.code s.edge) ≡ false
    → ((p w : ℕ) → s.code s.edge ≡ micros.NestedHold p w → version_of w < version_of (x.cells p)) → LocksAreSound c x d s
    → LocksAreSound c x d (goes s)
locks_goes c x d s no_commit hold old = record {
  outer_held = old.outer_held;
  outer_past = old.outer_past;
  nested_past = λ i p free lt e. ⊎_elim (λ l. old.nested_past i p free l e)
      (λ q. hold p free (ap s.code (sym q) ∙ e)) (at_edge i s.edge lt);
  nested_read = λ i p k lt e. ⊎_elim (λ l. old.nested_read i p k l e)
      (λ q. absurd (not_both _ (ap is_commit (ap s.code (sym q) ∙ e)) no_commit)) (at_edge i s.edge lt);
  outcome_read = λ i p k lt e. ⊎_elim (λ l. old.outcome_read i p k l e)
      (λ q. absurd (not_both _ (ap is_commit (ap s.code (sym q) ∙ e)) no_commit)) (at_edge i s.edge lt);
  outcome_held = λ un i p k lt e v. ⊎_elim (λ l. old.outcome_held un i p k l e v)
      (λ q. absurd (not_both _ (ap is_commit (ap s.code (sym q) ∙ e)) no_commit)) (at_edge i s.edge lt);
  outcome_named = λ i p k lt e v. ⊎_elim (λ l. old.outcome_named i p k l e v)
      (λ q. absurd (not_both _ (ap is_commit (ap s.code (sym q) ∙ e)) no_commit)) (at_edge i s.edge lt);
  held = λ p lock v. holds_goes d s p (x.cells p) (old.held p lock v);
}

pub request_goes : (x : Shared) (s : Section) → (is_stamp_exchange (s.code s.edge) ≡ true → 0 < x.stamp s.request)
    → (is_clock_raise (s.code s.edge) ≡ true → x.stamp s.request / 2 ≤ x.clock)
    → (is_reply_exchange (s.code s.edge) ≡ true → 0 < x.reply s.request) → RequestIsSound x s → RequestIsSound x (goes s)
request_goes x s stamp raise reply old = record {
  stamped = λ i lt e. ⊎_elim (λ l. old.stamped i l e)
      (λ q. stamp (ap (λ n. is_stamp_exchange (s.code n)) (sym q) ∙ e)) (at_edge i s.edge lt);
  raised = λ i lt e. ⊎_elim (λ l. old.raised i l e) (λ q. raise (ap (λ n. is_clock_raise (s.code n)) (sym q) ∙ e)) (at_edge i s.edge lt);
  replied = λ i lt e. ⊎_elim (λ l. old.replied i l e)
      (λ q. reply (ap (λ n. is_reply_exchange (s.code n)) (sym q) ∙ e)) (at_edge i s.edge lt);
}
