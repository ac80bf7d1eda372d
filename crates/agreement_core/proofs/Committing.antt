-- A section whose first run commits a word.
use Rattle.std.proofs.Common.{◌≡◌, ◌≢◌, ℕ, suc, ◌<◌, ◌≤◌, true, false, sym, ap, ◌∙◌, subst, ⊎_elim, arith}
use Rattle.section_lines.specs.structure_laws.specs.body_terms.specs.Update.{upd}
use Rattle.section_lines.specs.structure_laws.specs.body_terms.specs.Line.{is_event, is_commit, is_check, is_end}
use Rattle.section_lines.specs.structure_laws.specs.body_terms.specs.Word.{value_of, version_of}
use Rattle.section_lines.specs.structure_laws.specs.body_terms.specs.declared.micro.Source.{Source}
use Rattle.section_lines.specs.structure_laws.specs.body_terms.specs.declared.micro.Micro.{Micro}
use Rattle.section_lines.specs.structure_laws.specs.body_terms.specs.declared.micro.Micro.TheVariants as micros
use Rattle.section_lines.specs.Line.{is_clock_raise}
use Rattle.agreement_core.specs.State.{CellRules, Shared, Section}
use Rattle.agreement_core.specs.Checks.{is_stamp_exchange, is_reply_exchange}
use Rattle.agreement_core.specs.Events.{IsPublishable}
use Rattle.agreement_core.specs.Sections.{LogIsSound, CellsAreSound, LocksAreSound, RequestIsSound, SectionIsSound}
use Rattle.agreement_core.proofs.Frame.{undone, not_both}
use Rattle.agreement_core.proofs.Going.{at_edge, holds_goes}
use Rattle.agreement_core.proofs.Lines.{event_goes, passes_same, logged, nested_logged, outcome_logged, retire_logged, store_logged, stored_same}

-- one more word is agreed, and the edge moves by one
abbrev pub commits : Section → ℕ → Section
commits s word = record s { log = upd s.log (s.slot s.edge) word; edge = suc s.edge }

pub upd_here : {A : Type 0} → (f : ℕ → A) (k : ℕ) (v : A) → upd f k v k ≡ v
upd_here f k v = grind arith

pub upd_else : {A : Type 0} → (f : ℕ → A) (k i : ℕ) (v : A) → i ≢ k → upd f k v i ≡ f i
upd_else f k i v ne = grind arith

-- what is needed of the word that is committed, by the kind of the commit
pub record MayCommit (x : Shared) (d : ℕ) (s : Section) (word : ℕ) : Type 0 where
  pub some : 0 < word
  pub standing : (p k : ℕ) → s.code s.edge ≡ micros.Commit p k → word ≡ x.cells p
  pub read : (p k : ℕ) → s.code s.edge ≡ micros.Commit p k → x.seen p word ≡ true
  pub nested_read : (p k : ℕ) → s.code s.edge ≡ micros.NestedCommit p k → x.seen p word ≡ true
  pub outcome_read : (p k : ℕ) → s.code s.edge ≡ micros.OutcomeCommit p k → x.seen p word ≡ true
  pub outcome_held : (p k : ℕ) → s.code s.edge ≡ micros.OutcomeCommit p k → value_of word ≡ suc d → x.cells p ≡ word
  pub outcome_named : (p k : ℕ) → s.code s.edge ≡ micros.OutcomeCommit p k → value_of (x.cells p) ≡ suc d → word ≡ x.cells p
  pub retired : (slot k : ℕ) → s.code s.edge ≡ micros.RetireCommit slot k → word ≡ suc slot

commit_events : (m : Micro) → is_commit m ≡ true → is_event m ≡ true
commit_events m e = grind arith

no_check : (m : Micro) → is_commit m ≡ true → is_check m ≡ true → ⊥
no_check m e e' = grind arith

no_end : (m : Micro) → is_commit m ≡ true → is_end m ≡ false
no_end m e = grind arith

no_request : (m : Micro) → is_commit m ≡ true → (is_stamp_exchange m ≡ false) × (is_clock_raise m ≡ false) × (is_reply_exchange m ≡ false)
no_request m e = (grind arith, grind arith, grind arith)

module _ (c : CellRules) (x : Shared) (d : ℕ) (s : Section) (word : ℕ) (p : IsPublishable c d s.lock s.word s.code s.slot)
    (commit : is_commit (s.code s.edge) ≡ true) (may : MayCommit x d s word) where
  -- the words that were committed before stand
  before : (i : ℕ) → i ≤ s.edge → (k : ℕ) → k < s.slot i → upd s.log (s.slot s.edge) word k ≡ s.log k
  before i le k lt = let r = p.line.counted.slot_rises i s.edge le in upd_else s.log (s.slot s.edge) k word (omega arith)

  here : (k : ℕ) → k ≡ s.slot s.edge → upd s.log (s.slot s.edge) word k ≡ word
  here k q = ap (upd s.log (s.slot s.edge) word) q ∙ upd_here s.log (s.slot s.edge) word

  commit_full : LogIsSound c d s → (k : ℕ) → k < suc (s.slot s.edge) → 0 < upd s.log (s.slot s.edge) word k
  commit_full old k lt = ⊎_elim (λ l. subst (λ n. 0 < n) (sym (before s.edge (omega arith) k l)) (old.full k l))
      (λ q. subst (λ n. 0 < n) (sym (here k q)) may.some) (at_edge k (s.slot s.edge) lt)

  pub log_commits : LogIsSound c d s → LogIsSound c d (commits s word)
  log_commits old =
      let more = p.line.counted.slot_commit s.edge commit in
      record {
        full = λ k lt. commit_full old k (subst (λ n. k < n) more lt);
        empty = λ k le. let le' = subst (λ n. n ≤ k) more le in
            upd_else s.log (s.slot s.edge) k word (omega arith) ∙ old.empty k (omega arith);
        passed = λ i lt e. ⊎_elim (λ l. passes_same c s.lock s.code s.slot p.line d i _ _ (before i (omega arith)) ∙ old.passed i l e)
            (λ q. absurd (no_check _ commit (ap (λ n. is_check (s.code n)) (sym q) ∙ e))) (at_edge i s.edge lt);
        within = λ i lt. ⊎_elim (λ l. old.within i l) (λ q. ap (λ n. is_end (s.code n)) q ∙ no_end _ commit) (at_edge i s.edge lt);
        retired = λ i slot k lt e. ⊎_elim
            (λ l. before s.edge (omega arith) k (retire_logged c s.lock s.code s.slot p.line s.edge i slot k e l)
            ∙ old.retired i slot k l e)
            (λ q. here k (p.line.counted.retire_log i slot k e ∙ ap s.slot q) ∙ may.retired slot k (ap s.code (sym q) ∙ e))
            (at_edge i s.edge lt);
        stops = λ ne. absurd (ne (undone c d s old (event_goes c d s.log _ (commit_events _ commit))));
      }

  -- a store at the edge is no commit
  not_store : (i place k : ℕ) (v : Source) → i ≡ s.edge → s.code i ≡ micros.ExchangeCell place k v → ⊥
  not_store i place k v q e = not_both _ commit (ap is_commit (ap s.code (sym q) ∙ e))

  pub cells_commits : CellsAreSound x s → CellsAreSound x (commits s word)
  cells_commits old = record {
    loaded = λ un i place k lt e none. ⊎_elim
        (λ l. old.loaded un i place k l e (λ j k' v l'. none j k' v (omega arith))
        ∙ sym (before s.edge (omega arith) k (logged c s.lock s.code s.slot p.line s.edge i place k e l)))
        (λ q. sym (may.standing place k (ap s.code (sym q) ∙ e)) ∙ sym (here k (p.line.counted.commit_log i place k e ∙ ap s.slot q)))
        (at_edge i s.edge lt);
    stored = λ un i place k v lt e. ⊎_elim
        (λ l. old.stored un i place k v l e ∙ sym (stored_same c s.lock s.code s.slot p.line i place k v _ _ e (before i (omega arith))))
        (λ q. absurd (not_store i place k v q e)) (at_edge i s.edge lt);
    left = λ i place k v lt e. ⊎_elim
        (λ l. subst (λ n. version_of n < version_of (x.cells place))
        (sym (before i (omega arith) k (store_logged c s.lock s.code s.slot p.line i place k v e))) (old.left i place k v l e))
        (λ q. absurd (not_store i place k v q e)) (at_edge i s.edge lt);
    lasting = λ i place k v lt e is. ⊎_elim
        (λ l. old.lasting i place k v l e (is ∙ ap (λ n. suc (version_of n))
        (before i (omega arith) k (store_logged c s.lock s.code s.slot p.line i place k v e)))
        ∙ sym (stored_same c s.lock s.code s.slot p.line i place k v _ _ e (before i (omega arith))))
        (λ q. absurd (not_store i place k v q e)) (at_edge i s.edge lt);
    read = λ i place k lt e. ⊎_elim
        (λ l. ap (x.seen place) (before s.edge (omega arith) k (logged c s.lock s.code s.slot p.line s.edge i place k e l))
        ∙ old.read i place k l e)
        (λ q. ap (x.seen place) (here k (p.line.counted.commit_log i place k e ∙ ap s.slot q)) ∙ may.read place k (ap s.code (sym q) ∙ e))
        (at_edge i s.edge lt);
  }

  pub locks_commits : LocksAreSound c x d s → LocksAreSound c x d (commits s word)
  locks_commits old = record {
    outer_held = old.outer_held;
    outer_past = old.outer_past;
    nested_past = λ i place free lt e. ⊎_elim (λ l. old.nested_past i place free l e)
        (λ q. absurd (not_both _ commit (ap is_commit (ap s.code (sym q) ∙ e)))) (at_edge i s.edge lt);
    nested_read = λ i place k lt e. ⊎_elim
        (λ l. ap (x.seen place) (before s.edge (omega arith) k (nested_logged c s.lock s.code s.slot p.line s.edge i place k e l))
        ∙ old.nested_read i place k l e)
        (λ q. ap (x.seen place) (here k (p.line.counted.nested_log i place k e ∙ ap s.slot q))
        ∙ may.nested_read place k (ap s.code (sym q) ∙ e)) (at_edge i s.edge lt);
    outcome_read = λ i place k lt e. ⊎_elim
        (λ l. ap (x.seen place) (before s.edge (omega arith) k (outcome_logged c s.lock s.code s.slot p.line s.edge i place k e l))
        ∙ old.outcome_read i place k l e)
        (λ q. ap (x.seen place) (here k (p.line.counted.outcome_log i place k e ∙ ap s.slot q))
        ∙ may.outcome_read place k (ap s.code (sym q) ∙ e)) (at_edge i s.edge lt);
    outcome_held = λ un i place k lt e v. ⊎_elim
        (λ l. let same = before s.edge (omega arith) k (outcome_logged c s.lock s.code s.slot p.line s.edge i place k e l) in
        old.outcome_held un i place k l e (ap value_of (sym same) ∙ v) ∙ sym same)
        (λ q. let same = here k (p.line.counted.outcome_log i place k e ∙ ap s.slot q) in
        may.outcome_held place k (ap s.code (sym q) ∙ e) (ap value_of (sym same) ∙ v) ∙ sym same) (at_edge i s.edge lt);
    outcome_named = λ i place k lt e v. ⊎_elim
        (λ l. before s.edge (omega arith) k (outcome_logged c s.lock s.code s.slot p.line s.edge i place k e l)
        ∙ old.outcome_named i place k l e v)
        (λ q. here k (p.line.counted.outcome_log i place k e ∙ ap s.slot q) ∙ may.outcome_named place k (ap s.code (sym q) ∙ e) v)
        (at_edge i s.edge lt);
    held = λ place lock v. holds_goes d s place (x.cells place) (old.held place lock v);
  }

  pub request_commits : RequestIsSound x s → RequestIsSound x (commits s word)
  request_commits old =
      let none = no_request _ commit in
      record {
        stamped = λ i lt e. ⊎_elim (λ l. old.stamped i l e)
            (λ q. absurd (not_both _ (ap (λ n. is_stamp_exchange (s.code n)) (sym q) ∙ e) none.0)) (at_edge i s.edge lt);
        raised = λ i lt e. ⊎_elim (λ l. old.raised i l e)
            (λ q. absurd (not_both _ (ap (λ n. is_clock_raise (s.code n)) (sym q) ∙ e) none.1)) (at_edge i s.edge lt);
        replied = λ i lt e. ⊎_elim (λ l. old.replied i l e)
            (λ q. absurd (not_both _ (ap (λ n. is_reply_exchange (s.code n)) (sym q) ∙ e) none.2)) (at_edge i s.edge lt);
      }

  pub section_commits : SectionIsSound c x d s → SectionIsSound c x d (commits s word)
  section_commits old = record {
    in_log = log_commits old.in_log;
    in_cells = cells_commits old.in_cells;
    in_locks = locks_commits old.in_locks;
    in_request = request_commits old.in_request;
  }
