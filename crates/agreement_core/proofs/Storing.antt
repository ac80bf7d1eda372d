-- A section whose first run stores to a cell.
use Rattle.std.proofs.Common.{◌≡◌, ◌≢◌, ℕ, suc, ◌<◌, true, false, refl, sym, ap, ◌∙◌, subst, inl, inr, ⊎_elim, arith}
use Rattle.std.proofs.lemmas.Bool.{cases_eq}
use Rattle.section_lines.specs.structure_laws.specs.body_terms.specs.Update.{upd}
use Rattle.section_lines.specs.structure_laws.specs.body_terms.specs.Line.{is_event, is_commit}
use Rattle.section_lines.specs.structure_laws.specs.body_terms.specs.Word.{version_of}
use Rattle.section_lines.specs.structure_laws.specs.body_terms.specs.declared.micro.Source.{Source}
use Rattle.section_lines.specs.structure_laws.specs.body_terms.specs.declared.micro.Micro.TheVariants as micros
use Rattle.section_lines.specs.Line.{phase, is_clock_raise}
use Rattle.agreement_core.specs.State.{CellRules, Shared, Section}
use Rattle.agreement_core.specs.Checks.{is_stop, stored_word, is_stamp_exchange, is_reply_exchange}
use Rattle.agreement_core.specs.Events.{HasCome, IsPublishable}
use Rattle.agreement_core.specs.Sections.{CellsAreSound, SectionIsSound}
use Rattle.agreement_core.proofs.Frame.{LeavesLocks, LeavesWords, Rises, undone, not_both, locks_frame, request_frame}
use Rattle.agreement_core.proofs.Going.{goes, at_edge, log_goes, locks_goes, request_goes}
use Rattle.agreement_core.proofs.Committing.{upd_here, upd_else}
use Rattle.agreement_core.proofs.Lines.{event_goes, exchange_unlocked, version_stored}

-- the shared words with this cell changed
abbrev pub puts : Shared → ℕ → ℕ → Shared
puts x place word = record x { cells = upd x.cells place word }

pub puts_words : (x : Shared) (place word : ℕ) → LeavesWords x (puts x place word)
puts_words x place word = record { seen = λ p v h. h; clock = omega arith; stamp = λ q h. refl; reply = λ q h. refl }

pub puts_rises : (x : Shared) (place word : ℕ) → version_of (x.cells place) < version_of word → Rises x.cells (puts x place word).cells
puts_rises x place word more p = ⊎_elim
    (λ e. inr (subst (λ n. version_of (x.cells n) < version_of (upd x.cells place word n)) (sym e)
    (subst (λ n. version_of (x.cells place) < version_of n) (sym (upd_here x.cells place word)) more)))
    (λ ne. inl (upd_else x.cells place p word ne)) (cases_eq p place)

-- a change of a cell that is no lock leaves all locks
pub puts_no_lock : (c : CellRules) (d : ℕ) (s : Section) (x : Shared) (place word : ℕ) → c.is_lock place ≡ false
    → LeavesLocks c d s x.cells (puts x place word).cells
puts_no_lock c d s x place word unlocked =
    let else : (p : ℕ) → c.is_lock p ≡ true → upd x.cells place word p ≡ x.cells p = λ p lock. upd_else x.cells place p word
    (λ e. not_both _ lock (ap c.is_lock e ∙ unlocked)) in
    record { held = λ un p lock v. else p lock; named = λ p lock v. else p lock }

same_store : (cells log : ℕ → ℕ) (place k p' k' : ℕ) (v v' : Source) → micros.ExchangeCell p' k' v' ≡ micros.ExchangeCell place k v
    → (p' ≡ place) × (stored_word log k' v' ≡ stored_word log k v) × (k' ≡ k)
same_store cells log place k p' k' v v' e = (grind arith, grind arith, grind arith)

module _ (c : CellRules) (x : Shared) (d : ℕ) (s : Section) (place k : ℕ) (v : Source) (p : IsPublishable c d s.lock s.word s.code s.slot)
    (at : s.code s.edge ≡ micros.ExchangeCell place k v) (old : SectionIsSound c x d s) where
  abbrev new : ℕ
  new = stored_word s.log k v

  pub store_goes : is_stop c d s.log (s.code s.edge) ≡ false
  store_goes = event_goes c d s.log _ (ap is_event at)

  pub store_undone : s.done ≡ 0
  store_undone = undone c d s old.in_log store_goes

  -- no store below the edge is to this cell
  first_store : (i k' : ℕ) (v' : Source) → i < s.edge → s.code i ≢ micros.ExchangeCell place k' v'
  first_store i k' v' lt e = let q = p.line.placed.store_once i s.edge place k' k v' v e at in absurd (omega arith)

  -- the agreed word stands in the cell
  pub store_finds : x.cells place ≡ s.log k
  store_finds = let j = p.line.resolved.store_loaded s.edge place k v at in old.in_cells.loaded store_undone j.0 place k j.1 j.2 first_store

  pub store_version : version_of new ≡ suc (version_of (s.log k))
  store_version = version_stored c s.lock s.code s.slot p.line p.whole s.edge place k v s.log at

  pub store_rises : version_of (x.cells place) < version_of new
  store_rises = let a : version_of (x.cells place) ≡ version_of (s.log k) = ap version_of store_finds in let b = store_version in
      grind arith

  pub store_unlocked : c.is_lock place ≡ false
  store_unlocked = exchange_unlocked c s.lock s.code s.slot p.line s.edge place k v at

  pub store_come : HasCome s place
  store_come = let j = p.line.resolved.store_loaded s.edge place k v at in (j.0, k, omega arith, j.2)

  -- another cell to which the section stores
  else : (i p' k' : ℕ) (v' : Source) → i < s.edge → s.code i ≡ micros.ExchangeCell p' k' v' → upd x.cells place new p' ≡ x.cells p'
  else i p' k' v' lt e = upd_else x.cells place p' new (λ q. first_store i k' v' lt (e ∙ ap (λ n. micros.ExchangeCell n k' v') q))

  no_commit : is_commit (s.code s.edge) ≡ false
  no_commit = ap is_commit at

  cells_store : CellsAreSound (puts x place new) (goes s)
  cells_store = record {
    loaded = λ un i p' k' lt e none. ⊎_elim
        (λ l. upd_else x.cells place p' new (λ q. none s.edge k v (omega arith) (at ∙ ap (λ n. micros.ExchangeCell n k v) (sym q)))
        ∙ old.in_cells.loaded un i p' k' l e (λ j k'' v' l'. none j k'' v' (omega arith)))
        (λ q. absurd (not_both _ (ap is_commit (ap s.code (sym q) ∙ e)) no_commit)) (at_edge i s.edge lt);
    stored = λ un i p' k' v' lt e. ⊎_elim
        (λ l. else i p' k' v' l e ∙ old.in_cells.stored un i p' k' v' l e)
        (λ q. let f = same_store x.cells s.log place k p' k' v v' (sym e ∙ ap s.code q ∙ at) in
        ap (upd x.cells place new) f.0 ∙ upd_here x.cells place new ∙ sym f.1) (at_edge i s.edge lt);
    left = λ i p' k' v' lt e. ⊎_elim
        (λ l. subst (λ n. version_of (s.log k') < version_of n) (sym (else i p' k' v' l e)) (old.in_cells.left i p' k' v' l e))
        (λ q. let f = same_store x.cells s.log place k p' k' v v' (sym e ∙ ap s.code q ∙ at) in
        let a : upd x.cells place new p' ≡ new = ap (upd x.cells place new) f.0 ∙ upd_here x.cells place new in
        let b : version_of (s.log k') ≡ version_of (s.log k) = ap (λ n. version_of (s.log n)) f.2 in
        subst (λ n. version_of (s.log k') < version_of n) (sym a)
        (subst (λ n. n < version_of new) (sym b) (let g = store_version in omega arith))) (at_edge i s.edge lt);
    lasting = λ i p' k' v' lt e is. ⊎_elim
        (λ l. else i p' k' v' l e ∙ old.in_cells.lasting i p' k' v' l e (ap version_of (sym (else i p' k' v' l e)) ∙ is))
        (λ q. let f = same_store x.cells s.log place k p' k' v v' (sym e ∙ ap s.code q ∙ at) in
        ap (upd x.cells place new) f.0 ∙ upd_here x.cells place new ∙ sym f.1) (at_edge i s.edge lt);
    read = λ i p' k' lt e. ⊎_elim
        (λ l. old.in_cells.read i p' k' l e)
        (λ q. absurd (not_both _ (ap is_commit (ap s.code (sym q) ∙ e)) no_commit)) (at_edge i s.edge lt);
  }

  pub section_store : SectionIsSound c (puts x place new) d (goes s)
  section_store =
      let x' = puts x place new in
      let rises = puts_rises x place new store_rises in
      record {
        in_log = log_goes c d s store_goes no_commit (p.line.counted.slot_same s.edge no_commit) old.in_log;
        in_cells = cells_store;
        in_locks = locks_goes c x' d s no_commit (λ p' w e. absurd (let a : 1 ≡ 4 = ap phase (sym e ∙ at) in omega arith))
            (locks_frame c d s p x x' rises (puts_words x place new) (puts_no_lock c d s x place new store_unlocked) old.in_locks);
        in_request = request_goes x' s (λ e. absurd (not_both _ e (ap is_stamp_exchange at)))
            (λ e. absurd (not_both _ e (ap is_clock_raise at)))
            (λ e. absurd (not_both _ e (ap is_reply_exchange at)))
            (request_frame c d s p x x' rises (puts_words x place new) old.in_request);
      }
