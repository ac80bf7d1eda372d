-- A run is over, and its record is kept.
use Rattle.std.proofs.Common.{Bool, ◌≡◌, ◌≢◌, ℕ, suc, ◌<◌, true, false, refl, sym, ap, ◌∙◌, subst, inl, inr, ⊎_elim, arith}
use Rattle.std.proofs.lemmas.Bool.{cases_lt, cases_eq}
use Rattle.section_lines.specs.structure_laws.specs.body_terms.specs.Update.{upd}
use Rattle.section_lines.specs.structure_laws.specs.body_terms.specs.Line.{is_event}
use Rattle.section_lines.specs.structure_laws.specs.body_terms.specs.Word.{value_of, version_of, held_word}
use Rattle.section_lines.specs.structure_laws.specs.body_terms.specs.declared.micro.Micro.TheVariants as micros
use Rattle.agreement_core.specs.Update.{upd2}
use Rattle.agreement_core.specs.State.{CellRules, Section, Run, Finished, AgreementState}
use Rattle.agreement_core.specs.Checks.{passes, is_stop}
use Rattle.agreement_core.specs.Events.{Enabled, after, HasTaken, finished_of}
use Rattle.agreement_core.specs.Events.{Finish}
use Rattle.agreement_core.specs.Sections.{HoldsWith}
use Rattle.agreement_core.specs.Runs.{RunIsSound}
use Rattle.agreement_core.specs.Sound.{UsedIsSound, IsOf, IsWhole, AreOfOne, AreEqual, IsSound}
use Rattle.agreement_core.proofs.Frame.{not_both}
use Rattle.agreement_core.proofs.Going.{at_edge}
use Rattle.agreement_core.proofs.Committing.{upd_here, upd_else}
use Rattle.agreement_core.proofs.Moving.{upd_split}
use Rattle.agreement_core.proofs.Lines.{event_goes, pass_goes, after_hold}

held_passes : (c : CellRules) (d : ℕ) (log : ℕ → ℕ) (p k free : ℕ) → log k ≡ held_word d free
    → passes c d log (micros.CheckHeld p k free) ≡ true
held_passes c d log p k free e = grind arith

upd2_row : (f : ℕ → ℕ → Finished) (r s : ℕ) (v : Finished) (i j : ℕ) → i ≢ r → upd2 f r s v i j ≡ f i j
upd2_row f r s v i j ne = grind arith

upd2_else : (f : ℕ → ℕ → Finished) (r s : ℕ) (v : Finished) (j : ℕ) → j ≢ s → upd2 f r s v r j ≡ f r j
upd2_else f r s v j ne = grind arith

upd2_here : (f : ℕ → ℕ → Finished) (r s : ℕ) (v : Finished) → upd2 f r s v r s ≡ v
upd2_here f r s v = grind arith

stays_over : (over : ℕ → Bool) (d d' : ℕ) → over d' ≡ true → upd over d true d' ≡ true
stays_over over d d' h = grind arith

-- two runs that came to their end of this section
both_whole : (d : ℕ) (s : Section) (f f' : Finished) → IsWhole d s f → IsWhole d s f' → AreEqual f f'
both_whole d s f f' h h' = record {
  count = h.count ∙ sym h'.count;
  agreed = λ k lt. h.agreed k lt ∙ sym (h'.agreed k (subst (λ n. k < n) (h.count ∙ sym h'.count) lt));
}

module _ (c : CellRules) (w : AgreementState) (old : IsSound c w) (r : ℕ) (ok : Enabled c w (Finish r)) where
  abbrev q : Run
  q = w.run r

  abbrev d : ℕ
  d = q.descriptor

  abbrev s : Section
  s = w.section d

  abbrev w' : AgreementState
  w' = after w (Finish r)

  used : w.used d ≡ true
  used = old.running_used r ok.0

  own : UsedIsSound c w.shared (w.live d) (w.over d) d s
  own = old.sections d used

  run : RunIsSound c w.shared d s q
  run = old.runs r ok.0

  done : s.done ≢ 0
  done = run.in_trail.ended_done ok.1

  edge : q.at ≡ s.edge
  edge = run.in_trail.ended_edge ok.1

  -- a lock that names the section was taken by the run
  held_taken : (p : ℕ) → value_of (w.shared.cells p) ≡ suc d → HoldsWith d s p (w.shared.cells p) → (word : ℕ) × HasTaken s q.at p word
  held_taken p names holds = ⊎_elim
      (λ o. (s.word, inl (o.0, refl)))
      (λ n.
      let a = after_hold c s.lock s.code s.slot own.published.line own.published.whole n.0 p n.1 n.3 in
      let stop = own.section.in_log.stops done in
      let far : suc (suc (suc n.0)) < s.edge = beyond n.0 p n.1 a.0 names n.2 n.4 a.1 a.2 a.3 stop in
      (n.1, inr (suc (suc (suc n.0)), a.0, let e = edge in omega arith, a.3)))
      holds
    where
      beyond : (i p free k : ℕ) → value_of (w.shared.cells p) ≡ suc d → i < s.edge → w.shared.cells p ≡ held_word d free
          → is_event (s.code (suc i)) ≡ true → s.code (suc (suc i)) ≡ micros.OutcomeCommit p k
          → s.code (suc (suc (suc i))) ≡ micros.CheckHeld p k free → is_stop c d s.log (s.code s.edge) ≡ true → suc (suc (suc i)) < s.edge
      beyond i p free k names lt is load commit check stop =
          ⊎_elim (λ l. l) (λ le. absurd (⊎_elim
          (λ l1. ⊎_elim
          (λ l2. not_both _ stop
          (event_goes c d s.log _ (let e : suc i ≡ s.edge = omega arith in subst (λ n. is_event (s.code n) ≡ true) e load)))
          (λ e2. not_both _ stop (event_goes c d s.log _ (subst (λ n. is_event (s.code n) ≡ true) (sym e2) (ap is_event commit))))
          (at_edge s.edge (suc (suc i)) (omega arith)))
          (λ e3.
          let named = own.section.in_locks.outcome_named (suc (suc i)) p k (omega arith) commit names in
          not_both _ stop (pass_goes c d s.log _ (ap (λ n. passes c d s.log (s.code n)) e3 ∙ ap (passes c d s.log) check
          ∙ held_passes c d s.log p k free (named ∙ is))))
          (at_edge s.edge (suc (suc (suc i))) (omega arith))))
          (cases_lt (suc (suc (suc i))) s.edge)

  -- no lock names the section
  unnamed : (p : ℕ) → c.is_lock p ≡ true → value_of (w.shared.cells p) ≢ suc d
  unnamed p lock names =
      let t = held_taken p names (own.section.in_locks.held p lock names) in
      run.in_releases.unnamed p (ok.2 p t.0 t.1) lock names

  sections : (d' : ℕ) → w.used d' ≡ true → UsedIsSound c w.shared (w.live d') (w'.over d') d' (w.section d')
  sections = upd_split w.over d true (λ d' over. w.used d' ≡ true → UsedIsSound c w.shared (w.live d') over d' (w.section d'))
      (λ u. record {
        published = own.published;
        section = own.section;
        done_most = own.done_most;
        open_live = own.open_live;
        over_done = λ is. done;
        over_unnamed = λ is. unnamed;
      })
      (λ d' ne u. old.sections d' u)

  runs : (r' : ℕ) → (w'.run r').running ≡ true → RunIsSound c w.shared ((w'.run r').descriptor) (w.section ((w'.run r').descriptor))
      (w'.run r')
  runs = upd_split w.run r (record q { running = false })
      (λ r' q'. q'.running ≡ true → RunIsSound c w.shared q'.descriptor (w.section q'.descriptor) q')
      (λ is. absurd (not_both _ is refl)) (λ r' ne is. old.runs r' is)

  running_used : (r' : ℕ) → (w'.run r').running ≡ true → w.used ((w'.run r').descriptor) ≡ true
  running_used = upd_split w.run r (record q { running = false }) (λ r' q'. q'.running ≡ true → w.used q'.descriptor ≡ true)
      (λ is. absurd (not_both _ is refl)) (λ r' ne is. old.running_used r' is)

  -- what is kept of this run
  abbrev new : Finished
  new = finished_of s q

  new_whole : IsWhole d s new
  new_whole = record { descriptor = refl; done = done; count = run.in_trail.counted ∙ ap s.slot edge; agreed = run.in_trail.agreed }

  -- what is kept is this run, or was kept before
  pub data IsKept (f : Finished) : Type 0 where
    now : f ≡ new → IsKept f
    before : (r' i : ℕ) → i < w.finishes r' → f ≡ w.finished r' i → IsKept f

  row_else : (r' i : ℕ) → r' ≢ r → upd2 w.finished r (w.finishes r) new r' i ≡ w.finished r' i
  row_else r' i ne = upd2_row w.finished r (w.finishes r) new r' i ne

  row_here : (i : ℕ) → i ≢ w.finishes r → upd2 w.finished r (w.finishes r) new r i ≡ w.finished r i
  row_here i ne = upd2_else w.finished r (w.finishes r) new i ne

  row_new : upd2 w.finished r (w.finishes r) new r (w.finishes r) ≡ new
  row_new = upd2_here w.finished r (w.finishes r) new

  kept_here : (i : ℕ) → i < suc (w.finishes r) → IsKept (upd2 w.finished r (w.finishes r) new r i)
  kept_here i lt = ⊎_elim (λ l. before r i l (row_here i (omega arith)))
      (λ e. now (ap (upd2 w.finished r (w.finishes r) new r) e ∙ row_new)) (at_edge i (w.finishes r) lt)

  kept : (r' i : ℕ) → i < w'.finishes r' → IsKept (w'.finished r' i)
  kept r' i lt = ⊎_elim
      (λ e. subst (λ n. IsKept (upd2 w.finished r (w.finishes r) new n i)) (sym e)
      (kept_here i (subst (λ n. i < n) (ap w'.finishes e ∙ upd_here w.finishes r (suc (w.finishes r))) lt)))
      (λ ne. before r' i (subst (λ n. i < n) (upd_else w.finishes r r' (suc (w.finishes r)) ne) lt) (row_else r' i ne))
      (cases_eq r' r)

  past : (f : Finished) → IsKept f → version_of f.word < version_of (w.shared.cells f.lock)
  past f (now e) = subst (λ (g : Finished). version_of g.word < version_of (w.shared.cells g.lock)) (sym e) own.section.in_locks.outer_past
  past f (before r' i lt e) = subst (λ (g : Finished). version_of g.word < version_of (w.shared.cells g.lock)) (sym e)
      (old.finished.past r' i lt)

  whole : (f : Finished) → IsKept f → (d' : ℕ) → w.used d' ≡ true → IsOf f (w.section d') → IsWhole d' (w.section d') f
  whole f (now e) d' u is =
      let same : d ≡ d' = old.single d d' used u (ap (λ (g : Finished). g.lock) (sym e) ∙ is.lock)
      (ap (λ (g : Finished). g.word) (sym e) ∙ is.word) in
      subst (λ n. IsWhole n (w.section n) f) same (subst (IsWhole d s) (sym e) new_whole)
  whole f (before r' i lt e) d' u is =
      subst (IsWhole d' (w.section d')) (sym e) (old.finished.whole r' i d' lt u
      (record { lock = ap (λ (g : Finished). g.lock) (sym e) ∙ is.lock; word = ap (λ (g : Finished). g.word) (sym e) ∙ is.word }))

  ended : (f : Finished) → IsKept f → (d' : ℕ) → w.used d' ≡ true → IsOf f (w.section d') → w'.over d' ≡ true
  ended f (now e) d' u is =
      let same : d ≡ d' = old.single d d' used u (ap (λ (g : Finished). g.lock) (sym e) ∙ is.lock)
      (ap (λ (g : Finished). g.word) (sym e) ∙ is.word) in
      ap w'.over (sym same) ∙ upd_here w.over d true
  ended f (before r' i lt e) d' u is = stays_over w.over d d' (old.finished.ended r' i d' lt u
      (record { lock = ap (λ (g : Finished). g.lock) (sym e) ∙ is.lock; word = ap (λ (g : Finished). g.word) (sym e) ∙ is.word }))

  -- a kept run of this run's section has the whole log
  whole_own : (f : Finished) → IsKept f → f.lock ≡ new.lock → f.word ≡ new.word → IsWhole d s f
  whole_own f k lock word = whole f k d used (record { lock = lock; word = word })

  equal : (f f' : Finished) → IsKept f → IsKept f' → AreOfOne f f' → AreEqual f f'
  equal f f' (now e) k' one = both_whole d s f f' (whole_own f (now e) (ap (λ (g : Finished). g.lock) e) (ap (λ (g : Finished). g.word) e))
      (whole_own f' k' (sym one.lock ∙ ap (λ (g : Finished). g.lock) e) (sym one.word ∙ ap (λ (g : Finished). g.word) e))
  equal f f' (before r1 i1 lt1 e1) (now e) one = both_whole d s f f'
      (whole_own f (before r1 i1 lt1 e1) (one.lock ∙ ap (λ (g : Finished). g.lock) e) (one.word ∙ ap (λ (g : Finished). g.word) e))
      (whole_own f' (now e) (ap (λ (g : Finished). g.lock) e) (ap (λ (g : Finished). g.word) e))
  equal f f' (before r1 i1 lt1 e1) (before r2 i2 lt2 e2) one =
      let a : AreOfOne (w.finished r1 i1) (w.finished r2 i2) = record {
        lock = ap (λ (g : Finished). g.lock) (sym e1) ∙ one.lock ∙ ap (λ (g : Finished). g.lock) e2;
        word = ap (λ (g : Finished). g.word) (sym e1) ∙ one.word ∙ ap (λ (g : Finished). g.word) e2;
      } in
      subst (λ g. AreEqual g f') (sym e1) (subst (AreEqual (w.finished r1 i1)) (sym e2) (old.finished.equal r1 i1 r2 i2 lt1 lt2 a))

  pub finish_sound : IsSound c (after w (Finish r))
  finish_sound = record {
    versions = old.versions;
    sections = sections;
    runs = runs;
    running_used = running_used;
    live_used = old.live_used;
    named = old.named;
    apart = λ d1 d2 p ne o1 o2 h1 h2. old.apart d1 d2 p ne (record { used = o1.used; undone = o1.undone })
        (record { used = o2.used; undone = o2.undone }) h1 h2;
    single = old.single;
    finished = record {
      past = λ r' i lt. past _ (kept r' i lt);
      ended = λ r' i d' lt u is. ended _ (kept r' i lt) d' u is;
      whole = λ r' i d' lt u is. whole _ (kept r' i lt) d' u is;
      equal = λ r1 i1 r2 i2 lt1 lt2 one. equal _ _ (kept r1 i1 lt1) (kept r2 i2 lt2) one;
    };
  }
