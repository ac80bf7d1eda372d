-- A section is published, retired, and its descriptor is free again.
use Rattle.std.proofs.Common.{◌≡◌, ◌≢◌, ℕ, suc, ◌<◌, ◌≤◌, Bool, true, false, refl, sym, ap, ◌∙◌, subst, inl, inr, ⊎_elim, arith}
use Rattle.std.proofs.lemmas.Bool.{cases_eq}
use Rattle.std.specs.Prelude.{◌⊎◌}
use Rattle.section_lines.specs.structure_laws.specs.body_terms.specs.Update.{upd}
use Rattle.section_lines.specs.structure_laws.specs.body_terms.specs.Word.{value_of, version_of, held_word}
use Rattle.section_lines.specs.structure_laws.specs.body_terms.specs.declared.micro.Micro.{Micro}
use Rattle.section_lines.specs.structure_laws.specs.body_terms.specs.declared.micro.Micro.TheVariants as micros
use Rattle.agreement_core.specs.State.{CellRules, Section, AgreementState, IsOpen}
use Rattle.agreement_core.specs.Events.{Enabled, after, HasCome, IsPublishable}
use Rattle.agreement_core.specs.Events.{Publish, RetireDescriptor, Free, StoreLog, StoreDone}
use Rattle.agreement_core.specs.Sections.{SectionIsSound}
use Rattle.agreement_core.specs.Runs.{RunIsSound}
use Rattle.agreement_core.specs.Sound.{UsedIsSound, IsOf, IsWhole, IsSound}
use Rattle.agreement_core.proofs.Frame.{LeavesCells, not_both, run_frame}
use Rattle.agreement_core.proofs.Committing.{upd_here, upd_else}
use Rattle.agreement_core.proofs.Storing.{puts_words, puts_rises}
use Rattle.agreement_core.proofs.Holding.{puts_lock}
use Rattle.agreement_core.proofs.Moving.{upd_split, used_frame}
use Rattle.agreement_core.proofs.Changing.{puts_versions}
use Rattle.agreement_core.proofs.Lines.{start_commit}
use Rattle.agreement_core.proofs.Words.{value_held, version_held, free_value, unspent_room, past_later}

-- the section of a free descriptor changes
unused_changes : (c : CellRules) (w : AgreementState) (d : ℕ) (s' : Section) → w.used d ≡ false → IsSound c w
    → IsSound c (record w { section = upd w.section d s' })
unused_changes c w d s' unused old =
    let other : (d' : ℕ) → w.used d' ≡ true → d' ≢ d = λ d' u e. not_both _ u (ap w.used e ∙ unused) in
    let same : (d' : ℕ) → w.used d' ≡ true → w.section d' ≡ upd w.section d s' d' = λ d' u. sym (upd_else w.section d d' s' (other d' u)) in
    record {
      versions = old.versions;
      sections = λ d' u. subst (λ s. UsedIsSound c w.shared (w.live d') (w.over d') d' s) (same d' u) (old.sections d' u);
      runs = λ r is. subst (λ s. RunIsSound c w.shared ((w.run r).descriptor) s (w.run r)) (same _ (old.running_used r is)) (old.runs r is);
      running_used = old.running_used;
      live_used = old.live_used;
      named = old.named;
      apart = λ d1 d2 p ne o1 o2 h1 h2. old.apart d1 d2 p ne
          (record { used = o1.used; undone = ap (λ (s : Section). s.done) (same d1 o1.used) ∙ o1.undone })
          (record { used = o2.used; undone = ap (λ (s : Section). s.done) (same d2 o2.used) ∙ o2.undone })
          (subst (λ s. HasCome s p) (sym (same d1 o1.used)) h1) (subst (λ s. HasCome s p) (sym (same d2 o2.used)) h2);
      single = λ d1 d2 u1 u2 l e. old.single d1 d2 u1 u2
          (ap (λ (s : Section). s.lock) (same d1 u1) ∙ l ∙ ap (λ (s : Section). s.lock) (sym (same d2 u2)))
          (ap (λ (s : Section). s.word) (same d1 u1) ∙ e ∙ ap (λ (s : Section). s.word) (sym (same d2 u2)));
      finished = record {
        past = old.finished.past;
        ended = λ r i d' lt u is. old.finished.ended r i d' lt u (subst (IsOf (w.finished r i)) (sym (same d' u)) is);
        whole = λ r i d' lt u is. subst (λ s. IsOf (w.finished r i) s → IsWhole d' s (w.finished r i)) (same d' u)
            (old.finished.whole r i d' lt u) is;
        equal = old.finished.equal;
      };
    }

pub store_log : (c : CellRules) (w : AgreementState) → IsSound c w → (d log word : ℕ) → Enabled c w (StoreLog d log word)
    → IsSound c (after w (StoreLog d log word))
store_log c w old d log word ok = unused_changes c w d _ ok old

pub store_done : (c : CellRules) (w : AgreementState) → IsSound c w → (d word : ℕ) → Enabled c w (StoreDone d word)
    → IsSound c (after w (StoreDone d word))
store_done c w old d word ok = unused_changes c w d _ ok old

pub retire_descriptor : (c : CellRules) (w : AgreementState) → IsSound c w → (d : ℕ) → Enabled c w (RetireDescriptor d)
    → IsSound c (after w (RetireDescriptor d))
retire_descriptor c w old d ok =
    let own = old.sections d (old.live_used d ok.0) in
    record {
      versions = old.versions;
      sections = upd_split w.live d false (λ d' live. w.used d' ≡ true → UsedIsSound c w.shared live (w.over d') d' (w.section d'))
          (λ u. record {
            published = own.published;
            section = own.section;
            done_most = own.done_most;
            open_live = λ un. absurd (own.over_done ok.1 un);
            over_done = own.over_done;
            over_unnamed = own.over_unnamed;
          })
          (λ d' ne u. old.sections d' u);
      runs = old.runs;
      running_used = old.running_used;
      live_used = upd_split w.live d false (λ d' live. live ≡ true → w.used d' ≡ true) (λ h. absurd (not_both _ h refl))
          (λ d' ne h. old.live_used d' h);
      named = λ p d' lock v. upd_split w.live d false (λ d' live. value_of (w.shared.cells p) ≡ suc d' → live ≡ true)
          (λ v'. absurd (own.over_unnamed ok.1 p lock v')) (λ d' ne v'. old.named p d' lock v') d' v;
      apart = λ d1 d2 p ne o1 o2 h1 h2. old.apart d1 d2 p ne (record { used = o1.used; undone = o1.undone })
          (record { used = o2.used; undone = o2.undone }) h1 h2;
      single = old.single;
      finished = record { past = old.finished.past; ended = old.finished.ended; whole = old.finished.whole; equal = old.finished.equal };
    }

-- what is used after a descriptor was freed was used
was_used : (used : ℕ → Bool) (d d' : ℕ) → upd used d false d' ≡ true → used d' ≡ true
was_used used d d' h = grind arith

still_used : (used : ℕ → Bool) (d d' : ℕ) → d' ≢ d → used d' ≡ true → upd used d false d' ≡ true
still_used used d d' ne h = grind arith

pub free_descriptor : (c : CellRules) (w : AgreementState) → IsSound c w → (d : ℕ) → Enabled c w (Free d) → IsSound c (after w (Free d))
free_descriptor c w old d ok = record {
  versions = old.versions;
  sections = λ d' u. old.sections d' (was_used w.used d d' u);
  runs = old.runs;
  running_used = λ r is. still_used w.used d _ (ok.1 r is) (old.running_used r is);
  live_used = λ d' h. still_used w.used d d' (λ e. not_both _ h (ap w.live e ∙ ok.0)) (old.live_used d' h);
  named = old.named;
  apart = λ d1 d2 p ne o1 o2 h1 h2. old.apart d1 d2 p ne (record { used = was_used w.used d d1 o1.used; undone = o1.undone })
      (record { used = was_used w.used d d2 o2.used; undone = o2.undone }) h1 h2;
  single = λ d1 d2 u1 u2 l e. old.single d1 d2 (was_used w.used d d1 u1) (was_used w.used d d2 u2) l e;
  finished = record {
    past = old.finished.past;
    ended = λ r i d' lt u is. old.finished.ended r i d' lt (was_used w.used d d' u) is;
    whole = λ r i d' lt u is. old.finished.whole r i d' lt (was_used w.used d d' u) is;
    equal = old.finished.equal;
  };
}

module _ (c : CellRules) (w : AgreementState) (old : IsSound c w) (d lock word request : ℕ) (code : ℕ → Micro) (slot : ℕ → ℕ)
    (ok : Enabled c w (Publish d lock word request code slot)) where
  abbrev w' : AgreementState
  w' = after w (Publish d lock word request code slot)

  abbrev held : ℕ
  held = held_word d word

  abbrev s' : Section
  s' = record (w.section d) { lock = lock; word = word; request = request; code = code; slot = slot; log = λ k. 0; edge = 0 }

  published : IsPublishable c d lock word code slot
  published = ok.2

  is_lock : c.is_lock lock ≡ true
  is_lock = published.line.placed.outer_lock

  more : version_of (w.shared.cells lock) < version_of held
  more = let a : version_of (w.shared.cells lock) ≡ version_of word = ap version_of ok.1 in let b = version_held d word published.link in
      omega arith

  room : version_of held ≤ c.version_max
  room = let a = unspent_room c.version_max word published.free published.unspent in let b = version_held d word published.link in
      omega arith

  was_free : value_of (w.shared.cells lock) ≡ 0
  was_free = ap value_of ok.1 ∙ free_value word published.free

  not_used : (d' : ℕ) → w.used d' ≡ true → d' ≢ d
  not_used d' u e = not_both _ u (ap w.used e ∙ ok.0)

  held_here : (p : ℕ) → p ≡ lock → upd w.shared.cells lock held p ≡ held
  held_here p e = ap (upd w.shared.cells lock held) e ∙ upd_here w.shared.cells lock held

  -- a lock that names a descriptor is this one, or stands as it was
  names : (d' p : ℕ) → value_of (upd w.shared.cells lock held p) ≡ suc d'
      → ((p ≡ lock) × (d' ≡ d)) ⊎ (upd w.shared.cells lock held p ≡ w.shared.cells p)
  names d' p v = ⊎_elim
      (λ e. inl (e, let z : suc d' ≡ suc d = sym v ∙ ap value_of (held_here p e) ∙ value_held d word published.link in omega arith))
      (λ ne. inr (upd_else w.shared.cells lock p held ne)) (cases_eq p lock)

  leaves : (d' : ℕ) → w.used d' ≡ true → LeavesCells c d' (w.section d') w.shared.cells (w'.shared).cells
  leaves d' u = record {
    loaded = puts_lock c d' (w.section d') w.shared lock held (old.sections d' u).published is_lock;
    locks = record {
      held = λ un p is v. upd_else w.shared.cells lock p held
          (λ e. let z : suc d' ≡ 0 = sym v ∙ ap (λ n. value_of (w.shared.cells n)) e ∙ was_free in omega arith);
      named = λ p is v. ⊎_elim (λ e. absurd (not_used d' u e.1)) (λ e. e) (names d' p v);
    };
  }

  new_section : SectionIsSound c w'.shared d s'
  new_section = record {
    in_log = record {
      full = λ k lt. absurd (let z = published.line.counted.slot_start in omega arith);
      empty = λ k le. refl;
      passed = λ i lt e. absurd (omega arith);
      within = λ i lt. absurd (omega arith);
      retired = λ i slot k lt e. absurd (omega arith);
      stops = λ ne. absurd (ne ok.3);
    };
    in_cells = record {
      loaded = λ un i p k lt e none. absurd (omega arith);
      stored = λ un i p k v lt e. absurd (omega arith);
      left = λ i p k v lt e. absurd (omega arith);
      lasting = λ i p k v lt e is. absurd (omega arith);
      read = λ i p k lt e. absurd (omega arith);
    };
    in_locks = record {
      outer_held = λ un. upd_here w.shared.cells lock held;
      outer_past = subst (λ n. version_of word < version_of n) (sym (upd_here w.shared.cells lock held))
          (let b = version_held d word published.link in omega arith);
      nested_past = λ i p free lt e. absurd (omega arith);
      nested_read = λ i p k lt e. absurd (omega arith);
      outcome_read = λ i p k lt e. absurd (omega arith);
      outcome_held = λ un i p k lt e v. absurd (omega arith);
      outcome_named = λ i p k lt e v. absurd (omega arith);
      held = λ p is v. ⊎_elim
          (λ e. inl (e, held_here p e))
          (λ ne. let same = upd_else w.shared.cells lock p held ne in
          absurd (not_both _ (old.live_used d (old.named p d is (ap value_of (sym same) ∙ v))) ok.0))
          (cases_eq p lock);
    };
    in_request = record {
      stamped = λ i lt e. absurd (omega arith);
      raised = λ i lt e. absurd (omega arith);
      replied = λ i lt e. absurd (omega arith);
    };
  }

  -- what is used now was used, or is this descriptor
  used_cases : (d' : ℕ) → w'.used d' ≡ true → (d' ≡ d) ⊎ ((d' ≢ d) × (w.used d' ≡ true))
  used_cases d' u = ⊎_elim inl (λ ne. inr (ne, sym (upd_else w.used d d' true ne) ∙ u)) (cases_eq d' d)

  section_else : (d' : ℕ) → d' ≢ d → w'.section d' ≡ w.section d'
  section_else d' ne = upd_else w.section d d' s' ne

  section_here : w'.section d ≡ s'
  section_here = upd_here w.section d s'

  other : (d' : ℕ) → d' ≢ d → w.used d' ≡ true → UsedIsSound c w'.shared (w'.live d') (w'.over d') d' (w'.section d')
  other d' ne u =
      subst (λ s. UsedIsSound c w'.shared (w'.live d') (w'.over d') d' s) (sym (section_else d' ne))
      (subst (λ live. UsedIsSound c w'.shared live (w'.over d') d' (w.section d')) (sym (upd_else w.live d d' true ne))
      (subst (λ over. UsedIsSound c w'.shared (w.live d') over d' (w.section d')) (sym (upd_else w.over d d' false ne))
      (used_frame c w.shared w'.shared _ _ d' (w.section d') (puts_rises w.shared lock held more) (puts_words w.shared lock held)
      (leaves d' u) (old.sections d' u))))

  here : UsedIsSound c w'.shared (w'.live d) (w'.over d) d (w'.section d)
  here =
      let over : w'.over d ≡ false = upd_here w.over d false in
      subst (λ s. UsedIsSound c w'.shared (w'.live d) (w'.over d) d s) (sym section_here) (record {
        published = published;
        section = new_section;
        done_most = let z : (w.section d).done ≡ 0 = ok.3 in omega arith;
        open_live = λ un. upd_here w.live d true;
        over_done = λ is. absurd (not_both _ is over);
        over_unnamed = λ is. absurd (not_both _ is over);
      })

  sections : (d' : ℕ) → w'.used d' ≡ true → UsedIsSound c w'.shared (w'.live d') (w'.over d') d' (w'.section d')
  sections d' u = ⊎_elim (λ e. subst (λ n. UsedIsSound c w'.shared (w'.live n) (w'.over n) n (w'.section n)) (sym e) here)
      (λ o. other d' o.0 o.1) (used_cases d' u)

  runs : (r : ℕ) → (w.run r).running ≡ true → RunIsSound c w'.shared ((w.run r).descriptor) (w'.section ((w.run r).descriptor)) (w.run r)
  runs r is =
      let u = old.running_used r is in
      let d' = (w.run r).descriptor in
      subst (λ s. RunIsSound c w'.shared d' s (w.run r)) (sym (section_else d' (not_used d' u)))
      (run_frame c d' (w.section d') (old.sections d' u).published w.shared w'.shared (puts_rises w.shared lock held more)
      (puts_words w.shared lock held) (w.run r) (leaves d' u) (old.sections d' u).section (old.runs r is))

  now_used : (d' : ℕ) → w.used d' ≡ true → w'.used d' ≡ true
  now_used d' u = upd_else w.used d d' true (not_used d' u) ∙ u

  named : (p d' : ℕ) → c.is_lock p ≡ true → value_of (w'.shared.cells p) ≡ suc d' → w'.live d' ≡ true
  named p d' is v = ⊎_elim (λ e. ap w'.live e.1 ∙ upd_here w.live d true)
      (λ same. let live = old.named p d' is (ap value_of (sym same) ∙ v) in
      upd_else w.live d d' true (not_used d' (old.live_used d' live)) ∙ live) (names d' p v)

  live_used : (d' : ℕ) → w'.live d' ≡ true → w'.used d' ≡ true
  live_used d' h = ⊎_elim (λ e. ap w'.used e ∙ upd_here w.used d true)
      (λ ne. now_used d' (old.live_used d' (sym (upd_else w.live d d' true ne) ∙ h))) (cases_eq d' d)

  -- the new section has come to no place
  none_come : (p : ℕ) → HasCome (w'.section d) p → ⊥
  none_come p h =
      let h' : HasCome s' p = subst (λ s. HasCome s p) section_here h in
      let z : h'.0 ≡ 0 = let b = h'.2 in omega arith in
      start_commit c lock code slot published.line p h'.1 (subst (λ n. code n ≡ micros.Commit p h'.1) z h'.3)

  was_open : (d' : ℕ) → d' ≢ d → IsOpen w' d' → IsOpen w d'
  was_open d' ne o = record {
    used = sym (upd_else w.used d d' true ne) ∙ o.used;
    undone = ap (λ (s : Section). s.done) (sym (section_else d' ne)) ∙ o.undone;
  }

  apart : (d1 d2 p : ℕ) → d1 ≢ d2 → IsOpen w' d1 → IsOpen w' d2 → HasCome (w'.section d1) p → HasCome (w'.section d2) p → ⊥
  apart d1 d2 p ne o1 o2 h1 h2 = ⊎_elim
      (λ e. none_come p (subst (λ n. HasCome (w'.section n) p) e h1))
      (λ ne1. ⊎_elim
      (λ e. none_come p (subst (λ n. HasCome (w'.section n) p) e h2))
      (λ ne2. old.apart d1 d2 p ne (was_open d1 ne1 o1) (was_open d2 ne2 o2) (subst (λ s. HasCome s p) (section_else d1 ne1) h1)
      (subst (λ s. HasCome s p) (section_else d2 ne2) h2))
      (cases_eq d2 d)) (cases_eq d1 d)

  -- the lock of an earlier section is past its free word, so it isn't this lock with this word
  past_word : (lock' word' : ℕ) → version_of word' < version_of (w.shared.cells lock') → lock' ≡ lock → word' ≡ word → ⊥
  past_word lock' word' past e e' = let a : version_of (w.shared.cells lock') ≡ version_of word' = ap (λ n. version_of (w.shared.cells n)) e
      ∙ ap version_of ok.1 ∙ ap version_of (sym e') in less _ _ past a
    where
      less : (m n : ℕ) → m < n → n ≡ m → ⊥
      less m n lt q = omega arith

  other_section : (d' : ℕ) → d' ≢ d → w.used d' ≡ true → (w'.section d').lock ≡ lock → (w'.section d').word ≡ word → ⊥
  other_section d' ne u l e = past_word ((w.section d').lock) ((w.section d').word) (old.sections d' u).section.in_locks.outer_past
      (ap (λ (s : Section). s.lock) (sym (section_else d' ne)) ∙ l) (ap (λ (s : Section). s.word) (sym (section_else d' ne)) ∙ e)

  lock_here : (d' : ℕ) → d' ≡ d → (w'.section d').lock ≡ lock
  lock_here d' e = ap (λ n. (w'.section n).lock) e ∙ ap (λ (s : Section). s.lock) section_here

  word_here : (d' : ℕ) → d' ≡ d → (w'.section d').word ≡ word
  word_here d' e = ap (λ n. (w'.section n).word) e ∙ ap (λ (s : Section). s.word) section_here

  single : (d1 d2 : ℕ) → w'.used d1 ≡ true → w'.used d2 ≡ true → (w'.section d1).lock ≡ (w'.section d2).lock
      → (w'.section d1).word ≡ (w'.section d2).word → d1 ≡ d2
  single d1 d2 u1 u2 l e = ⊎_elim
      (λ e1. ⊎_elim (λ e2. e1 ∙ sym e2) (λ o2. absurd (other_section d2 o2.0 o2.1 (sym l ∙ lock_here d1 e1) (sym e ∙ word_here d1 e1)))
      (used_cases d2 u2))
      (λ o1. ⊎_elim (λ e2. absurd (other_section d1 o1.0 o1.1 (l ∙ lock_here d2 e2) (e ∙ word_here d2 e2)))
      (λ o2. old.single d1 d2 o1.1 o2.1
      (ap (λ (s : Section). s.lock) (sym (section_else d1 o1.0)) ∙ l ∙ ap (λ (s : Section). s.lock) (section_else d2 o2.0))
      (ap (λ (s : Section). s.word) (sym (section_else d1 o1.0)) ∙ e ∙ ap (λ (s : Section). s.word) (section_else d2 o2.0)))
      (used_cases d2 u2))
      (used_cases d1 u1)

  whole : (r i d' : ℕ) → i < w.finishes r → w'.used d' ≡ true → IsOf (w.finished r i) (w'.section d')
      → IsWhole d' (w'.section d') (w.finished r i)
  whole r i d' lt u is = ⊎_elim
      (λ e. absurd (past_word _ _ (old.finished.past r i lt) (is.lock ∙ lock_here d' e) (is.word ∙ word_here d' e)))
      (λ o. subst (λ s. IsWhole d' s (w.finished r i)) (sym (section_else d' o.0))
      (old.finished.whole r i d' lt o.1 (subst (IsOf (w.finished r i)) (section_else d' o.0) is)))
      (used_cases d' u)

  ended : (r i d' : ℕ) → i < w.finishes r → w'.used d' ≡ true → IsOf (w.finished r i) (w'.section d') → w'.over d' ≡ true
  ended r i d' lt u is = ⊎_elim
      (λ e. absurd (past_word _ _ (old.finished.past r i lt) (is.lock ∙ lock_here d' e) (is.word ∙ word_here d' e)))
      (λ o. upd_else w.over d d' false o.0 ∙ old.finished.ended r i d' lt o.1 (subst (IsOf (w.finished r i)) (section_else d' o.0) is))
      (used_cases d' u)

  pub publish_sound : IsSound c w'
  publish_sound = record {
    versions = puts_versions c w.shared lock held more room old.versions;
    sections = sections;
    runs = runs;
    running_used = λ r is. now_used _ (old.running_used r is);
    live_used = live_used;
    named = named;
    apart = apart;
    single = single;
    finished = record {
      past = λ r i lt. past_later _ _ _ (old.finished.past r i lt) (puts_rises w.shared lock held more ((w.finished r i).lock));
      ended = ended;
      whole = whole;
      equal = old.finished.equal;
    };
  }
