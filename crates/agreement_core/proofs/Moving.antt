-- The whole state after a change of the shared words, and after a step of one run.
use Rattle.std.proofs.Common.{◌≡◌, ◌≢◌, ℕ, suc, ◌<◌, ◌≤◌, Bool, true, refl, sym, ap, ◌∙◌, subst, ⊎_elim}
use Rattle.std.proofs.lemmas.Bool.{cases_eq}
use Rattle.std.specs.Prelude.{◌⊎◌}
use Rattle.section_lines.specs.structure_laws.specs.body_terms.specs.Update.{upd}
use Rattle.section_lines.specs.structure_laws.specs.body_terms.specs.Word.{value_of}
use Rattle.agreement_core.specs.State.{CellRules, Shared, Section, Run, Finished, AgreementState, section_of, IsOpen}
use Rattle.agreement_core.specs.Events.{HasCome, IsAlone}
use Rattle.agreement_core.specs.Sections.{SectionIsSound}
use Rattle.agreement_core.specs.Runs.{RunIsSound}
use Rattle.agreement_core.specs.Sound.{VersionsAreSound, UsedIsSound, IsOf, IsWhole, IsSound}
use Rattle.agreement_core.proofs.Frame.{LeavesLoaded, LeavesCells, LeavesWords, Rises, section_frame, run_frame}
use Rattle.agreement_core.proofs.Words.{past_later}
use Rattle.agreement_core.proofs.Committing.{upd_here, upd_else}

-- what holds of a changed function at each place
pub upd_split : {A : Type 0} → (f : ℕ → A) (k : ℕ) (v : A) (Q : ℕ → A → Type 0) → Q k v → ((i : ℕ) → i ≢ k → Q i (f i)) → (i : ℕ)
    → Q i (upd f k v i)
upd_split f k v Q here else i =
    ⊎_elim
    (λ e. subst (λ (x : ℕ). Q x (upd f k v x)) (sym e) (subst (Q k) (sym (upd_here f k v)) here))
    (λ ne. subst (Q i) (sym (upd_else f k i v ne)) (else i ne))
    (cases_eq i k)

-- a descriptor keeps what holds of it while others change the shared words
pub used_frame : (c : CellRules) (x x' : Shared) (live over : Bool) (d : ℕ) (s : Section) → Rises x.cells x'.cells → LeavesWords x x'
    → LeavesCells c d s x.cells x'.cells
    → UsedIsSound c x live over d s → UsedIsSound c x' live over d s
used_frame c x x' live over d s rises words leaves old = record {
  published = old.published;
  section = section_frame c d s old.published x x' rises words leaves old.section;
  done_most = old.done_most;
  open_live = old.open_live;
  over_done = old.over_done;
  over_unnamed = λ is p lock v. old.over_unnamed is p lock (ap value_of (sym (leaves.locks.named p lock v)) ∙ v);
}

-- a change of the shared words that leaves every section what it relies on
pub record SharedMoves (c : CellRules) (w : AgreementState) (x' : Shared) : Type 0 where
  pub versions : VersionsAreSound c x'
  pub rises : Rises w.shared.cells x'.cells
  pub words : LeavesWords w.shared x'
  pub loaded : (d : ℕ) → w.used d ≡ true → LeavesLoaded (w.section d) w.shared.cells x'.cells
  pub held : (d : ℕ) → w.used d ≡ true → (w.section d).done ≡ 0 → (p : ℕ) → c.is_lock p ≡ true → value_of (w.shared.cells p) ≡ suc d
      → x'.cells p ≡ w.shared.cells p
  pub named : (d p : ℕ) → c.is_lock p ≡ true → value_of (x'.cells p) ≡ suc d → x'.cells p ≡ w.shared.cells p

pub shared_moves : (c : CellRules) (w : AgreementState) (x' : Shared) → SharedMoves c w x' → IsSound c w
    → IsSound c (record w { shared = x' })
shared_moves c w x' m old =
    let leaves : (d : ℕ) → w.used d ≡ true → LeavesCells c d (w.section d) w.shared.cells x'.cells = λ d u.
    record { loaded = m.loaded d u; locks = record { held = m.held d u; named = m.named d } } in
    record {
      versions = m.versions;
      sections = λ d u. used_frame c w.shared x' _ _ d (w.section d) m.rises m.words (leaves d u) (old.sections d u);
      runs = λ r is. let u = old.running_used r is in
          run_frame c ((w.run r).descriptor) (section_of w r) (old.sections _ u).published w.shared x' m.rises m.words (w.run r)
          (leaves _ u) (old.sections _ u).section (old.runs r is);
      running_used = old.running_used;
      live_used = old.live_used;
      named = λ p d lock v. old.named p d lock (ap value_of (sym (m.named d p lock v)) ∙ v);
      apart = λ d d' p ne o o' h h'. old.apart d d' p ne (record { used = o.used; undone = o.undone })
          (record { used = o'.used; undone = o'.undone }) h h';
      single = old.single;
      finished = record {
        past = λ r i lt. past_later _ _ _ (old.finished.past r i lt) (m.rises ((w.finished r i).lock));
        ended = old.finished.ended;
        whole = old.finished.whole;
        equal = old.finished.equal;
      };
    }

-- the section with this log, done word and edge
abbrev pub changed : Section → (ℕ → ℕ) → ℕ → ℕ → Section
changed s log done edge = record s { log = log; done = done; edge = edge }

-- a step of this runner, which is in a run of this descriptor then
pub record RunMoves (c : CellRules) (w : AgreementState) (r d : ℕ) (x' : Shared) (log : ℕ → ℕ) (done edge : ℕ) (q' : Run) : Type 0 where
  pub used : w.used d ≡ true
  pub running : q'.running ≡ true
  pub descriptor : q'.descriptor ≡ d
  pub versions : VersionsAreSound c x'
  pub rises : Rises w.shared.cells x'.cells
  pub words : LeavesWords w.shared x'
  pub section : SectionIsSound c x' d (changed (w.section d) log done edge)
  pub run : RunIsSound c x' d (changed (w.section d) log done edge) q'
  pub fellows : (r' : ℕ) → r' ≢ r → (w.run r').running ≡ true → (w.run r').descriptor ≡ d
      → RunIsSound c x' d (changed (w.section d) log done edge) (w.run r')
  pub others : (d' : ℕ) → d' ≢ d → w.used d' ≡ true → LeavesCells c d' (w.section d') w.shared.cells x'.cells
  pub named : (d' p : ℕ) → c.is_lock p ≡ true → value_of (x'.cells p) ≡ suc d'
      → (x'.cells p ≡ w.shared.cells p) ⊎ ((d' ≡ d) × ((w.section d).done ≡ 0))
  -- what is done stays as it is
  pub reopens : done ≡ 0 → (w.section d).done ≡ 0
  -- and its done word is at most 1
  pub done_most : (w.section d).done ≤ 1 → done ≤ 1
  pub kept_log : (w.section d).done ≢ 0 → (k : ℕ) → log k ≡ (w.section d).log k
  pub kept_edge : (w.section d).done ≢ 0 → edge ≡ (w.section d).edge
  pub come : done ≡ 0 → (p : ℕ) → HasCome (changed (w.section d) log done edge) p → HasCome (w.section d) p ⊎ IsAlone w d p

module _ (c : CellRules) (w : AgreementState) (r d : ℕ) (x' : Shared) (log : ℕ → ℕ) (done edge : ℕ) (q' : Run)
    (m : RunMoves c w r d x' log done edge q') (old : IsSound c w) where
  abbrev s' : Section
  s' = changed (w.section d) log done edge

  abbrev w' : AgreementState
  w' = record w { shared = x'; section = upd w.section d s'; run = upd w.run r q' }

  was : UsedIsSound c w.shared (w.live d) (w.over d) d (w.section d)
  was = old.sections d m.used

  own_used : UsedIsSound c x' (w.live d) (w.over d) d s'
  own_used = record {
    published = was.published;
    section = m.section;
    done_most = m.done_most was.done_most;
    open_live = λ un. was.open_live (m.reopens un);
    over_done = λ is e. was.over_done is (m.reopens e);
    over_unnamed = λ is p lock v. ⊎_elim (λ e. was.over_unnamed is p lock (ap value_of (sym e) ∙ v))
        (λ n. was.over_done is n.1) (m.named d p lock v);
  }

  sections : (d' : ℕ) → w.used d' ≡ true → UsedIsSound c x' (w.live d') (w.over d') d' (w'.section d')
  sections = upd_split w.section d s' (λ d' s. w.used d' ≡ true → UsedIsSound c x' (w.live d') (w.over d') d' s)
      (λ u. own_used) (λ d' ne u. used_frame c w.shared x' _ _ d' (w.section d') m.rises m.words (m.others d' ne u) (old.sections d' u))

  -- a run of another runner, by its descriptor
  other_run : (r' : ℕ) → r' ≢ r → (w.run r').running ≡ true → (d' : ℕ) → (w.run r').descriptor ≡ d'
      → RunIsSound c x' d' (w'.section d') (w.run r')
  other_run r' ne is = upd_split w.section d s' (λ d' s. (w.run r').descriptor ≡ d' → RunIsSound c x' d' s (w.run r'))
      (m.fellows r' ne is)
      (λ d' ne' e. let u : w.used d' ≡ true = ap w.used (sym e) ∙ old.running_used r' is in
      run_frame c d' (w.section d') (old.sections d' u).published w.shared x' m.rises m.words (w.run r') (m.others d' ne' u)
      (old.sections d' u).section
      (subst (λ n. RunIsSound c w.shared n (w.section n) (w.run r')) e (old.runs r' is)))

  runs : (r' : ℕ) → (w'.run r').running ≡ true → RunIsSound c x' ((w'.run r').descriptor) (w'.section ((w'.run r').descriptor)) (w'.run r')
  runs = upd_split w.run r q' (λ r' q. q.running ≡ true → RunIsSound c x' q.descriptor (w'.section q.descriptor) q)
      (λ is. subst (λ n. RunIsSound c x' n (w'.section n) q') (sym m.descriptor)
      (subst (λ s. RunIsSound c x' d s q') (sym (upd_here w.section d s')) m.run))
      (λ r' ne is. other_run r' ne is _ refl)

  running_used : (r' : ℕ) → (w'.run r').running ≡ true → w.used ((w'.run r').descriptor) ≡ true
  running_used = upd_split w.run r q' (λ r' q. q.running ≡ true → w.used q.descriptor ≡ true) (λ is. ap w.used m.descriptor ∙ m.used)
      (λ r' ne is. old.running_used r' is)

  named : (p d' : ℕ) → c.is_lock p ≡ true → value_of (x'.cells p) ≡ suc d' → w.live d' ≡ true
  named p d' lock v = ⊎_elim (λ e. old.named p d' lock (ap value_of (sym e) ∙ v))
      (λ n. ap w.live n.0 ∙ was.open_live n.1) (m.named d' p lock v)

  -- an open section of another descriptor was open
  open_else : (d' : ℕ) → d' ≢ d → IsOpen w' d' → IsOpen w d'
  open_else d' ne o = record { used = o.used; undone = ap (λ (s : Section). s.done) (sym (upd_else w.section d d' s' ne)) ∙ o.undone }

  come_else : (d' p : ℕ) → d' ≢ d → HasCome (w'.section d') p → HasCome (w.section d') p
  come_else d' p ne h = subst (λ s. HasCome s p) (upd_else w.section d d' s' ne) h

  undone_here : IsOpen w' d → done ≡ 0
  undone_here o = ap (λ (s : Section). s.done) (sym (upd_here w.section d s')) ∙ o.undone

  open_here : IsOpen w' d → IsOpen w d
  open_here o = record { used = o.used; undone = m.reopens (undone_here o) }

  come_here : IsOpen w' d → (p : ℕ) → HasCome (w'.section d) p → HasCome (w.section d) p ⊎ IsAlone w d p
  come_here o p h = m.come (undone_here o) p (subst (λ s. HasCome s p) (upd_here w.section d s') h)

  -- this section has come to no place to which another open one has come
  apart_here : (d' p : ℕ) → d' ≢ d → IsOpen w' d → IsOpen w' d' → HasCome (w'.section d) p → HasCome (w'.section d') p → ⊥
  apart_here d' p ne o o' h h' = ⊎_elim
      (λ old_come. old.apart d d' p (λ e. ne (sym e)) (open_here o) (open_else d' ne o') old_come (come_else d' p ne h'))
      (λ alone. alone d' ne (open_else d' ne o') (come_else d' p ne h'))
      (come_here o p h)

  apart : (d1 d2 p : ℕ) → d1 ≢ d2 → IsOpen w' d1 → IsOpen w' d2 → HasCome (w'.section d1) p → HasCome (w'.section d2) p → ⊥
  apart d1 d2 p ne o1 o2 h1 h2 = ⊎_elim
      (λ e. apart_here d2 p (λ e'. ne (e ∙ sym e')) (subst (λ n. IsOpen w' n) e o1) o2 (subst (λ n. HasCome (w'.section n) p) e h1) h2)
      (λ ne1. ⊎_elim
      (λ e. apart_here d1 p ne1 (subst (λ n. IsOpen w' n) e o2) o1 (subst (λ n. HasCome (w'.section n) p) e h2) h1)
      (λ ne2. old.apart d1 d2 p ne (open_else d1 ne1 o1) (open_else d2 ne2 o2) (come_else d1 p ne1 h1) (come_else d2 p ne2 h2))
      (cases_eq d2 d))
      (cases_eq d1 d)

  -- lock and word of a section stay
  lock_same : (d' : ℕ) → (w'.section d').lock ≡ (w.section d').lock
  lock_same = upd_split w.section d s' (λ d' s. s.lock ≡ (w.section d').lock) refl (λ d' ne. refl)

  word_same : (d' : ℕ) → (w'.section d').word ≡ (w.section d').word
  word_same = upd_split w.section d s' (λ d' s. s.word ≡ (w.section d').word) refl (λ d' ne. refl)

  whole_here : (f : Finished) → IsWhole d (w.section d) f → IsWhole d s' f
  whole_here f h = record {
    descriptor = h.descriptor;
    done = λ e. h.done (m.reopens e);
    count = h.count ∙ ap ((w.section d).slot) (sym (m.kept_edge h.done));
    agreed = λ k lt. h.agreed k lt ∙ sym (m.kept_log h.done k);
  }

  whole : (r' i d' : ℕ) → i < w.finishes r' → w.used d' ≡ true → IsOf (w.finished r' i) (w'.section d')
      → IsWhole d' (w'.section d') (w.finished r' i)
  whole r' i d' lt u is = upd_split w.section d s' (λ d' s. IsWhole d' (w.section d') (w.finished r' i) → IsWhole d' s (w.finished r' i))
      (whole_here (w.finished r' i)) (λ d' ne h. h) d'
      (old.finished.whole r' i d' lt u (record { lock = is.lock ∙ lock_same d'; word = is.word ∙ word_same d' }))

  pub run_moves : IsSound c w'
  run_moves = record {
    versions = m.versions;
    sections = sections;
    runs = runs;
    running_used = running_used;
    live_used = old.live_used;
    named = named;
    apart = apart;
    single = λ d1 d2 u1 u2 l e. old.single d1 d2 u1 u2 (sym (lock_same d1) ∙ l ∙ lock_same d2) (sym (word_same d1) ∙ e ∙ word_same d2);
    finished = record {
      past = λ r' i lt. past_later _ _ _ (old.finished.past r' i lt) (m.rises ((w.finished r' i).lock));
      ended = λ r' i d' lt u is. old.finished.ended r' i d' lt u (record { lock = is.lock ∙ lock_same d'; word = is.word ∙ word_same d' });
      whole = whole;
      equal = old.finished.equal;
    };
  }
