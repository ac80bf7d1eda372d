-- Each event keeps the history exact: publications, exchanges of cells, stamps and replies.
use Rattle.std.proofs.Common.{◌≡◌, ◌≢◌, ℕ, suc, ◌<◌, ◌≤◌, true, false, List, [], ◌∷◌, length, refl, sym, ap, ◌∙◌, subst, ⊎_elim, arith}
use Rattle.std.proofs.lemmas.Bool.{cases_lt, cases_eq}
use mathlib.Core.Path.{fun_ext}
use Rattle.section_lines.specs.structure_laws.specs.body_terms.specs.Update.{upd}
use Rattle.section_lines.specs.structure_laws.specs.body_terms.specs.Run.{written_once}
use Rattle.section_lines.specs.structure_laws.specs.body_terms.specs.declared.micro.Source.{Source}
use Rattle.section_lines.specs.structure_laws.specs.body_terms.specs.declared.micro.Micro.{Micro}
use Rattle.section_lines.specs.structure_laws.specs.body_terms.specs.declared.micro.Micro.TheVariants as micros
use Rattle.agreement_core.specs.Update.{upd2}
use Rattle.agreement_core.specs.State.{CellRules, Section, Run, AgreementState}
use Rattle.agreement_core.specs.Checks.{stored_word, came, is_stamp_exchange, is_reply_exchange}
use Rattle.agreement_core.specs.Events.{Enabled, after}
use Rattle.agreement_core.specs.Events.{Publish, ExchangeCell}
use Rattle.agreement_core.specs.Runs.{RunIsSound}
use Rattle.agreement_core.specs.Sound.{UsedIsSound, IsSound}
use Rattle.agreement_core.specs.History.{Change, History, with_won, noted, change_of, moves_of, written, IsExact}
use Rattle.agreement_core.proofs.Committing.{upd_here, upd_else}
use Rattle.agreement_core.proofs.Moving.{upd_split}
use Rattle.agreement_core.proofs.Storing.{store_finds}
use Rattle.agreement_core.proofs.Stepping.{lead_edge}
use Rattle.agreement_core.proofs.LineEvents.{store_misses}
use Rattle.agreement_core.proofs.Lines.{store_logged, stored_same}
use Rattle.agreement_core.proofs.Noting.{above, below, moves_else, edge_rises, lasts_came, exact_same, one_lasts}

-- one exchange more
pub won_here : {A : Type 0} → (found expected : ℕ) (x : A) (xs : List A) → found ≡ expected → with_won found expected x xs ≡ x ∷ xs
won_here found expected x xs e = grind arith

pub won_not : {A : Type 0} → (found expected : ℕ) (x : A) (xs : List A) → found ≢ expected → with_won found expected x xs ≡ xs
won_not found expected x xs ne = grind arith

-- what was written is written once
pub written_won : (found word : ℕ) → 0 < word → with_won found 0 word (written found) ≡ written (written_once found word)
written_won found word some = grind arith

-- at most one, where there was none or nothing is added
pub once_won : {A : Type 0} → (found : ℕ) (x : A) (xs : List A) → length xs ≤ 1 → (found ≡ 0 → xs ≡ []) → length (with_won found 0 x xs) ≤ 1
once_won found x xs most none = ⊎_elim
    (λ e. subst (λ ys. length ys ≤ 1) (sym (won_here found 0 x xs e ∙ ap (λ ys. x ∷ ys) (none e))) (omega arith))
    (λ ne. subst (λ ys. length ys ≤ 1) (sym (won_not found 0 x xs ne)) most)
    (cases_eq found 0)

two_else : {A : Type 0} → (f : ℕ → ℕ → A) (r s : ℕ) (v : A) (i j : ℕ) → i ≢ r → upd2 f r s v i j ≡ f i j
two_else f r s v i j ne = grind arith

two_row : {A : Type 0} → (f : ℕ → ℕ → A) (r s : ℕ) (v : A) (j : ℕ) → j ≢ s → upd2 f r s v r j ≡ f r j
two_row f r s v j ne = grind arith

two_here : {A : Type 0} → (f : ℕ → ℕ → A) (r s : ℕ) (v : A) → upd2 f r s v r s ≡ v
two_here f r s v = grind arith

-- what holds of a function changed at a pair
pub two_split : {A : Type 0} → (f : ℕ → ℕ → A) (r s : ℕ) (v : A) (Q : ℕ → ℕ → A → Type 0) → Q r s v → ((i j : ℕ) → Q i j (f i j))
    → (i j : ℕ) → Q i j (upd2 f r s v i j)
two_split f r s v Q here else i j = ⊎_elim
    (λ e. ⊎_elim
    (λ e'. subst (λ n. Q n j (upd2 f r s v n j)) (sym e)
    (subst (λ n. Q r n (upd2 f r s v r n)) (sym e') (subst (Q r s) (sym (two_here f r s v)) here)))
    (λ ne. subst (λ n. Q n j (upd2 f r s v n j)) (sym e) (subst (Q r j) (sym (two_row f r s v j ne)) (else r j)))
    (cases_eq j s))
    (λ ne. subst (Q i j) (sym (two_else f r s v i j ne)) (else i j))
    (cases_eq i r)

module _ (c : CellRules) (w : AgreementState) (old : IsSound c w) (h : History) (exact : IsExact w h) where
  -- a section is published under a new number
  module _ (d lock word request : ℕ) (code : ℕ → Micro) (slot : ℕ → ℕ) (ok : Enabled c w (Publish d lock word request code slot)) where
    abbrev w1 : AgreementState
    w1 = after w (Publish d lock word request code slot)

    abbrev n : ℕ
    n = suc h.published

    abbrev numbers : ℕ → ℕ
    numbers = upd h.section d n

    fresh : (d' : ℕ) → h.section d' ≢ n
    fresh d' e = let b = exact.numbered d' in omega arith

    used_else : (d' : ℕ) → d' ≢ d → w1.used d' ≡ true → w.used d' ≡ true
    used_else d' ne u = sym (upd_else w.used d d' true ne) ∙ u

    -- what is said of the numbers of used descriptors: of the new one, and of the others as before
    by_used : (Q : ℕ → Section → Type 0)
        → Q n (record (w.section d) { lock = lock; word = word; request = request; code = code; slot = slot; log = λ k. 0; edge = 0 })
        → ((d' : ℕ) → w.used d' ≡ true → Q (h.section d') (w.section d')) → (d' : ℕ) → w1.used d' ≡ true → Q (numbers d') (w1.section d')
    by_used Q here else d' u = ⊎_elim
        (λ e. subst (λ m. Q (numbers m) (w1.section m)) (sym e)
        (subst (λ m. Q m (w1.section d)) (sym (upd_here h.section d n)) (subst (Q n) (sym (upd_here w.section d _)) here)))
        (λ ne. subst (λ m. Q m (w1.section d')) (sym (upd_else h.section d d' n ne))
        (subst (Q (h.section d')) (sym (upd_else w.section d d' _ ne)) (else d' (used_else d' ne u))))
        (cases_eq d' d)

    apart_new : (d1 d2 : ℕ) → 1 ≤ numbers d1 → numbers d1 ≡ numbers d2 → d1 ≡ d2
    apart_new d1 d2 le same = ⊎_elim
        (λ e1. ⊎_elim (λ e2. e1 ∙ sym e2)
        (λ ne2. absurd (fresh d2 (sym (upd_else h.section d d2 n ne2) ∙ sym same ∙ ap numbers e1 ∙ upd_here h.section d n)))
        (cases_eq d2 d))
        (λ ne1. ⊎_elim (λ e2. absurd (fresh d1 (sym (upd_else h.section d d1 n ne1) ∙ same ∙ ap numbers e2 ∙ upd_here h.section d n)))
        (λ ne2. exact.apart d1 d2 (subst (λ m. 1 ≤ m) (upd_else h.section d d1 n ne1) le)
        (sym (upd_else h.section d d1 n ne1) ∙ same ∙ upd_else h.section d d2 n ne2)) (cases_eq d2 d))
        (cases_eq d1 d)

    pub publish_exact : IsExact w1 (noted w h (Publish d lock word request code slot))
    publish_exact = record {
      numbered = upd_split h.section d n (λ d' m. m ≤ suc h.published) (omega arith) (λ d' ne. let b = exact.numbered d' in omega arith);
      named = by_used (λ m s. 1 ≤ m) (omega arith) exact.named;
      apart = apart_new;
      unborn_moved = λ m i lt. exact.unborn_moved m i (omega arith);
      unborn_stamped = λ m lt. exact.unborn_stamped m (omega arith);
      unborn_replied = λ m lt. exact.unborn_replied m (omega arith);
      moved = λ d' i. by_used (λ m s. h.moved m i ≡ moves_of s i) (exact.unborn_moved n i (omega arith) ∙ sym (above i 0 _ _ (omega arith)))
          (λ d'' u. exact.moved d'' i u) d';
      moved_once = exact.moved_once;
      stamps = exact.stamps;
      replies = exact.replies;
      stamped_once = exact.stamped_once;
      replied_once = exact.replied_once;
      unstamped = by_used (λ m s. w.shared.stamp s.request ≡ 0 → h.stamped m ≡ [])
          (λ z. exact.unborn_stamped n (omega arith)) exact.unstamped;
      unreplied = by_used (λ m s. w.shared.reply s.request ≡ 0 → h.replied m ≡ [])
          (λ z. exact.unborn_replied n (omega arith)) exact.unreplied;
      stamped_late = by_used (λ m s. ((i : ℕ) → i < s.edge → is_stamp_exchange (s.code i) ≡ false) → h.stamped m ≡ [])
          (λ z. exact.unborn_stamped n (omega arith)) exact.stamped_late;
      replied_late = by_used (λ m s. ((i : ℕ) → i < s.edge → is_reply_exchange (s.code i) ≡ false) → h.replied m ≡ [])
          (λ z. exact.unborn_replied n (omega arith)) exact.replied_late;
    }

  -- a run exchanges a cell
  module _ (r place log : ℕ) (v : Source) (ok : Enabled c w (ExchangeCell r place log v)) where
    abbrev q : Run
    q = w.run r

    abbrev d : ℕ
    d = q.descriptor

    abbrev s : Section
    s = w.section d

    abbrev stored : AgreementState
    stored = after w (ExchangeCell r place log v)

    abbrev change : Change
    change = record { place = place; old = q.trail log; new = stored_word q.trail log v }

    used : w.used d ≡ true
    used = old.running_used r ok.running

    own : UsedIsSound c w.shared (w.live d) (w.over d) d s
    own = old.sections d used

    run : RunIsSound c w.shared d s q
    run = old.runs r ok.running

    same_moved : w.shared.cells place ≢ q.trail log → (i j : ℕ)
        → upd2 h.moved (h.section d) q.at (with_won (w.shared.cells place) (q.trail log) change
        (h.moved (h.section d) q.at)) i j ≡ h.moved i j
    same_moved ne = two_split h.moved (h.section d) q.at _ (λ i j xs. xs ≡ h.moved i j) (won_not _ _ change _ ne) (λ i j. refl)

    late_exact : q.at < s.edge → IsExact stored (noted w h (ExchangeCell r place log v))
    late_exact lt =
        let same = fun_ext (λ i. fun_ext (same_moved (store_misses c w old r place log v ok.running ok.next lt) i)) in
        subst (λ moved. IsExact stored (record h { moved = moved })) (sym same)
        (exact_same w stored h (record {
          stamp = λ n. refl;
          reply = λ n. refl;
          was_used = λ d' u. u;
          sections = λ d' u. one_lasts w.section d (came s (suc q.at))
              (lasts_came s q.at run.in_trail.behind (λ e. absurd (omega arith))) d';
        }) exact)

    -- the agreed words of the trail are those of the log
    trail_same : (k : ℕ) → k < s.slot q.at → q.trail k ≡ s.log k
    trail_same k lt = run.in_trail.agreed k (let e = run.in_trail.counted in omega arith)

    change_is : change ∷ [] ≡ change_of s.log (s.code q.at)
    change_is =
        let a : q.trail log ≡ s.log log = trail_same log
        (store_logged c s.lock s.code s.slot own.published.line q.at place log v ok.next) in
        let b : stored_word q.trail log v ≡ stored_word s.log log v = stored_same c s.lock s.code s.slot own.published.line q.at place log v q.trail s.log ok.next trail_same in
        let e : change ∷ [] ≡ change_of s.log (micros.ExchangeCell place log v) = λ t.
        record { place = place; old = a t; new = b t } ∷ [] in
        e ∙ ap (change_of s.log) (sym ok.next)

    lead_finds : q.at ≡ s.edge → w.shared.cells place ≡ q.trail log
    lead_finds at = store_finds c w.shared d s place log v own.published (ap s.code (sym at) ∙ ok.next) own.section
        ∙ sym (trail_same log (store_logged c s.lock s.code s.slot own.published.line q.at place log v ok.next))

    abbrev moved' : ℕ → ℕ → List Change
    moved' = (noted w h (ExchangeCell r place log v)).moved

    -- the first change of this exchange
    won : q.at ≡ s.edge → with_won (w.shared.cells place) (q.trail log) change (h.moved (h.section d) q.at) ≡ change ∷ []
    won at = won_here _ _ change _ (lead_finds at) ∙ ap (λ xs. change ∷ xs) (exact.moved d q.at used ∙ above q.at s.edge _ _ (omega arith))

    own_moved : q.at ≡ s.edge → (i : ℕ) → moved' (h.section d) i ≡ moves_of (came s (suc q.at)) i
    own_moved at i = ⊎_elim
        (λ e. subst (λ n. moved' (h.section d) n ≡ moves_of (came s (suc q.at)) n) (sym e)
        (two_here h.moved (h.section d) q.at _ ∙ won at ∙ change_is
        ∙ sym (below q.at _ _ _ (subst (λ n. q.at < n) (sym (lead_edge s.edge q.at at)) (omega arith)))))
        (λ ne. two_row h.moved (h.section d) q.at _ i ne ∙ exact.moved d i used
        ∙ sym (moves_else s q.at i run.in_trail.behind (λ e. ne (e ∙ sym at))))
        (cases_eq i q.at)

    other_number : (d' : ℕ) → d' ≢ d → w.used d' ≡ true → h.section d' ≢ h.section d
    other_number d' ne u e = ne (exact.apart d' d (exact.named d' u) e)

    all_moved : q.at ≡ s.edge → (d' : ℕ) → (i : ℕ) → w.used d' ≡ true → moved' (h.section d') i ≡ moves_of (stored.section d') i
    all_moved at = upd_split w.section d (came s (suc q.at)) (λ d' s. (i : ℕ) → w.used d' ≡ true → moved' (h.section d') i ≡ moves_of s i)
        (λ i u. own_moved at i)
        (λ d' ne i u. two_else h.moved (h.section d) q.at _ (h.section d') i (other_number d' ne u) ∙ exact.moved d' i u)

    lead_exact : q.at ≡ s.edge → IsExact stored (noted w h (ExchangeCell r place log v))
    lead_exact at =
        let request : (d' : ℕ) → (stored.section d').request ≡ (w.section d').request = upd_split w.section d (came s (suc q.at))
        (λ d' s. s.request ≡ (w.section d').request) refl (λ d' ne. refl) in
        let code : (d' : ℕ) → (stored.section d').code ≡ (w.section d').code = upd_split w.section d (came s (suc q.at))
        (λ d' s. s.code ≡ (w.section d').code) refl (λ d' ne. refl) in
        let edge : (d' : ℕ) → (w.section d').edge ≤ (stored.section d').edge = upd_split w.section d (came s (suc q.at))
        (λ d' s. (w.section d').edge ≤ s.edge) (edge_rises s.edge (suc q.at)) (λ d' ne. omega arith) in
        record {
          numbered = exact.numbered;
          named = exact.named;
          apart = exact.apart;
          unborn_moved = λ n i lt. two_else h.moved (h.section d) q.at _ n i (λ e. let b = exact.numbered d in omega arith)
              ∙ exact.unborn_moved n i lt;
          unborn_stamped = exact.unborn_stamped;
          unborn_replied = exact.unborn_replied;
          moved = λ d' i u. all_moved at d' i u;
          moved_once = two_split h.moved (h.section d) q.at _
              (λ n i xs. length xs ≤ 1) (subst (λ xs. length xs ≤ 1) (sym (won at)) (omega arith)) exact.moved_once;
          stamps = exact.stamps;
          replies = exact.replies;
          stamped_once = exact.stamped_once;
          replied_once = exact.replied_once;
          unstamped = λ d' u z. exact.unstamped d' u (ap w.shared.stamp (sym (request d')) ∙ z);
          unreplied = λ d' u z. exact.unreplied d' u (ap w.shared.reply (sym (request d')) ∙ z);
          stamped_late = λ d' u late. exact.stamped_late d' u
              (λ i lt. ap (λ (f : ℕ → Micro). is_stamp_exchange (f i)) (sym (code d')) ∙ late i (let e = edge d' in omega arith));
          replied_late = λ d' u late. exact.replied_late d' u
              (λ i lt. ap (λ (f : ℕ → Micro). is_reply_exchange (f i)) (sym (code d')) ∙ late i (let e = edge d' in omega arith));
        }

    pub exchange_exact : IsExact stored (noted w h (ExchangeCell r place log v))
    exchange_exact = ⊎_elim (λ lt. late_exact lt) (λ ge. lead_exact (let b = run.in_trail.behind in omega arith)) (cases_lt q.at s.edge)
