-- What lists of events of agreement leave.
use Rattle.std.specs.Prelude.{map}
use Rattle.std.proofs.Common.{◌≡◌, ◌≢◌, ℕ, ◌<◌, ◌≤◌, Bool, true, false, List, [], ◌∷◌, refl, sym, ◌∙◌, subst, ⊎_elim, arith}
use Rattle.machine_states.specs.body_terms.specs.Update.{upd}
use Rattle.agreement_core.specs.State.{CellRules, Section, AgreementState}
use Rattle.agreement_core.specs.Events.{Event, Publish, Free, Enabled, after}
use Rattle.agreement_core.specs.Schedules.{AllEnabled, after_all}
use Rattle.agreement_core.specs.Sound.{IsOf, IsSound}
use Rattle.agreement_core.specs.Continuing.{GoesOn, EntriesStand}
use Rattle.agreement_core.specs.Closed.{IsClosed, NumbersStay}
use Rattle.agreement_core.specs.History.{History, noted, noted_all, IsExact}
use Rattle.agreement_core.proofs.Keeping.{keeps}
use Rattle.agreement_core.proofs.Recording.{keeps_exact}
use Rattle.agreement_core.proofs.Continuing.{goes_on_all, entries_stand, records_stand}
use Rattle.agreement_core.proofs.Closing.{closed_stay, numbers_stay, done_stand, ends_are_old}
use Rattle.machine_invariant.proofs.Runs.{AllAre}

-- an event that frees no descriptor, and one that publishes no section
abbrev pub is_unfreeing : Event → Bool
is_unfreeing (Free d) = false
is_unfreeing _ = true

abbrev pub is_unpublishing : Event → Bool
is_unpublishing (Publish d lock word request code slot) = false
is_unpublishing _ = true

one_goes : (s s1 s2 : Section) → GoesOn s s1 → GoesOn s1 s2 → GoesOn s s2
one_goes s s1 s2 one two = record {
  lock = two.lock ∙ one.lock;
  word = two.word ∙ one.word;
  request = two.request ∙ one.request;
  code = two.code ∙ one.code;
  slot = two.slot ∙ one.slot;
  log = λ k some. two.log k (subst (λ n. 0 < n) (sym (one.log k some)) some) ∙ one.log k some;
  edge = let a = one.edge in let b = two.edge in omega arith;
  done = λ ne. two.done (λ e. ne (sym (one.done ne) ∙ e)) ∙ one.done ne;
}

same_section : (s : Section) → GoesOn s s
same_section s = record {
  lock = refl;
  word = refl;
  request = refl;
  code = refl;
  slot = refl;
  log = λ k some. refl;
  edge = omega arith;
  done = λ ne. refl;
}

module _ (c : CellRules) where
  -- what was changed by a published section that isn't open stays so, and it is never open again
  pub record Closed (w w' : AgreementState) (h h' : History) (n : ℕ) : Type 0 where
    pub moved : (i : ℕ) → h'.moved n i ≡ h.moved n i
    pub stamped : h'.stamped n ≡ h.stamped n
    pub replied : h'.replied n ≡ h.replied n
    pub closed : IsClosed w' h' n
    pub published : n ≤ h'.published

  rises : (w w' : AgreementState) (h h' : History) (n : ℕ) → NumbersStay w w' h h' → n ≤ h.published → n ≤ h'.published
  rises w w' h h' n numbers le = ⊎_elim (λ same. subst (λ k. n ≤ k) (sym same) le)
      (λ more. subst (λ k. n ≤ k) (sym more.0) (omega arith)) numbers.next

  pub closed_all : (w : AgreementState) (h : History) (es : List Event) → AllEnabled c w es → IsSound c w → IsExact w h → (n : ℕ)
      → n ≤ h.published → IsClosed w h n → Closed w (after_all c w es) h (noted_all w h es) n
  closed_all w h [] ok old exact n le closed = record {
    moved = λ i. refl;
    stamped = refl;
    replied = refl;
    closed = closed;
    published = le;
  }
  closed_all w h (e ∷ es) ok old exact n le closed =
      let one = closed_stay c w h e ok.0 old exact in
      let numbers = numbers_stay c w h e ok.0 in
      let more = closed_all (after w e) (noted w h e) es ok.1 (keeps c w e ok.0 old) (keeps_exact c w h e ok.0 old exact) n
      (rises w (after w e) h (noted w h e) n numbers le) (one.closed n le closed) in
      record {
        moved = λ i. more.moved i ∙ one.moved n i closed;
        stamped = more.stamped ∙ one.stamped n closed;
        replied = more.replied ∙ one.replied n closed;
        closed = more.closed;
        published = more.published;
      }

  pub entries_all : (w : AgreementState) (es : List Event) → EntriesStand w (after_all c w es)
  entries_all w [] = record { stamp = λ q some. refl; reply = λ q some. refl }
  entries_all w (e ∷ es) =
      let one = entries_stand w e in let more = entries_all (after w e) es in
      record {
        stamp = λ q some. more.stamp q (subst (λ n. 0 < n) (sym (one.stamp q some)) some) ∙ one.stamp q some;
        reply = λ q some. more.reply q (subst (λ n. 0 < n) (sym (one.reply q some)) some) ∙ one.reply q some;
      }

  -- a used descriptor and its section, where none is freed
  pub record Lasts (w w' : AgreementState) (d : ℕ) : Type 0 where
    pub used : w'.used d ≡ true
    pub goes : GoesOn (w.section d) (w'.section d)
    pub edge : (w.section d).done ≢ 0 → (w'.section d).edge ≡ (w.section d).edge
    pub log : (w.section d).done ≢ 0 → (k : ℕ) → (w'.section d).log k ≡ (w.section d).log k

  still_used : (w : AgreementState) (e : Event) → Enabled c w e → is_unfreeing e ≡ true → (d : ℕ) → w.used d ≡ true
      → (after w e).used d ≡ true
  still_used w (Publish d' lock word request code slot) ok is d used = here w.used d' d used
    where
      here : (f : ℕ → Bool) (d' d : ℕ) → f d ≡ true → upd f d' true d ≡ true
      here f d' d used = grind arith
  still_used w (Free d') ok is d used = absurd (cc)
  still_used w e ok is d used = used

  pub lasts_all : (w : AgreementState) (es : List Event) → AllEnabled c w es → IsSound c w → AllAre is_unfreeing es → (d : ℕ)
      → w.used d ≡ true → Lasts w (after_all c w es) d
  lasts_all w [] ok old are d used = record { used = used; goes = same_section (w.section d); edge = λ done. refl; log = λ done k. refl }
  lasts_all w (e ∷ es) ok old are d used =
      let one = goes_on_all c w e ok.0 d used in
      let stand = done_stand c w old e ok.0 in
      let more = lasts_all (after w e) es ok.1 (keeps c w e ok.0 old) are.1 d (still_used w e ok.0 are.0 d used) in
      let still : (w.section d).done ≢ 0 → ((after w e).section d).done ≢ 0 = λ done z. done (sym (one.done done) ∙ z) in
      record {
        used = more.used;
        goes = one_goes (w.section d) ((after w e).section d) _ one more.goes;
        edge = λ done. more.edge (still done) ∙ stand.edge d used done;
        log = λ done k. more.log (still done) k ∙ stand.log d k used done;
      }

  -- where descriptors alone are freed, every section is as it was
  pub frees_all : (w : AgreementState) (ds : List ℕ) (d : ℕ) → (after_all c w (map Free ds)).section d ≡ w.section d
  frees_all w [] d = refl
  frees_all w (x ∷ ds) d = frees_all (after w (Free x)) ds d

  pub frees_runs : (w : AgreementState) (ds : List ℕ) (r : ℕ) → (after_all c w (map Free ds)).run r ≡ w.run r
  frees_runs w [] r = refl
  frees_runs w (x ∷ ds) r = frees_runs (after w (Free x)) ds r

  -- where nothing is published, each section has its number
  pub record SameNumbers (h h' : History) : Type 0 where
    pub published : h'.published ≡ h.published
    pub section : h'.section ≡ h.section

  one_unpublished : (w : AgreementState) (h : History) (e : Event) → is_unpublishing e ≡ true → SameNumbers h (noted w h e)
  one_unpublished w h (Publish d lock word request code slot) is = absurd (cc)
  one_unpublished w h e is = record { published = refl; section = refl }

  pub unpublished_all : (w : AgreementState) (h : History) (es : List Event) → AllAre is_unpublishing es
      → SameNumbers h (noted_all w h es)
  unpublished_all w h [] are = record { published = refl; section = refl }
  unpublished_all w h (e ∷ es) are =
      let one = one_unpublished w h e are.0 in let more = unpublished_all (after w e) (noted w h e) es are.1 in
      record { published = more.published ∙ one.published; section = more.section ∙ one.section }

  -- what was used before, where nothing is published
  one_used : (w : AgreementState) (e : Event) → is_unpublishing e ≡ true → (d : ℕ) → (after w e).used d ≡ true → w.used d ≡ true
  one_used w (Publish d' lock word request code slot) is d used = absurd (cc)
  one_used w (Free d') is d used = free w.used d' d used
    where
      free : (f : ℕ → Bool) (d' d : ℕ) → upd f d' false d ≡ true → f d ≡ true
      free f d' d used = grind arith
  one_used w e is d used = used

  pub used_all : (w : AgreementState) (es : List Event) → AllAre is_unpublishing es → (d : ℕ) → (after_all c w es).used d ≡ true
      → w.used d ≡ true
  used_all w [] are d used = used
  used_all w (e ∷ es) are d used = one_used w e are.0 d (used_all (after w e) es are.1 d used)

  -- a section of which a run had come to its end was there before
  pub record WasThere (w : AgreementState) (d r i : ℕ) : Type 0 where
    pub used : w.used d ≡ true
    pub of_section : IsOf (w.finished r i) (w.section d)

  pub ends_all : (w : AgreementState) (es : List Event) → AllEnabled c w es → IsSound c w → (d r i : ℕ) → i < w.finishes r
      → (after_all c w es).used d ≡ true → IsOf (w.finished r i) ((after_all c w es).section d) → WasThere w d r i
  ends_all w [] ok old d r i lt used is = record { used = used; of_section = is }
  ends_all w (e ∷ es) ok old d r i lt used is =
      let one = ends_are_old c w old e ok.0 in
      let kept = records_stand w e in
      let lt' : i < (after w e).finishes r = let a = kept.more r in omega arith in
      let same = kept.same r i lt in
      let more = ends_all (after w e) es ok.1 (keeps c w e ok.0 old) d r i lt' used
      (subst (λ f. IsOf f ((after_all c (after w e) es).section d)) (sym same) is) in
      let is' = subst (λ f. IsOf f ((after w e).section d)) same more.of_section in
      record { used = one.used d r i lt more.used is'; of_section = one.same d r i lt more.used is' }
