-- The changes of shared words that come before a run goes on: a cell is read, the clock, a stamp or a reply is written, a cell is stored privately.
use Rattle.std.proofs.Common.{◌≡◌, ℕ, suc, ◌<◌, ◌≤◌, Bool, true, refl, sym, ap, ◌∙◌, subst, inl, ⊎_elim, arith}
use Rattle.std.proofs.lemmas.Bool.{cases_eq}
use Rattle.std.specs.Prelude.{◌⊎◌}
use Rattle.section_lines.specs.structure_laws.specs.body_terms.specs.Update.{upd}
use Rattle.section_lines.specs.structure_laws.specs.body_terms.specs.Run.{written_once}
use Rattle.section_lines.specs.structure_laws.specs.body_terms.specs.Word.{value_of, version_of}
use Rattle.agreement_core.specs.Update.{upd2}
use Rattle.agreement_core.specs.State.{CellRules, Shared, AgreementState}
use Rattle.agreement_core.specs.Events.{HasCome, IsPrivateStore, reads, with_cell}
use Rattle.agreement_core.specs.Sound.{VersionsAreSound, IsSound}
use Rattle.agreement_core.proofs.Frame.{LeavesWords}
use Rattle.agreement_core.proofs.Committing.{upd_here, upd_else}
use Rattle.agreement_core.proofs.Storing.{puts, puts_words, puts_rises}
use Rattle.agreement_core.proofs.Changing.{puts_versions}
use Rattle.agreement_core.proofs.Moving.{shared_moves}

-- a pair that was marked, or was before
marked : (f : ℕ → ℕ → Bool) (a b i j : ℕ) → upd2 f a b true i j ≡ true → ((i ≡ a) × (j ≡ b)) ⊎ (f i j ≡ true)
marked f a b i j h = grind arith

marks : (f : ℕ → ℕ → Bool) (a b i j : ℕ) → f i j ≡ true → upd2 f a b true i j ≡ true
marks f a b i j h = grind arith

pub marks_here : (f : ℕ → ℕ → Bool) (a b : ℕ) → upd2 f a b true a b ≡ true
marks_here f a b = grind arith

-- what was written stays
pub stays : (f : ℕ → ℕ) (k word i : ℕ) → 0 < f i → upd f k (written_once (f k) word) i ≡ f i
stays f k word i h = grind arith

pub written_some : (f : ℕ → ℕ) (k word : ℕ) → 0 < word → 0 < upd f k (written_once (f k) word) k
written_some f k word h = grind arith

-- no cell changes
cells_stay : (c : CellRules) (w : AgreementState) (x' : Shared) → x'.cells ≡ w.shared.cells → VersionsAreSound c x'
    → LeavesWords w.shared x' → IsSound c w → IsSound c (record w { shared = x' })
cells_stay c w x' same versions words old = shared_moves c w x' (record {
  versions = versions;
  rises = λ p. inl (ap (λ (f : ℕ → ℕ). f p) same);
  words = words;
  loaded = λ d u un p h. ap (λ (f : ℕ → ℕ). f p) same;
  held = λ d u un p lock v. ap (λ (f : ℕ → ℕ). f p) same;
  named = λ d p lock v. ap (λ (f : ℕ → ℕ). f p) same;
}) old

pub reads_sound : (c : CellRules) (w : AgreementState) (place : ℕ) → IsSound c w → IsSound c (reads w place)
reads_sound c w place old =
    let x = w.shared in
    cells_stay c w ((reads w place).shared) refl
    (record {
      positive = old.versions.positive;
      bounded = old.versions.bounded;
      past = λ p v h. ⊎_elim (λ e. inl (ap x.cells e.0 ∙ sym e.1))
          (λ e. old.versions.past p v e) (marked x.seen place (x.cells place) p v h);
      read_positive = λ p v h. ⊎_elim (λ e. subst (λ n. 0 < version_of n) (sym e.1) (old.versions.positive place))
          (λ e. old.versions.read_positive p v e) (marked x.seen place (x.cells place) p v h);
    })
    (record { seen = λ p v h. marks x.seen place (x.cells place) p v h; clock = omega arith; stamp = λ n h. refl; reply = λ n h. refl }) old

same_versions : (c : CellRules) (x x' : Shared) → x'.cells ≡ x.cells → x'.seen ≡ x.seen → VersionsAreSound c x → VersionsAreSound c x'
same_versions c x x' cells seen old = record {
  positive = λ p. subst (λ (f : ℕ → ℕ). 0 < version_of (f p)) (sym cells) (old.positive p);
  bounded = λ p. subst (λ (f : ℕ → ℕ). version_of (f p) ≤ c.version_max) (sym cells) (old.bounded p);
  past = λ p v h. subst (λ (f : ℕ → ℕ). (f p ≡ v) ⊎ (version_of v < version_of (f p))) (sym cells)
      (old.past p v (ap (λ (f : ℕ → ℕ → Bool). f p v) (sym seen) ∙ h));
  read_positive = λ p v h. old.read_positive p v (ap (λ (f : ℕ → ℕ → Bool). f p v) (sym seen) ∙ h);
}

pub stamps_sound : (c : CellRules) (w : AgreementState) (request word : ℕ) → IsSound c w
    → IsSound c (record w {
      shared = record (w.shared) {
        stamp = upd w.shared.stamp request
            (written_once (w.shared.stamp request) word);
      };
    })
stamps_sound c w request word old = cells_stay c w _ refl (same_versions c w.shared _ refl refl old.versions)
    (record { seen = λ p v h. h; clock = omega arith; stamp = λ n h. stays w.shared.stamp request word n h; reply = λ n h. refl }) old

pub replies_sound : (c : CellRules) (w : AgreementState) (request word : ℕ) → IsSound c w
    → IsSound c (record w {
      shared = record (w.shared) {
        reply = upd w.shared.reply request
            (written_once (w.shared.reply request) word);
      };
    })
replies_sound c w request word old = cells_stay c w _ refl (same_versions c w.shared _ refl refl old.versions)
    (record { seen = λ p v h. h; clock = omega arith; stamp = λ n h. refl; reply = λ n h. stays w.shared.reply request word n h }) old

pub raises_sound : (c : CellRules) (w : AgreementState) (clock : ℕ) → w.shared.clock ≤ clock → IsSound c w
    → IsSound c (record w { shared = record (w.shared) { clock = clock } })
raises_sound c w clock up old = cells_stay c w _ refl (same_versions c w.shared _ refl refl old.versions)
    (record { seen = λ p v h. h; clock = up; stamp = λ n h. refl; reply = λ n h. refl }) old

-- a private store
pub stores_sound : (c : CellRules) (w : AgreementState) (place word : ℕ) → IsPrivateStore c w place word → IsSound c w
    → IsSound c (with_cell w place word)
stores_sound c w place word store old =
    let x = w.shared in
    let more : version_of (x.cells place) < version_of word = let a = store.rises in omega arith in
    shared_moves c w (puts x place word) (record {
      versions = puts_versions c x place word more store.bounded old.versions;
      rises = puts_rises x place word more;
      words = puts_words x place word;
      loaded = λ d u un p come. upd_else x.cells place p word
          (λ e. store.apart d (record { used = u; undone = un }) (subst (HasCome (w.section d)) e come));
      held = λ d u un p lock v. upd_else x.cells place p word
          (λ e. let z : suc d ≡ 0 = sym v ∙ ap (λ n. value_of (x.cells n)) e ∙ store.free_before (ap c.is_lock (sym e) ∙ lock) in
          omega arith);
      named = λ d p lock v. ⊎_elim
          (λ e. absurd (let z : suc d ≡ 0 = sym v ∙ ap value_of (ap (upd x.cells place word) e ∙ upd_here x.cells place word)
          ∙ store.free_after (ap c.is_lock (sym e) ∙ lock) in omega arith))
          (λ ne. upd_else x.cells place p word ne) (cases_eq p place);
    }) old
