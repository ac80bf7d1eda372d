-- The component's changes, one by one: what they leave, and what they make of the run.
use Rattle.std.specs.Prelude.{◌==◌, ◌&&◌, ◌||◌, Bool, true, false, nat_le, slice_index, cond}
use Rattle.std.proofs.Common.{◌≡◌, ◌≢◌, ℕ, zero, suc, ◌+◌, List, [], ◌∷◌, ◌++◌, length, sym, refl, ap, ◌∙◌, subst, arith, inl, inr, ⊎_elim, length-append}
use Rattle.std.specs.Prelude.{◌⊎◌}
use Rattle.std.proofs.lemmas.Bool.{cases_eq}
use Rattle.std.proofs.lemmas.Bool.Decides.{nat_tests}
use Rattle.machine_states.specs.body_terms.specs.Run.{written_once}
use Rattle.machine_states.specs.table_words.specs.declared.spot.Spot.{Spot}
use Rattle.machine_states.specs.table_words.specs.declared.spot.Spot.TheVariants as spots
use Rattle.machine_states.specs.body_terms.specs.Update.{upd}
use Rattle.machine_states.specs.runner_parts.specs.State.{RunState}
use Rattle.machine_states.specs.runner_parts.specs.Tests.{has_pair}
use Rattle.agreement_core.specs.State.{Shared, Section, Run, AgreementState, section_of}
use Rattle.agreement_core.specs.Update.{upd2}
use Rattle.agreement_core.specs.Checks.{came}
use Rattle.agreement_core.specs.Events.{goes_on, agrees, with_cell, reads}
use Rattle.machine_states.proofs.Updates.{upd_here, upd_else, upd_split}
use Rattle.machine_agreement.specs.Joined.{IsRunOf, ShowsSection}
use Rattle.machine_agreement.proofs.Frames.{HasSameText, IsOwnStep}

same_text : (x : Section) → HasSameText x x
same_text x = record { lock = refl; word = refl; request = refl; code = refl; slot = refl }

pub own_none : (w : AgreementState) (r : ℕ) → IsOwnStep w w r
own_none w r = record { others = λ i ne. refl; used = refl; live = refl; over = refl; finishes = refl; finished = refl; text = λ d. same_text (w.section d); seen = λ p word is. is }

pub own_then : (w w' w'' : AgreementState) (r : ℕ) → IsOwnStep w w' r → IsOwnStep w' w'' r → IsOwnStep w w'' r
own_then w w' w'' r one two = record {
  others = λ i ne. two.others i ne ∙ one.others i ne;
  used = two.used ∙ one.used;
  live = two.live ∙ one.live;
  over = two.over ∙ one.over;
  finishes = two.finishes ∙ one.finishes;
  finished = two.finished ∙ one.finished;
  text = λ d. let a = one.text d in let b = two.text d in record { lock = b.lock ∙ a.lock; word = b.word ∙ a.word; request = b.request ∙ a.request; code = b.code ∙ a.code; slot = b.slot ∙ a.slot };
  seen = λ p word is. two.seen p word (one.seen p word is);
}

-- a change of the shared words that forgets nothing that was read
pub own_shared : (w : AgreementState) (r : ℕ) (x : Shared) → ((p word : ℕ) → w.shared.seen p word ≡ true → x.seen p word ≡ true) → IsOwnStep w (record w { shared = x }) r
own_shared w r x seen = record { others = λ i ne. refl; used = refl; live = refl; over = refl; finishes = refl; finished = refl; text = λ d. same_text (w.section d); seen = seen }

module _ (w : AgreementState) (r : ℕ) where
  -- the run goes on behind its step
  pub goes_on_own : (word : ℕ) → IsOwnStep w (goes_on w r word) r
  goes_on_own word = record {
    others = λ i ne. upd_else w.run r _ i ne;
    used = refl;
    live = refl;
    over = refl;
    finishes = refl;
    finished = refl;
    text = upd_split w.section (w.run r).descriptor (came (section_of w r) (suc ((w.run r).at))) (λ i x. HasSameText x (w.section i)) (record { lock = refl; word = refl; request = refl; code = refl; slot = refl }) (λ i ne. same_text (w.section i));
    seen = λ p word is. is;
  }

  pub goes_on_run : (q : RunState) (word : ℕ) → IsRunOf (w.run r) q → IsRunOf ((goes_on w r word).run r) (record q { at = q.at + 1; word = word })
  goes_on_run q word is = subst (λ (x : Run). IsRunOf x (record q { at = q.at + 1; word = word })) (sym (upd_here w.run r (record (w.run r) { at = suc ((w.run r).at); word = word })))
      (record { running = is.running; descriptor = is.descriptor; at = (let a = is.at in omega arith); word = refl; count = is.count; trail = is.trail; ended = is.ended })

  pub goes_on_sections : (word : ℕ) (f : Spot → ℕ) → ((d : ℕ) → ShowsSection (w.section d) f d) → (d : ℕ) → ShowsSection ((goes_on w r word).section d) f d
  goes_on_sections word f old = upd_split w.section (w.run r).descriptor (came (section_of w r) (suc ((w.run r).at))) (λ i x. ShowsSection x f i)
      (record { done = (old (w.run r).descriptor).done }) (λ i ne. old i)

  -- the section of the run after a commit
  abbrev after_agreeing : ℕ → ℕ → Section
  after_agreeing log proposal = came (record (section_of w r) { log = upd ((section_of w r).log) log (written_once ((section_of w r).log log) proposal) }) (suc ((w.run r).at))

  -- the run goes on with an agreed word
  pub agrees_own : (log proposal : ℕ) → IsOwnStep w (agrees w r log proposal) r
  agrees_own log proposal = record {
    others = λ i ne. upd_else w.run r _ i ne;
    used = refl;
    live = refl;
    over = refl;
    finishes = refl;
    finished = refl;
    text = upd_split w.section (w.run r).descriptor (after_agreeing log proposal) (λ i x. HasSameText x (w.section i)) (record { lock = refl; word = refl; request = refl; code = refl; slot = refl }) (λ i ne. same_text (w.section i));
    seen = λ p word is. is;
  }

  -- one more agreed word
  trail_more : (trail : ℕ → ℕ) (xs : List ℕ) (count word : ℕ) → count ≡ length xs → ((k : ℕ) → trail k ≡ slice_index xs k) → (k : ℕ) → upd trail count word k ≡ slice_index (xs ++ word ∷ []) k
  trail_more trail xs count word e same k = ⊎_elim
      (λ here. at here) (λ ne. ap (λ b. cond b word (trail k)) (test k count ne) ∙ (same k ∙ other xs word k (λ h. ne (h ∙ sym e)))) (cases_eq k count)
    where
      test : (k n : ℕ) → k ≢ n → (k == n) ≡ false
      test k n ne = grind (arith, nat_tests)

      last : (xs : List ℕ) (word : ℕ) → slice_index (xs ++ word ∷ []) (length xs) ≡ word
      last [] word = refl
      last (x ∷ xs) word = last xs word

      at : k ≡ count → upd trail count word k ≡ slice_index (xs ++ word ∷ []) k
      at here = ap (upd trail count word) here ∙ (upd_here trail count word ∙ (sym (last xs word) ∙ ap (slice_index (xs ++ word ∷ [])) (sym e ∙ sym here)))

      other : (xs : List ℕ) (word k : ℕ) → k ≢ length xs → slice_index xs k ≡ slice_index (xs ++ word ∷ []) k
      other [] word zero ne = absurd (ne refl)
      other [] word (suc k) ne = refl
      other (x ∷ xs) word zero ne = refl
      other (x ∷ xs) word (suc k) ne = other xs word k (λ h. ne (ap suc h))

  pub agrees_run : (q q1 : RunState) (log proposal agreed : ℕ) → IsRunOf (w.run r) q → written_once ((section_of w r).log log) proposal ≡ agreed
      → q1.descriptor ≡ q.descriptor → q1.at ≡ q.at + 1 → q1.word ≡ q.word → q1.trail ≡ q.trail ++ agreed ∷ [] → q1.ended ≡ q.ended → IsRunOf ((agrees w r log proposal).run r) q1
  agrees_run q q1 log proposal agreed is word d a n t e = subst (λ (x : Run). IsRunOf x q1) (sym (upd_here w.run r (record (w.run r) { at = suc ((w.run r).at); count = suc ((w.run r).count); trail = upd ((w.run r).trail) ((w.run r).count) (written_once ((section_of w r).log log) proposal) }))) (record {
    running = is.running;
    descriptor = is.descriptor ∙ sym d;
    at = (let b = is.at in omega arith);
    word = is.word ∙ sym n;
    count = (let b = is.count in let c = ap length t in let long = length-append q.trail (agreed ∷ []) in omega arith);
    trail = λ k. ap (λ v. upd ((w.run r).trail) ((w.run r).count) v k) word ∙ (trail_more ((w.run r).trail) q.trail ((w.run r).count) agreed is.count is.trail k ∙ ap (λ xs. slice_index xs k) (sym t));
    ended = is.ended ∙ ap (nat_le 1) (sym e);
  })

  -- the done words are as before after a commit
  pub agrees_sections : (log proposal : ℕ) (f f' : Spot → ℕ) → ((i : ℕ) → f' (spots.DoneWord i) ≡ f (spots.DoneWord i))
      → ((i : ℕ) → ShowsSection (w.section i) f i) → (i : ℕ) → ShowsSection ((agrees w r log proposal).section i) f' i
  agrees_sections log proposal f f' done old = upd_split w.section (w.run r).descriptor (after_agreeing log proposal) (λ i x. ShowsSection x f' i)
      (record { done = (old (w.run r).descriptor).done ∙ sym (done (w.run r).descriptor) })
      (λ i ne. record { done = (old i).done ∙ sym (done i) })

-- a word that was read stays read
seen_more : (f : ℕ → ℕ → Bool) (p word place found : ℕ) → f place found ≡ true → upd2 f p word true place found ≡ true
seen_more f p word place found is = grind (arith, nat_tests)

seen_now : (f : ℕ → ℕ → Bool) (p word place found : ℕ) → place ≡ p → found ≡ word → upd2 f p word true place found ≡ true
seen_now f p word place found e e' = grind (arith, nat_tests)

pub reads_own : (w : AgreementState) (r p : ℕ) → IsOwnStep w (reads w p) r
reads_own w r p = own_shared w r (record (w.shared) { seen = upd2 w.shared.seen p (w.shared.cells p) true }) (λ place found is. seen_more w.shared.seen p (w.shared.cells p) place found is)

pub with_cell_own : (w : AgreementState) (r p word : ℕ) → IsOwnStep w (with_cell w p word) r
with_cell_own w r p word = own_shared w r (record (w.shared) { cells = upd w.shared.cells p word }) (λ place found is. is)

either_pair : (xs : List (ℕ × ℕ)) (p word place found : ℕ) → has_pair (xs ++ (p, word) ∷ []) place found ≡ true → (has_pair xs place found ≡ true) ⊎ ((place ≡ p) × (found ≡ word))
either_pair [] p word place found e = inr (last p word place found e)
  where
    last : (p word place found : ℕ) → ((p == place && word == found) || false) ≡ true → (place ≡ p) × (found ≡ word)
    last p word place found e = grind (arith, nat_tests)
either_pair (x ∷ xs) p word place found e = by (x.0 == place && x.1 == found) refl e (either_pair xs p word place found)
  where
    or_true : (b : Bool) → (b || true) ≡ true
    or_true true = refl
    or_true false = refl

    by : (b : Bool) → (x.0 == place && x.1 == found) ≡ b → ((x.0 == place && x.1 == found) || has_pair (xs ++ (p, word) ∷ []) place found) ≡ true
        → (has_pair (xs ++ (p, word) ∷ []) place found ≡ true → (has_pair xs place found ≡ true) ⊎ ((place ≡ p) × (found ≡ word)))
        → (has_pair (x ∷ xs) place found ≡ true) ⊎ ((place ≡ p) × (found ≡ word))
    by true is e rest = inl (ap (λ b. b || has_pair xs place found) is)
    by false is e rest = ⊎_elim (λ old. inl (ap (λ b. (x.0 == place && x.1 == found) || b) old ∙ or_true (x.0 == place && x.1 == found)))
        (λ now. inr now) (rest (sym (ap (λ b. b || has_pair (xs ++ (p, word) ∷ []) place found) is) ∙ e))

-- what a runner has read, one more word among it, was read
pub reads_more : (w : AgreementState) (p word : ℕ) (cells cells' : List (ℕ × ℕ)) → w.shared.cells p ≡ word → cells' ≡ cells ++ (p, word) ∷ []
    → ((place found : ℕ) → has_pair cells place found ≡ true → w.shared.seen place found ≡ true) → (place found : ℕ) → has_pair cells' place found ≡ true → (reads w p).shared.seen place found ≡ true
reads_more w p word cells cells' here more old place found is = ⊎_elim
    (λ before. seen_more w.shared.seen p (w.shared.cells p) place found (old place found before))
    (λ now. seen_now w.shared.seen p (w.shared.cells p) place found now.0 (now.1 ∙ sym here))
    (either_pair cells p word place found (subst (λ xs. has_pair xs place found ≡ true) more is))
