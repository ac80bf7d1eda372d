-- How a section leaves that found another word than the expected one.
use Rattle.std.specs.Prelude.{◌==◌, ◌&&◌, ◌⊎◌, cond, not, Bool, true, false, slice_index}
use Rattle.std.proofs.Common.{◌≡◌, ◌≢◌, ℕ, List, refl, sym, ap, ◌∙◌, inl, inr, arith, Option, Some, None}
use Rattle.std.proofs.lemmas.Bool.Decides.{nat_tests}
use Rattle.machine_states.specs.body_terms.specs.Run.{leaves, refusal, is_takable}
use Rattle.machine_states.specs.body_terms.specs.Word.{held_word, is_free, is_spent}
use Rattle.machine_states.specs.body_terms.specs.declared.outcome.Outcome.{Outcome}
use Rattle.machine_states.specs.body_terms.specs.declared.outcome.Outcome.TheVariants.{Busy, Stale, Spent}
use Rattle.machine_states.specs.body_terms.specs.declared.micro.Micro.{Micro}
use Rattle.machine_states.specs.body_terms.specs.declared.micro.Micro.TheVariants.{CheckWord, CheckFresh, CheckFree, CheckHeld}
use Rattle.machine_states.specs.table_words.specs.declared.layout.Layout.{Layout}
use Rattle.machine_states.specs.runner_steps.specs.Sections.{setting_of, outcome_or}
use Rattle.machine_states.proofs.Steps.{some_same, none_some}

-- the check behind the outcome of a Take at which it leaves: its place in the log has the word
pub record IsHeldCheck (trail : List ℕ) (micro : Micro) (place expected read : ℕ) : Type 0 where
  pub log : ℕ
  pub check : micro ≡ CheckHeld place log expected
  pub word : slice_index trail log ≡ read

module _ (l : Layout) (d : ℕ) (trail : List ℕ) (place expected read : ℕ) where
  abbrev told : Outcome
  told = Stale place expected read

  -- the words differ, or it is that check
  abbrev pub Differs : Micro → Type 0
  Differs micro = (expected ≢ read) ⊎ IsHeldCheck trail micro place expected read

  abbrev Same : ℕ → ℕ → ℕ → Type 0
  Same p x y = (p ≡ place) × (x ≡ expected) × (y ≡ read)

  same_words : (p x y : ℕ) → Stale p x y ≡ told → Same p x y
  same_words p x y e = (cc, cc, cc)

  other : (x y : ℕ) → (y == x) ≡ false → x ≡ y → ⊥
  other x y h both = grind (arith, nat_tests)

  by_word : (b : Bool) (p x y : ℕ) → (y == x) ≡ b → cond b None (Some (Stale p x y)) ≡ Some told → expected ≢ read
  by_word true p x y test e = absurd (none_some _ (sym e))
  by_word false p x y test e = let same = same_words p x y (some_same _ _ e) in λ both. other x y test (same.1 ∙ (both ∙ sym same.2))

  by_fresh : (b : Bool) (p y : ℕ) → cond b (Some (Spent p y)) None ≡ Some told → ⊥
  by_fresh true p y e = let z = some_same _ _ e in cc
  by_fresh false p y e = none_some _ (sym e)

  -- a refusal as stale: the word is free and can be taken once more
  refused : (free spent : Bool) (p x y : ℕ) → cond free (cond spent (Spent p y) (Stale p x y)) (Busy p y) ≡ told
      → Same p x y × (free ≡ true) × (spent ≡ false)
  refused true true p x y e = absurd (let z = e in cc)
  refused true false p x y e = (same_words p x y e, refl, refl)
  refused false spent p x y e = absurd (let z = e in cc)

  by_free : (b : Bool) (p x y : ℕ) → is_takable (setting_of l d) x y ≡ b
      → cond b None (Some (refusal (setting_of l d) p x y)) ≡ Some told → expected ≢ read
  by_free true p x y test e = absurd (none_some _ (sym e))
  by_free false p x y test e =
      let h = refused (is_free y) (is_spent l.version_max y) p x y (some_same _ _ e) in
      λ both. other x y (untaken (y == x) (is_free y) (is_spent l.version_max y) test h.1 h.2) (h.0.1 ∙ (both ∙ sym h.0.2))
    where
      untaken : (same free spent : Bool) → (same && (free && not spent)) ≡ false → free ≡ true → spent ≡ false → same ≡ false
      untaken same free spent test is none = sym (and_true same) ∙ ((λ i. same && (sym is i && not (sym none i))) ∙ test)
        where
          and_true : (b : Bool) → (b && (true && not false)) ≡ b
          and_true true = refl
          and_true false = refl

  by_held : (b : Bool) (p x y : ℕ) → cond b None (Some (refusal (setting_of l d) p x y)) ≡ Some told → Same p x y
  by_held true p x y e = absurd (none_some _ (sym e))
  by_held false p x y e = (refused (is_free y) (is_spent l.version_max y) p x y (some_same _ _ e)).0

  pub differs : (micro : Micro) → leaves (setting_of l d) trail micro ≡ Some told → Differs micro
  differs (CheckWord p log x) e = inl (by_word (slice_index trail log == x) p x (slice_index trail log) refl e)
  differs (CheckFresh p log) e = absurd (by_fresh _ p (slice_index trail log) e)
  differs (CheckFree p log x) e =
      inl (by_free (is_takable (setting_of l d) x (slice_index trail log)) p x (slice_index trail log) refl e)
  differs (CheckHeld p log x) e =
      let h = by_held (slice_index trail log == held_word d x) p x (slice_index trail log) e in
      inr (record { log = log; check = λ i. CheckHeld (h.0 i) log (h.1 i); word = h.2 })
  differs _ e = absurd (none_some _ (sym e))

-- an outcome that isn't the reply
pub not_reply : (o : Option Outcome) (reply place expected read : ℕ) → outcome_or o reply ≡ Stale place expected read
    → o ≡ Some (Stale place expected read)
not_reply None reply place expected read e = absurd (let z = e in cc)
not_reply (Some o) reply place expected read e = ap (λ x. Some x) e
