-- How entries are read, one after the other.
use Rattle.std.proofs.Common.{◌≡◌, ◌≢◌, ℕ, zero, suc, Bool, true, false, List, [], ◌∷◌, ◌++◌, Option, None, Some, length, refl, sym, ap, ◌∙◌, inl, inr, ⊎_elim, subst, arith}
use Rattle.std.specs.Prelude.{◌⊎◌, ◌==◌, if◌then◌else◌, slice_get}
use Rattle.std.proofs.lemmas.Bool.Decides.{nat_tests}
use Rattle.history_orders.specs.map_history.specs.declared.reply.Reply.{Reply}
use Rattle.closed_words.specs.version_words.specs.TableState.{entry_of}

-- the words of an entry that was found
pub found_entry : (stamp reply a b : ℕ) (result : Option (ℕ × ℕ)) → result ≡ entry_of stamp reply → result ≡ Some (a, b) → (stamp ≢ 0) × (stamp ≡ a) × (reply ≡ b)
found_entry stamp reply a b result is found = by (stamp == 0) refl (sym is ∙ found)
  where
    by : (none : Bool) → (stamp == 0) ≡ none → ◌≡◌ {A = Option (ℕ × ℕ)} (if none then None else Some (stamp, reply)) (Some (a, b)) → (stamp ≢ 0) × (stamp ≡ a) × (reply ≡ b)
    by true none same = absurd (cc)
    by false some same =
        let parts : ◌≡◌ {A = ℕ × ℕ} (stamp, reply) (a, b) = cc in
        ((λ none. absurd (grind (arith, nat_tests))), ap (λ (p : ℕ × ℕ). p.0) parts, ap (λ (p : ℕ × ℕ). p.1) parts)

pub no_other : (result : Option Reply) (r : Reply) → result ≡ Some r → result ≡ None → ⊥
no_other result r some none = absurd (cc)

-- what holds of each element and its place, with one more at the end
pushed_cases : {X : Type 0} (xs : List X) (x : X) (n : ℕ) (y : X) → slice_get (xs ++ x ∷ []) n ≡ Some y → (slice_get xs n ≡ Some y) ⊎ ((n ≡ length xs) × (y ≡ x))
pushed_cases [] x zero y is = let same : x ≡ y = cc in inr (refl, sym same)
pushed_cases [] x (suc n) y is = absurd (cc)
pushed_cases (z ∷ xs) x zero y is = inl is
pushed_cases (z ∷ xs) x (suc n) y is = ⊎_elim (λ before. inl before) (λ last. inr (omega (arith, last.0), last.1)) (pushed_cases xs x n y is)

pub each_pushed : {X : Type 0} (P : ℕ → X → Type 0) (xs : List X) (x : X) → ((n : ℕ) (y : X) → slice_get xs n ≡ Some y → P n y) → P (length xs) x
    → (n : ℕ) (y : X) → slice_get (xs ++ x ∷ []) n ≡ Some y → P n y
each_pushed P xs x each last n y is =
    ⊎_elim (λ before. each n y before) (λ end. subst (λ k. P k y) (sym end.0) (subst (P (length xs)) (sym end.1) last)) (pushed_cases xs x n y is)
