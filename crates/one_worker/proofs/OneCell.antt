-- What a step that meets one cell does to another cell, or to this one.
use Rattle.std.specs.Prelude.{◌==◌, Bool, true, false, if◌then◌else◌}
use Rattle.std.proofs.Common.{◌≡◌, ◌≢◌, ℕ, refl, sym, ap, ◌∙◌, subst, ⊎_elim, arith}
use Rattle.std.proofs.lemmas.Bool.{cases_eq}
use Rattle.std.proofs.lemmas.Bool.Decides.{nat_tests}
use Rattle.machine_states.specs.table_words.specs.declared.spot.Spot.{Spot}
use Rattle.machine_states.specs.table_words.specs.declared.spot.Spot.TheVariants as spots
use Rattle.machine_states.specs.table_words.specs.declared.access.Access.{Access}
use Rattle.machine_states.specs.table_words.specs.declared.access.Access.TheVariants.{Exchanges}
use Rattle.machine_states.specs.table_words.specs.Access.{written, exchanged}
use Rattle.machine_states.specs.table_words.specs.Seen.{put}
use Rattle.machine_states.proofs.Updates.{upd_here, upd_else}
use Rattle.resource_bounds.proofs.Words.{Stays}

pub test_same : (a b : ℕ) → (a == b) ≡ true → a ≡ b
test_same a b e = grind (arith, nat_tests)

lost : (found old new : ℕ) → (found == old) ≡ false → exchanged found old new ≡ found
lost found old new e = ap (λ b. if b then new else found) e

module _ (f : Spot → ℕ) (p : ℕ) (x : Spot × Access) where
  pub other : (place : ℕ) (access : Access) → (spots.Cell place, access) ≡ x → p ≢ place → Stays f p x
  other place access is ne =
      subst (Stays f p) is (upd_else (λ i. f (spots.Cell i)) place (written access (f (spots.Cell place))) p ne)

  pub it : (place : ℕ) (access : Access) → (spots.Cell place, access) ≡ x → p ≡ place
      → put f x.0 (written x.1 (f x.0)) (spots.Cell p) ≡ written access (f (spots.Cell p))
  it place access is e =
      subst (λ (u : Spot × Access). put f u.0 (written u.1 (f u.0)) (spots.Cell p) ≡ written access (f (spots.Cell p))) is
      (subst (λ i. put f (spots.Cell place) (written access (f (spots.Cell place))) (spots.Cell i) ≡ written access (f (spots.Cell i))) (sym e)
      (upd_here (λ i. f (spots.Cell i)) place (written access (f (spots.Cell place)))))

  -- an exchange that doesn't find what it expects
  pub misses : (place old new : ℕ) → (spots.Cell place, Exchanges old new) ≡ x → (f (spots.Cell place) ≡ old → ⊥) → Stays f p x
  misses place old new is never = ⊎_elim
      (λ at. by at (f (spots.Cell p) == old) refl) (λ ne. other place _ is ne) (cases_eq p place)
    where
      by : p ≡ place → (b : Bool) → (f (spots.Cell p) == old) ≡ b → Stays f p x
      by at true e = absurd (never (ap (λ i. f (spots.Cell i)) (sym at) ∙ test_same (f (spots.Cell p)) old e))
      by at false e = it place _ is at ∙ lost (f (spots.Cell p)) old new e
