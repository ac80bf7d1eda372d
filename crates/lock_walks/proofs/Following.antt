-- A walk in readings that were made already, reading by reading.
use Rattle.std.proofs.Common.{◌≡◌, ℕ, suc, ◌==◌, [], ◌∷◌, Bool, true, cond, refl, sym, ap, ◌∙◌, arith, Option, Some, None}
use Rattle.machine_states.specs.structure_laws.specs.Scene.{Readings}
use Rattle.lock_walks.specs.Way.{Way, fed_all, IsLedBy}
use Rattle.lock_walks.specs.Followed.{is_next, followed}

-- a test of what is wanted, as structures write it
pub same_test : (test : Option ℕ → ℕ → Bool) → ((place : ℕ) → test None place ≡ is_next None place)
    → ((wanted place : ℕ) → test (Some wanted) place ≡ is_next (Some wanted) place)
    → (o : Option ℕ) (place : ℕ) → is_next o place ≡ test o place
same_test test none some None place = sym (none place)
same_test test none some (Some wanted) place = sym (some wanted place)

-- where each is wanted, the walk goes on by all
pub followed_led : {W : Type 0} (way : Way W) (walk : W) (readings : Readings) → IsLedBy way walk readings → fed_all way walk readings ≡ followed way walk readings
followed_led way walk [] led = refl
followed_led way walk (reading ∷ readings) led =
    followed_led way (way.fed walk reading.1) readings (λ i place word here. led (suc i) place word here)
    ∙ ap (λ b. cond b (followed way (way.fed walk reading.1) readings) walk) (sym (ap (λ o. is_next o reading.0) (led 0 reading.0 reading.1 refl) ∙ same reading.0))
  where
    same : (n : ℕ) → (n == n) ≡ true
    same n = grind arith
