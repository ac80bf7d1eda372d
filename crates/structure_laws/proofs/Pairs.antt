-- A pair that is found in readings was read.
use Rattle.std.proofs.Common.{◌≡◌, ℕ, suc, true, ap, [], ◌∷◌}
use Rattle.std.specs.Prelude.{◌==◌, ◌&&◌, slice_get, Some}
use Rattle.std.specs.List.{list_any}
use Rattle.structure_laws.specs.Scene.{Readings}
use Rattle.structure_laws.proofs.Changes.{equal_of, both_true, or_cases}

pub pair_read : (readings : Readings) (p w : ℕ) → list_any (λ reading. reading.0 == p && reading.1 == w) readings ≡ true → (k : ℕ) × (slice_get readings k ≡ Some (p, w))
pair_read [] p w h = absurd (cc)
pair_read (reading ∷ readings) p w h = or_cases (reading.0 == p && reading.1 == w) (list_any (λ x. x.0 == p && x.1 == w) readings) h
    (λ a. let both = both_true _ _ a in (0, ap Some (λ i. (equal_of reading.0 p both.0 i, equal_of reading.1 w both.1 i))))
    (λ b. let later = pair_read readings p w b in (suc later.0, later.1))
