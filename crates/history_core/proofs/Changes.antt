-- Functions changed at one number.
use Rattle.std.proofs.Common.{◌≡◌, ◌≢◌, ℕ, arith}
use Rattle.body_terms.specs.Update.{upd}

pub upd_same : {A : Type 0} (f : ℕ → A) (k i : ℕ) (v : A) → i ≡ k → upd f k v i ≡ v
upd_same f k i v e = grind arith

pub upd_other : {A : Type 0} (f : ℕ → A) (k i : ℕ) (v : A) → i ≢ k → upd f k v i ≡ f i
upd_other f k i v ne = grind arith
