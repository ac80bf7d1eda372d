-- What is stored in a key's flag and value is read as this.
use Rattle.std.proofs.Common.{◌≡◌, ℕ, ◌<◌, Bool, true, false, cond, refl, ap, ◌∙◌, arith}
use Rattle.std.specs.Prelude.{◌==◌, ◌^◌, Option, Some, None}
use Rattle.structure_laws.specs.body_terms.specs.Word.{value_of, next_word}
use Rattle.structure_laws.proofs.Changes.{value-next_word, value_small}
use Rattle.structure_laws.proofs.Limits.{value-small}
use Rattle.shared_laws.specs.Flagged.{held, flag_for, value_for}

-- what a key has, has 32 bits
pub held_small : (f w v : ℕ) → held f w ≡ Some v → v < 2 ^ 32
held_small f w v h = by (value_of f == 1) h
  where
    by : (b : Bool) → cond b (Some (value_of w)) None ≡ Some v → v < 2 ^ 32
    by true e = let same : value_of w ≡ v = cc in let small = value_small w in omega arith
    by false e = absurd (cc)

pub held_stored : (has : Option ℕ) (old older : ℕ) → ((v : ℕ) → has ≡ Some v → v < 2 ^ 32)
    → held (next_word old (value_of (flag_for has))) (next_word older (value_of (value_for has))) ≡ has
held_stored None old older small = ap (λ n. cond (n == 1) (Some (value_of (next_word older (value_of 0)))) None) (value-next_word old (value_of 0) (value_small 0))
held_stored (Some v) old older small =
    ap (λ n. cond (n == 1) (Some (value_of (next_word older (value_of v)))) None) (value-next_word old (value_of 1) (value_small 1))
    ∙ ap (λ n. Some n) (value-next_word older (value_of v) (value_small v) ∙ value-small v (small v refl))
