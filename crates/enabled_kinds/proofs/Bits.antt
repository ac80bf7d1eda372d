-- The bits that are gathered, kind by kind.
use Rattle.std.specs.Prelude.{◌^◌, ◌*◌, ◌%◌, bit_or}
use Rattle.std.specs.Int.{bit_at}
use Rattle.std.proofs.Common.{◌≡◌, ◌<◌, ◌≤◌, ◌+◌, ℕ, List, ◌⊎◌, inl, inr, ⊎_elim, sym, subst, ◌∙◌, arith, w64}
use mathlib.Core.Logic.{dite}
use Rattle.std.proofs.Math.Decide.{ℕ_discrete}
use Rattle.std.proofs.lemmas.Nat.Bits.{bit_at-lt, bit_at_set_same, bit_at_set_other}
use Rattle.machine_states.specs.map_history.specs.declared.op.Request.{Request}
use Rattle.machine_states.specs.table_words.specs.declared.layout.Layout.{Layout}
use Rattle.machine_states.specs.structure_laws.specs.Meaning.{Meaning}
use Rattle.machine_states.specs.runner_parts.specs.State.{PartState}
use Rattle.enabled_kinds.specs.May.{May, MayNot, AreEnabled}
use Rattle.enabled_kinds.proofs.Asked.{not_both}
use Rattle.enabled_kinds.proofs.Numbers.{few_kinds}

zero_or_one : (n : ℕ) → n < 2 → (n ≡ 0) ⊎ (n ≡ 1)
zero_or_one n h = dite (ℕ_discrete n 0) (λ is. inl is) (λ not. inr (omega (arith, h, not)))

apart : (n : ℕ) → n ≡ 0 → n ≡ 1 → ⊥
apart n a b = omega (arith, a, b)

module _ (m : Meaning) (l : Layout) (rs : List Request) (r : ℕ) (p : PartState) where
  -- the bits below this number tell of their kinds, and a set bit tells of its kind
  pub record Gathered (bits n : ℕ) : Type 0 where
    pub set : (k : ℕ) → bit_at bits k ≡ 1 → May m l rs r p k
    pub clear : (k : ℕ) → k < n → bit_at bits k ≡ 0 → MayNot m l rs r p k

  pub one_kept : (bits n : ℕ) → Gathered bits n → MayNot m l rs r p n → Gathered bits (n + 1)
  one_kept bits n so_far none = record {
    set = so_far.set;
    clear = λ k h e. dite (ℕ_discrete k n) (λ same. subst (MayNot m l rs r p) (sym same) none) (λ other. so_far.clear k (omega (arith, h, other)) e);
  }

  pub one_set : (bits n bits' : ℕ) → n < 40 → bits' ≡ bit_or bits (1 * 2 ^ n % 2 ^ 64) → Gathered bits n → May m l rs r p n → Gathered bits' (n + 1)
  one_set bits n bits' few is so_far some =
      let within : n < 64 = omega (arith, few) in
      rw is (record {
        set = λ k e. dite (ℕ_discrete k n) (λ same. subst (May m l rs r p) (sym same) some) (λ other. so_far.set k (sym (bit_at_set_other w64 bits n within k other) ∙ e));
        clear = λ k h e. dite (ℕ_discrete k n)
            (λ same. absurd (apart _ (subst (λ (j : ℕ). bit_at (bit_or bits (1 * 2 ^ n % 2 ^ 64)) j ≡ 0) same e) (bit_at_set_same w64 bits n within)))
            (λ other. so_far.clear k (omega (arith, h, other)) (sym (bit_at_set_other w64 bits n within k other) ∙ e));
      })

  bit_of : (bits n : ℕ) → Gathered bits n → 40 ≤ n → (k : ℕ) → May m l rs r p k → bit_at bits k ≡ 1
  bit_of bits n all past k some =
      let few = few_kinds some.kind in
      let is = some.is_of in
      ⊎_elim (λ nought. absurd (not_both _ some.enabled (all.clear k (omega (arith, few, is, past)) nought some.kind some.is_of some.given))) (λ set. set) (zero_or_one (bit_at bits k) (bit_at-lt bits k))

  pub all_told : (bits n : ℕ) → Gathered bits n → 40 ≤ n → AreEnabled m l rs r p bits
  all_told bits n all past k = (all.set k, bit_of bits n all past k)
