-- Lines that line feeds end, at the front of bytes.
use Rattle.std.proofs.Common.{◌≡◌, ℕ, suc, false, List, [], ◌∷◌, ◌++◌, refl, sym, ap, arith}
use Rattle.std.specs.Prelude.{◌==◌}
use Rattle.small_lemmas.proofs.Bools.{from_both}
use Rattle.trace_reader.specs.Lines.{IsOneLine}

one_head : (byte : ℕ) (bytes : List ℕ) → IsOneLine (byte ∷ bytes) → (byte == 10) ≡ false
one_head byte bytes one = one 0 0 (omega arith)

one_tail : (byte : ℕ) (bytes : List ℕ) → IsOneLine (byte ∷ bytes) → IsOneLine bytes
one_tail byte bytes one k d early = one (suc k) d (omega (arith, early))

pub same_heads : (a b : ℕ) (xs ys : List ℕ) → ◌≡◌ {A = List ℕ} (a ∷ xs) (b ∷ ys) → (a ≡ b) × (xs ≡ ys)
same_heads a b xs ys e = (cc, cc)

no_feed_here : {A : Type 0} (byte : ℕ) (bytes : List ℕ) → IsOneLine (byte ∷ bytes) → byte ≡ 10 → A
no_feed_here byte bytes one is = absurd (from_both {A = ⊥} (byte == 10) (ap (λ b. b == 10) is) (one_head byte bytes one))

-- bytes without a line feed don't begin with a line
pub none_cut : (bytes line more : List ℕ) → IsOneLine bytes → bytes ≡ line ++ 10 ∷ more → ⊥
none_cut [] [] more one e = cc
none_cut [] (y ∷ line) more one e = cc
none_cut (x ∷ bytes) [] more one e = no_feed_here x bytes one (same_heads x 10 bytes more e).0
none_cut (x ∷ bytes) (y ∷ line) more one e = none_cut bytes line more (one_tail x bytes one) (same_heads x y bytes (line ++ 10 ∷ more) e).1

-- the first line of bytes is one
pub cut_once : (a b more rest : List ℕ) → IsOneLine a → IsOneLine b → a ++ 10 ∷ more ≡ b ++ 10 ∷ rest → (a ≡ b) × (more ≡ rest)
cut_once [] [] more rest one two e = (refl, (same_heads 10 10 more rest e).1)
cut_once [] (y ∷ b) more rest one two e = no_feed_here y b two (sym (same_heads 10 y more (b ++ 10 ∷ rest) e).0)
cut_once (x ∷ a) [] more rest one two e = no_feed_here x a one (same_heads x 10 (a ++ 10 ∷ more) rest e).0
cut_once (x ∷ a) (y ∷ b) more rest one two e =
    let heads = same_heads x y (a ++ 10 ∷ more) (b ++ 10 ∷ rest) e in
    let again = cut_once a b more rest (one_tail x a one) (one_tail y b two) heads.1 in
    ((λ i. heads.0 i ∷ again.0 i), again.1)
