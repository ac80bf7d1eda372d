-- Bytes that go from a source in memory into a buffer.
use Rattle.std.specs.Prelude.{◌^◌, min}
use Rattle.std.proofs.Common.{◌≡◌, ℕ, ◌+◌, ◌-◌, ◌<◌, ◌≤◌, List, ◌++◌, length, take, drop, sym, ap, ◌∙◌, arith, length-take, length-drop, ⊎_elim}
use Rattle.std.proofs.lemmas.Bool.{cases_lt}
use Rattle.std.proofs.lemmas.List.{take-append-drop, drop-drop, drop_all}
use Rattle.std.proofs.Math.Seq.{take-append_seam}

pub moved : (bytes buffer copied : List ℕ) (at count : ℕ) → copied ≡ take count (drop at bytes) → count ≤ length bytes - at → drop at bytes ≡ take count (copied ++ drop count buffer) ++ drop (at + count) bytes
moved bytes buffer copied at count is within =
    let full : length copied ≡ count = ap length is ∙ omega (arith, length-take count (drop at bytes), length-drop at bytes) in
    let front : take count (copied ++ drop count buffer) ≡ copied = ap (λ n. take n (copied ++ drop count buffer)) (sym full) ∙ take-append_seam copied (drop count buffer) in
    sym (take-append-drop count (drop at bytes)) ∙ ap (λ l. l ++ drop count (drop at bytes)) (sym is ∙ sym front) ∙ ap (λ l. take count (copied ++ drop count buffer) ++ l) (drop-drop count at bytes)

-- the sizes that are left behind one more read, whose count stands still at its last number
pub next_sizes : (reads next : ℕ) (sizes : List ℕ) → next ≡ min (reads + 1) (2 ^ 64 - 1) → length sizes < 2 ^ 64 → drop next sizes ≡ drop 1 (drop reads sizes)
next_sizes reads next sizes is few = ⊎_elim
    (λ low. ap (λ n. drop n sizes) (omega (arith, is, low)) ∙ sym (drop-drop 1 reads sizes))
    (λ high. drop_all next sizes (omega (arith, is, few, high)) ∙ sym (drop-drop 1 reads sizes ∙ drop_all (reads + 1) sizes (omega (arith, few, high))))
    (cases_lt reads (2 ^ 64 - 1))
