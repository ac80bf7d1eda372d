-- Heads and nodes after one cell has changed.
use Rattle.std.proofs.Common.{◌≡◌, ◌≢◌, ℕ, ◌<◌, ◌≤◌, cond, sym, ap, ◌∙◌, arith}
use Rattle.std.proofs.Math.Path.{fun_ext}
use Rattle.std.specs.Prelude.{nat_lt}
use mathlib.Core.Logic.{dite}
use native.Mathlib.Decide.{ℕ_discrete}
use Rattle.structure_laws.specs.body_terms.specs.Update.{upd}
use Rattle.structure_laws.specs.body_terms.specs.Word.{value_of}
use Rattle.bucket_bodies.specs.section_body.specs.Bucket.{bucket_head}
use Rattle.structure_laws.specs.Scene.{Cells}
use Rattle.structure_laws.proofs.Changes.{upd_same, upd_other}
use Rattle.bucket_laws.specs.Chain.{Nodes, with_head, with_next, with_value}
use Rattle.bucket_laws.specs.Walk.{cell_at}
use Rattle.bucket_laws.specs.Buckets.{nodes}

abbrev nodes_from : (a b c e : ℕ → ℕ) → Nodes
nodes_from a b c e = record { head = a; key = b; value = c; next = e }

-- nodes with the same values are the same
pub nodes_same : (a b c e a' b' c' e' : ℕ → ℕ) → a ≡ a' → b ≡ b' → c ≡ c' → e ≡ e' → nodes_from a b c e ≡ nodes_from a' b' c' e'
nodes_same a b c e a' b' c' e' p q r t = ap (λ z. nodes_from z b c e) p ∙ ap (λ z. nodes_from a' z c e) q ∙ ap (λ z. nodes_from a' b' z e) r ∙ ap (λ z. nodes_from a' b' c' z) t

-- a list of so many, read at a place, and 0 past its end
pub clip_same : (j n a b : ℕ) → (j < n → a ≡ b) → cond (nat_lt j n) a 0 ≡ cond (nat_lt j n) b 0
clip_same j n a b h = grind arith

pub clip_to : (j n a c : ℕ) → (j < n → c ≡ a) → (n ≤ j → c ≡ 0) → c ≡ cond (nat_lt j n) a 0
clip_to j n a c h g = grind arith

pub clip_in : (j n a : ℕ) → j < n → cond (nat_lt j n) a 0 ≡ a
clip_in j n a h = grind arith

pub clip_out : (j n a : ℕ) → n ≤ j → cond (nat_lt j n) a 0 ≡ 0
clip_out j n a h = grind arith

module _ (buckets : ℕ) (bucket : ℕ → ℕ) (cells : Cells) where
  abbrev now : Nodes
  now = nodes buckets bucket cells

  other : (p q word : ℕ) → q ≢ p → value_of (cells q) ≡ value_of (upd cells p word q)
  other p q word ne = ap value_of (sym (upd_other cells p q word ne))

  -- a head has changed
  pub head_changed : (i word : ℕ) → i < buckets → with_head now i (value_of word) ≡ nodes buckets bucket (upd cells (bucket_head i) word)
  head_changed i word low = nodes_same _ _ _ _ _ _ _ _
      (fun_ext (λ j. clip_to j buckets (value_of (upd cells (bucket_head i) word (bucket_head j))) (upd now.head i (value_of word) j)
      (λ lower. dite (ℕ_discrete j i) (λ e. upd_same now.head i j (value_of word) e ∙ ap value_of (sym (upd_same cells (bucket_head i) (bucket_head j) word (ap bucket_head e))))
      (λ ne. upd_other now.head i j (value_of word) ne ∙ clip_in j buckets (value_of (cells (bucket_head j))) lower ∙ other (bucket_head i) (bucket_head j) word (λ e. ne (omega arith))))
      (λ high. upd_other now.head i j (value_of word) (λ e. omega arith) ∙ clip_out j buckets (value_of (cells (bucket_head j))) high)))
      (fun_ext (λ u. other (bucket_head i) (cell_at buckets bucket u 1) word (λ e. omega arith)))
      (fun_ext (λ u. other (bucket_head i) (cell_at buckets bucket u 2) word (λ e. omega arith)))
      (fun_ext (λ u. other (bucket_head i) (cell_at buckets bucket u 3) word (λ e. omega arith)))

  -- a node's link has changed
  pub next_changed : (t word : ℕ) → with_next now t (value_of word) ≡ nodes buckets bucket (upd cells (cell_at buckets bucket t 3) word)
  next_changed t word = nodes_same _ _ _ _ _ _ _ _
      (fun_ext (λ j. clip_same j buckets (value_of (cells (bucket_head j))) (value_of (upd cells (cell_at buckets bucket t 3) word (bucket_head j))) (λ lower. other (cell_at buckets bucket t 3) (bucket_head j) word (λ e. omega arith))))
      (fun_ext (λ u. other (cell_at buckets bucket t 3) (cell_at buckets bucket u 1) word (λ e. omega arith)))
      (fun_ext (λ u. other (cell_at buckets bucket t 3) (cell_at buckets bucket u 2) word (λ e. omega arith)))
      (fun_ext (λ u. dite (ℕ_discrete u t) (λ e. upd_same now.next t u (value_of word) e ∙ ap value_of (sym (upd_same cells (cell_at buckets bucket t 3) (cell_at buckets bucket u 3) word (ap (λ u. cell_at buckets bucket u 3) e))))
      (λ ne. upd_other now.next t u (value_of word) ne ∙ other (cell_at buckets bucket t 3) (cell_at buckets bucket u 3) word (λ e. ne (omega arith)))))

  -- a node's value has changed
  pub value_changed : (t word : ℕ) → with_value now t (value_of word) ≡ nodes buckets bucket (upd cells (cell_at buckets bucket t 2) word)
  value_changed t word = nodes_same _ _ _ _ _ _ _ _
      (fun_ext (λ j. clip_same j buckets (value_of (cells (bucket_head j))) (value_of (upd cells (cell_at buckets bucket t 2) word (bucket_head j))) (λ lower. other (cell_at buckets bucket t 2) (bucket_head j) word (λ e. omega arith))))
      (fun_ext (λ u. other (cell_at buckets bucket t 2) (cell_at buckets bucket u 1) word (λ e. omega arith)))
      (fun_ext (λ u. dite (ℕ_discrete u t) (λ e. upd_same now.value t u (value_of word) e ∙ ap value_of (sym (upd_same cells (cell_at buckets bucket t 2) (cell_at buckets bucket u 2) word (ap (λ u. cell_at buckets bucket u 2) e))))
      (λ ne. upd_other now.value t u (value_of word) ne ∙ other (cell_at buckets bucket t 2) (cell_at buckets bucket u 2) word (λ e. ne (omega arith)))))
      (fun_ext (λ u. other (cell_at buckets bucket t 2) (cell_at buckets bucket u 3) word (λ e. omega arith)))

  -- a cell that is neither a head nor a key, value or link of a node has changed
  pub none_changed : (p word : ℕ) → ((j : ℕ) → j < buckets → bucket_head j ≢ p) → ((u k : ℕ) → 1 ≤ k → k ≤ 3 → cell_at buckets bucket u k ≢ p) → now ≡ nodes buckets bucket (upd cells p word)
  none_changed p word heads cell = nodes_same _ _ _ _ _ _ _ _
      (fun_ext (λ j. clip_same j buckets (value_of (cells (bucket_head j))) (value_of (upd cells p word (bucket_head j))) (λ lower. other p (bucket_head j) word (heads j lower))))
      (fun_ext (λ u. other p (cell_at buckets bucket u 1) word (cell u 1 (omega arith) (omega arith))))
      (fun_ext (λ u. other p (cell_at buckets bucket u 2) word (cell u 2 (omega arith) (omega arith))))
      (fun_ext (λ u. other p (cell_at buckets bucket u 3) word (cell u 3 (omega arith) (omega arith))))

-- memories that agree on the heads and on the keys, values and links of nodes have the same nodes
pub nodes_agree : (buckets : ℕ) (bucket : ℕ → ℕ) (cells cells' : Cells)
    → ((j : ℕ) → j < buckets → cells (bucket_head j) ≡ cells' (bucket_head j))
    → ((u k : ℕ) → 1 ≤ k → k ≤ 3 → cells (cell_at buckets bucket u k) ≡ cells' (cell_at buckets bucket u k))
    → nodes buckets bucket cells ≡ nodes buckets bucket cells'
nodes_agree buckets bucket cells cells' heads cell = nodes_same _ _ _ _ _ _ _ _
    (fun_ext (λ j. clip_same j buckets (value_of (cells (bucket_head j))) (value_of (cells' (bucket_head j)))
    (λ lower. ap value_of (heads j lower))))
    (fun_ext (λ u. ap value_of (cell u 1 (omega arith) (omega arith))))
    (fun_ext (λ u. ap value_of (cell u 2 (omega arith) (omega arith))))
    (fun_ext (λ u. ap value_of (cell u 3 (omega arith) (omega arith))))
