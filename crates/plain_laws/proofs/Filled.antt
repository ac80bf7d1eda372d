-- One slot that was filled, or two.
use Rattle.std.proofs.Common.{◌≡◌, ◌≢◌, ℕ, zero, suc, ◌<◌, List, refl, ap, ◌∙◌, arith}
use Rattle.std.specs.Prelude.{◌^◌, slice_index}
use Rattle.structure_laws.specs.body_terms.specs.Update.{upd}
use Rattle.structure_laws.specs.body_terms.specs.Memory.{cell_of}
use Rattle.structure_laws.specs.body_terms.specs.Word.{value_of, next_word}
use Rattle.structure_laws.proofs.Changes.{upd_same, upd_other, value-next_word}

-- five cells of a slot get these words
abbrev pub five : (ℕ → ℕ) → (ℕ → ℕ) → (ℕ → ℕ) → ℕ → ℕ
five f place word = upd (upd (upd (upd (upd f (place 0) (word 0)) (place 1) (word 1)) (place 2) (word 2)) (place 3) (word 3)) (place 4) (word 4)

module _ (f place word : ℕ → ℕ) where
  abbrev one : ℕ → ℕ
  one = upd f (place 0) (word 0)

  abbrev two : ℕ → ℕ
  two = upd one (place 1) (word 1)

  abbrev three : ℕ → ℕ
  three = upd two (place 2) (word 2)

  abbrev four : ℕ → ℕ
  four = upd three (place 3) (word 3)

  -- a place apart from all five
  five_other : (p : ℕ) → ((cell : ℕ) → cell < 5 → p ≢ place cell) → five f place word p ≡ f p
  five_other p apart = upd_other four (place 4) p (word 4) (apart 4 (omega arith)) ∙ (upd_other three (place 3) p (word 3) (apart 3 (omega arith))
      ∙ (upd_other two (place 2) p (word 2) (apart 2 (omega arith)) ∙ (upd_other one (place 1) p (word 1) (apart 1 (omega arith))
      ∙ upd_other f (place 0) p (word 0) (apart 0 (omega arith)))))

  -- and each of them
  module _ (apart : (i j : ℕ) → i < j → j < 5 → place i ≢ place j) where
    five_at : (cell : ℕ) → cell < 5 → five f place word (place cell) ≡ word cell
    five_at zero low = upd_other four (place 4) (place 0) (word 4) (apart 0 4 (omega arith) (omega arith)) ∙ (upd_other three (place 3) (place 0) (word 3) (apart 0 3 (omega arith) (omega arith))
        ∙ (upd_other two (place 2) (place 0) (word 2) (apart 0 2 (omega arith) (omega arith)) ∙ (upd_other one (place 1) (place 0) (word 1) (apart 0 1 (omega arith) (omega arith))
        ∙ upd_same f (place 0) (place 0) (word 0) refl)))
    five_at (suc zero) low = upd_other four (place 4) (place 1) (word 4) (apart 1 4 (omega arith) (omega arith)) ∙ (upd_other three (place 3) (place 1) (word 3) (apart 1 3 (omega arith) (omega arith))
        ∙ (upd_other two (place 2) (place 1) (word 2) (apart 1 2 (omega arith) (omega arith)) ∙ upd_same one (place 1) (place 1) (word 1) refl))
    five_at (suc (suc zero)) low = upd_other four (place 4) (place 2) (word 4) (apart 2 4 (omega arith) (omega arith)) ∙ (upd_other three (place 3) (place 2) (word 3) (apart 2 3 (omega arith) (omega arith))
        ∙ upd_same two (place 2) (place 2) (word 2) refl)
    five_at (suc (suc (suc zero))) low = upd_other four (place 4) (place 3) (word 4) (apart 3 4 (omega arith) (omega arith)) ∙ upd_same three (place 3) (place 3) (word 3) refl
    five_at (suc (suc (suc (suc zero)))) low = upd_same four (place 4) (place 4) (word 4) refl
    five_at (suc (suc (suc (suc (suc cell))))) low = absurd (omega (arith, low))

-- the cells of one slot, and those of another
slot_apart : (fixed f : ℕ) (i j : ℕ) → i < j → j < 5 → cell_of fixed f i ≢ cell_of fixed f j
slot_apart fixed f i j less low e = omega (arith, e, less)

module _ (cells : ℕ → ℕ) (fixed f : ℕ) (leaf : ℕ → ℕ) where
  abbrev filled_one : ℕ → ℕ
  filled_one = five cells (cell_of fixed f) leaf

  one_own : (cell : ℕ) → cell < 5 → filled_one (cell_of fixed f cell) ≡ leaf cell
  one_own cell low = five_at cells (cell_of fixed f) leaf (slot_apart fixed f) cell low

  -- a fixed cell
  pub one_low : (p : ℕ) → p < fixed → filled_one p ≡ cells p
  one_low p low = five_other cells (cell_of fixed f) leaf p (λ other less e. omega (arith, low, e))

  pub one_other : (s cell : ℕ) → cell < 5 → s ≢ f → filled_one (cell_of fixed s cell) ≡ cells (cell_of fixed s cell)
  one_other s cell low ne = five_other cells (cell_of fixed f) leaf (cell_of fixed s cell)
      (λ other less e. ne (slots cell other low less e))
    where
      slots : (cell other : ℕ) → cell < 5 → other < 5 → cell_of fixed s cell ≡ cell_of fixed f other → s ≡ f
      slots cell other low less e = omega (arith, low, less, e)

-- a slot whose cells each get one more word, with these values
module _ (cells : ℕ → ℕ) (fixed f : ℕ) (values : List ℕ) where
  abbrev pub value_words : ℕ → ℕ
  value_words cell = next_word (cells (cell_of fixed f cell)) (slice_index values cell)

  abbrev pub valued_slot : ℕ → ℕ
  valued_slot = filled_one cells fixed f value_words

  pub slot_value : (cell v : ℕ) → cell < 5 → slice_index values cell ≡ v → v < 2 ^ 32
      → value_of (valued_slot (cell_of fixed f cell)) ≡ v
  slot_value cell v low is small = ap value_of (one_own cells fixed f value_words cell low)
      ∙ (ap (λ u. value_of (next_word (cells (cell_of fixed f cell)) u)) is
      ∙ value-next_word (cells (cell_of fixed f cell)) v small)

module _ (cells : ℕ → ℕ) (fixed f t : ℕ) (leaf inner : ℕ → ℕ) (differ : t ≢ f) where
  abbrev pub filled : ℕ → ℕ
  filled = five (five cells (cell_of fixed f) leaf) (cell_of fixed t) inner

  pub filled_inner : (cell : ℕ) → cell < 5 → filled (cell_of fixed t cell) ≡ inner cell
  filled_inner cell low = five_at (five cells (cell_of fixed f) leaf) (cell_of fixed t) inner (slot_apart fixed t) cell low

  pub filled_leaf : (cell : ℕ) → cell < 5 → filled (cell_of fixed f cell) ≡ leaf cell
  filled_leaf cell low = five_other (five cells (cell_of fixed f) leaf) (cell_of fixed t) inner (cell_of fixed f cell) (λ other less e. differ (slots cell other low less e))
      ∙ five_at cells (cell_of fixed f) leaf (slot_apart fixed f) cell low
    where
      slots : (cell other : ℕ) → cell < 5 → other < 5 → cell_of fixed f cell ≡ cell_of fixed t other → t ≡ f
      slots cell other low less e = omega (arith, low, less, e)

  pub filled_other : (s cell : ℕ) → cell < 5 → s ≢ f → s ≢ t → filled (cell_of fixed s cell) ≡ cells (cell_of fixed s cell)
  filled_other s cell low ne ne' = five_other (five cells (cell_of fixed f) leaf) (cell_of fixed t) inner (cell_of fixed s cell) (λ other less e. ne' (slots cell other t low less e))
      ∙ five_other cells (cell_of fixed f) leaf (cell_of fixed s cell) (λ other less e. ne (slots cell other f low less e))
    where
      slots : (cell other u : ℕ) → cell < 5 → other < 5 → cell_of fixed s cell ≡ cell_of fixed u other → s ≡ u
      slots cell other u low less e = omega (arith, low, less, e)
