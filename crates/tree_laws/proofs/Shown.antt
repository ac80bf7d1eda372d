-- A place that the readings show to be a link is one, where what was read of nodes stands.
use Rattle.std.proofs.Common.{◌≡◌, ℕ, suc, ◌+◌, ◌*◌, ◌<◌, Bool, true, refl, sym, ◌∙◌, subst, arith}
use Rattle.std.specs.Prelude.{◌==◌, ◌&&◌, ◌-◌, ◌/◌, ◌%◌, nat_lt, Some, [], ◌∷◌, slice_get}
use Rattle.std.specs.List.{list_any}
use Rattle.structure_laws.specs.table_words.specs.small_lemmas.proofs.Bools.{or_first as or_left, or_second as or_right}
use Rattle.structure_laws.specs.body_terms.specs.Word.{value_of}
use Rattle.structure_laws.specs.Scene.{Cells, Readings}
use Rattle.structure_laws.proofs.Changes.{both_true, or_cases, equal_of}
use Rattle.tree_bodies.specs.Tree.{left_of}
use Rattle.tree_laws.specs.Leaves.{is_left_place, is_right_place, is_link_in, shows_inner, shows_link, nodes, IsAsRead}
use Rattle.tree_laws.proofs.WalkReads.{both}

pub lt_test : (a b : ℕ) → a < b → nat_lt a b ≡ true
lt_test a b low = grind arith

pub below_of : (a b : ℕ) → nat_lt a b ≡ true → a < b
below_of a b h = grind arith

-- the reading that passes a test
pub some_of : (test : ℕ × ℕ → Bool) (readings : Readings) → list_any test readings ≡ true → (i p w : ℕ) × (slice_get readings i ≡ Some (p, w)) × (test (p, w) ≡ true)
some_of test [] h = absurd (cc)
some_of test (reading ∷ readings) h = or_cases (test reading) (list_any test readings) h
    (λ here. (0, reading.0, reading.1, refl, here))
    (λ there. let later = some_of test readings there in (suc later.0, later.1, later.2, later.3, later.4))

module _ (cells : Cells) (readings : Readings) (read : IsAsRead (nodes cells) readings) where
  -- a place that the readings show to be a link is one
  pub shown_now : (p : ℕ) → shows_link readings p ≡ true → is_link_in cells p ≡ true
  shown_now p shown = or_cases (is_left_place p) (is_right_place p && shows_inner readings (p - 1)) shown
      (λ left. or_left (is_left_place p) (is_right_place p && nat_lt 0 (value_of (cells (p - 1)))) left)
      (λ right. or_right (is_left_place p) (is_right_place p && nat_lt 0 (value_of (cells (p - 1)))) (let sides = both_true _ _ right in both _ _ sides.0 (inner sides.0 sides.1)))
    where
      before : p % 5 ≡ 3 → p - 1 ≡ 0 + 5 * (p / 5) + 2
      before rest = omega arith

      inner : is_right_place p ≡ true → shows_inner readings (p - 1) ≡ true → nat_lt 0 (value_of (cells (p - 1))) ≡ true
      inner right shows =
          let by = some_of (λ reading. reading.0 == p - 1 && nat_lt 0 (value_of reading.1)) readings shows in
          let test = both_true _ _ by.4 in
          let place : p - 1 ≡ left_of (p / 5) = before (equal_of (p % 5) 3 right) in
          let now = read.inner by.0 (p / 5) by.2 (subst (λ q. slice_get readings by.0 ≡ Some (q, by.2)) (equal_of by.1 (p - 1) test.0 ∙ place) by.3) (below_of 0 (value_of by.2) test.1) in
          lt_test 0 (value_of (cells (p - 1))) (subst (λ q. 0 < value_of (cells q)) (sym place) now)
