-- The words of a closed table, node by node.
use Rattle.std.proofs.Common.{◌≡◌, ◌≢◌, ℕ, suc, ◌+◌, ◌-◌, ◌<◌, ◌≤◌, List, ◌∷◌, ◌++◌, [], length, refl, sym, ap, subst, ◌∙◌, arith, true, false}
use Rattle.tree_walks.specs.structure_laws.specs.map_history.specs.Replay.{Pairs}
use Rattle.tree_walks.specs.structure_laws.specs.body_terms.specs.Memory.{cell_of}
use Rattle.tree_walks.specs.structure_laws.specs.body_terms.specs.Word.{value_of}
use Rattle.tree_walks.specs.structure_laws.specs.table_words.specs.Limits.{IsWithinLimits}
use Rattle.tree_walks.specs.structure_laws.specs.table_words.specs.Places.{slot_count}
use Rattle.tree_walks.specs.structure_laws.specs.table_words.specs.declared.spot.Spot.TheVariants.{Cell}
use Rattle.tree_walks.specs.tree_laws.specs.Search.{IsInner, IsLeaf}
use Rattle.tree_walks.specs.tree_laws.specs.Leaves.{tree, nodes}
use Rattle.lock_walks.specs.version_words.specs.TableState.{WordsState, word_of}
use Rattle.lock_walks.specs.try_lock.specs.Contents.{StandFor}
use Rattle.leaf_tree.specs.Stands.{Gathers, Waits}
use Rattle.leaf_tree.proofs.Gathering.{is_linked, gathers_leaf, gathers_none, gathers_inner}

module _ {T : Type 0} (words : WordsState T) (pairs : Pairs) (stand : StandFor tree words pairs) where
  abbrev word_at : ℕ → ℕ
  word_at place = value_of (word_of tree words (Cell place))

  node_at : (slot cell : ℕ) → slot < slot_count words.layout 3 → cell < 5 → value_of (stand.cells (cell_of 0 slot cell)) ≡ word_at (cell_of 0 slot cell)
  node_at slot cell low few = ap value_of (stand.same (cell_of 0 slot cell) (omega (arith, low, few)))

  module _ (made slot : ℕ) (waiting : List ℕ) (items : List (ℕ × ℕ)) (so : Waits words pairs stand made waiting slot items) (low : slot < slot_count words.layout 3)
      (left right : ℕ) (is_left : left ≡ word_at (cell_of 0 slot 2)) (is_right : right ≡ word_at (cell_of 0 slot 3)) where
    left_there : (nodes stand.cells).child true slot ≡ left
    left_there = node_at slot 2 low (omega arith) ∙ sym is_left

    right_there : (nodes stand.cells).child false slot ≡ right
    right_there = node_at slot 3 low (omega arith) ∙ sym is_right

    -- an inner node: both children wait
    pub visits_inner : left ≢ 0 → Gathers words pairs stand (made + 1) ((waiting ++ (right - 1) ∷ []) ++ (left - 1) ∷ []) items
    visits_inner some =
        let inner : IsInner (nodes stand.cells) slot = subst (λ v. 0 < v) (sym left_there) (omega (arith, some)) in
        let linked = is_linked (slot_count words.layout 3) stand.cells pairs stand.stands made waiting slot items so in
        let right_some : 0 < right = subst (λ v. 0 < v) right_there (stand.stands.tree.child_some false slot linked inner) in
        gathers_inner (slot_count words.layout 3) stand.cells pairs stand.stands made waiting slot items so (left - 1) (right - 1)
        (left_there ∙ before left (omega (arith, some))) (right_there ∙ before right right_some)
      where
        before : (link : ℕ) → 0 < link → link ≡ suc (link - 1)
        before link some = omega (arith, some)

    leaf_there : left ≡ 0 → IsLeaf (nodes stand.cells) slot
    leaf_there none = left_there ∙ none

    -- a leaf of a key, and a sentinel
    pub visits_leaf : left ≡ 0 → 3 ≤ slot → (key : ℕ) → key ≡ word_at (cell_of 0 slot 1) → Gathers words pairs stand (made + 1) waiting (items ++ (key, right) ∷ [])
    visits_leaf none real key is_key = subst (λ k. Gathers words pairs stand (made + 1) waiting (items ++ (k, right) ∷ [])) (node_at slot 1 low (omega arith) ∙ sym is_key)
        (subst (λ v. Gathers words pairs stand (made + 1) waiting (items ++ ((nodes stand.cells).key slot, v) ∷ [])) right_there
        (gathers_leaf (slot_count words.layout 3) stand.cells pairs stand.stands made waiting slot items so (leaf_there none) real))

    pub visits_sentinel : left ≡ 0 → slot < 3 → Gathers words pairs stand (made + 1) waiting items
    visits_sentinel none few = gathers_none (slot_count words.layout 3) stand.cells pairs stand.stands made waiting slot items so (leaf_there none) few

-- no table has more node slots
pub most_slots : {T : Type 0} (words : WordsState T) → IsWithinLimits words.layout → slot_count words.layout 3 ≤ 262181
most_slots words limits = let nodes = limits.few_nodes in let runners = limits.few_runners in omega (arith, nodes, runners)

-- a list without a first one is empty
pub no_items : (xs : List ℕ) → (0 < length xs → false ≡ true) → xs ≡ []
no_items [] none = refl
no_items (x ∷ xs) none = false_true (none (omega arith))
  where
    false_true : false ≡ true → x ∷ xs ≡ []
    false_true e = cc
