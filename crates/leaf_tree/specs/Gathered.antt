-- The pairs of the leaves as they are gathered, from the left to the right.
use Rattle.std.specs.Prelude.{◌≡◌, ℕ, zero, suc, ◌+◌, ◌≤◌, List, [], ◌∷◌, ◌++◌, Bool, true, cond, ◌&&◌, ◌||◌, ◌==◌, nat_lt}
use Rattle.tree_walks.specs.structure_laws.specs.map_history.specs.Replay.{Pairs}
use Rattle.tree_walks.specs.structure_laws.specs.Scene.{Cells}
pub use Rattle.tree_walks.specs.tree_laws.specs.shared_laws.specs.Gathered.{HasPairs}
use Rattle.tree_walks.specs.tree_laws.specs.Search.{Covers, key_end}
use Rattle.tree_walks.specs.tree_laws.specs.Leaves.{TreeStands}

-- how many numbers below a bound pass a test
abbrev pub count : (ℕ → Bool) → ℕ → ℕ
count test zero = 0
count test (suc n) = cond (test n) 1 0 + count test n

module _ (c : Covers) where
  -- the places of these linked nodes are one behind the other, from this key up to that one; the last node's place
  -- comes first
  abbrev pub AreNext : ℕ → List ℕ → ℕ → Type 0
  AreNext end [] start = start ≡ end
  AreNext end (s ∷ slots) start = (c.linked s ≡ true) × (c.hi s ≡ end) × AreNext (c.lo s) slots start

  -- a linked node was visited before this one: its place begins before, or is the greater one
  abbrev pub is_before : ℕ → ℕ → Bool
  is_before s t = c.linked t && (nat_lt (c.lo t) (c.lo s) || ((c.lo t == c.lo s) && nat_lt (c.hi s) (c.hi t)))

-- so many nodes were visited; these wait, and what was gathered has the pairs whose keys lie before their places
pub record IsGathering (slots : ℕ) (cells : Cells) (pairs : Pairs) (stands : TreeStands slots cells pairs) (made : ℕ)
    (waiting : List ℕ) (items : List (ℕ × ℕ)) : Type 0 where
  pub start : ℕ
  pub next : AreNext stands.covers key_end waiting start
  pub has : HasPairs pairs start items
  pub many : (before : List ℕ) (s : ℕ) → waiting ≡ before ++ s ∷ [] → made ≤ count (is_before stands.covers s) slots
