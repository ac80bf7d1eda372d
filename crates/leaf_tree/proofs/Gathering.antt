-- Leaves are gathered node by node.
use Rattle.std.proofs.Common.{◌≡◌, ℕ, zero, suc, ◌+◌, ◌<◌, ◌≤◌, ◌⊎◌, inl, inr, ⊎_elim, List, [], ◌∷◌, ◌++◌, Bool, true, false, cond, refl, sym, ap, subst, ◌∙◌, arith, Option, Some, None}
use Rattle.std.specs.Prelude.{◌==◌, ◌&&◌, ◌||◌, nat_lt}
use Rattle.std.specs.FinMap.{get, entries}
use Rattle.std.proofs.lemmas.Bool.{and_from}
use mathlib.Core.Logic.{dite}
use native.Mathlib.Decide.{ℕ_discrete}
use Rattle.tree_walks.specs.small_lemmas.proofs.Bools.{or_first as or_left, or_second as or_right, from_false as false_true}
use Rattle.tree_walks.specs.small_lemmas.proofs.Numbers.{less_tested as lt_test, tested_less as lt_of, equal_tested as eq_test}
use Rattle.tree_walks.specs.structure_laws.specs.map_history.specs.Replay.{Pairs}
use Rattle.tree_walks.specs.structure_laws.specs.Scene.{Cells}
use Rattle.tree_walks.specs.structure_laws.proofs.Changes.{both_true, or_cases, equal_of}
use Rattle.tree_walks.specs.tree_laws.specs.shared_laws.proofs.Gathered.{none_yet, none_more, pair_more, all_pairs}
use Rattle.tree_walks.specs.tree_laws.specs.Search.{Nodes, Covers, IsInner, IsLeaf, key_end}
use Rattle.tree_walks.specs.tree_laws.specs.Leaves.{nodes, TreeStands}
use Rattle.leaf_tree.specs.Gathered.{count, AreNext, is_before, HasPairs, IsGathering}

-- counting
count_few : (test : ℕ → Bool) (n : ℕ) → count test n ≤ n
count_few test zero = omega arith
count_few test (suc n) = let few = count_few test n in by (test n) few
  where
    by : (c : Bool) → count test n ≤ n → cond c 1 0 + count test n ≤ suc n
    by true few = omega (arith, few)
    by false few = omega (arith, few)

count_le : (f g : ℕ → Bool) (n : ℕ) → ((t : ℕ) → f t ≡ true → g t ≡ true) → count f n ≤ count g n
count_le f g zero more = omega arith
count_le f g (suc n) more = let rest = count_le f g n more in by (f n) (g n) (more n) rest
  where
    by : (a b : Bool) → (a ≡ true → b ≡ true) → count f n ≤ count g n → cond a 1 0 + count f n ≤ cond b 1 0 + count g n
    by true true m rest = omega (arith, rest)
    by true false m rest = false_true (m refl)
    by false true m rest = omega (arith, rest)
    by false false m rest = omega (arith, rest)

-- one more number passes
count_more : (f g : ℕ → Bool) (n s : ℕ) → s < n → f s ≡ false → g s ≡ true → ((t : ℕ) → f t ≡ true → g t ≡ true) → suc (count f n) ≤ count g n
count_more f g zero s low out is more = absurd (omega (arith, low))
count_more f g (suc n) s low out is more = dite (ℕ_discrete s n)
    (λ e. here (f n) (g n) (ap f (sym e) ∙ out) (ap g (sym e) ∙ is) (count_le f g n more))
    (λ ne. later (f n) (g n) (more n) (count_more f g n s (omega (arith, low, ne)) out is more))
  where
    here : (a b : Bool) → a ≡ false → b ≡ true → count f n ≤ count g n → suc (cond a 1 0 + count f n) ≤ cond b 1 0 + count g n
    here true b out is rest = false_true (sym out)
    here false true out is rest = omega (arith, rest)
    here false false out is rest = false_true is

    later : (a b : Bool) → (a ≡ true → b ≡ true) → suc (count f n) ≤ count g n → suc (cond a 1 0 + count f n) ≤ cond b 1 0 + count g n
    later true true m rest = omega (arith, rest)
    later true false m rest = false_true (m refl)
    later false true m rest = omega (arith, rest)
    later false false m rest = omega (arith, rest)

-- the last of some nodes
module _ (c : Covers) where
  last_next : (end : ℕ) (slots : List ℕ) (s start : ℕ) → AreNext c end (slots ++ s ∷ []) start → AreNext c end slots (c.hi s) × (c.linked s ≡ true) × (start ≡ c.lo s)
  last_next end [] s start next = (next.1, next.0, next.2)
  last_next end (u ∷ slots) s start next = let rest = last_next (c.lo u) slots s start next.2 in ((next.0, next.1, rest.0), rest.1, rest.2)

  more_next : (end : ℕ) (slots : List ℕ) (s start : ℕ) → AreNext c end slots start → c.linked s ≡ true → c.hi s ≡ start → AreNext c end (slots ++ s ∷ []) (c.lo s)
  more_next end [] s start next is hi = (is, hi ∙ next, refl)
  more_next end (u ∷ slots) s start next is hi = (next.0, next.1, more_next (c.lo u) slots s start next.2 is hi)

  before_of : (s t : ℕ) → is_before c s t ≡ true → (c.linked t ≡ true) × ((c.lo t < c.lo s) ⊎ ((c.lo t ≡ c.lo s) × (c.hi s < c.hi t)))
  before_of s t h = let tests = both_true (c.linked t) (nat_lt (c.lo t) (c.lo s) || ((c.lo t == c.lo s) && nat_lt (c.hi s) (c.hi t))) h in (
    tests.0,
    or_cases (nat_lt (c.lo t) (c.lo s)) ((c.lo t == c.lo s) && nat_lt (c.hi s) (c.hi t)) tests.1 (λ low. inl (lt_of (c.lo t) (c.lo s) low))
        (λ same. let parts = both_true (c.lo t == c.lo s) (nat_lt (c.hi s) (c.hi t)) same in inr (equal_of (c.lo t) (c.lo s) parts.0, lt_of (c.hi s) (c.hi t) parts.1)),
  )

  is_earlier : (s t : ℕ) → c.linked t ≡ true → c.lo t < c.lo s → is_before c s t ≡ true
  is_earlier s t is low = and_from (c.linked t) _ is (or_left (nat_lt (c.lo t) (c.lo s)) ((c.lo t == c.lo s) && nat_lt (c.hi s) (c.hi t)) (lt_test (c.lo t) (c.lo s) low))

  is_over : (s t : ℕ) → c.linked t ≡ true → c.lo t ≡ c.lo s → c.hi s < c.hi t → is_before c s t ≡ true
  is_over s t is same low = and_from (c.linked t) _ is (or_right (nat_lt (c.lo t) (c.lo s)) ((c.lo t == c.lo s) && nat_lt (c.hi s) (c.hi t))
      (and_from (c.lo t == c.lo s) (nat_lt (c.hi s) (c.hi t)) (eq_test (c.lo t) (c.lo s) same) (lt_test (c.hi s) (c.hi t) low)))

  not_itself : (s : ℕ) → is_before c s s ≡ false
  not_itself s = by (is_before c s s) refl
    where
      by : (b : Bool) → is_before c s s ≡ b → b ≡ false
      by false e = refl
      by true e = absurd (⊎_elim (λ low. omega (arith, low)) (λ same. let low = same.1 in omega (arith, low)) (before_of s s e).1)

last_same : (xs ys : List ℕ) (x y : ℕ) → xs ++ x ∷ [] ≡ ys ++ y ∷ [] → (xs ≡ ys) × (x ≡ y)
last_same [] [] x y e = (refl, cc)
last_same [] (b ∷ []) x y e = absurd (cc)
last_same [] (b ∷ b' ∷ ys) x y e = absurd (cc)
last_same (a ∷ []) [] x y e = absurd (cc)
last_same (a ∷ a' ∷ xs) [] x y e = absurd (cc)
last_same (a ∷ xs) (b ∷ ys) x y e = let rest = last_same xs ys x y (tails e) in ((λ i. heads e i ∷ rest.0 i), rest.1)
  where
    tails : a ∷ (xs ++ x ∷ []) ≡ b ∷ (ys ++ y ∷ []) → xs ++ x ∷ [] ≡ ys ++ y ∷ []
    tails e = cc

    heads : a ∷ (xs ++ x ∷ []) ≡ b ∷ (ys ++ y ∷ []) → a ≡ b
    heads e = cc

-- a list is empty, or has a last one
last_of : (xs : List ℕ) → (xs ≡ []) ⊎ ((ys : List ℕ) × (y : ℕ) × (xs ≡ ys ++ y ∷ []))
last_of [] = inl refl
last_of (x ∷ xs) = ⊎_elim (λ none. inr ([], x, ap (λ ys. x ∷ ys) none)) (λ last. inr (x ∷ last.0, last.1, ap (λ ys. x ∷ ys) last.2)) (last_of xs)

module _ (slots : ℕ) (cells : Cells) (pairs : Pairs) (stands : TreeStands slots cells pairs) where
  abbrev n : Nodes
  n = nodes cells

  abbrev c : Covers
  c = stands.covers

  abbrev Gathers : ℕ → List ℕ → List (ℕ × ℕ) → Type 0
  Gathers = IsGathering slots cells pairs stands

  pub begins : Gathers 0 (0 ∷ []) []
  begins = record {
    start = 0;
    next = (stands.tree.root, stands.tree.root_hi, sym stands.tree.root_lo);
    has = none_yet pairs;
    many = λ before s e. omega arith;
  }

  -- a key that the map has is a leaf's, whose place has no other key
  only_key : (l q v : ℕ) → c.linked l ≡ true → IsLeaf n l → c.lo l ≤ q → q < c.hi l → get pairs q ≡ Some v → (3 ≤ l) × (n.key l ≡ q)
  only_key l q v is leaf from before there =
      let found = stands.contents.leaf q v there in
      let m = found.0 in
      dite (ℕ_discrete l m) (λ e. (subst (λ t. 3 ≤ t) (sym e) found.3, ap n.key e ∙ found.4))
      (λ ne. absurd (let range = stands.tree.leaf_key m found.1 found.2 in let key = found.4 in
      ⊎_elim (λ a. omega (arith, a, range.0, range.1, key, from, before)) (λ a. omega (arith, a, range.0, range.1, key, from, before)) (stands.tree.leaves l m is found.1 leaf found.2 ne)))

  module _ (made : ℕ) (waiting : List ℕ) (s : ℕ) (items : List (ℕ × ℕ)) (so : Gathers made (waiting ++ s ∷ []) items) where
    parts : AreNext c key_end waiting (c.hi s) × (c.linked s ≡ true) × (so.start ≡ c.lo s)
    parts = last_next c key_end waiting s so.start so.next

    pub is_linked : c.linked s ≡ true
    is_linked = parts.1

    pub within : s < slots
    within = stands.within s is_linked

    -- so the nodes that were visited are fewer than there are slots
    pub few : made < slots
    few = let a = so.many waiting s refl in let b = count_more (is_before c s) (λ t. true) slots s within (not_itself c s) refl (λ t h. refl) in let d = count_few (λ t. true) slots in omega (arith, a, b, d)

    -- each node that waits next comes behind this one
    later : (t : ℕ) → ((u : ℕ) → is_before c s u ≡ true → is_before c t u ≡ true) → is_before c t s ≡ true → made + 1 ≤ count (is_before c t) slots
    later t more own = let a = so.many waiting s refl in let b = count_more (is_before c s) (is_before c t) slots s within (not_itself c s) own more in omega (arith, a, b)

    later_behind : (t : ℕ) → c.lo s < c.hi s → c.hi s ≤ c.lo t → made + 1 ≤ count (is_before c t) slots
    later_behind t some behind = later t
        (λ u h. let before = before_of c s u h in is_earlier c t u before.0 (⊎_elim (λ low. omega (arith, low, some, behind)) (λ same. let e = same.0 in omega (arith, e, some, behind)) before.1))
        (is_earlier c t s is_linked (omega (arith, some, behind)))

    later_below : (t : ℕ) → c.lo t ≡ c.lo s → c.hi t < c.hi s → made + 1 ≤ count (is_before c t) slots
    later_below t same under = later t
        (λ u h. let before = before_of c s u h in ⊎_elim (λ low. is_earlier c t u before.0 (omega (arith, low, same)))
        (λ over. let e = over.0 in let high = over.1 in is_over c t u before.0 (omega (arith, e, same)) (omega (arith, high, under))) before.1)
        (is_over c t s is_linked (sym same) under)

    -- behind a leaf
    module _ (leaf : IsLeaf n s) where
      range : (c.lo s ≤ n.key s) × (n.key s < c.hi s)
      range = stands.tree.leaf_key s is_linked leaf

      many_behind : (before : List ℕ) (t : ℕ) → waiting ≡ before ++ t ∷ [] → made + 1 ≤ count (is_before c t) slots
      many_behind before t e =
          let next = last_next c key_end before t (c.hi s) (subst (λ xs. AreNext c key_end xs (c.hi s)) e parts.0) in
          let from = next.2 in let r = range in later_behind t (omega (arith, r.0, r.1)) (omega (arith, from))

      -- of the keys of the leaf's place the map has no other than the leaf's
      others_absent : (q : ℕ) → c.lo s ≤ q → q < c.hi s → ((3 ≤ s) × (n.key s ≡ q) → ⊥) → get pairs q ≡ None
      others_absent q from before other = by (get pairs q) refl
        where
          by : (o : Option ℕ) → get pairs q ≡ o → o ≡ None
          by None e = refl
          by (Some v) e = absurd (other (only_key s q v is_linked leaf from before e))

      -- what was gathered are also the pairs below each key of the leaf's place up to its own
      up_to : (to : ℕ) → c.lo s ≤ to → to ≤ c.hi s → ((q : ℕ) → q < to → (3 ≤ s) × (n.key s ≡ q) → ⊥)
          → HasPairs pairs to items
      up_to to low high other = none_more pairs so.start to items so.has (let e = parts.2 in omega (arith, e, low))
          (λ q from before. others_absent q (let e = parts.2 in omega (arith, e, from)) (omega (arith, before, high))
          (other q before))

      -- a leaf of a key
      pub gathers_leaf : 3 ≤ s → Gathers (made + 1) waiting (items ++ (n.key s, n.child false s) ∷ [])
      gathers_leaf real = record {
        start = c.hi s;
        next = parts.0;
        has = let r = range in pair_more pairs (n.key s) (c.hi s) items
            (up_to (n.key s) r.0 (omega (arith, r.1)) (λ q before same. let e = same.1 in omega (arith, e, before)))
            (n.child false s) (stands.contents.pair s is_linked leaf real) r.1
            (λ q from before. others_absent q (omega (arith, r.0, from)) before
            (λ same. let e = same.1 in omega (arith, e, from)));
        many = many_behind;
      }

      -- a sentinel
      pub gathers_none : s < 3 → Gathers (made + 1) waiting items
      gathers_none sentinel = record {
        start = c.hi s;
        next = parts.0;
        has = let r = range in up_to (c.hi s) (omega (arith, r.0, r.1)) (omega arith)
            (λ q before same. let three = same.0 in omega (arith, three, sentinel));
        many = many_behind;
      }

    -- behind an inner node, and_from of whose children wait
    pub gathers_inner : (l r : ℕ) → n.child true s ≡ suc l → n.child false s ≡ suc r → Gathers (made + 1) ((waiting ++ r ∷ []) ++ l ∷ []) items
    gathers_inner l r left right =
        let inner : IsInner n s = omega (arith, left) in
        let tree = stands.tree in
        let range = tree.inner_key s is_linked inner in
        let right_next = more_next c key_end waiting r (c.hi s) parts.0 (tree.child_linked false s r is_linked inner right) (tree.child_hi false s r is_linked inner right) in
        let left_next = more_next c key_end (waiting ++ r ∷ []) l (c.lo r) right_next (tree.child_linked true s l is_linked inner left)
        (tree.child_hi true s l is_linked inner left ∙ sym (tree.child_lo false s r is_linked inner right)) in
        let from : c.lo l ≡ c.lo s = tree.child_lo true s l is_linked inner left in
        let to : c.hi l ≡ n.key s = tree.child_hi true s l is_linked inner left in
        record {
          start = c.lo l;
          next = left_next;
          has = subst (λ start. HasPairs pairs start items) (parts.2 ∙ sym from) so.has;
          many = λ before t e. subst (λ u. made + 1 ≤ count (is_before c u) slots) (last_same (waiting ++ r ∷ []) before l t e).1
              (later_below l from (omega (arith, to, range.1)));
        }

  -- where no node waits
  pub gathered : (made : ℕ) (items : List (ℕ × ℕ)) → Gathers made [] items → items ≡ entries pairs
  gathered made items so = all_pairs pairs key_end items (subst (λ start. HasPairs pairs start items) so.next so.has)
      (λ q v e. let found = stands.contents.leaf q v e in let range = stands.tree.leaf_key found.0 found.1 found.2 in
      let top = stands.tree.top found.0 found.1 in let key = found.4 in omega (arith, range.1, top, key))

  -- once as many nodes were visited as there are slots, none waits
  pub all_gathered : (made : ℕ) (waiting : List ℕ) (items : List (ℕ × ℕ)) → Gathers made waiting items → slots ≤ made → items ≡ entries pairs
  all_gathered made waiting items so many = ⊎_elim
      (λ none. gathered made items (subst (λ xs. Gathers made xs items) none so))
      (λ last. absurd (let low = few made last.0 last.1 items (subst (λ xs. Gathers made xs items) last.2 so) in omega (arith, low, many)))
      (last_of waiting)
