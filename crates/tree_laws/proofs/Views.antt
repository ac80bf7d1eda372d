-- Two views of one memory as a search tree agree: from the root downwards, since a child covers fewer keys than its parent.
use Rattle.std.proofs.Common.{◌≡◌, ◌≢◌, ℕ, zero, suc, ◌+◌, ◌<◌, ◌≤◌, Bool, true, false, refl, sym, ◌∙◌, subst, arith}
use mathlib.Core.Logic.{dite}
use native.Mathlib.Decide.{ℕ_discrete}
use Rattle.tree_laws.specs.Search.{Nodes, Covers, low, high, key_end, SearchTree, ViewsAgree}

same_truth : (a b : Bool) → (a ≡ true → b ≡ true) → (b ≡ true → a ≡ true) → a ≡ b
same_truth true b f g = sym (f refl)
same_truth false true f g = g refl
same_truth false false f g = refl

module _ (n : Nodes) (c c' : Covers) (tree : SearchTree n c) (tree' : SearchTree n c') where
  -- what both views say of a node that one links
  pub record Same (s : ℕ) : Type 0 where
    pub linked : c'.linked s ≡ true
    pub lo : c'.lo s ≡ c.lo s
    pub hi : c'.hi s ≡ c.hi s

  -- a child covers fewer keys than its parent
  narrower : (s : ℕ) → c.linked s ≡ true → s ≢ 0 → (c.lo (c.up s) ≤ c.lo s) × (c.hi s ≤ c.hi (c.up s)) × (c.lo s + c.hi (c.up s) ≢ c.hi s + c.lo (c.up s))
  narrower s i some =
      let parent = c.up s in
      let p_linked = tree.up_linked s i some in
      let inner = tree.up_inner s i some in
      let child = tree.up_child s i some in
      by child.0 (tree.child_lo child.0 parent s p_linked inner child.1) (tree.child_hi child.0 parent s p_linked inner child.1) (tree.inner_key parent p_linked inner)
    where
      by : (b : Bool) → c.lo s ≡ low n c.lo b (c.up s) → c.hi s ≡ high n c.hi b (c.up s) → (c.lo (c.up s) < n.key (c.up s)) × (n.key (c.up s) < c.hi (c.up s))
          → (c.lo (c.up s) ≤ c.lo s) × (c.hi s ≤ c.hi (c.up s)) × (c.lo s + c.hi (c.up s) ≢ c.hi s + c.lo (c.up s))
      by true x y k = (omega arith, omega arith, λ e. omega arith)
      by false x y k = (omega arith, omega arith, λ e. omega arith)

  -- of a child as of its parent
  from_parent : (s : ℕ) → c.linked s ≡ true → s ≢ 0 → Same (c.up s) → Same s
  from_parent s i some same =
      let parent = c.up s in
      let p_linked = tree.up_linked s i some in
      let inner = tree.up_inner s i some in
      let child = tree.up_child s i some in
      record {
        linked = tree'.child_linked child.0 parent s same.linked inner child.1;
        lo = tree'.child_lo child.0 parent s same.linked inner child.1 ∙ lows child.0 same.lo ∙ sym (tree.child_lo child.0 parent s p_linked inner child.1);
        hi = tree'.child_hi child.0 parent s same.linked inner child.1 ∙ highs child.0 same.hi ∙ sym (tree.child_hi child.0 parent s p_linked inner child.1);
      }
    where
      lows : (b : Bool) → c'.lo (c.up s) ≡ c.lo (c.up s) → low n c'.lo b (c.up s) ≡ low n c.lo b (c.up s)
      lows true e = e
      lows false e = refl

      highs : (b : Bool) → c'.hi (c.up s) ≡ c.hi (c.up s) → high n c'.hi b (c.up s) ≡ high n c.hi b (c.up s)
      highs true e = refl
      highs false e = e

  at_root : (s : ℕ) → s ≡ 0 → Same s
  at_root s at = subst Same (sym at) (record { linked = tree'.root; lo = tree'.root_lo ∙ sym tree.root_lo; hi = tree'.root_hi ∙ sym tree.root_hi })

  descend : (depth s : ℕ) → c.linked s ≡ true → key_end + c.lo s ≤ depth + c.hi s → Same s
  descend zero s i within = dite (ℕ_discrete s 0) (at_root s)
      (λ some. absurd (let less = narrower s i some in let top = tree.top (c.up s) (tree.up_linked s i some) in let differ = less.2 in omega arith))
  descend (suc depth) s i within = dite (ℕ_discrete s 0) (at_root s)
      (λ some. from_parent s i some (descend depth (c.up s) (tree.up_linked s i some) (let less = narrower s i some in let differ = less.2 in omega arith)))

  -- a linked node's place isn't empty
  pub some_key : (s : ℕ) → c.linked s ≡ true → c.lo s < c.hi s
  some_key s i = dite (ℕ_discrete (n.child true s) 0) (λ leaf. let k = tree.leaf_key s i leaf in omega arith) (λ inner. let k = tree.inner_key s i (omega arith) in omega arith)

  pub same_view : (s : ℕ) → c.linked s ≡ true → Same s
  same_view s i = descend key_end s i (let some = some_key s i in omega arith)

pub views_agree : (n : Nodes) (c c' : Covers) → SearchTree n c → SearchTree n c' → ViewsAgree c c'
views_agree n c c' tree tree' = record {
  linked = λ s. same_truth (c.linked s) (c'.linked s) (λ i. (same_view n c c' tree tree' s i).linked) (λ i. (same_view n c' c tree' tree s i).linked);
  lo = λ s i. (same_view n c c' tree tree' s i).lo;
  hi = λ s i. (same_view n c c' tree tree' s i).hi;
  up = λ s i some. let child = tree.up_child s i some in tree'.child_up child.0 (c.up s) s (same_view n c c' tree tree' (c.up s) (tree.up_linked s i some)).linked (tree.up_inner s i some) child.1;
}
