-- What walks and links say stays right where the places of inner nodes that were linked once only grow.
use Rattle.std.specs.Prelude.{Bool, true, false}
use Rattle.std.proofs.Common.{◌≡◌, ℕ, suc, ◌<◌, refl, subst, arith}
use Rattle.tree_laws.specs.Search.{Nodes, Covers, IsInner, low, high, SearchTree}
use Rattle.tree_laws.specs.Walk.{Walk}
use Rattle.tree_laws.specs.Leaves.{IsWalk, IsTrail}
use Rattle.tree_laws.proofs.KeepsFrame.{StaysNode, stays_inner, StaysPassed, walk_stays}

module _ (n n' : Nodes) (c c' : Covers) (once once' : ℕ → Bool) (same : (t : ℕ) → StaysNode n n' t)
    (grown : (t : ℕ) → once t ≡ true → StaysPassed n n' c c' once' t) where
  -- the walk of a key
  pub still_walk : (key : ℕ) (w : Walk) → IsWalk n c once key w → IsWalk n' c' once' key w
  still_walk key w was = walk_stays n n' c c' once once' (λ t. Unit {0}) (λ t once_t is. grown t once_t) key w (record {
    grand_from = λ going deep. tt;
    grand_to = λ going deep. tt;
    from = λ going some. tt;
    node = λ going some. tt;
    left = λ t at leads. tt;
  }) was

  was_inner : (t : ℕ) → IsInner n' t → IsInner n t
  was_inner t inner = stays_inner n n' t (same t) inner

  keys_order : (t u : ℕ) → n.key t < n.key u → n'.key t < n'.key u
  keys_order t u less = let a = (same t).key in let b = (same u).key in omega (arith, less, a, b)

  -- where the links of a node lead: of a linked one by the tree, of another as before
  pub still_trail : SearchTree n' c' → ((t : ℕ) → c'.linked t ≡ true → once' t ≡ true) → (s t : ℕ) (b : Bool)
      → (c'.linked s ≡ false → (c'.lo s ≡ c.lo s) × (c'.hi s ≡ c.hi s) × IsTrail n c once s t b)
      → IsInner n' s → n'.child b s ≡ suc t → IsTrail n' c' once' s t b
  still_trail tree linked_once s t b out inner link = by (c'.linked s) refl
    where
      on : c'.linked s ≡ true → IsTrail n' c' once' s t b
      on linked = record {
        once_linked = linked_once t child;
        left = λ side inner_t.
            let lo = subst (λ b. c'.lo t ≡ low n' c'.lo b s) side (tree.child_lo b s t linked inner link) in
            let hi = subst (λ b. c'.hi t ≡ high n' c'.hi b s) side (tree.child_hi b s t linked inner link) in
            let inside = (tree.inner_key t child inner_t).1 in
            (omega (arith, lo), omega (arith, hi), omega (arith, hi, inside));
        right = λ side inner_t.
            let lo = subst (λ b. c'.lo t ≡ low n' c'.lo b s) side (tree.child_lo b s t linked inner link) in
            let hi = subst (λ b. c'.hi t ≡ high n' c'.hi b s) side (tree.child_hi b s t linked inner link) in
            let inside = (tree.inner_key t child inner_t).0 in
            (omega (arith, lo), omega (arith, hi), omega (arith, lo, inside));
      }
        where
          child : c'.linked t ≡ true
          child = tree.child_linked b s t linked inner link

      off : (c'.lo s ≡ c.lo s) × (c'.hi s ≡ c.hi s) × IsTrail n c once s t b → IsTrail n' c' once' s t b
      off was = record {
        once_linked = (grown t was.2.once_linked).once_linked;
        left = λ side inner_t.
            let before = was_inner t inner_t in
            let at = was.2.left side before in
            let lo = (grown t was.2.once_linked).lo before in
            let hi = (grown t was.2.once_linked).hi before in
            let here = was.0 in let key = (same s).key in let from = at.0 in let to = at.1 in
            (omega (arith, lo, from, here), omega (arith, hi, to, key), keys_order t s at.2);
        right = λ side inner_t.
            let before = was_inner t inner_t in
            let at = was.2.right side before in
            let lo = (grown t was.2.once_linked).lo before in
            let hi = (grown t was.2.once_linked).hi before in
            let here = was.1 in let key = (same s).key in let from = at.0 in let to = at.1 in
            (omega (arith, lo, from, key), omega (arith, hi, to, here), keys_order s t at.2);
      }

      by : (linked : Bool) → c'.linked s ≡ linked → IsTrail n' c' once' s t b
      by true linked = on linked
      by false none = off (out none)
