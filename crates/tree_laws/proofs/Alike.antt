-- What a memory stands for goes by its linked nodes alone.
use Rattle.std.specs.Prelude.{◌⊎◌, Bool, true, false, Option, Some}
use Rattle.std.proofs.Common.{◌≡◌, ℕ, suc, ◌<◌, ◌≤◌, refl, sym, ap, ◌∙◌, subst}
use Rattle.tree_laws.specs.Search.{Nodes, Covers, IsInner, IsLeaf, low, high, SearchTree, HasSentinels, Contents}

-- two memories have the same keys and links in the linked nodes
pub record AreAlike (n n' : Nodes) (c : Covers) : Type 0 where
  pub key : (t : ℕ) → c.linked t ≡ true → n'.key t ≡ n.key t
  pub child : (b : Bool) (t : ℕ) → c.linked t ≡ true → n'.child b t ≡ n.child b t

module _ (n n' : Nodes) (c : Covers) (alike : AreAlike n n' c) where
  pub inner_back : (t : ℕ) → c.linked t ≡ true → IsInner n' t → IsInner n t
  inner_back t on inner = subst (λ k. 0 < k) (alike.child true t on) inner

  pub inner_on : (t : ℕ) → c.linked t ≡ true → IsInner n t → IsInner n' t
  inner_on t on inner = subst (λ k. 0 < k) (sym (alike.child true t on)) inner

  pub leaf_back : (t : ℕ) → c.linked t ≡ true → IsLeaf n' t → IsLeaf n t
  leaf_back t on leaf = sym (alike.child true t on) ∙ leaf

  pub leaf_on : (t : ℕ) → c.linked t ≡ true → IsLeaf n t → IsLeaf n' t
  leaf_on t on leaf = alike.child true t on ∙ leaf

  low_same : (b : Bool) (t : ℕ) → c.linked t ≡ true → low n c.lo b t ≡ low n' c.lo b t
  low_same true t on = refl
  low_same false t on = sym (alike.key t on)

  high_same : (b : Bool) (t : ℕ) → c.linked t ≡ true → high n c.hi b t ≡ high n' c.hi b t
  high_same true t on = sym (alike.key t on)
  high_same false t on = refl

  link : (b : Bool) (s t : ℕ) → c.linked s ≡ true → n'.child b s ≡ suc t → n.child b s ≡ suc t
  link b s t on e = sym (alike.child b s on) ∙ e

  pub tree_alike : SearchTree n c → SearchTree n' c
  tree_alike tree = record {
    root = tree.root;
    root_inner = inner_on 0 tree.root tree.root_inner;
    root_lo = tree.root_lo;
    root_hi = tree.root_hi;
    top = tree.top;
    child_some = λ b s on inner. subst (λ k. 0 < k) (sym (alike.child b s on)) (tree.child_some b s on (inner_back s on inner));
    child_linked = λ b s t on inner e. tree.child_linked b s t on (inner_back s on inner) (link b s t on e);
    child_up = λ b s t on inner e. tree.child_up b s t on (inner_back s on inner) (link b s t on e);
    child_lo = λ b s t on inner e. tree.child_lo b s t on (inner_back s on inner) (link b s t on e) ∙ low_same b s on;
    child_hi = λ b s t on inner e. tree.child_hi b s t on (inner_back s on inner) (link b s t on e) ∙ high_same b s on;
    up_linked = tree.up_linked;
    up_inner = λ t on ne. inner_on (c.up t) (tree.up_linked t on ne) (tree.up_inner t on ne);
    up_child = λ t on ne. let is = tree.up_child t on ne in (is.0, alike.child is.0 (c.up t) (tree.up_linked t on ne) ∙ is.1);
    inner_key = λ s on inner. let is = tree.inner_key s on (inner_back s on inner) in
        (subst (λ k. c.lo s < k) (sym (alike.key s on)) is.0, subst (λ k. k < c.hi s) (sym (alike.key s on)) is.1);
    leaf_key = λ s on leaf. let is = tree.leaf_key s on (leaf_back s on leaf) in
        (subst (λ k. c.lo s ≤ k) (sym (alike.key s on)) is.0, subst (λ k. k < c.hi s) (sym (alike.key s on)) is.1);
    inner_once = λ s t on on' inner inner' same. tree.inner_once s t on on' (inner_back s on inner) (inner_back t on' inner')
        (sym (alike.key s on) ∙ (same ∙ alike.key t on'));
    leaf_inner = λ l s on on' leaf inner. subst (λ k. (k ≤ c.lo l) ⊎ (c.hi l ≤ k)) (sym (alike.key s on'))
        (tree.leaf_inner l s on on' (leaf_back l on leaf) (inner_back s on' inner));
    leaves = λ l x on on' leaf leaf' ne. tree.leaves l x on on' (leaf_back l on leaf) (leaf_back x on' leaf') ne;
  }

  pub sentinels_alike : SearchTree n c → HasSentinels n c → HasSentinels n' c
  sentinels_alike tree is = record {
    root_key = alike.key 0 tree.root ∙ is.root_key;
    root_right = alike.child false 0 tree.root ∙ is.root_right;
    first = is.first;
    first_leaf = leaf_on 1 is.first is.first_leaf;
    first_key = alike.key 1 is.first ∙ is.first_key;
    last = is.last;
    last_leaf = leaf_on 2 is.last is.last_leaf;
    last_key = alike.key 2 is.last ∙ is.last_key;
  }

  pub contents_alike : (lookup : ℕ → Option ℕ) → Contents n c lookup → Contents n' c lookup
  contents_alike lookup is = record {
    pair = λ l on leaf low. ap lookup (alike.key l on) ∙ (is.pair l on (leaf_back l on leaf) low ∙ ap Some (sym (alike.child false l on)));
    leaf = λ key value h. let l = is.leaf key value h in (l.0, l.1, leaf_on l.0 l.1 l.2, l.3, alike.key l.0 l.1 ∙ l.4);
  }

-- and by what is looked up
pub contents_same : (n : Nodes) (c : Covers) (lookup lookup' : ℕ → Option ℕ) → Contents n c lookup → ((key : ℕ) → lookup key ≡ lookup' key) → Contents n c lookup'
contents_same n c lookup lookup' is same = record {
  pair = λ l on leaf low. sym (same (n.key l)) ∙ is.pair l on leaf low;
  leaf = λ key value h. is.leaf key value (same key ∙ h);
}
