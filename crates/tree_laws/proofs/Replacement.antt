-- A replacement of a leaf keeps the search tree, on either side of its parent.
use Rattle.std.proofs.Common.{◌≡◌, ◌≢◌, ℕ, suc, ◌<◌, ◌≤◌, Bool, true, false, refl, sym, ap, ◌∙◌, subst, inl, inr}
use Rattle.std.proofs.Common.{⊎_elim}
use Rattle.std.proofs.Common.{arith}
use Rattle.std.specs.Prelude.{◌⊎◌, Option, Some}
use Rattle.std.proofs.lemmas.Bool.{both_ways}
use mathlib.Core.Logic.{dite}
use native.Mathlib.Decide.{ℕ_discrete}
use Rattle.structure_laws.specs.body_terms.specs.Update.{upd}
use Rattle.structure_laws.proofs.Changes.{upd_same, upd_other}
use Rattle.tree_laws.specs.Search.{Nodes, Covers, IsInner, IsLeaf, low, high, key_end, AreApart, SearchTree, Contents}
use Rattle.tree_laws.specs.Search.{with_child, IsReplacement, replaced, ReplacementKeeps}
use Rattle.tree_laws.proofs.Removal.{suc_eq, split}

swap : {a b c e : ℕ} → (a ≤ b) ⊎ (c ≤ e) → (c ≤ e) ⊎ (a ≤ b)
swap h = ⊎_elim inr inl h

module _ (n : Nodes) (g : Covers) (d : Bool) (a l f : ℕ) (sh : SearchTree n g) (is : IsReplacement n g d a l f) where
  abbrev after : Covers
  after = replaced g a l f

  abbrev C : Bool → ℕ → ℕ
  C = (with_child n d a (suc f)).child

  l_linked : g.linked l ≡ true
  l_linked = sh.child_linked d a l is.above is.above_inner is.old

  l_up : g.up l ≡ a
  l_up = sh.child_up d a l is.above is.above_inner is.old

  l_key : (g.lo l ≤ n.key l) × (n.key l < g.hi l)
  l_key = sh.leaf_key l l_linked is.old_leaf

  -- a linked node isn't the new one
  not_new : (s : ℕ) → g.linked s ≡ true → s ≢ f
  not_new s on e = both_ways _ is.leaf_out (ap g.linked (sym e) ∙ on)

  inner_not_l : (s : ℕ) → IsInner n s → s ≢ l
  inner_not_l s inner e = let same = ap (n.child true) e in let leaf = is.old_leaf in omega (arith, inner, same, leaf)

  inner_not_f : (s : ℕ) → IsInner n s → s ≢ f
  inner_not_f s inner e = let same = ap (n.child true) e in let leaf = is.new_leaf in omega (arith, inner, same, leaf)

  leaf_not_a : (s : ℕ) → IsLeaf n s → s ≢ a
  leaf_not_a s leaf e = let same = ap (n.child true) e in let inner = is.above_inner in omega (arith, inner, same, leaf)

  a_not_f : a ≢ f
  a_not_f = not_new a is.above

  a_not_l : a ≢ l
  a_not_l = inner_not_l a is.above_inner

  -- a node that is linked then is the new leaf, or was linked and isn't the old one
  pub which : (s : ℕ) → after.linked s ≡ true → (s ≡ f) ⊎ ((g.linked s ≡ true) × (s ≢ f) × (s ≢ l))
  which s on = dite (ℕ_discrete s f) inl (λ nf. inr (dite (ℕ_discrete s l)
      (λ same. absurd (both_ways _ (upd_other (upd g.linked l false) f s true nf
      ∙ upd_same g.linked l s false same) on))
      (λ nl. (sym (upd_other (upd g.linked l false) f s true nf ∙ upd_other g.linked l s false nl) ∙ on, nf, nl))))

  pub link_new : after.linked f ≡ true
  link_new = upd_same (upd g.linked l false) f f true refl

  pub links : (s : ℕ) → g.linked s ≡ true → s ≢ l → after.linked s ≡ true
  links s on nl = upd_other (upd g.linked l false) f s true (not_new s on) ∙ (upd_other g.linked l s false nl ∙ on)

  pub old_out : after.linked l ≡ false
  old_out = upd_other (upd g.linked l false) f l true (not_new l l_linked) ∙ upd_same g.linked l l false refl

  -- the new leaf covers what the old one did
  lo_new : after.lo f ≡ g.lo l
  lo_new = upd_same g.lo f f (g.lo l) refl

  hi_new : after.hi f ≡ g.hi l
  hi_new = upd_same g.hi f f (g.hi l) refl

  up_new : after.up f ≡ a
  up_new = upd_same g.up f f a refl

  pub lo_old : (s : ℕ) → s ≢ f → after.lo s ≡ g.lo s
  lo_old s nf = upd_other g.lo f s (g.lo l) nf

  pub hi_old : (s : ℕ) → s ≢ f → after.hi s ≡ g.hi s
  hi_old s nf = upd_other g.hi f s (g.hi l) nf

  pub up_old : (s : ℕ) → s ≢ f → after.up s ≡ g.up s
  up_old s nf = upd_other g.up f s a nf

  inner_old : (s : ℕ) → 0 < C true s → IsInner n s
  inner_old s inner = ⊎_elim (λ o. subst (λ z. 0 < n.child true z) (sym o.1) is.above_inner)
      (λ o. subst (λ z. 0 < z) o.1 inner) (split n.child d a (suc f) true s)

  inner_new : (s : ℕ) → IsInner n s → 0 < C true s
  inner_new s inner = ⊎_elim (λ o. let link = o.2 in omega (arith, link)) (λ o. subst (λ z. 0 < z) (sym o.1) inner)
      (split n.child d a (suc f) true s)

  leaf_old : (s : ℕ) → C true s ≡ 0 → IsLeaf n s
  leaf_old s leaf = ⊎_elim (λ o. let link = o.2 in absurd (omega (arith, link, leaf))) (λ o. sym o.1 ∙ leaf)
      (split n.child d a (suc f) true s)

  -- the links of a node other than a are as they were
  same_links : (c : Bool) (s : ℕ) → s ≢ a → C c s ≡ n.child c s
  same_links c s ne = ⊎_elim (λ o. absurd (ne o.1)) (λ o. o.1) (split n.child d a (suc f) c s)

  -- no other link leads to l
  not_at : (c : Bool) (s : ℕ) → g.linked s ≡ true → IsInner n s → n.child c s ≡ suc l → (c ≡ d → s ≢ a) → ⊥
  not_at c s on inner link ne =
      let same : s ≡ a = sym (sh.child_up c s l on inner link) ∙ l_up in
      by c d (λ z. ne z same) (sh.child_lo c s l on inner link ∙ ap (low n g.lo c) same)
      (sh.child_lo d a l is.above is.above_inner is.old)
      (sh.child_hi c s l on inner link ∙ ap (high n g.hi c) same) (sh.child_hi d a l is.above is.above_inner is.old)
    where
      by : (c d : Bool) → c ≢ d → g.lo l ≡ low n g.lo c a → g.lo l ≡ low n g.lo d a → g.hi l ≡ high n g.hi c a
          → g.hi l ≡ high n g.hi d a → ⊥
      by true true z x y u w = z refl
      by false false z x y u w = z refl
      by true false z x y u w = let k = sh.inner_key a is.above is.above_inner in omega arith
      by false true z x y u w = let k = sh.inner_key a is.above is.above_inner in omega arith

  abbrev IsChild : Bool → ℕ → ℕ → Type 0
  IsChild c s x = (after.linked x ≡ true) × (after.up x ≡ s) × (after.lo x ≡ low n after.lo c s)
      × (after.hi x ≡ high n after.hi c s)

  lows : (c : Bool) (s lo : ℕ) → s ≢ f → lo ≡ low n g.lo c s → lo ≡ low n after.lo c s
  lows true s lo nf e = e ∙ sym (lo_old s nf)
  lows false s lo nf e = e

  highs : (c : Bool) (s hi : ℕ) → s ≢ f → hi ≡ high n g.hi c s → hi ≡ high n after.hi c s
  highs true s hi nf e = e
  highs false s hi nf e = e ∙ sym (hi_old s nf)

  new_child : IsChild d a f
  new_child = (
    link_new,
    up_new,
    lo_new ∙ lows d a (g.lo l) a_not_f (sh.child_lo d a l is.above is.above_inner is.old),
    hi_new ∙ highs d a (g.hi l) a_not_f (sh.child_hi d a l is.above is.above_inner is.old),
  )

  old_child : (c : Bool) (s x : ℕ) → g.linked s ≡ true → s ≢ f → IsInner n s → n.child c s ≡ suc x
      → (c ≡ d → s ≢ a) → IsChild c s x
  old_child c s x on nf inner link ne =
      let linked = sh.child_linked c s x on inner link in
      let new = not_new x linked in (
        links x linked (λ same. not_at c s on inner (link ∙ ap suc same) ne),
        up_old x new ∙ sh.child_up c s x on inner link,
        lo_old x new ∙ lows c s (g.lo x) nf (sh.child_lo c s x on inner link),
        hi_old x new ∙ highs c s (g.hi x) nf (sh.child_hi c s x on inner link),
      )

  child_at : (c : Bool) (s x : ℕ) → after.linked s ≡ true → 0 < C true s → C c s ≡ suc x → IsChild c s x
  child_at c s x on inner link = ⊎_elim
      (λ o. let same : x ≡ f = suc_eq (sym link ∙ o.2) in subst (IsChild c s) (sym same)
      (subst (λ z. IsChild c z f) (sym o.1) (subst (λ z. IsChild z a f) (sym o.0) new_child)))
      (λ o. ⊎_elim (λ same. absurd (inner_not_f s (inner_old s inner) same))
      (λ was. old_child c s x was.0 was.1 (inner_old s inner) (sym o.1 ∙ link) o.0) (which s on))
      (split n.child d a (suc f) c s)

  abbrev HasParent : ℕ → ℕ → Type 0
  HasParent x s = (after.linked s ≡ true) × (0 < C true s) × ((c : Bool) × (C c s ≡ suc x))

  new_parent : HasParent f a
  new_parent = (
    links a is.above a_not_l,
    inner_new a is.above_inner,
    (d, ⊎_elim (λ o. o.2) (λ o. absurd (o.0 refl refl)) (split n.child d a (suc f) d a)),
  )

  old_parent : (x : ℕ) → g.linked x ≡ true → x ≢ l → x ≢ 0 → HasParent x (g.up x)
  old_parent x on nl some =
      let child = sh.up_child x on some in
      let inner = sh.up_inner x on some in (
        links (g.up x) (sh.up_linked x on some) (inner_not_l (g.up x) inner),
        inner_new (g.up x) inner,
        (
          child.0,
          ⊎_elim
              (λ o. absurd (nl (suc_eq (sym child.1 ∙ (ap (λ c. n.child c (g.up x)) o.0 ∙ (ap (n.child d) o.1
              ∙ is.old))))))
              (λ o. o.1 ∙ child.1) (split n.child d a (suc f) child.0 (g.up x)),
        ),
      )

  parent_at : (x : ℕ) → after.linked x ≡ true → x ≢ 0 → HasParent x (after.up x)
  parent_at x on some = ⊎_elim
      (λ same. subst (λ x. HasParent x (after.up x)) (sym same) (subst (HasParent f) (sym up_new) new_parent))
      (λ was. subst (HasParent x) (sym (up_old x was.1)) (old_parent x was.0 was.2 some)) (which x on)

  -- a leaf that is linked then is the new one, or another as it was
  leaf_at : (P : ℕ → Type 0) → P f → ((x : ℕ) → g.linked x ≡ true → IsLeaf n x → x ≢ f → x ≢ l → P x)
      → (x : ℕ) → after.linked x ≡ true → C true x ≡ 0 → P x
  leaf_at P new other x on leaf = ⊎_elim (λ same. subst P (sym same) new)
      (λ was. other x was.0 (leaf_old x leaf) was.1 was.2) (which x on)

  inner_at : (s : ℕ) → after.linked s ≡ true → 0 < C true s → (g.linked s ≡ true) × IsInner n s × (s ≢ f)
  inner_at s on inner = ⊎_elim (λ same. absurd (inner_not_f s (inner_old s inner) same))
      (λ was. (was.0, inner_old s inner, was.1)) (which s on)

  abbrev IsOut : ℕ → ℕ → Type 0
  IsOut s x = (n.key s ≤ after.lo x) ⊎ (after.hi x ≤ n.key s)

  rewrite_out : (k lo hi lo' hi' : ℕ) → lo' ≡ lo → hi' ≡ hi → (k ≤ lo) ⊎ (hi ≤ k) → (k ≤ lo') ⊎ (hi' ≤ k)
  rewrite_out k lo hi lo' hi' x y z = grind arith

  leaf_inner : (x s : ℕ) → after.linked x ≡ true → after.linked s ≡ true → C true x ≡ 0 → 0 < C true s → IsOut s x
  leaf_inner x s on on' leaf inner =
      let at = inner_at s on' inner in
      leaf_at (IsOut s)
      (rewrite_out (n.key s) (g.lo l) (g.hi l) (after.lo f) (after.hi f) lo_new hi_new
      (sh.leaf_inner l s l_linked at.0 is.old_leaf at.1))
      (λ x was leaf' nf nl. rewrite_out (n.key s) (g.lo x) (g.hi x) (after.lo x) (after.hi x) (lo_old x nf)
      (hi_old x nf)
      (sh.leaf_inner x s was at.0 leaf' at.1)) x on leaf

  rewrite_apart : (lo hi lox hix lo' hi' lox' hix' : ℕ) → lo' ≡ lo → hi' ≡ hi → lox' ≡ lox → hix' ≡ hix
      → (hi ≤ lox) ⊎ (hix ≤ lo) → (hi' ≤ lox') ⊎ (hix' ≤ lo')
  rewrite_apart lo hi lox hix lo' hi' lox' hix' x y z u w = grind arith

  -- the new leaf is apart from each other one, as the old one was
  new_apart : (x : ℕ) → g.linked x ≡ true → IsLeaf n x → x ≢ f → x ≢ l → AreApart after.lo after.hi f x
  new_apart x on leaf nf nl = rewrite_apart (g.lo l) (g.hi l) (g.lo x) (g.hi x) (after.lo f) (after.hi f) (after.lo x)
      (after.hi x) lo_new hi_new (lo_old x nf) (hi_old x nf)
      (sh.leaves l x l_linked on is.old_leaf leaf (λ e. nl (sym e)))

  leaves : (x y : ℕ) → after.linked x ≡ true → after.linked y ≡ true → C true x ≡ 0 → C true y ≡ 0 → x ≢ y
      → AreApart after.lo after.hi x y
  leaves x y on on' leaf leaf' = leaf_at (λ x. x ≢ y → AreApart after.lo after.hi x y)
      (leaf_at (λ y. f ≢ y → AreApart after.lo after.hi f y) (λ ne. absurd (ne refl))
      (λ y was is_leaf nf nl ne. new_apart y was is_leaf nf nl) y on' leaf')
      (λ x was is_leaf nf nl. leaf_at (λ y. x ≢ y → AreApart after.lo after.hi x y)
      (λ ne. swap (new_apart x was is_leaf nf nl))
      (λ y was' is_leaf' nf' nl' ne. rewrite_apart (g.lo x) (g.hi x) (g.lo y) (g.hi y) (after.lo x) (after.hi x)
      (after.lo y) (after.hi y) (lo_old x nf) (hi_old x nf) (lo_old y nf') (hi_old y nf')
      (sh.leaves x y was was' is_leaf is_leaf' ne)) y on' leaf') x on leaf

  new_key : (after.lo f ≤ n.key f) × (n.key f < after.hi f)
  new_key = let k = l_key in let from = k.0 in let to = k.1 in let same = is.same_key in let lo = lo_new in
      let hi = hi_new in (omega (arith, from, same, lo), omega (arith, to, same, hi))

  tree_lows : (x s : ℕ) (c : Bool) → after.lo x ≡ low n after.lo c s
      → after.lo x ≡ low (with_child n d a (suc f)) after.lo c s
  tree_lows x s true e = e
  tree_lows x s false e = e

  tree_highs : (x s : ℕ) (c : Bool) → after.hi x ≡ high n after.hi c s
      → after.hi x ≡ high (with_child n d a (suc f)) after.hi c s
  tree_highs x s true e = e
  tree_highs x s false e = e

  replacement_tree : SearchTree (with_child n d a (suc f)) after
  replacement_tree = record {
    root = links 0 sh.root (inner_not_l 0 sh.root_inner);
    root_inner = inner_new 0 sh.root_inner;
    root_lo = lo_old 0 (not_new 0 sh.root) ∙ sh.root_lo;
    root_hi = hi_old 0 (not_new 0 sh.root) ∙ sh.root_hi;
    top = λ s on. ⊎_elim
        (λ same. subst (λ s. after.hi s ≤ key_end) (sym same) (subst (λ z. z ≤ key_end) (sym hi_new)
        (sh.top l l_linked)))
        (λ was. subst (λ z. z ≤ key_end) (sym (hi_old s was.1)) (sh.top s was.0)) (which s on);
    child_some = λ c s on inner. let at = inner_at s on inner in ⊎_elim
        (λ o. let link = o.2 in omega (arith, link))
        (λ o. subst (λ z. 0 < z) (sym o.1) (sh.child_some c s at.0 at.1)) (split n.child d a (suc f) c s);
    child_linked = λ c s x on inner link. (child_at c s x on inner link).0;
    child_up = λ c s x on inner link. (child_at c s x on inner link).1;
    child_lo = λ c s x on inner link. tree_lows x s c (child_at c s x on inner link).2;
    child_hi = λ c s x on inner link. tree_highs x s c (child_at c s x on inner link).3;
    up_linked = λ x on some. (parent_at x on some).0;
    up_inner = λ x on some. (parent_at x on some).1;
    up_child = λ x on some. (parent_at x on some).2;
    inner_key = λ s on inner. let at = inner_at s on inner in let key = sh.inner_key s at.0 at.1 in (
      subst (λ lo. lo < n.key s) (sym (lo_old s at.2)) key.0,
      subst (λ hi. n.key s < hi) (sym
          (hi_old s at.2)) key.1,
    );
    leaf_key = λ s on leaf. leaf_at (λ s. (after.lo s ≤ n.key s) × (n.key s < after.hi s)) new_key
        (λ s was is_leaf nf nl. let key = sh.leaf_key s was is_leaf in
        (subst (λ lo. lo ≤ n.key s) (sym (lo_old s nf)) key.0, subst (λ hi. n.key s < hi) (sym (hi_old s nf)) key.1))
        s on leaf;
    inner_once = λ s u on on' inner inner' same. let at = inner_at s on inner in let at' = inner_at u on' inner' in
        sh.inner_once s u at.0 at'.0 at.1 at'.1 same;
    leaf_inner = leaf_inner;
    leaves = leaves;
  }

  -- another leaf has another key
  other_key : (x : ℕ) → g.linked x ≡ true → IsLeaf n x → x ≢ l → n.key x ≢ n.key f
  other_key x on leaf nl e =
      let at = sh.leaf_key x on leaf in let from = at.0 in let to = at.1 in
      let key = l_key in let from' = key.0 in let to' = key.1 in let same = is.same_key in
      ⊎_elim (λ o. omega (arith, o, e, from, to, from', to', same)) (λ o. omega
      (arith, o, e, from, to, from', to', same))
      (sh.leaves l x l_linked on is.old_leaf leaf (λ q. nl (sym q)))

  abbrev then_has : (ℕ → Option ℕ) → ℕ → Option ℕ
  then_has lookup = upd lookup (n.key f) (Some (n.child false f))

  replacement_contents : (lookup : ℕ → Option ℕ) → 3 ≤ f → Contents n g lookup
      → Contents (with_child n d a (suc f)) after (then_has lookup)
  replacement_contents lookup real contents = record {
    pair = λ x on leaf. leaf_at (λ x. 3 ≤ x → then_has lookup (n.key x) ≡ Some (C false x))
        (λ big. upd_same lookup (n.key f) (n.key f) (Some (n.child false f)) refl
        ∙ ap Some (sym (same_links false f (leaf_not_a f is.new_leaf))))
        (λ x was is_leaf nf nl big. upd_other lookup (n.key f) (n.key x) (Some (n.child false f))
        (other_key x was is_leaf nl)
        ∙ (contents.pair x was is_leaf big ∙ ap Some (sym (same_links false x (leaf_not_a x is_leaf))))) x on leaf;
    leaf = λ key value e. dite (ℕ_discrete key (n.key f))
        (λ same. (f, link_new, same_links true f (leaf_not_a f is.new_leaf) ∙ is.new_leaf, real, sym same))
        (λ ne. let old = contents.leaf key value (sym (upd_other lookup (n.key f) key (Some (n.child false f)) ne)
        ∙ e) in (
          old.0,
          links old.0 old.1 (λ same. ne (sym old.4 ∙ (ap n.key same ∙ sym is.same_key))),
          same_links true old.0 (leaf_not_a old.0 old.2) ∙ old.2,
          old.3,
          old.4,
        ));
  }

  pub replacement_keeps : ReplacementKeeps n g d a l f
  replacement_keeps = record { tree = replacement_tree; contents = replacement_contents }
