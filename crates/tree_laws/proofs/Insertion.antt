-- An insertion keeps the search tree, on either side of both nodes.
use Rattle.std.proofs.Common.{◌≡◌, ◌≢◌, ℕ, suc, ◌<◌, ◌≤◌, Bool, true, false, cond, refl, sym, ap, ◌∙◌, subst, inl, inr, ⊎_elim, arith}
use Rattle.std.specs.Prelude.{◌⊎◌, not, Option, Some}
use Rattle.std.proofs.lemmas.Bool.{both_ways}
use mathlib.Core.Logic.{dite}
use native.Mathlib.Decide.{ℕ_discrete}
use Rattle.structure_laws.specs.body_terms.specs.Update.{upd}
use Rattle.structure_laws.proofs.Changes.{upd_same, upd_other}
use Rattle.tree_laws.specs.Search.{Nodes, Covers, IsInner, IsLeaf, low, high, key_end, AreApart, SearchTree, Contents, with_child, AreOrdered, IsInsertion, thrice, inserted, InsertionKeeps}
use Rattle.tree_laws.proofs.Removal.{suc_eq, split, other_side}

thrice_last : {A : Type 0} (g : ℕ → A) (f l t s : ℕ) (x y z : A) → s ≡ t → thrice g f x l y t z s ≡ z
thrice_last g f l t s x y z e = grind arith

thrice_mid : {A : Type 0} (g : ℕ → A) (f l t s : ℕ) (x y z : A) → s ≡ l → s ≢ t → thrice g f x l y t z s ≡ y
thrice_mid g f l t s x y z e nt = grind arith

thrice_first : {A : Type 0} (g : ℕ → A) (f l t s : ℕ) (x y z : A) → s ≡ f → s ≢ l → s ≢ t → thrice g f x l y t z s ≡ x
thrice_first g f l t s x y z e nl nt = grind arith

thrice_other : {A : Type 0} (g : ℕ → A) (f l t s : ℕ) (x y z : A) → s ≢ f → s ≢ l → s ≢ t → thrice g f x l y t z s ≡ g s
thrice_other g f l t s x y z nf nl nt = grind arith

-- what lies inside the place of l is apart from what l is apart from
inside_apart : (lol hil lo hi lox hix : ℕ) → lol ≤ lo → hi ≤ hil → (hil ≤ lox) ⊎ (hix ≤ lol) → (hi ≤ lox) ⊎ (hix ≤ lo)
inside_apart lol hil lo hi lox hix a b h = grind arith

swap : {a b c e : ℕ} → (a ≤ b) ⊎ (c ≤ e) → (c ≤ e) ⊎ (a ≤ b)
swap h = ⊎_elim inr inl h

module _ (n : Nodes) (g : Covers) (d h : Bool) (a l t f : ℕ) (sh : SearchTree n g) (is : IsInsertion n g d h a l t f) where
  abbrev after : Covers
  after = inserted n g h a l t f

  abbrev C : Bool → ℕ → ℕ
  C = (with_child n d a (suc t)).child

  l_linked : g.linked l ≡ true
  l_linked = sh.child_linked d a l is.above is.above_inner is.old

  l_up : g.up l ≡ a
  l_up = sh.child_up d a l is.above is.above_inner is.old

  l_key : (g.lo l ≤ n.key l) × (n.key l < g.hi l)
  l_key = sh.leaf_key l l_linked is.old_leaf

  not_new : (s : ℕ) → g.linked s ≡ true → (s ≢ f) × (s ≢ t)
  not_new s i = (λ e. both_ways _ is.leaf_out (ap g.linked (sym e) ∙ i), λ e. both_ways _ is.inner_out (ap g.linked (sym e) ∙ i))

  l_not_t : l ≢ t
  l_not_t = (not_new l l_linked).1

  l_not_f : l ≢ f
  l_not_f = (not_new l l_linked).0

  f_not_t : f ≢ t
  f_not_t e = is.differ (sym e)

  pub t_inner : IsInner n t
  t_inner = ⊎_elim (λ e. let q = ap (λ c. n.child c t) e ∙ is.new_side in omega arith) (λ e. let q = ap (λ c. n.child c t) e ∙ is.old_side in omega arith) (other_side true h)

  pub inner_not_l : (s : ℕ) → IsInner n s → s ≢ l
  inner_not_l s inn e = let q = ap (n.child true) e in let leaf = is.old_leaf in omega arith

  inner_not_f : (s : ℕ) → IsInner n s → s ≢ f
  inner_not_f s inn e = let q = ap (n.child true) e in let leaf = is.new_leaf in omega arith

  pub leaf_not_t : (s : ℕ) → IsLeaf n s → s ≢ t
  leaf_not_t s leaf e = let q = ap (n.child true) e in let inner = t_inner in omega arith

  -- a linked node is the new inner node, the new leaf, the old leaf, or another that was linked
  pub which : (s : ℕ) → after.linked s ≡ true → (s ≡ t) ⊎ (s ≡ f) ⊎ (s ≡ l) ⊎ ((g.linked s ≡ true) × (s ≢ f) × (s ≢ l) × (s ≢ t))
  which s i = dite (ℕ_discrete s t) inl (λ nt. inr (dite (ℕ_discrete s f) inl (λ nf. inr (dite (ℕ_discrete s l) inl (λ nl. inr (sym (thrice_other g.linked f l t s true true true nf nl nt) ∙ i, nf, nl, nt))))))

  pub links : (s : ℕ) → (s ≡ t) ⊎ (s ≡ f) ⊎ (g.linked s ≡ true) → after.linked s ≡ true
  links s how = dite (ℕ_discrete s t) (λ e. thrice_last g.linked f l t s true true true e) (λ nt. dite (ℕ_discrete s l) (λ e. thrice_mid g.linked f l t s true true true e nt)
      (λ nl. dite (ℕ_discrete s f) (λ e. thrice_first g.linked f l t s true true true e nl nt) (λ nf. thrice_other g.linked f l t s true true true nf nl nt ∙ ⊎_elim (λ e. absurd (nt e)) (⊎_elim (λ e. absurd (nf e)) (λ i. i)) how)))

  lo_t : after.lo t ≡ g.lo l
  lo_t = thrice_last g.lo f l t t (cond h (g.lo l) (n.key t)) (cond h (n.key t) (g.lo l)) (g.lo l) refl

  hi_t : after.hi t ≡ g.hi l
  hi_t = thrice_last g.hi f l t t (cond h (n.key t) (g.hi l)) (cond h (g.hi l) (n.key t)) (g.hi l) refl

  up_t : after.up t ≡ a
  up_t = thrice_last g.up f l t t t t a refl

  lo_f : after.lo f ≡ cond h (g.lo l) (n.key t)
  lo_f = thrice_first g.lo f l t f (cond h (g.lo l) (n.key t)) (cond h (n.key t) (g.lo l)) (g.lo l) refl (λ e. l_not_f (sym e)) f_not_t

  hi_f : after.hi f ≡ cond h (n.key t) (g.hi l)
  hi_f = thrice_first g.hi f l t f (cond h (n.key t) (g.hi l)) (cond h (g.hi l) (n.key t)) (g.hi l) refl (λ e. l_not_f (sym e)) f_not_t

  up_f : after.up f ≡ t
  up_f = thrice_first g.up f l t f t t a refl (λ e. l_not_f (sym e)) f_not_t

  lo_l : after.lo l ≡ cond h (n.key t) (g.lo l)
  lo_l = thrice_mid g.lo f l t l (cond h (g.lo l) (n.key t)) (cond h (n.key t) (g.lo l)) (g.lo l) refl l_not_t

  hi_l : after.hi l ≡ cond h (g.hi l) (n.key t)
  hi_l = thrice_mid g.hi f l t l (cond h (n.key t) (g.hi l)) (cond h (g.hi l) (n.key t)) (g.hi l) refl l_not_t

  up_l : after.up l ≡ t
  up_l = thrice_mid g.up f l t l t t a refl l_not_t

  pub lo_old : (s : ℕ) → s ≢ f → s ≢ l → s ≢ t → after.lo s ≡ g.lo s
  lo_old s nf nl nt = thrice_other g.lo f l t s (cond h (g.lo l) (n.key t)) (cond h (n.key t) (g.lo l)) (g.lo l) nf nl nt

  pub hi_old : (s : ℕ) → s ≢ f → s ≢ l → s ≢ t → after.hi s ≡ g.hi s
  hi_old s nf nl nt = thrice_other g.hi f l t s (cond h (n.key t) (g.hi l)) (cond h (g.hi l) (n.key t)) (g.hi l) nf nl nt

  pub up_old : (s : ℕ) → s ≢ f → s ≢ l → s ≢ t → after.up s ≡ g.up s
  up_old s nf nl nt = thrice_other g.up f l t s t t a nf nl nt

  a_old : (a ≢ f) × (a ≢ l) × (a ≢ t)
  a_old = let new = not_new a is.above in (new.0, inner_not_l a is.above_inner, new.1)

  -- the new key lies inside the place of l
  t_key : (g.lo l < n.key t) × (n.key t < g.hi l)
  t_key = by h is.ordered
    where
      by : (h : Bool) → AreOrdered h (n.key t) (n.key l) (n.key f) → (g.lo l < n.key t) × (n.key t < g.hi l)
      by true o = let k = l_key in let from = is.from in let less = o.0 in let same = o.1 in (omega arith, omega arith)
      by false o = let k = l_key in let before = is.before in let less = o.0 in let same = o.1 in (omega arith, omega arith)

  -- both leaves' keys are in their places, these are inside that of l, and the new key is in neither
  pub record Fits (lo hi key : ℕ) : Type 0 where
    pub covers : (lo ≤ key) × (key < hi)
    pub inside : (g.lo l ≤ lo) × (hi ≤ g.hi l)
    pub key_out : (n.key t ≤ lo) ⊎ (hi ≤ n.key t)

  f_fits : Fits (after.lo f) (after.hi f) (n.key f)
  f_fits = by h is.ordered lo_f hi_f
    where
      by : (h : Bool) → AreOrdered h (n.key t) (n.key l) (n.key f) → after.lo f ≡ cond h (g.lo l) (n.key t) → after.hi f ≡ cond h (n.key t) (g.hi l) → Fits (after.lo f) (after.hi f) (n.key f)
      by true o x y = let k = t_key in let from = is.from in let less = o.0 in let same = o.1 in record { covers = (omega arith, omega arith); inside = (omega arith, omega arith); key_out = inr (omega arith) }
      by false o x y = let k = t_key in let before = is.before in let less = o.0 in let same = o.1 in record { covers = (omega arith, omega arith); inside = (omega arith, omega arith); key_out = inl (omega arith) }

  l_fits : Fits (after.lo l) (after.hi l) (n.key l)
  l_fits = by h is.ordered lo_l hi_l
    where
      by : (h : Bool) → AreOrdered h (n.key t) (n.key l) (n.key f) → after.lo l ≡ cond h (n.key t) (g.lo l) → after.hi l ≡ cond h (g.hi l) (n.key t) → Fits (after.lo l) (after.hi l) (n.key l)
      by true o x y = let k = t_key in let kl = l_key in let less = o.0 in let same = o.1 in record { covers = (omega arith, omega arith); inside = (omega arith, omega arith); key_out = inl (omega arith) }
      by false o x y = let k = t_key in let kl = l_key in let less = o.0 in let same = o.1 in record { covers = (omega arith, omega arith); inside = (omega arith, omega arith); key_out = inr (omega arith) }

  both_apart : AreApart after.lo after.hi f l
  both_apart = by h lo_f hi_f lo_l hi_l
    where
      by : (h : Bool) → after.lo f ≡ cond h (g.lo l) (n.key t) → after.hi f ≡ cond h (n.key t) (g.hi l) → after.lo l ≡ cond h (n.key t) (g.lo l) → after.hi l ≡ cond h (g.hi l) (n.key t) → AreApart after.lo after.hi f l
      by true x y z u = inl (omega arith)
      by false x y z u = inr (omega arith)

  inner_old : (s : ℕ) → 0 < C true s → IsInner n s
  inner_old s i = ⊎_elim (λ o. subst (λ z. 0 < n.child true z) (sym o.1) is.above_inner) (λ o. subst (λ z. 0 < z) o.1 i) (split n.child d a (suc t) true s)

  inner_new : (s : ℕ) → IsInner n s → 0 < C true s
  inner_new s i = ⊎_elim (λ o. let q = o.2 in omega arith) (λ o. subst (λ z. 0 < z) (sym o.1) i) (split n.child d a (suc t) true s)

  leaf_old : (s : ℕ) → C true s ≡ 0 → IsLeaf n s
  leaf_old s i = ⊎_elim (λ o. let q = o.2 in absurd (omega arith)) (λ o. sym o.1 ∙ i) (split n.child d a (suc t) true s)

  -- the links of a node other than a are as they were
  same_links : (c : Bool) (s : ℕ) → s ≢ a → C c s ≡ n.child c s
  same_links c s ne = ⊎_elim (λ o. absurd (ne o.1)) (λ o. o.1) (split n.child d a (suc t) c s)

  t_not_a : t ≢ a
  t_not_a e = a_old.2 (sym e)

  -- no other link leads to l
  not_at : (c : Bool) (s : ℕ) → g.linked s ≡ true → IsInner n s → n.child c s ≡ suc l → ((c ≡ d) → s ≢ a) → ⊥
  not_at c s i inn q ne =
      let same : s ≡ a = sym (sh.child_up c s l i inn q) ∙ l_up in
      by c d (λ z. ne z same) (sh.child_lo c s l i inn q ∙ ap (λ z. low n g.lo c z) same) (sh.child_lo d a l is.above is.above_inner is.old)
      (sh.child_hi c s l i inn q ∙ ap (λ z. high n g.hi c z) same) (sh.child_hi d a l is.above is.above_inner is.old)
    where
      by : (c d : Bool) → c ≢ d → g.lo l ≡ low n g.lo c a → g.lo l ≡ low n g.lo d a → g.hi l ≡ high n g.hi c a → g.hi l ≡ high n g.hi d a → ⊥
      by true true z x y u w = z refl
      by false false z x y u w = z refl
      by true false z x y u w = let k = sh.inner_key a is.above is.above_inner in omega arith
      by false true z x y u w = let k = sh.inner_key a is.above is.above_inner in omega arith

  abbrev IsChild : Bool → ℕ → ℕ → Type 0
  IsChild c s x = (after.linked x ≡ true) × (after.up x ≡ s) × (after.lo x ≡ low n after.lo c s) × (after.hi x ≡ high n after.hi c s)

  t_child : IsChild d a t
  t_child = (links t (inl refl), up_t, lo_t ∙ lows d (sh.child_lo d a l is.above is.above_inner is.old), hi_t ∙ highs d (sh.child_hi d a l is.above is.above_inner is.old))
    where
      lows : (d : Bool) → g.lo l ≡ low n g.lo d a → g.lo l ≡ low n after.lo d a
      lows true x = x ∙ sym (lo_old a a_old.0 a_old.1 a_old.2)
      lows false x = x

      highs : (d : Bool) → g.hi l ≡ high n g.hi d a → g.hi l ≡ high n after.hi d a
      highs true x = x
      highs false x = x ∙ sym (hi_old a a_old.0 a_old.1 a_old.2)

  f_child : IsChild h t f
  f_child = (links f (inr (inl refl)), up_f, by h lo_f, by' h hi_f)
    where
      by : (h : Bool) → after.lo f ≡ cond h (g.lo l) (n.key t) → after.lo f ≡ low n after.lo h t
      by true x = x ∙ sym lo_t
      by false x = x

      by' : (h : Bool) → after.hi f ≡ cond h (n.key t) (g.hi l) → after.hi f ≡ high n after.hi h t
      by' true x = x
      by' false x = x ∙ sym hi_t

  l_child : IsChild (not h) t l
  l_child = (links l (inr (inr l_linked)), up_l, by h lo_l, by' h hi_l)
    where
      by : (h : Bool) → after.lo l ≡ cond h (n.key t) (g.lo l) → after.lo l ≡ low n after.lo (not h) t
      by true x = x
      by false x = x ∙ sym lo_t

      by' : (h : Bool) → after.hi l ≡ cond h (g.hi l) (n.key t) → after.hi l ≡ high n after.hi (not h) t
      by' true x = x ∙ sym hi_t
      by' false x = x

  child_at : (c : Bool) (s x : ℕ) → after.linked s ≡ true → 0 < C true s → C c s ≡ suc x → IsChild c s x
  child_at c s x i inn q = let inn' = inner_old s inn in ⊎_elim
      (λ o. let same : x ≡ t = suc_eq (sym q ∙ o.2) in subst (IsChild c s) (sym same) (subst (λ z. IsChild c z t) (sym o.1) (subst (λ z. IsChild z a t) (sym o.0) t_child)))
      (λ o. let old = sym o.1 ∙ q in ⊎_elim
      (λ at. ⊎_elim
      (λ new. let same : x ≡ f = suc_eq (sym old ∙ ap (n.child c) at ∙ ap (λ c. n.child c t) new ∙ is.new_side) in subst (IsChild c s) (sym same) (subst (λ z. IsChild c z f) (sym at) (subst (λ z. IsChild z t f) (sym new) f_child)))
      (λ new. let same : x ≡ l = suc_eq (sym old ∙ ap (n.child c) at ∙ ap (λ c. n.child c t) new ∙ is.old_side) in subst (IsChild c s) (sym same) (subst (λ z. IsChild c z l) (sym at) (subst (λ z. IsChild z t l) (sym new) l_child)))
      (other_side c h))
      (⊎_elim (λ at. absurd (inner_not_f s inn' at)) (⊎_elim (λ at. absurd (inner_not_l s inn' at))
      (λ st. let linked = sh.child_linked c s x st.0 inn' old in
      let xl : x ≢ l = λ z. not_at c s st.0 inn' (old ∙ ap suc z) o.0 in
      let new = not_new x linked in
      (links x (inr (inr linked)), up_old x new.0 xl new.1 ∙ sh.child_up c s x st.0 inn' old, lo_old x new.0 xl new.1 ∙ lows c s x st (sh.child_lo c s x st.0 inn' old), hi_old x new.0 xl new.1 ∙ highs c s x st (sh.child_hi c s x st.0 inn' old)))))
      (which s i))
      (split n.child d a (suc t) c s)
    where
      lows : (c : Bool) (s x : ℕ) → (g.linked s ≡ true) × (s ≢ f) × (s ≢ l) × (s ≢ t) → g.lo x ≡ low n g.lo c s → g.lo x ≡ low n after.lo c s
      lows true s x st e = e ∙ sym (lo_old s st.1 st.2 st.3)
      lows false s x st e = e

      highs : (c : Bool) (s x : ℕ) → (g.linked s ≡ true) × (s ≢ f) × (s ≢ l) × (s ≢ t) → g.hi x ≡ high n g.hi c s → g.hi x ≡ high n after.hi c s
      highs true s x st e = e
      highs false s x st e = e ∙ sym (hi_old s st.1 st.2 st.3)

  abbrev HasParent : ℕ → ℕ → Type 0
  HasParent x s = (after.linked s ≡ true) × (0 < C true s) × ((c : Bool) × (C c s ≡ suc x))

  parent_at : (x : ℕ) → after.linked x ≡ true → x ≢ 0 → HasParent x (after.up x)
  parent_at x i some = ⊎_elim
      (λ at. subst (λ x. HasParent x (after.up x)) (sym at) (subst (HasParent t) (sym up_t) (links a (inr (inr is.above)), inner_new a is.above_inner, (d, ⊎_elim (λ o. o.2) (λ o. absurd (o.0 refl refl)) (split n.child d a (suc t) d a)))))
      (⊎_elim (λ at. subst (λ x. HasParent x (after.up x)) (sym at) (subst (HasParent f) (sym up_f) (links t (inl refl), inner_new t t_inner, (h, same_links h t t_not_a ∙ is.new_side))))
      (⊎_elim (λ at. subst (λ x. HasParent x (after.up x)) (sym at) (subst (HasParent l) (sym up_l) (links t (inl refl), inner_new t t_inner, (not h, same_links (not h) t t_not_a ∙ is.old_side))))
      (λ st. subst (HasParent x) (sym (up_old x st.1 st.2 st.3)) (
      let child = sh.up_child x st.0 some in (
        links (g.up x) (inr (inr (sh.up_linked x st.0 some))),
        inner_new (g.up x) (sh.up_inner x st.0 some),
        (child.0, ⊎_elim (λ o. absurd (st.2 (suc_eq (sym child.1 ∙ ap (λ c. n.child c (g.up x)) o.0 ∙ ap (n.child d) o.1 ∙ is.old)))) (λ o. o.1 ∙ child.1) (split n.child d a (suc t) child.0 (g.up x))),
      )))))
      (which x i)

  -- a leaf after it: one of both, inside the place of l, or another as it was
  leaf_at : (P : ℕ → Type 0) → P f → P l → ((x : ℕ) → g.linked x ≡ true → IsLeaf n x → x ≢ f → x ≢ l → x ≢ t → P x) → (x : ℕ) → after.linked x ≡ true → C true x ≡ 0 → P x
  leaf_at P pf pl other x i lf = let leaf = leaf_old x lf in ⊎_elim (λ at. absurd (leaf_not_t x leaf at)) (⊎_elim (λ at. subst P (sym at) pf) (⊎_elim (λ at. subst P (sym at) pl) (λ st. other x st.0 leaf st.1 st.2 st.3))) (which x i)

  inner_at : (P : ℕ → Type 0) → P t → ((s : ℕ) → g.linked s ≡ true → IsInner n s → s ≢ f → s ≢ l → s ≢ t → P s) → (s : ℕ) → after.linked s ≡ true → 0 < C true s → P s
  inner_at P pt other s i inn = let inner = inner_old s inn in ⊎_elim (λ at. subst P (sym at) pt) (⊎_elim (λ at. absurd (inner_not_f s inner at)) (⊎_elim (λ at. absurd (inner_not_l s inner at)) (λ st. other s st.0 inner st.1 st.2 st.3))) (which s i)

  abbrev IsOut : ℕ → ℕ → Type 0
  IsOut s x = (n.key s ≤ after.lo x) ⊎ (after.hi x ≤ n.key s)

  out_inside : (k lol hil lo hi : ℕ) → lol ≤ lo → hi ≤ hil → (k ≤ lol) ⊎ (hil ≤ k) → (k ≤ lo) ⊎ (hi ≤ k)
  out_inside k lol hil lo hi x y z = grind arith

  out_apart : (k lol hil lox hix : ℕ) → lol < k → k < hil → (hil ≤ lox) ⊎ (hix ≤ lol) → (k ≤ lox) ⊎ (hix ≤ k)
  out_apart k lol hil lox hix x y z = grind arith

  rewrite_out : (k lo hi lo' hi' : ℕ) → lo' ≡ lo → hi' ≡ hi → (k ≤ lo) ⊎ (hi ≤ k) → (k ≤ lo') ⊎ (hi' ≤ k)
  rewrite_out k lo hi lo' hi' x y z = grind arith

  old_out : (s x : ℕ) → x ≢ f → x ≢ l → x ≢ t → (n.key s ≤ g.lo x) ⊎ (g.hi x ≤ n.key s) → IsOut s x
  old_out s x nf nl nt = rewrite_out (n.key s) (g.lo x) (g.hi x) (after.lo x) (after.hi x) (lo_old x nf nl nt) (hi_old x nf nl nt)

  leaf_inner : (x s : ℕ) → after.linked x ≡ true → after.linked s ≡ true → C true x ≡ 0 → 0 < C true s → IsOut s x
  leaf_inner x s i j lf inn = inner_at (λ s. IsOut s x)
      (leaf_at (IsOut t) f_fits.key_out l_fits.key_out (λ x ix leaf nf nl nt. old_out t x nf nl nt (out_apart (n.key t) (g.lo l) (g.hi l) (g.lo x) (g.hi x) t_key.0 t_key.1 (sh.leaves l x l_linked ix is.old_leaf leaf (λ e. nl (sym e))))) x i lf)
      (λ s is' inner sf sl st. leaf_at (IsOut s)
      (out_inside (n.key s) (g.lo l) (g.hi l) (after.lo f) (after.hi f) f_fits.inside.0 f_fits.inside.1 (sh.leaf_inner l s l_linked is' is.old_leaf inner))
      (out_inside (n.key s) (g.lo l) (g.hi l) (after.lo l) (after.hi l) l_fits.inside.0 l_fits.inside.1 (sh.leaf_inner l s l_linked is' is.old_leaf inner))
      (λ x ix leaf nf nl nt. old_out s x nf nl nt (sh.leaf_inner x s ix is' leaf inner)) x i lf) s j inn

  rewrite_apart : (lo hi lox hix lox' hix' : ℕ) → lox' ≡ lox → hix' ≡ hix → (hi ≤ lox) ⊎ (hix ≤ lo) → (hi ≤ lox') ⊎ (hix' ≤ lo)
  rewrite_apart lo hi lox hix lox' hix' x y z = grind arith

  -- a leaf inside the place of l is apart from each other one
  new_apart : (y x : ℕ) → g.lo l ≤ after.lo y → after.hi y ≤ g.hi l → g.linked x ≡ true → IsLeaf n x → x ≢ f → x ≢ l → x ≢ t → AreApart after.lo after.hi y x
  new_apart y x low high ix leaf nf nl nt = rewrite_apart (after.lo y) (after.hi y) (g.lo x) (g.hi x) (after.lo x) (after.hi x) (lo_old x nf nl nt) (hi_old x nf nl nt)
      (inside_apart (g.lo l) (g.hi l) (after.lo y) (after.hi y) (g.lo x) (g.hi x) low high (sh.leaves l x l_linked ix is.old_leaf leaf (λ e. nl (sym e))))

  leaves : (x y : ℕ) → after.linked x ≡ true → after.linked y ≡ true → C true x ≡ 0 → C true y ≡ 0 → x ≢ y → AreApart after.lo after.hi x y
  leaves x y i j lx ly = leaf_at (λ x. x ≢ y → AreApart after.lo after.hi x y)
      (leaf_at (λ y. f ≢ y → AreApart after.lo after.hi f y) (λ ne. absurd (ne refl)) (λ ne. both_apart) (λ y iy leaf nf nl nt ne. new_apart f y f_fits.inside.0 f_fits.inside.1 iy leaf nf nl nt) y j ly)
      (leaf_at (λ y. l ≢ y → AreApart after.lo after.hi l y) (λ ne. swap both_apart) (λ ne. absurd (ne refl)) (λ y iy leaf nf nl nt ne. new_apart l y l_fits.inside.0 l_fits.inside.1 iy leaf nf nl nt) y j ly)
      (λ x ix leaf nf nl nt. leaf_at (λ y. x ≢ y → AreApart after.lo after.hi x y)
      (λ ne. swap (new_apart f x f_fits.inside.0 f_fits.inside.1 ix leaf nf nl nt)) (λ ne. swap (new_apart l x l_fits.inside.0 l_fits.inside.1 ix leaf nf nl nt))
      (λ y iy leaf' nf' nl' nt' ne. rewrite_apart (after.lo x) (after.hi x) (g.lo y) (g.hi y) (after.lo y) (after.hi y) (lo_old y nf' nl' nt') (hi_old y nf' nl' nt')
      (swap (rewrite_apart (g.lo y) (g.hi y) (g.lo x) (g.hi x) (after.lo x) (after.hi x) (lo_old x nf nl nt) (hi_old x nf nl nt) (swap (sh.leaves x y ix iy leaf leaf' ne))))) y j ly) x i lx

  insertion_tree : SearchTree (with_child n d a (suc t)) after
  insertion_tree = record {
    root = links 0 (inr (inr sh.root));
    root_inner = inner_new 0 sh.root_inner;
    root_lo = let new = not_new 0 sh.root in lo_old 0 new.0 (inner_not_l 0 sh.root_inner) new.1 ∙ sh.root_lo;
    root_hi = let new = not_new 0 sh.root in hi_old 0 new.0 (inner_not_l 0 sh.root_inner) new.1 ∙ sh.root_hi;
    top = λ s i. let high = sh.top l l_linked in ⊎_elim (λ at. subst (λ s. after.hi s ≤ key_end) (sym at) (subst (λ z. z ≤ key_end) (sym hi_t) high))
        (⊎_elim (λ at. subst (λ s. after.hi s ≤ key_end) (sym at) (let inside = f_fits.inside in omega arith)) (⊎_elim (λ at. subst (λ s. after.hi s ≤ key_end) (sym at) (let inside = l_fits.inside in omega arith))
        (λ st. subst (λ z. z ≤ key_end) (sym (hi_old s st.1 st.2 st.3)) (sh.top s st.0)))) (which s i);
    child_some = λ c s i inn. ⊎_elim (λ o. let q = o.2 in omega arith) (λ o. subst (λ z. 0 < z) (sym o.1) (inner_at (λ s. 0 < n.child c s) (t_some c) (λ s is' inner sf sl st. sh.child_some c s is' inner) s i inn)) (split n.child d a (suc t) c s);
    child_linked = λ c s x i inn q. (child_at c s x i inn q).0;
    child_up = λ c s x i inn q. (child_at c s x i inn q).1;
    child_lo = λ c s x i inn q. lows x s c (child_at c s x i inn q).2;
    child_hi = λ c s x i inn q. highs x s c (child_at c s x i inn q).3;
    up_linked = λ x i some. (parent_at x i some).0;
    up_inner = λ x i some. (parent_at x i some).1;
    up_child = λ x i some. (parent_at x i some).2;
    inner_key = λ s i inn. inner_at (λ s. (after.lo s < n.key s) × (n.key s < after.hi s)) (let k = t_key in let x = lo_t in let y = hi_t in (omega arith, omega arith))
        (λ s is' inner sf sl st. let k = sh.inner_key s is' inner in let x = lo_old s sf sl st in let y = hi_old s sf sl st in (omega arith, omega arith)) s i inn;
    leaf_key = λ s i lf. leaf_at (λ s. (after.lo s ≤ n.key s) × (n.key s < after.hi s)) f_fits.covers l_fits.covers
        (λ s is' leaf sf sl st. let k = sh.leaf_key s is' leaf in let x = lo_old s sf sl st in let y = hi_old s sf sl st in (omega arith, omega arith)) s i lf;
    inner_once = λ s u i j inn inn'. inner_at (λ s. n.key s ≡ n.key u → s ≡ u)
        (inner_at (λ u. n.key t ≡ n.key u → t ≡ u) (λ e. refl) (λ u iu inner uf ul ut e. absurd (new_key u iu inner e)) u j inn')
        (λ s is' inner sf sl st. inner_at (λ u. n.key s ≡ n.key u → s ≡ u) (λ e. absurd (new_key s is' inner (sym e))) (λ u iu inner' uf ul ut e. sh.inner_once s u is' iu inner inner' e) u j inn') s i inn;
    leaf_inner = leaf_inner;
    leaves = leaves;
  }
    where
      t_some : (c : Bool) → 0 < n.child c t
      t_some c = ⊎_elim (λ e. let q = ap (λ c. n.child c t) e ∙ is.new_side in omega arith) (λ e. let q = ap (λ c. n.child c t) e ∙ is.old_side in omega arith) (other_side c h)

      new_key : (s : ℕ) → g.linked s ≡ true → IsInner n s → n.key t ≡ n.key s → ⊥
      new_key s i inner e = let k = t_key in ⊎_elim (λ o. omega arith) (λ o. omega arith) (sh.leaf_inner l s l_linked i is.old_leaf inner)

      lows : (x s : ℕ) (c : Bool) → after.lo x ≡ low n after.lo c s → after.lo x ≡ low (with_child n d a (suc t)) after.lo c s
      lows x s true e = e
      lows x s false e = e

      highs : (x s : ℕ) (c : Bool) → after.hi x ≡ high n after.hi c s → after.hi x ≡ high (with_child n d a (suc t)) after.hi c s
      highs x s true e = e
      highs x s false e = e

  leaf_not_a : (s : ℕ) → IsLeaf n s → s ≢ a
  leaf_not_a s leaf e = let q = ap (n.child true) e in let inner = is.above_inner in omega arith

  l_other : n.key l ≢ n.key f
  l_other = by h is.ordered
    where
      by : (h : Bool) → AreOrdered h (n.key t) (n.key l) (n.key f) → n.key l ≢ n.key f
      by true o e = let less = o.0 in omega arith
      by false o e = let less = o.0 in omega arith

  insertion_contents : (lookup : ℕ → Option ℕ) → 3 ≤ f → Contents n g lookup → Contents (with_child n d a (suc t)) after (upd lookup (n.key f) (Some (n.child false f)))
  insertion_contents lookup real contents = record {
    pair = λ x i lf. leaf_at (λ x. 3 ≤ x → upd lookup (n.key f) (Some (n.child false f)) (n.key x) ≡ Some (C false x))
        (λ big. upd_same lookup (n.key f) (n.key f) (Some (n.child false f)) refl ∙ ap Some (sym (same_links false f (leaf_not_a f is.new_leaf))))
        (λ big. upd_other lookup (n.key f) (n.key l) (Some (n.child false f)) l_other ∙ contents.pair l l_linked is.old_leaf big ∙ ap Some (sym (same_links false l (leaf_not_a l is.old_leaf))))
        (λ x ix leaf nf nl nt big. upd_other lookup (n.key f) (n.key x) (Some (n.child false f)) (other x ix leaf nl) ∙ contents.pair x ix leaf big ∙ ap Some (sym (same_links false x (leaf_not_a x leaf)))) x i lf;
    leaf = λ key value e. dite (ℕ_discrete key (n.key f))
        (λ same. (f, links f (inr (inl refl)), same_links true f (leaf_not_a f is.new_leaf) ∙ is.new_leaf, real, sym same))
        (λ ne. let old = contents.leaf key value (sym (upd_other lookup (n.key f) key (Some (n.child false f)) ne) ∙ e) in
        (old.0, links old.0 (inr (inr old.1)), same_links true old.0 (leaf_not_a old.0 old.2) ∙ old.2, old.3, old.4));
  }
    where
      other : (x : ℕ) → g.linked x ≡ true → IsLeaf n x → x ≢ l → n.key x ≢ n.key f
      other x i leaf nl e = let k = sh.leaf_key x i leaf in let from = is.from in let before = is.before in ⊎_elim (λ o. omega arith) (λ o. omega arith) (sh.leaves l x l_linked i is.old_leaf leaf (λ q. nl (sym q)))

  pub insertion_keeps : InsertionKeeps n g d h a l t f
  insertion_keeps = record { tree = insertion_tree; contents = insertion_contents }
