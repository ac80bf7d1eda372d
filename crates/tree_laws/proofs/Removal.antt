-- A removal keeps the search tree, on either side of both nodes.
use Rattle.std.proofs.Common.{◌≡◌, ◌≢◌, ℕ, suc, ◌<◌, ◌≤◌, Bool, true, false, cond, refl, sym, ap, ◌∙◌, subst, inl, inr, ⊎_elim, arith}
use Rattle.std.specs.Prelude.{◌==◌, ◌&&◌, ◌⊎◌, not, Option, Some, None}
use Rattle.std.proofs.lemmas.Option.{none-some}
use mathlib.Core.Logic.{dite}
use native.Mathlib.Decide.{ℕ_discrete}
use Rattle.structure_laws.specs.body_terms.specs.Update.{upd}
use Rattle.structure_laws.proofs.Changes.{upd_same, upd_other}
use Rattle.tree_laws.specs.Search.{Nodes, Covers, IsInner, IsLeaf, low, high, key_end, SearchTree, Contents, same_side, with_child, IsRemoval, grown, removed, RemovalKeeps}

pub still : (f : ℕ → Bool) (p l s : ℕ) → upd (upd f p false) l false s ≡ true → (f s ≡ true) × (s ≢ p) × (s ≢ l)
still f p l s h = (grind arith, λ e. grind arith, λ e. grind arith)

pub remains : (f : ℕ → Bool) (p l s : ℕ) → f s ≡ true → s ≢ p → s ≢ l → upd (upd f p false) l false s ≡ true
remains f p l s h a b = grind arith

grown_is : (f : ℕ → Bool) (bound : ℕ → ℕ) (m own p x : ℕ) → f x ≡ true → x ≢ p → ((bound x ≡ m) × (grown f bound m own p x ≡ own)) ⊎ ((bound x ≢ m) × (grown f bound m own p x ≡ bound x))
grown_is f bound m own p x i ne = grind arith

grown_same : (f : ℕ → Bool) (bound : ℕ → ℕ) (m own p x y : ℕ) → f x ≡ true → f y ≡ true → x ≢ p → y ≢ p → bound x ≡ bound y → grown f bound m own p x ≡ grown f bound m own p y
grown_same f bound m own p x y i j a b e = grind arith

grown_other : (f : ℕ → Bool) (bound : ℕ → ℕ) (m own p x : ℕ) → x ≢ p → bound x ≢ m → grown f bound m own p x ≡ bound x
grown_other f bound m own p x ne h = grind arith

grown_at : (f : ℕ → Bool) (bound : ℕ → ℕ) (m own p x : ℕ) → f x ≡ true → x ≢ p → bound x ≡ m → grown f bound m own p x ≡ own
grown_at f bound m own p x i ne h = grind arith

-- a lower bound only falls, a higher one only rises
grown_falls : (f : ℕ → Bool) (bound : ℕ → ℕ) (m p x : ℕ) → bound p ≤ m → grown f bound m (bound p) p x ≤ bound x
grown_falls f bound m p x le = grind arith

grown_rises : (f : ℕ → Bool) (bound : ℕ → ℕ) (m p x : ℕ) → m ≤ bound p → bound x ≤ grown f bound m (bound p) p x
grown_rises f bound m p x le = grind arith

pub suc_eq : {x y : ℕ} → suc x ≡ suc y → x ≡ y
suc_eq e = omega arith

-- a link is the changed one, or as it was
pub sides : (b d : Bool) → ((b ≡ d) × (same_side b d ≡ true)) ⊎ ((b ≢ d) × (same_side b d ≡ false))
sides true true = inl (refl, refl)
sides false false = inl (refl, refl)
sides true false = inr (λ e. cc, refl)
sides false true = inr (λ e. cc, refl)

pub split : (f : Bool → ℕ → ℕ) (d : Bool) (a v : ℕ) (b : Bool) (s : ℕ) → ((b ≡ d) × (s ≡ a) × (cond (same_side b d && (s == a)) v (f b s) ≡ v)) ⊎ (((b ≡ d) → s ≢ a) × (cond (same_side b d && (s == a)) v (f b s) ≡ f b s))
split f d a v b s = ⊎_elim
    (λ h. dite (ℕ_discrete s a) (λ e. inl (h.0, e, (let q = h.1 in grind arith))) (λ ne. inr (λ q. ne, (let q = h.1 in grind arith))))
    (λ h. inr (λ q e. h.0 q, (let q = h.1 in grind arith)))
    (sides b d)

pub other_side : (c e : Bool) → (c ≡ e) ⊎ (c ≡ not e)
other_side true true = inl refl
other_side false false = inl refl
other_side true false = inr refl
other_side false true = inr refl

leaf_inner_arith : (ks lox hix lox' hix' m lop hip lol hil : ℕ) → lop < m → m < hip → ((lol ≡ m) × (hil ≡ hip)) ⊎ ((lol ≡ lop) × (hil ≡ m)) → lox < hix → (ks ≤ lol) ⊎ (hil ≤ ks) → (ks ≤ lox) ⊎ (hix ≤ ks) → ks ≢ m
    → (hil ≤ lox) ⊎ (hix ≤ lol) → ((lox ≡ m) × (lox' ≡ lop)) ⊎ ((lox ≢ m) × (lox' ≡ lox)) → ((hix ≡ m) × (hix' ≡ hip)) ⊎ ((hix ≢ m) × (hix' ≡ hix)) → (ks ≤ lox') ⊎ (hix' ≤ ks)
leaf_inner_arith ks lox hix lox' hix' m lop hip lol hil a b c lt one two ne d gl gh = grind arith

leaves_arith : (lox hix lox' hix' loy hiy loy' hiy' m lop hip lol hil : ℕ) → lop < m → m < hip → ((lol ≡ m) × (hil ≡ hip)) ⊎ ((lol ≡ lop) × (hil ≡ m)) → lox < hix → loy < hiy
    → (hil ≤ lox) ⊎ (hix ≤ lol) → (hil ≤ loy) ⊎ (hiy ≤ lol) → (hix ≤ loy) ⊎ (hiy ≤ lox)
    → ((lox ≡ m) × (lox' ≡ lop)) ⊎ ((lox ≢ m) × (lox' ≡ lox)) → ((hix ≡ m) × (hix' ≡ hip)) ⊎ ((hix ≢ m) × (hix' ≡ hix))
    → ((loy ≡ m) × (loy' ≡ lop)) ⊎ ((loy ≢ m) × (loy' ≡ loy)) → ((hiy ≡ m) × (hiy' ≡ hip)) ⊎ ((hiy ≢ m) × (hiy' ≡ hiy)) → (hix' ≤ loy') ⊎ (hiy' ≤ lox')
leaves_arith lox hix lox' hix' loy hiy loy' hiy' m lop hip lol hil a b c lx ly one two three gl gh kl kh = grind arith

module _ (n : Nodes) (g : Covers) (d e : Bool) (a p b l : ℕ) (sh : SearchTree n g) (is : IsRemoval n g d e a p b l) where
  abbrev after : Covers
  after = removed n g a p b l

  abbrev C : Bool → ℕ → ℕ
  C = (with_child n d a (suc b)).child

  p_linked : g.linked p ≡ true
  p_linked = sh.child_linked d a p is.above is.above_inner is.parent

  p_up : g.up p ≡ a
  p_up = sh.child_up d a p is.above is.above_inner is.parent

  pub b_linked : g.linked b ≡ true
  b_linked = sh.child_linked e p b p_linked is.parent_inner is.stays

  b_up : g.up b ≡ p
  b_up = sh.child_up e p b p_linked is.parent_inner is.stays

  l_linked : g.linked l ≡ true
  l_linked = sh.child_linked (not e) p l p_linked is.parent_inner is.goes

  l_up : g.up l ≡ p
  l_up = sh.child_up (not e) p l p_linked is.parent_inner is.goes

  p_key : (g.lo p < n.key p) × (n.key p < g.hi p)
  p_key = sh.inner_key p p_linked is.parent_inner

  a_key : (g.lo a < n.key a) × (n.key a < g.hi a)
  a_key = sh.inner_key a is.above is.above_inner

  -- what a child covers of its parent's keys
  part : (side : Bool) (s t : ℕ) → g.lo t ≡ low n g.lo side s → g.hi t ≡ high n g.hi side s → ((g.lo t ≡ g.lo s) × (g.hi t ≡ n.key s)) ⊎ ((g.lo t ≡ n.key s) × (g.hi t ≡ g.hi s))
  part true s t x y = inl (x, y)
  part false s t x y = inr (x, y)

  p_part : ((g.lo p ≡ g.lo a) × (g.hi p ≡ n.key a)) ⊎ ((g.lo p ≡ n.key a) × (g.hi p ≡ g.hi a))
  p_part = part d a p (sh.child_lo d a p is.above is.above_inner is.parent) (sh.child_hi d a p is.above is.above_inner is.parent)

  b_part : ((g.lo b ≡ g.lo p) × (g.hi b ≡ n.key p)) ⊎ ((g.lo b ≡ n.key p) × (g.hi b ≡ g.hi p))
  b_part = part e p b (sh.child_lo e p b p_linked is.parent_inner is.stays) (sh.child_hi e p b p_linked is.parent_inner is.stays)

  l_part : ((g.lo l ≡ n.key p) × (g.hi l ≡ g.hi p)) ⊎ ((g.lo l ≡ g.lo p) × (g.hi l ≡ n.key p))
  l_part = ⊎_elim inr inl (part (not e) p l (sh.child_lo (not e) p l p_linked is.parent_inner is.goes) (sh.child_hi (not e) p l p_linked is.parent_inner is.goes))

  pub a_not_p : a ≢ p
  a_not_p q = let k = a_key in let h1 = ap g.lo q in let h2 = ap g.hi q in ⊎_elim (λ h. omega arith) (λ h. omega arith) p_part

  pub b_not_p : b ≢ p
  b_not_p q = let k = p_key in let h1 = ap g.lo q in let h2 = ap g.hi q in ⊎_elim (λ h. omega arith) (λ h. omega arith) b_part

  pub b_not_l : b ≢ l
  b_not_l q = by e is.stays is.goes (sh.child_lo e p b p_linked is.parent_inner is.stays) (sh.child_lo (not e) p l p_linked is.parent_inner is.goes)
    where
      by : (e : Bool) → n.child e p ≡ suc b → n.child (not e) p ≡ suc l → g.lo b ≡ low n g.lo e p → g.lo l ≡ low n g.lo (not e) p → ⊥
      by true x y lb ll = let k = p_key in let h = ap g.lo q in omega arith
      by false x y lb ll = let k = p_key in let h = ap g.lo q in omega arith

  pub a_not_l : a ≢ l
  a_not_l q = let h = ap (n.child true) q in let leaf = is.leaf in let inner = is.above_inner in omega arith

  key_not : (s : ℕ) → g.linked s ≡ true → IsInner n s → s ≢ p → n.key s ≢ n.key p
  key_not s i inn ne q = ne (sh.inner_once s p i p_linked inn is.parent_inner q)

  inner_old : (s : ℕ) → 0 < C true s → IsInner n s
  inner_old s h = ⊎_elim (λ o. subst (λ z. 0 < n.child true z) (sym o.1) is.above_inner) (λ o. subst (λ z. 0 < z) o.1 h) (split n.child d a (suc b) true s)

  inner_new : (s : ℕ) → IsInner n s → 0 < C true s
  inner_new s h = ⊎_elim (λ o. let q = o.2 in omega arith) (λ o. subst (λ z. 0 < z) (sym o.1) h) (split n.child d a (suc b) true s)

  leaf_old : (s : ℕ) → C true s ≡ 0 → IsLeaf n s
  leaf_old s h = ⊎_elim (λ o. let q = o.2 in absurd (omega arith)) (λ o. sym o.1 ∙ h) (split n.child d a (suc b) true s)

  lo_b : after.lo b ≡ g.lo p
  lo_b = let k = p_key in ⊎_elim (λ h. grown_other g.linked g.lo (n.key p) (g.lo p) p b b_not_p (λ q. omega (arith, h.0)) ∙ h.0) (λ h. grown_at g.linked g.lo (n.key p) (g.lo p) p b b_linked b_not_p h.0) b_part

  hi_b : after.hi b ≡ g.hi p
  hi_b = let k = p_key in ⊎_elim (λ h. grown_at g.linked g.hi (n.key p) (g.hi p) p b b_linked b_not_p h.1) (λ h. grown_other g.linked g.hi (n.key p) (g.hi p) p b b_not_p (λ q. omega (arith, h.1)) ∙ h.1) b_part

  low_a : g.lo p ≡ low n after.lo d a
  low_a = by d (sh.child_lo d a p is.above is.above_inner is.parent)
    where
      by : (d : Bool) → g.lo p ≡ low n g.lo d a → g.lo p ≡ low n after.lo d a
      by true x = x ∙ sym (grown_other g.linked g.lo (n.key p) (g.lo p) p a a_not_p (λ q. let k = p_key in omega (arith, x)))
      by false x = x

  high_a : g.hi p ≡ high n after.hi d a
  high_a = by d (sh.child_hi d a p is.above is.above_inner is.parent)
    where
      by : (d : Bool) → g.hi p ≡ high n g.hi d a → g.hi p ≡ high n after.hi d a
      by true x = x
      by false x = x ∙ sym (grown_other g.linked g.hi (n.key p) (g.hi p) p a a_not_p (λ q. let k = p_key in omega (arith, x)))

  -- no other link leads to p
  not_at : (c : Bool) (s : ℕ) → g.linked s ≡ true → IsInner n s → n.child c s ≡ suc p → ((c ≡ d) → s ≢ a) → ⊥
  not_at c s i inn q ne =
      let same : s ≡ a = sym (sh.child_up c s p i inn q) ∙ p_up in
      by c d (λ z. ne z same) (sh.child_lo c s p i inn q ∙ ap (λ z. low n g.lo c z) same) (sh.child_lo d a p is.above is.above_inner is.parent)
      (sh.child_hi c s p i inn q ∙ ap (λ z. high n g.hi c z) same) (sh.child_hi d a p is.above is.above_inner is.parent)
    where
      by : (c d : Bool) → c ≢ d → g.lo p ≡ low n g.lo c a → g.lo p ≡ low n g.lo d a → g.hi p ≡ high n g.hi c a → g.hi p ≡ high n g.hi d a → ⊥
      by true true z x y u w = z refl
      by false false z x y u w = z refl
      by true false z x y u w = let k = a_key in omega arith
      by false true z x y u w = let k = a_key in omega arith

  abbrev IsChild : Bool → ℕ → ℕ → Type 0
  IsChild c s x = (after.linked x ≡ true) × (after.up x ≡ s) × (after.lo x ≡ low n after.lo c s) × (after.hi x ≡ high n after.hi c s)

  child_at : (c : Bool) (s x : ℕ) → after.linked s ≡ true → 0 < C true s → C c s ≡ suc x → IsChild c s x
  child_at c s x i inn q = let st = still g.linked p l s i in let inn' = inner_old s inn in ⊎_elim
      (λ o. let same : x ≡ b = suc_eq (sym q ∙ o.2) in
      subst (IsChild c s) (sym same) (subst (λ z. IsChild c z b) (sym o.1) (subst (λ z. IsChild z a b) (sym o.0)
      (remains g.linked p l b b_linked b_not_p b_not_l, upd_same g.up b b a refl, lo_b ∙ low_a, hi_b ∙ high_a))))
      (λ o. let old = sym o.1 ∙ q in
      let linked = sh.child_linked c s x st.0 inn' old in
      let up = sh.child_up c s x st.0 inn' old in
      let xp : x ≢ p = λ z. not_at c s st.0 inn' (old ∙ ap suc z) o.0 in
      let xl : x ≢ l = λ z. st.1 (sym up ∙ ap g.up z ∙ l_up) in
      let xb : x ≢ b = λ z. st.1 (sym up ∙ ap g.up z ∙ b_up) in
      (remains g.linked p l x linked xp xl, upd_other g.up b x a xb ∙ up, lows c s x st inn' linked xp (sh.child_lo c s x st.0 inn' old), highs c s x st inn' linked xp (sh.child_hi c s x st.0 inn' old)))
      (split n.child d a (suc b) c s)
    where
      lows : (c : Bool) (s x : ℕ) → (g.linked s ≡ true) × (s ≢ p) × (s ≢ l) → IsInner n s → g.linked x ≡ true → x ≢ p → g.lo x ≡ low n g.lo c s → after.lo x ≡ low n after.lo c s
      lows true s x st inn i xp h = grown_same g.linked g.lo (n.key p) (g.lo p) p x s i st.0 xp st.1 h
      lows false s x st inn i xp h = grown_other g.linked g.lo (n.key p) (g.lo p) p x xp (λ z. key_not s st.0 inn st.1 (sym h ∙ z)) ∙ h

      highs : (c : Bool) (s x : ℕ) → (g.linked s ≡ true) × (s ≢ p) × (s ≢ l) → IsInner n s → g.linked x ≡ true → x ≢ p → g.hi x ≡ high n g.hi c s → after.hi x ≡ high n after.hi c s
      highs true s x st inn i xp h = grown_other g.linked g.hi (n.key p) (g.hi p) p x xp (λ z. key_not s st.0 inn st.1 (sym h ∙ z)) ∙ h
      highs false s x st inn i xp h = grown_same g.linked g.hi (n.key p) (g.hi p) p x s i st.0 xp st.1 h

  leaf_inner : (x s : ℕ) → after.linked x ≡ true → after.linked s ≡ true → C true x ≡ 0 → 0 < C true s → (n.key s ≤ after.lo x) ⊎ (after.hi x ≤ n.key s)
  leaf_inner x s i j lf inn = let sx = still g.linked p l x i in let ss = still g.linked p l s j in let is' = inner_old s inn in let fx = leaf_old x lf in let kx = sh.leaf_key x sx.0 fx in
      leaf_inner_arith (n.key s) (g.lo x) (g.hi x) (after.lo x) (after.hi x) (n.key p) (g.lo p) (g.hi p) (g.lo l) (g.hi l) p_key.0 p_key.1 l_part (omega arith)
      (sh.leaf_inner l s l_linked ss.0 is.leaf is') (sh.leaf_inner x s sx.0 ss.0 fx is') (key_not s ss.0 is' ss.1) (sh.leaves l x l_linked sx.0 is.leaf fx (λ z. sx.2 (sym z)))
      (grown_is g.linked g.lo (n.key p) (g.lo p) p x sx.0 sx.1) (grown_is g.linked g.hi (n.key p) (g.hi p) p x sx.0 sx.1)

  leaves : (x y : ℕ) → after.linked x ≡ true → after.linked y ≡ true → C true x ≡ 0 → C true y ≡ 0 → x ≢ y → (after.hi x ≤ after.lo y) ⊎ (after.hi y ≤ after.lo x)
  leaves x y i j lx ly ne = let sx = still g.linked p l x i in let sy = still g.linked p l y j in let fx = leaf_old x lx in let fy = leaf_old y ly in
      let kx = sh.leaf_key x sx.0 fx in let ky = sh.leaf_key y sy.0 fy in
      leaves_arith (g.lo x) (g.hi x) (after.lo x) (after.hi x) (g.lo y) (g.hi y) (after.lo y) (after.hi y) (n.key p) (g.lo p) (g.hi p) (g.lo l) (g.hi l) p_key.0 p_key.1 l_part (omega arith) (omega arith)
      (sh.leaves l x l_linked sx.0 is.leaf fx (λ z. sx.2 (sym z))) (sh.leaves l y l_linked sy.0 is.leaf fy (λ z. sy.2 (sym z))) (sh.leaves x y sx.0 sy.0 fx fy ne)
      (grown_is g.linked g.lo (n.key p) (g.lo p) p x sx.0 sx.1) (grown_is g.linked g.hi (n.key p) (g.hi p) p x sx.0 sx.1) (grown_is g.linked g.lo (n.key p) (g.lo p) p y sy.0 sy.1) (grown_is g.linked g.hi (n.key p) (g.hi p) p y sy.0 sy.1)

  lo_falls : (s : ℕ) → after.lo s ≤ g.lo s
  lo_falls s = grown_falls g.linked g.lo (n.key p) p s (let k = p_key in omega arith)

  hi_rises : (s : ℕ) → g.hi s ≤ after.hi s
  hi_rises s = grown_rises g.linked g.hi (n.key p) p s (let k = p_key in omega arith)

  root_not_p : 0 ≢ p
  root_not_p q = let k = a_key in let t = sh.top a is.above in let h1 = ap g.lo q in let h2 = ap g.hi q in let lo = sh.root_lo in let hi = sh.root_hi in ⊎_elim (λ h. omega arith) (λ h. omega arith) p_part

  root_not_l : 0 ≢ l
  root_not_l q = let h = ap (n.child true) q in let leaf = is.leaf in let inner = sh.root_inner in omega arith

  -- a linked node but b has its parent as before
  abbrev HasParent : ℕ → ℕ → Type 0
  HasParent t s = (after.linked s ≡ true) × (0 < C true s) × ((c : Bool) × (C c s ≡ suc t))

  b_parent : HasParent b a
  b_parent = (remains g.linked p l a is.above a_not_p a_not_l, inner_new a is.above_inner, (d, ⊎_elim (λ o. o.2) (λ o. absurd (o.0 refl refl)) (split n.child d a (suc b) d a)))

  parent_at : (t : ℕ) → after.linked t ≡ true → t ≢ 0 → HasParent t (after.up t)
  parent_at t i some = dite (ℕ_discrete t b)
      (λ same. subst (HasParent t) (sym (upd_same g.up b t a same)) (subst (λ z. HasParent z a) (sym same) b_parent))
      (λ nb. subst (HasParent t) (sym (upd_other g.up b t a nb)) (old nb))
    where
      old : t ≢ b → HasParent t (g.up t)
      old nb =
          let st = still g.linked p l t i in
          let child = sh.up_child t st.0 some in
          let inner = sh.up_inner t st.0 some in
          let up_p : g.up t ≢ p = λ q. ⊎_elim
          (λ same. nb (suc_eq (sym child.1 ∙ ap (λ c. n.child c (g.up t)) same ∙ ap (n.child e) q ∙ is.stays)))
          (λ other. st.2 (suc_eq (sym child.1 ∙ ap (λ c. n.child c (g.up t)) other ∙ ap (n.child (not e)) q ∙ is.goes))) (other_side child.0 e) in
          let up_l : g.up t ≢ l = λ q. (let h = ap (n.child true) q in let leaf = is.leaf in omega arith) in (
            remains g.linked p l (g.up t) (sh.up_linked t st.0 some) up_p up_l,
            inner_new (g.up t) inner,
            (child.0, ⊎_elim (λ o. absurd (st.1 (suc_eq (sym child.1 ∙ ap (λ c. n.child c (g.up t)) o.0 ∙ ap (n.child d) o.1 ∙ is.parent)))) (λ o. o.1 ∙ child.1) (split n.child d a (suc b) child.0 (g.up t))),
          )

  removal_tree : SearchTree (with_child n d a (suc b)) after
  removal_tree = record {
    root = remains g.linked p l 0 sh.root root_not_p root_not_l;
    root_inner = inner_new 0 sh.root_inner;
    root_lo = let k = p_key in let lo = sh.root_lo in grown_other g.linked g.lo (n.key p) (g.lo p) p 0 root_not_p (λ h. omega arith) ∙ lo;
    root_hi = let k = p_key in let hi = sh.root_hi in let t = sh.top p p_linked in grown_other g.linked g.hi (n.key p) (g.hi p) p 0 root_not_p (λ h. omega arith) ∙ hi;
    top = λ s i. let st = still g.linked p l s i in let t = sh.top s st.0 in let t' = sh.top p p_linked in ⊎_elim (λ o. subst (λ z. z ≤ key_end) (sym o.1) t') (λ o. subst (λ z. z ≤ key_end) (sym o.1) t) (grown_is g.linked g.hi (n.key p) (g.hi p) p s st.0 st.1);
    child_some = λ c s i inn. ⊎_elim (λ o. let q = o.2 in omega arith) (λ o. subst (λ z. 0 < z) (sym o.1) (sh.child_some c s (still g.linked p l s i).0 (inner_old s inn))) (split n.child d a (suc b) c s);
    child_linked = λ c s x i inn q. (child_at c s x i inn q).0;
    child_up = λ c s x i inn q. (child_at c s x i inn q).1;
    child_lo = λ c s x i inn q. lows x s c (child_at c s x i inn q).2;
    child_hi = λ c s x i inn q. highs x s c (child_at c s x i inn q).3;
    up_linked = λ t i some. (parent_at t i some).0;
    up_inner = λ t i some. (parent_at t i some).1;
    up_child = λ t i some. (parent_at t i some).2;
    inner_key = λ s i inn. let k = sh.inner_key s (still g.linked p l s i).0 (inner_old s inn) in let f = lo_falls s in let r = hi_rises s in (omega arith, omega arith);
    leaf_key = λ s i lf. let k = sh.leaf_key s (still g.linked p l s i).0 (leaf_old s lf) in let f = lo_falls s in let r = hi_rises s in (omega arith, omega arith);
    inner_once = λ s t i j is' it q. sh.inner_once s t (still g.linked p l s i).0 (still g.linked p l t j).0 (inner_old s is') (inner_old t it) q;
    leaf_inner = leaf_inner;
    leaves = leaves;
  }
    where
      lows : (x s : ℕ) (c : Bool) → after.lo x ≡ low n after.lo c s → after.lo x ≡ low (with_child n d a (suc b)) after.lo c s
      lows x s true h = h
      lows x s false h = h

      highs : (x s : ℕ) (c : Bool) → after.hi x ≡ high n after.hi c s → after.hi x ≡ high (with_child n d a (suc b)) after.hi c s
      highs x s true h = h
      highs x s false h = h

  -- a leaf's cells aren't a's
  leaf_value : (s : ℕ) → IsLeaf n s → C false s ≡ n.child false s
  leaf_value s leaf = ⊎_elim (λ o. absurd (let h = ap (n.child true) o.1 in let inner = is.above_inner in omega arith)) (λ o. o.1) (split n.child d a (suc b) false s)

  leaf_new : (s : ℕ) → IsLeaf n s → C true s ≡ 0
  leaf_new s leaf = ⊎_elim (λ o. absurd (let h = ap (n.child true) o.1 in let inner = is.above_inner in omega arith)) (λ o. o.1 ∙ leaf) (split n.child d a (suc b) true s)

  removal_contents : (lookup : ℕ → Option ℕ) → 3 ≤ l → Contents n g lookup → Contents (with_child n d a (suc b)) after (upd lookup (n.key l) None)
  removal_contents lookup real contents = record {
    pair = λ x i lf big.
        let st = still g.linked p l x i in
        let fx = leaf_old x lf in
        let kx = sh.leaf_key x st.0 fx in
        let kl = sh.leaf_key l l_linked is.leaf in
        let ne : n.key x ≢ n.key l = λ q. ⊎_elim (λ h. absurd (omega arith)) (λ h. absurd (omega arith)) (sh.leaves l x l_linked st.0 is.leaf fx (λ q. st.2 (sym q))) in
        upd_other lookup (n.key l) (n.key x) None ne ∙ contents.pair x st.0 fx big ∙ ap Some (sym (leaf_value x fx));
    leaf = λ key value h.
        let other : key ≢ n.key l = λ q. none-some value (sym (upd_same lookup (n.key l) key None q) ∙ h) in
        let old = contents.leaf key value (sym (upd_other lookup (n.key l) key None other) ∙ h) in
        let nl : old.0 ≢ l = λ q. other (sym old.4 ∙ ap n.key q) in
        let np : old.0 ≢ p = λ q. (let h = ap (n.child true) q in let leaf = old.2 in let inner = is.parent_inner in omega arith) in
        (old.0, remains g.linked p l old.0 old.1 np nl, leaf_new old.0 old.2, old.3, old.4);
  }

  pub removal_keeps : RemovalKeeps n g d a p b l
  removal_keeps = record { tree = removal_tree; contents = removal_contents; lo = lo_falls; hi = hi_rises }
