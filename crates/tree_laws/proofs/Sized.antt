-- With nothing open, each pair of the map keeps a leaf and an inner node in use, at most.
use Rattle.std.specs.Prelude.{◌+◌, ◌*◌, ◌-◌, ◌⊎◌, Bool, true, false, cond, List, [], ◌∷◌, length, Some, None, is_some, slice_get}
use Rattle.std.specs.Ordering.{nat_cmp}
use Rattle.std.specs.FinMap.{get, remove, len, empty_of_len, get-empty, len-remove}
use Rattle.std.proofs.Common.{◌≡◌, ◌≢◌, ℕ, zero, suc, ◌≤◌, refl, sym, ap, ◌∙◌, subst, inl, inr, ⊎_elim, arith}
use Rattle.std.proofs.lemmas.Cmp.{nat_cmp_total}
use mathlib.Core.Logic.{dite}
use native.Mathlib.Decide.{ℕ_discrete}
use Rattle.structure_laws.specs.table_words.specs.small_lemmas.proofs.Numbers.{suc_equal as suc_eq, zero_not_suc as zero_suc}
use Rattle.structure_laws.specs.map_history.specs.Replay.{Pairs}
use Rattle.structure_laws.specs.table_words.specs.declared.layout.Layout.{Layout}
use Rattle.structure_laws.specs.table_words.specs.Places.{slot_count}
use Rattle.structure_laws.specs.Scene.{Section, Scene}
use Rattle.structure_laws.specs.InTurn.{StandsFor}
use Rattle.structure_laws.specs.Planner.{IsQuiet, AreInUse}
use Rattle.structure_laws.proofs.Changes.{upd_other}
use Rattle.bucket_laws.proofs.Maps.{get_removed}
use Rattle.tree_laws.specs.Search.{Nodes, Covers, IsInner, IsLeaf, key_end, SearchTree, HasSentinels, Contents}
use Rattle.tree_laws.specs.Leaves.{nodes, TreeStands, TreeKept, tree}
use Rattle.tree_laws.proofs.Views.{some_key, views_agree}

-- this slot has a name on this side, which is a key of the map
record IsNamed (R : Bool → ℕ → ℕ → Type 0) (side : Bool) (pairs : Pairs) (t : ℕ) : Type 0 where
  pub key : ℕ
  pub is : R side t key
  pub value : ℕ
  pub found : get pairs key ≡ Some value

module _ (R : Bool → ℕ → ℕ → Type 0) where
  -- another name is one of the other pairs
  other_named : (side : Bool) (pairs : Pairs) (t key : ℕ) (named : IsNamed R side pairs t) → named.key ≢ key
      → IsNamed R side (remove pairs key) t
  other_named side pairs t key named ne = record {
    key = named.key;
    is = named.is;
    value = named.value;
    found = get_removed pairs key named.key ∙ (upd_other (get pairs) key named.key None ne ∙ named.found);
  }

  -- a pair taken out is one pair less
  one_less : (pairs : Pairs) (key value n m : ℕ) → get pairs key ≡ Some value → n ≤ len (remove pairs key) + m
      → suc n ≤ len pairs + m
  one_less pairs key value n m found few =
      let size : len (remove pairs key) ≡ len pairs - 1 = len-remove nat_cmp_total pairs key ∙ ap
      (λ b. cond b (len pairs - 1) (len pairs)) (ap is_some found) in
      let some : len pairs ≢ 0 = λ e. none_some (sym (ap (λ m. get m key) (empty_of_len pairs e)
      ∙ get-empty nat_cmp key) ∙ found) in
      omega (arith, few, size, some)
    where
      none_some : None ≡ Some value → ⊥
      none_some e = cc

  -- slots with a name on a side, none twice, are no more than the pairs of both sides' maps
  few_named : (slots : List ℕ) (pairs pairs' : Pairs)
      → ((i j t u key : ℕ) (side : Bool) → slice_get slots i ≡ Some t → slice_get slots j ≡ Some u → R side t key
      → R side u key → i ≡ j)
      → ((i t : ℕ) → slice_get slots i ≡ Some t → IsNamed R true pairs t ⊎ IsNamed R false pairs' t)
      → length slots ≤ len pairs + len pairs'
  few_named [] pairs pairs' once there = omega arith
  few_named (t ∷ slots) pairs pairs' once there = ⊎_elim
      (λ a. one_less pairs a.key a.value (length slots) (len pairs') a.found
      (few_named slots (remove pairs a.key) pairs' later
      (λ i u at. ⊎_elim (λ b. inl (other_named true pairs u a.key b (differ i u at true a b))) inr
      (there (suc i) u at))))
      (λ a. swap (len pairs') (len pairs) (one_less pairs' a.key a.value (length slots) (len pairs) a.found
      (swap (len pairs) (len (remove pairs' a.key))
      (few_named slots pairs (remove pairs' a.key) later
      (λ i u at. ⊎_elim inl (λ b. inr (other_named false pairs' u a.key b (differ i u at false a b)))
      (there (suc i) u at))))))
      (there 0 t refl)
    where
      later : (i j t u key : ℕ) (side : Bool) → slice_get slots i ≡ Some t → slice_get slots j ≡ Some u → R side t key
          → R side u key → i ≡ j
      later i j u v key side at at' is is' = suc_eq i j (once (suc i) (suc j) u v key side at at' is is')

      differ : (i u : ℕ) → slice_get slots i ≡ Some u → (side : Bool) {pairs : Pairs} (a : IsNamed R side pairs t)
          (b : IsNamed R side pairs u) → b.key ≢ a.key
      differ i u at side a b same = zero_suc i (sym (once (suc i) 0 u t b.key side at refl b.is (subst
          (λ k. R side t k) (sym same) a.is)))

      swap : {n : ℕ} (a b : ℕ) → n ≤ a + b → n ≤ b + a
      swap a b few = omega (arith, few)

module _ (n : Nodes) (c : Covers) (tree : SearchTree n c) where
  -- a linked leaf that covers up to this key
  record EndsAt (key : ℕ) : Type 0 where
    pub leaf : ℕ
    pub linked : c.linked leaf ≡ true
    pub is_leaf : IsLeaf n leaf
    pub end : c.hi leaf ≡ key

  -- the last leaf below a linked node covers up to the same key as the node
  last_leaf : (depth s : ℕ) → c.linked s ≡ true → c.hi s ≤ depth + c.lo s → EndsAt (c.hi s)
  last_leaf zero s on within = absurd (let some = some_key n c c tree tree s on in omega (arith, some, within))
  last_leaf (suc depth) s on within = dite (ℕ_discrete (n.child true s) 0)
      (λ leaf. record { leaf = s; linked = on; is_leaf = leaf; end = refl })
      (λ some.
      let inner : IsInner n s = omega (arith, some) in
      let t = n.child false s - 1 in
      let link : n.child false s ≡ suc t = (let right = tree.child_some false s on inner in omega (arith, right)) in
      let lo = tree.child_lo false s t on inner link in
      let hi = tree.child_hi false s t on inner link in
      let key = (tree.inner_key s on inner).0 in
      let below = last_leaf depth t (tree.child_linked false s t on inner link) (omega (arith, lo, hi, key, within)) in
      record { leaf = below.leaf; linked = below.linked; is_leaf = below.is_leaf; end = below.end ∙ hi })

  -- to each linked inner node a leaf that covers up to its key
  ends_at_key : (s : ℕ) → c.linked s ≡ true → IsInner n s → EndsAt (n.key s)
  ends_at_key s on inner =
      let t = n.child true s - 1 in
      let link : n.child true s ≡ suc t = omega (arith, inner) in
      let hi = tree.child_hi true s t on inner link in
      let t_on = tree.child_linked true s t on inner link in
      let top = tree.top t t_on in
      let below = last_leaf key_end t t_on (omega (arith, top)) in
      record { leaf = below.leaf; linked = below.linked; is_leaf = below.is_leaf; end = below.end ∙ hi }

  -- two leaves with one key are one
  one_leaf : (l m : ℕ) → c.linked l ≡ true → c.linked m ≡ true → IsLeaf n l → IsLeaf n m → n.key l ≡ n.key m → l ≡ m
  one_leaf l m on on' leaf leaf' same = dite (ℕ_discrete l m) (λ e. e)
      (λ ne. absurd (let at = tree.leaf_key l on leaf in let at' = tree.leaf_key m on' leaf' in
      let lo = at.0 in let hi = at.1 in let lo' = at'.0 in let hi' = at'.1 in
      ⊎_elim (λ before. omega (arith, before, same, lo, hi, lo', hi'))
      (λ before. omega (arith, before, same, lo, hi, lo', hi'))
      (tree.leaves l m on on' leaf leaf' ne)))

  -- the names of nodes: a leaf has its key, an inner node the key of a leaf that covers up to its own
  record HasKey (t key : ℕ) : Type 0 where
    pub linked : c.linked t ≡ true
    pub leaf : IsLeaf n t
    pub same : n.key t ≡ key

  record HasEnd (t key : ℕ) : Type 0 where
    pub linked : c.linked t ≡ true
    pub inner : IsInner n t
    pub ends : EndsAt (n.key t)
    pub same : n.key ends.leaf ≡ key

  abbrev Names : Bool → ℕ → ℕ → Type 0
  Names true t key = HasKey t key
  Names false t key = HasEnd t key

  named_once : (side : Bool) (t u key : ℕ) → Names side t key → Names side u key → t ≡ u
  named_once true t u key a b = one_leaf t u a.linked b.linked a.leaf b.leaf (a.same ∙ sym b.same)
  named_once false t u key a b = tree.inner_once t u a.linked b.linked a.inner b.inner
      (sym a.ends.end
      ∙ (ap c.hi (one_leaf a.ends.leaf b.ends.leaf a.ends.linked b.ends.linked a.ends.is_leaf b.ends.is_leaf
      (a.same ∙ sym b.same)) ∙ b.ends.end))

  unfixed : (l : ℕ) → (l ≡ 0 → ⊥) → (l ≡ 1 → ⊥) → (l ≡ 2 → ⊥) → 3 ≤ l
  unfixed l not_0 not_1 not_2 = search arith

  module _ (sentinels : HasSentinels n c) (pairs : Pairs) (contents : Contents n c (get pairs)) where
    -- the leaf of an inner node but the root is no sentinel
    end_unfixed : (s : ℕ) → c.linked s ≡ true → IsInner n s → 3 ≤ s → (ends : EndsAt (n.key s)) → 3 ≤ ends.leaf
    end_unfixed s on inner real ends =
        let key = (tree.inner_key s on inner).1 in
        let top = tree.top s on in
        let end = ends.end in
        unfixed ends.leaf
        (λ at_0. let root = subst (IsLeaf n) at_0 ends.is_leaf in let root_inner = tree.root_inner in
        omega (arith, root, root_inner))
        (λ one.
        let first = (tree.leaf_key 1 sentinels.first sentinels.first_leaf).1 in
        let first_key = sentinels.first_key in
        let at = sym (ap c.hi one) ∙ end in
        let most : n.key s ≡ 4294967295 = omega (arith, key, top, first, first_key, at) in
        let root = tree.inner_once s 0 on tree.root inner tree.root_inner (most ∙ sym sentinels.root_key) in
        omega (arith, root, real))
        (λ two.
        let last = (tree.leaf_key 2 sentinels.last sentinels.last_leaf).1 in
        let last_key = sentinels.last_key in
        let at = sym (ap c.hi two) ∙ end in omega (arith, key, top, last, last_key, at))

    named : (t : ℕ) → c.linked t ≡ true → 3 ≤ t → IsNamed Names true pairs t ⊎ IsNamed Names false pairs t
    named t on real = dite (ℕ_discrete (n.child true t) 0)
        (λ leaf. inl
        (record { key = n.key t; is = record { linked = on; leaf = leaf; same = refl }; value = n.child false t; found = contents.pair t on leaf real }))
        (λ some.
        let inner : IsInner n t = omega (arith, some) in
        let ends = ends_at_key t on inner in
        inr (record {
          key = n.key ends.leaf;
          is = record { linked = on; inner = inner; ends = ends; same = refl };
          value = n.child false ends.leaf;
          found = contents.pair ends.leaf ends.linked ends.is_leaf (end_unfixed t on inner real ends);
        }))

module _ (layout : Layout) (s : Scene) (pairs : Pairs) (slots : List ℕ) (before : StandsFor tree layout s pairs)
    (quiet : IsQuiet tree s) (used : AreInUse tree s slots) where
  abbrev kept : TreeKept layout s
  kept = before.kept

  abbrev stands : TreeStands (slot_count layout 3) s.cells pairs
  stands = before.stands

  none_section : {x : Section} → None ≡ Some x → ⊥
  none_section e = cc

  -- with nothing open, a live slot is linked
  linked : (i t : ℕ) → slice_get slots i ≡ Some t → stands.covers.linked t ≡ true
  linked i t at = sym ((views_agree (nodes s.cells) kept.covers stands.covers kept.tree stands.tree).linked t)
      ∙ ⊎_elim (λ on. on) (λ between. absurd (none_section (sym (quiet between.0) ∙ between.2)))
      (kept.live t (used.live i t at))

  pub tree_sized : length slots ≤ 2 * len pairs
  tree_sized =
      let few = few_named (Names (nodes s.cells) stands.covers stands.tree) slots pairs pairs
      (λ i j t u key side at at' is is'. used.once i j u (subst (λ t. slice_get slots i ≡ Some t)
      (named_once (nodes s.cells) stands.covers stands.tree side t u key is is') at) at')
      (λ i t at. named (nodes s.cells) stands.covers stands.tree stands.sentinels pairs stands.contents t
      (linked i t at) (used.unfixed i t at)) in
      omega (arith, few)
