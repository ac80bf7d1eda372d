-- The first memory: the root over the two sentinels.
use Rattle.std.proofs.Common.{◌≡◌, ◌≢◌, ℕ, zero, suc, ◌<◌, ◌≤◌, Bool, true, false, cond, refl, sym, ap, ◌∙◌, inl, inr, arith}
use Rattle.std.specs.Prelude.{◌⊎◌, nat_lt, Some, None}
use Rattle.std.specs.FinMap.{empty, get-empty}
use Rattle.std.specs.Ordering.{nat_cmp}
use Rattle.structure_laws.specs.body_terms.specs.Word.{value_of, pack}
use Rattle.structure_laws.specs.table_words.specs.declared.layout.Layout.{Layout}
use Rattle.structure_laws.specs.table_words.specs.Places.{slot_count}
use Rattle.structure_laws.specs.Scene.{Readings, Section, Free, Live, Retired, Scene}
use Rattle.structure_laws.specs.Laws.{IsFirst}
use Rattle.tree_laws.specs.Search.{Nodes, Covers, IsInner, IsLeaf, low, high, key_end, SearchTree, HasSentinels}
use Rattle.tree_laws.specs.Leaves.{first_value, nodes, IsTrail, TreeStands, TreeKept, tree}

-- the three fixed slots one by one
below : (P : ℕ → Type 0) → P 0 → P 1 → P 2 → (s : ℕ) → nat_lt s 3 ≡ true → P s
below P a b c zero h = a
below P a b c (suc zero) h = b
below P a b c (suc (suc zero)) h = c
below P a b c (suc (suc (suc s))) h = absurd (grind arith)

-- what they cover
abbrev first_covers : Covers
first_covers = record {
  linked = λ t. nat_lt t 3;
  lo = λ t. cond (nat_lt t 2) 0 4294967295;
  hi = λ t. cond (nat_lt t 1) key_end (cond (nat_lt t 2) 4294967295 key_end);
  up = λ t. 0;
}

-- the root over two leaves
record IsFirstTree (n : Nodes) : Type 0 where
  pub root_key : n.key 0 ≡ 4294967295
  pub root_left : n.child true 0 ≡ 2
  pub root_right : n.child false 0 ≡ 3
  pub first_key : n.key 1 ≡ 4294967294
  pub first_leaf : n.child true 1 ≡ 0
  pub last_key : n.key 2 ≡ 4294967295
  pub last_leaf : n.child true 2 ≡ 0

module _ (n : Nodes) (first : IsFirstTree n) where
  not_inner : (s : ℕ) → n.child true s ≡ 0 → IsInner n s → ⊥
  not_inner s leaf inner = omega arith

  -- the one inner node
  for_root : (P : ℕ → Type 0) → P 0 → (s : ℕ) → nat_lt s 3 ≡ true → IsInner n s → P s
  for_root P root = below (λ s. IsInner n s → P s) (λ inner. root) (λ inner. absurd (not_inner 1 first.first_leaf inner)) (λ inner. absurd (not_inner 2 first.last_leaf inner))

  not_leaf : IsLeaf n 0 → ⊥
  not_leaf leaf = let left = first.root_left in omega arith

  -- the two leaves
  for_leaf : (P : ℕ → Type 0) → P 1 → P 2 → (s : ℕ) → nat_lt s 3 ≡ true → IsLeaf n s → P s
  for_leaf P one two = below (λ s. IsLeaf n s → P s) (λ leaf. absurd (not_leaf leaf)) (λ leaf. one) (λ leaf. two)

  left_child : (t : ℕ) → n.child true 0 ≡ suc t → t ≡ 1
  left_child t h = let left = first.root_left in omega arith

  right_child : (t : ℕ) → n.child false 0 ≡ suc t → t ≡ 2
  right_child t h = let right = first.root_right in omega arith

  -- what holds of both children
  for_child : (P : Bool → ℕ → Type 0) → P true 1 → P false 2 → (b : Bool) (t : ℕ) → n.child b 0 ≡ suc t → P b t
  for_child P one two true t h = let same = left_child t h in rw same one
  for_child P one two false t h = let same = right_child t h in rw same two

  first_tree : SearchTree n first_covers
  first_tree = record {
    root = refl;
    root_inner = let left = first.root_left in omega arith;
    root_lo = refl;
    root_hi = refl;
    top = λ s linked. below (λ s. first_covers.hi s ≤ key_end) (omega arith) (omega arith) (omega arith) s linked;
    child_some = λ b s linked inner. for_root (λ s. 0 < n.child b s) (some b) s linked inner;
    child_linked = λ b s t linked inner. for_root (λ s. n.child b s ≡ suc t → nat_lt t 3 ≡ true) (for_child (λ b t. nat_lt t 3 ≡ true) refl refl b t) s linked inner;
    child_up = λ b s t linked inner. for_root (λ s. n.child b s ≡ suc t → 0 ≡ s) (λ h. refl) s linked inner;
    child_lo = λ b s t linked inner. for_root (λ s. n.child b s ≡ suc t → first_covers.lo t ≡ low n first_covers.lo b s) (for_child (λ b t. first_covers.lo t ≡ low n first_covers.lo b 0) refl (sym first.root_key) b t) s linked inner;
    child_hi = λ b s t linked inner. for_root (λ s. n.child b s ≡ suc t → first_covers.hi t ≡ high n first_covers.hi b s) (for_child (λ b t. first_covers.hi t ≡ high n first_covers.hi b 0) (sym first.root_key) refl b t) s linked inner;
    up_linked = λ t linked some. refl;
    up_inner = λ t linked some. let left = first.root_left in omega arith;
    up_child = λ t linked. below (λ t. t ≢ 0 → (b : Bool) × (n.child b 0 ≡ suc t)) (λ some. absurd (some refl)) (λ some. (true, first.root_left)) (λ some. (false, first.root_right)) t linked;
    inner_key = λ s linked inner. for_root (λ s. (first_covers.lo s < n.key s) × (n.key s < first_covers.hi s)) (let key = first.root_key in (omega arith, omega arith)) s linked inner;
    leaf_key = λ s linked leaf. for_leaf (λ s. (first_covers.lo s ≤ n.key s) × (n.key s < first_covers.hi s)) (let key = first.first_key in (omega arith, omega arith)) (let key = first.last_key in (omega arith, omega arith)) s linked leaf;
    inner_once = λ s t linked linked' inner inner' same. for_root (λ s. s ≡ t) (for_root (λ t. 0 ≡ t) refl t linked' inner') s linked inner;
    leaf_inner = λ l s linked linked' leaf inner. for_root (λ s. (n.key s ≤ first_covers.lo l) ⊎ (first_covers.hi l ≤ n.key s))
        (for_leaf (λ l. (n.key 0 ≤ first_covers.lo l) ⊎ (first_covers.hi l ≤ n.key 0)) (let key = first.root_key in inr (omega arith)) (let key = first.root_key in inl (omega arith)) l linked leaf) s linked' inner;
    leaves = λ l x linked linked' leaf leaf'. for_leaf (λ l. l ≢ x → (first_covers.hi l ≤ first_covers.lo x) ⊎ (first_covers.hi x ≤ first_covers.lo l))
        (for_leaf (λ x. 1 ≢ x → (first_covers.hi 1 ≤ first_covers.lo x) ⊎ (first_covers.hi x ≤ first_covers.lo 1)) (λ ne. absurd (ne refl)) (λ ne. inl (omega arith)) x linked' leaf')
        (for_leaf (λ x. 2 ≢ x → (first_covers.hi 2 ≤ first_covers.lo x) ⊎ (first_covers.hi x ≤ first_covers.lo 2)) (λ ne. inr (omega arith)) (λ ne. absurd (ne refl)) x linked' leaf') l linked leaf;
  }
    where
      some : (b : Bool) → 0 < n.child b 0
      some true = let left = first.root_left in omega arith
      some false = let right = first.root_right in omega arith

  first_sentinels : HasSentinels n first_covers
  first_sentinels = record {
    root_key = first.root_key;
    root_right = first.root_right;
    first = refl;
    first_leaf = first.first_leaf;
    first_key = first.first_key;
    last = refl;
    last_leaf = first.last_leaf;
    last_key = first.last_key;
  }

module _ (layout : Layout) (s : Scene) (first : IsFirst tree s) where
  value_at : (p : ℕ) → value_of (s.cells p) ≡ value_of (pack (cond (nat_lt p 15) (first_value p) 0) 1)
  value_at p = ap value_of (first.cells p)

  is_first : IsFirstTree (nodes s.cells)
  is_first = record {
    root_key = value_at 1;
    root_left = value_at 2;
    root_right = value_at 3;
    first_key = value_at 6;
    first_leaf = value_at 7;
    last_key = value_at 11;
    last_leaf = value_at 12;
  }

  unmarked_at : (t : ℕ) → nat_lt t 3 ≡ true → (nodes s.cells).mark t ≡ 0
  unmarked_at t linked = below (λ t. (nodes s.cells).mark t ≡ 0) (value_at 4) (value_at 9) (value_at 14) t linked

  live_fixed : (t : ℕ) → s.status t ≡ Live → nat_lt t 3 ≡ true
  live_fixed t live = go (nat_lt t 3) (sym (first.status t) ∙ live)
    where
      go : (b : Bool) → cond b Live Free ≡ Live → b ≡ true
      go true h = refl
      go false h = absurd (cc)

  fixed_live : (t : ℕ) → nat_lt t 3 ≡ true → s.status t ≡ Live
  fixed_live t fixed = first.status t ∙ ap (λ b. cond b Live Free) fixed

  used_fixed : (t : ℕ) → s.status t ≢ Free → nat_lt t 3 ≡ true
  used_fixed t used = go (nat_lt t 3) (first.status t)
    where
      go : (b : Bool) → s.status t ≡ cond b Live Free → b ≡ true
      go true h = refl
      go false h = absurd (used h)

  none_retired : (t y : ℕ) → s.status t ≡ Retired y → ⊥
  none_retired t y retired = go (nat_lt t 3) (sym (first.status t) ∙ retired)
    where
      go : (b : Bool) → cond b Live Free ≡ Retired y → ⊥
      go true h = cc
      go false h = cc

  no_reader : (r : ℕ) (readings : Readings) → s.reader r ≡ Some readings → ⊥
  no_reader r readings h = none_some (sym (first.reader r) ∙ h)
    where
      none_some : None ≡ Some readings → ⊥
      none_some e = cc

  no_section : (d : ℕ) (x : Section) → s.section d ≡ Some x → ⊥
  no_section d x h = none_some (sym (first.section d) ∙ h)
    where
      none_some : None ≡ Some x → ⊥
      none_some e = cc

  pub first_stands : TreeStands (slot_count layout 3) s.cells empty
  first_stands = record {
    covers = first_covers;
    within = λ t linked. below (λ t. t < slot_count layout 3) (omega arith) (omega arith) (omega arith) t linked;
    tree = first_tree (nodes s.cells) is_first;
    sentinels = first_sentinels (nodes s.cells) is_first;
    unmarked = λ t linked inner. unmarked_at t linked;
    contents = record {
      pair = λ l linked leaf real. absurd (not_real l linked real);
      leaf = λ key value h. absurd (none_some value (sym (get-empty nat_cmp key) ∙ h));
    };
  }
    where
      not_real : (l : ℕ) → nat_lt l 3 ≡ true → 3 ≤ l → ⊥
      not_real l low high = grind arith

      none_some : (v : ℕ) → None ≡ Some v → ⊥
      none_some v e = cc

  -- the root's links, and where they lead
  pub first_kept : TreeKept layout s
  first_kept = record {
    covers = first_covers;
    once = λ t. nat_lt t 3;
    tree = first_tree (nodes s.cells) is_first;
    sentinels = first_sentinels (nodes s.cells) is_first;
    linked_live = fixed_live;
    linked_once = λ t linked. linked;
    retired_once = λ t y retired. absurd (none_retired t y retired);
    once_used = λ t fixed free. live_free (sym (fixed_live t fixed) ∙ free);
    right_some = λ t used inner. (first_tree (nodes s.cells) is_first).child_some false t (used_fixed t used) inner;
    mark_small = λ t used inner. let mark = unmarked_at t (used_fixed t used) in omega arith;
    unmarked = λ t once safe inner mark. once;
    trail = λ t u b once safe inner link. trail t u b once inner link;
    marked = λ t linked inner mark. absurd (mark (unmarked_at t linked));
    live = λ t live. inl (live_fixed t live);
    limbo = λ t y u b retired. absurd (none_retired t y retired);
    new_leaf = λ d x h. absurd (no_section d x h);
    new_inner = λ d x h. absurd (no_section d x h);
    taken = λ d x h. absurd (no_section d x h);
    replaced = λ d x h. absurd (no_section d x h);
    readers = λ r readings h. absurd (no_reader r readings h);
    published = λ d x h. absurd (no_section d x h);
    walks = λ r readings op h. absurd (no_reader r readings h);
    sections = λ d x h. absurd (no_section d x h);
  }
    where
      live_free : Live ≡ Free → ⊥
      live_free e = cc

      trail : (t u : ℕ) (b : Bool) → nat_lt t 3 ≡ true → IsInner (nodes s.cells) t → (nodes s.cells).child b t ≡ suc u → IsTrail (nodes s.cells) first_covers (λ t. nat_lt t 3) t u b
      trail t u b fixed inner link =
          let linked = (first_tree (nodes s.cells) is_first).child_linked b t u fixed inner link in
          let leaf : IsInner (nodes s.cells) u → ⊥ = λ inner'. one_inner t u b fixed inner link inner' in
          record { once_linked = linked; left = λ e inner'. absurd (leaf inner'); right = λ e inner'. absurd (leaf inner') }
        where
          one_inner : (t u : ℕ) (b : Bool) → nat_lt t 3 ≡ true → IsInner (nodes s.cells) t → (nodes s.cells).child b t ≡ suc u → IsInner (nodes s.cells) u → ⊥
          one_inner t u b fixed inner link = for_root (nodes s.cells) is_first (λ t. (nodes s.cells).child b t ≡ suc u → IsInner (nodes s.cells) u → ⊥)
              (for_child (nodes s.cells) is_first (λ b u. IsInner (nodes s.cells) u → ⊥) (not_inner (nodes s.cells) is_first 1 is_first.first_leaf) (not_inner (nodes s.cells) is_first 2 is_first.last_leaf) b u) t fixed inner link
