-- A search tree by sides: its linked nodes, each with the keys that its place covers. Of each fact both
-- sides are one case.
use Rattle.std.specs.Prelude.{ℕ, suc, ◌<◌, ◌≤◌, ◌≡◌, ◌≢◌, ◌⊎◌, Bool, true, false, cond, not, ◌&&◌, ◌==◌, Option, None, Some}
use Rattle.structure_laws.specs.body_terms.specs.Update.{upd}

-- the values of the nodes' cells; true is the left side, and the right link of a leaf is its value
pub record Nodes : Type 0 where
  pub key : ℕ → ℕ
  pub child : Bool → ℕ → ℕ
  pub mark : ℕ → ℕ

-- which slots are linked from the root, the keys that a linked node's place covers, from the first to
-- before the last, and its parent
pub record Covers : Type 0 where
  pub linked : ℕ → Bool
  pub lo : ℕ → ℕ
  pub hi : ℕ → ℕ
  pub up : ℕ → ℕ

abbrev pub IsInner : Nodes → ℕ → Type 0
IsInner n s = 0 < n.child true s

abbrev pub IsLeaf : Nodes → ℕ → Type 0
IsLeaf n s = n.child true s ≡ 0

-- the keys that a child's place covers
abbrev pub low : Nodes → (ℕ → ℕ) → Bool → ℕ → ℕ
low n lo true s = lo s
low n lo false s = n.key s

abbrev pub high : Nodes → (ℕ → ℕ) → Bool → ℕ → ℕ
high n hi true s = n.key s
high n hi false s = hi s

-- the keys of all nodes lie below this
abbrev pub key_end : ℕ
key_end = 4294967296

-- a node between others: it covers no key of theirs
abbrev pub AreApart : (ℕ → ℕ) → (ℕ → ℕ) → ℕ → ℕ → Type 0
AreApart lo hi s t = (hi s ≤ lo t) ⊎ (hi t ≤ lo s)

-- the linked nodes are a search tree below slot 0
pub record SearchTree (n : Nodes) (c : Covers) : Type 0 where
  -- the root is an inner node, and covers all keys
  pub root : c.linked 0 ≡ true
  pub root_inner : IsInner n 0
  pub root_lo : c.lo 0 ≡ 0
  pub root_hi : c.hi 0 ≡ key_end
  pub top : (s : ℕ) → c.linked s ≡ true → c.hi s ≤ key_end
  -- both links of a linked inner node lead to linked nodes, of which it is the parent; they share its keys
  pub child_some : (b : Bool) (s : ℕ) → c.linked s ≡ true → IsInner n s → 0 < n.child b s
  pub child_linked : (b : Bool) (s t : ℕ) → c.linked s ≡ true → IsInner n s → n.child b s ≡ suc t → c.linked t ≡ true
  pub child_up : (b : Bool) (s t : ℕ) → c.linked s ≡ true → IsInner n s → n.child b s ≡ suc t → c.up t ≡ s
  pub child_lo : (b : Bool) (s t : ℕ) → c.linked s ≡ true → IsInner n s → n.child b s ≡ suc t → c.lo t ≡ low n c.lo b s
  pub child_hi : (b : Bool) (s t : ℕ) → c.linked s ≡ true → IsInner n s → n.child b s ≡ suc t → c.hi t ≡ high n c.hi b s
  -- each linked node but the root is a child of its parent
  pub up_linked : (t : ℕ) → c.linked t ≡ true → t ≢ 0 → c.linked (c.up t) ≡ true
  pub up_inner : (t : ℕ) → c.linked t ≡ true → t ≢ 0 → IsInner n (c.up t)
  pub up_child : (t : ℕ) → c.linked t ≡ true → t ≢ 0 → (b : Bool) × (n.child b (c.up t) ≡ suc t)
  -- a node's key is one that its place covers; some key of an inner node's place is below its key
  pub inner_key : (s : ℕ) → c.linked s ≡ true → IsInner n s → (c.lo s < n.key s) × (n.key s < c.hi s)
  pub leaf_key : (s : ℕ) → c.linked s ≡ true → IsLeaf n s → (c.lo s ≤ n.key s) × (n.key s < c.hi s)
  -- keys of inner nodes differ; the key of an inner node is inside no leaf's place; two leaves have no key in common
  pub inner_once : (s t : ℕ) → c.linked s ≡ true → c.linked t ≡ true → IsInner n s → IsInner n t
      → n.key s ≡ n.key t → s ≡ t
  pub leaf_inner : (l s : ℕ) → c.linked l ≡ true → c.linked s ≡ true → IsLeaf n l → IsInner n s
      → (n.key s ≤ c.lo l) ⊎ (c.hi l ≤ n.key s)
  pub leaves : (l x : ℕ) → c.linked l ≡ true → c.linked x ≡ true → IsLeaf n l → IsLeaf n x → l ≢ x
      → AreApart c.lo c.hi l x

-- the slots 0 to 2: the root over the greatest two keys, and their leaves, which no request has
pub record HasSentinels (n : Nodes) (c : Covers) : Type 0 where
  pub root_key : n.key 0 ≡ 4294967295
  pub root_right : n.child false 0 ≡ 3
  pub first : c.linked 1 ≡ true
  pub first_leaf : IsLeaf n 1
  pub first_key : n.key 1 ≡ 4294967294
  pub last : c.linked 2 ≡ true
  pub last_leaf : IsLeaf n 2
  pub last_key : n.key 2 ≡ 4294967295

-- the pairs of the linked leaves, but for the sentinels, are those that the map looks up
pub record Contents (n : Nodes) (c : Covers) (lookup : ℕ → Option ℕ) : Type 0 where
  pub pair : (l : ℕ) → c.linked l ≡ true → IsLeaf n l → 3 ≤ l → lookup (n.key l) ≡ Some (n.child false l)
  pub leaf : (key value : ℕ) → lookup key ≡ Some value
      → (l : ℕ) × (c.linked l ≡ true) × IsLeaf n l × (3 ≤ l) × (n.key l ≡ key)

-- the same side
abbrev pub same_side : Bool → Bool → Bool
same_side true b = b
same_side false b = not b

-- one link of a node changes
abbrev pub with_child : Nodes → Bool → ℕ → ℕ → Nodes
with_child n b s link = record n { child = λ d t. cond (same_side d b && (t == s)) link (n.child d t) }

-- a removal: below node a, on its side d, stands the inner node p; its child on side e is b, which stays,
-- and its other child is the leaf l
pub record IsRemoval (n : Nodes) (c : Covers) (d e : Bool) (a p b l : ℕ) : Type 0 where
  pub above : c.linked a ≡ true
  pub above_inner : IsInner n a
  pub parent : n.child d a ≡ suc p
  pub parent_inner : IsInner n p
  pub stays : n.child e p ≡ suc b
  pub goes : n.child (not e) p ≡ suc l
  pub leaf : IsLeaf n l

-- bounds after a removal: those of linked nodes that were the key of p are p's own
abbrev pub grown : (ℕ → Bool) → (ℕ → ℕ) → ℕ → ℕ → ℕ → ℕ → ℕ
grown linked bound key own p = upd (λ s. cond (linked s && (bound s == key)) own (bound s)) p own

-- the sibling takes the place of p, whose keys are shared among those below it
abbrev pub removed : Nodes → Covers → ℕ → ℕ → ℕ → ℕ → Covers
removed n c a p b l = record {
  linked = upd (upd c.linked p false) l false;
  lo = grown c.linked c.lo (n.key p) (c.lo p) p;
  hi = grown c.linked c.hi (n.key p) (c.hi p) p;
  up = upd c.up b a;
}

-- after a removal the memory is a search tree without the leaf's pair
pub record RemovalKeeps (n : Nodes) (c : Covers) (d : Bool) (a p b l : ℕ) : Type 0 where
  pub tree : SearchTree (with_child n d a (suc b)) (removed n c a p b l)
  pub contents : (lookup : ℕ → Option ℕ) → 3 ≤ l → Contents n c lookup
      → Contents (with_child n d a (suc b)) (removed n c a p b l) (upd lookup (n.key l) None)
  -- what is still linked covers no less than before
  pub lo : (s : ℕ) → (removed n c a p b l).lo s ≤ c.lo s
  pub hi : (s : ℕ) → c.hi s ≤ (removed n c a p b l).hi s

abbrev pub RemovalLaw : Type 0
RemovalLaw = (n : Nodes) (c : Covers) (d e : Bool) (a p b l : ℕ) → SearchTree n c
    → IsRemoval n c d e a p b l → RemovalKeeps n c d a p b l

-- which key the new inner node has, by the side of the new leaf: the greater of both leaves' keys
abbrev pub AreOrdered : Bool → ℕ → ℕ → ℕ → Type 0
AreOrdered true key old new = (new < old) × (key ≡ old)
AreOrdered false key old new = (old < new) × (key ≡ new)

-- an insertion: below node a, on its side d, stands the leaf l; the node t, not linked yet, is over the new
-- leaf f on its side h and over l on the other; the key of f is one that l covers
pub record IsInsertion (n : Nodes) (c : Covers) (d h : Bool) (a l t f : ℕ) : Type 0 where
  pub above : c.linked a ≡ true
  pub above_inner : IsInner n a
  pub old : n.child d a ≡ suc l
  pub old_leaf : IsLeaf n l
  pub inner_out : c.linked t ≡ false
  pub leaf_out : c.linked f ≡ false
  pub differ : t ≢ f
  pub new_side : n.child h t ≡ suc f
  pub old_side : n.child (not h) t ≡ suc l
  pub new_leaf : IsLeaf n f
  pub from : c.lo l ≤ n.key f
  pub before : n.key f < c.hi l
  pub ordered : AreOrdered h (n.key t) (n.key l) (n.key f)

-- three values of a function change, the last one first
abbrev pub thrice : {A : Type 0} → (ℕ → A) → ℕ → A → ℕ → A → ℕ → A → ℕ → A
thrice g f x l y t z = upd (upd (upd g f x) l y) t z

-- the new node takes the place of l, and shares its keys among both leaves
abbrev pub inserted : Nodes → Covers → Bool → ℕ → ℕ → ℕ → ℕ → Covers
inserted n c h a l t f = record {
  linked = thrice c.linked f true l true t true;
  lo = thrice c.lo f (cond h (c.lo l) (n.key t)) l (cond h (n.key t) (c.lo l)) t (c.lo l);
  hi = thrice c.hi f (cond h (n.key t) (c.hi l)) l (cond h (c.hi l) (n.key t)) t (c.hi l);
  up = thrice c.up f t l t t a;
}

-- after an insertion the memory is a search tree with the new leaf's pair
pub record InsertionKeeps (n : Nodes) (c : Covers) (d h : Bool) (a l t f : ℕ) : Type 0 where
  pub tree : SearchTree (with_child n d a (suc t)) (inserted n c h a l t f)
  pub contents : (lookup : ℕ → Option ℕ) → 3 ≤ f → Contents n c lookup
      → Contents (with_child n d a (suc t)) (inserted n c h a l t f) (upd lookup (n.key f) (Some (n.child false f)))

abbrev pub InsertionLaw : Type 0
InsertionLaw = (n : Nodes) (c : Covers) (d h : Bool) (a l t f : ℕ) → SearchTree n c
    → IsInsertion n c d h a l t f → InsertionKeeps n c d h a l t f

-- a replacement: below node a, on its side d, stands the leaf l; the leaf f, not linked yet, has its key
pub record IsReplacement (n : Nodes) (c : Covers) (d : Bool) (a l f : ℕ) : Type 0 where
  pub above : c.linked a ≡ true
  pub above_inner : IsInner n a
  pub old : n.child d a ≡ suc l
  pub old_leaf : IsLeaf n l
  pub leaf_out : c.linked f ≡ false
  pub new_leaf : IsLeaf n f
  pub same_key : n.key f ≡ n.key l

-- the new leaf takes the place of l
abbrev pub replaced : Covers → ℕ → ℕ → ℕ → Covers
replaced c a l f = record {
  linked = upd (upd c.linked l false) f true;
  lo = upd c.lo f (c.lo l);
  hi = upd c.hi f (c.hi l);
  up = upd c.up f a;
}

-- after a replacement the memory is a search tree with the new leaf's value for its key
pub record ReplacementKeeps (n : Nodes) (c : Covers) (d : Bool) (a l f : ℕ) : Type 0 where
  pub tree : SearchTree (with_child n d a (suc f)) (replaced c a l f)
  pub contents : (lookup : ℕ → Option ℕ) → 3 ≤ f → Contents n c lookup
      → Contents (with_child n d a (suc f)) (replaced c a l f) (upd lookup (n.key f) (Some (n.child false f)))

abbrev pub ReplacementLaw : Type 0
ReplacementLaw = (n : Nodes) (c : Covers) (d : Bool) (a l f : ℕ) → SearchTree n c
    → IsReplacement n c d a l f → ReplacementKeeps n c d a l f

-- two views of one memory as a search tree agree on what is linked, and on what a linked node's place covers
pub record ViewsAgree (c c' : Covers) : Type 0 where
  pub linked : (s : ℕ) → c.linked s ≡ c'.linked s
  pub lo : (s : ℕ) → c.linked s ≡ true → c'.lo s ≡ c.lo s
  pub hi : (s : ℕ) → c.linked s ≡ true → c'.hi s ≡ c.hi s
  pub up : (s : ℕ) → c.linked s ≡ true → s ≢ 0 → c'.up s ≡ c.up s

abbrev pub ViewLaw : Type 0
ViewLaw = (n : Nodes) (c c' : Covers) → SearchTree n c → SearchTree n c' → ViewsAgree c c'
