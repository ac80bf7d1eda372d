-- The line of the list: its linked nodes from the head to the tail, in the order of a rank.
use Rattle.std.specs.Prelude.{ℕ, suc, ◌+◌, ◌*◌, ◌<◌, ◌≤◌, ◌≡◌, ◌≢◌, Bool, true, false, cond, ◌==◌, Option, Some}
use Rattle.structure_laws.specs.body_terms.specs.Update.{upd}

-- the values of the nodes' cells
pub record Nodes : Type 0 where
  pub key : ℕ → ℕ
  pub next : ℕ → ℕ
  pub value : ℕ → ℕ
  pub mark : ℕ → ℕ

-- the order of the list: first the head, whose key plays no part, then by key. A marked node comes before an unmarked
-- one with its key; both are linked only while a section puts the second in the place of the first
abbrev pub rank : Nodes → ℕ → ℕ
rank n s = cond (s == 0) 0 (suc (2 * n.key s + cond (n.mark s == 0) 1 0))

-- the key of the tail, which no request has
abbrev pub last_key : ℕ
last_key = 4294967295

-- the slots 0 and 1 are the head and the tail; the link of each other linked node, and the head's, leads to the linked
-- node with the next higher rank; and ranks differ
pub record Line (n : Nodes) (linked : ℕ → Bool) : Type 0 where
  pub head : linked 0 ≡ true
  pub tail : linked 1 ≡ true
  pub tail_key : n.key 1 ≡ last_key
  pub tail_end : n.next 1 ≡ 0
  pub next_some : (s : ℕ) → linked s ≡ true → s ≢ 1 → 0 < n.next s
  pub next_on : (s t : ℕ) → linked s ≡ true → s ≢ 1 → n.next s ≡ suc t → (linked t ≡ true) × (rank n s < rank n t)
  pub next_top : (s t u : ℕ) → linked s ≡ true → s ≢ 1 → n.next s ≡ suc t → linked u ≡ true → rank n s < rank n u
      → rank n t ≤ rank n u
  pub rank_once : (s t : ℕ) → linked s ≡ true → linked t ≡ true → rank n s ≡ rank n t → s ≡ t
  pub last : (s : ℕ) → linked s ≡ true → rank n s ≤ rank n 1

-- the pairs of the linked nodes between the head and the tail are those that the map looks up
pub record Contents (n : Nodes) (linked : ℕ → Bool) (lookup : ℕ → Option ℕ) : Type 0 where
  pub pair : (t : ℕ) → linked t ≡ true → 2 ≤ t → lookup (n.key t) ≡ Some (n.value t)
  pub node : (key value : ℕ) → lookup key ≡ Some value → (t : ℕ) × (linked t ≡ true) × (2 ≤ t) × (n.key t ≡ key)

-- the links lead on to a linked node, over nodes that were linked once
pub data LeadsOn (n : Nodes) (linked once : ℕ → Bool) : ℕ → Type 0 where
  Linked : (s : ℕ) → linked s ≡ true → LeadsOn n linked once s
  Next : (s t : ℕ) → once s ≡ true → n.next s ≡ suc t → LeadsOn n linked once t → LeadsOn n linked once s

-- one link, one mark changes
abbrev pub with_next : Nodes → ℕ → ℕ → Nodes
with_next n s link = record n { next = upd n.next s link }

abbrev pub with_mark : Nodes → ℕ → ℕ → Nodes
with_mark n s mark = record n { mark = upd n.mark s mark }

-- an insertion: behind the linked node p stands the node t; the node f, not linked yet, links t and ranks between both
pub record IsInsertion (n : Nodes) (linked : ℕ → Bool) (p t f : ℕ) : Type 0 where
  pub before : linked p ≡ true
  pub no_tail : p ≢ 1
  pub next : n.next p ≡ suc t
  pub out : linked f ≡ false
  pub links : n.next f ≡ suc t
  pub from : rank n p < rank n f
  pub to : rank n f < rank n t

abbrev pub InsertionLaw : Type 0
InsertionLaw = (n : Nodes) (linked : ℕ → Bool) (p t f : ℕ) → Line n linked → IsInsertion n linked p t f
    → Line (with_next n p (suc f)) (upd linked f true)

-- a removal: behind the linked node p stands the node a, and behind that one t
pub record IsRemoval (n : Nodes) (linked : ℕ → Bool) (p a t : ℕ) : Type 0 where
  pub before : linked p ≡ true
  pub no_tail : p ≢ 1
  pub next : n.next p ≡ suc a
  pub inner : a ≢ 1
  pub links : n.next a ≡ suc t

abbrev pub RemovalLaw : Type 0
RemovalLaw = (n : Nodes) (linked : ℕ → Bool) (p a t : ℕ) → Line n linked → IsRemoval n linked p a t
    → Line (with_next n p (suc t)) (upd linked a false)

-- a marking: behind the linked node p, whose key is lower unless it is the head, stands the node a, which isn't marked
pub record IsMarking (n : Nodes) (linked : ℕ → Bool) (p a : ℕ) : Type 0 where
  pub before : linked p ≡ true
  pub no_tail : p ≢ 1
  pub next : n.next p ≡ suc a
  pub inner : a ≢ 1
  pub key : p ≢ 0 → n.key p < n.key a
  pub unmarked : n.mark a ≡ 0

abbrev pub MarkingLaw : Type 0
MarkingLaw = (n : Nodes) (linked : ℕ → Bool) (p a : ℕ) → Line n linked → IsMarking n linked p a
    → Line (with_mark n a 1) linked

-- two views of one memory as a list agree on what is linked
abbrev pub ViewLaw : Type 0
ViewLaw = (n : Nodes) (linked linked' : ℕ → Bool) → Line n linked → Line n linked' → (s : ℕ) → linked s ≡ linked' s
