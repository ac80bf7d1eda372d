-- Along a walk of what stands there are fewer and fewer slots below, and its last links stand in linked nodes.
use Rattle.std.specs.Prelude.{◌==◌, ◌-◌, ◌%◌, cond, nat_lt, nat_le, Bool, true, false}
use Rattle.std.proofs.Common.{◌≡◌, ℕ, suc, ◌+◌, ◌*◌, ◌<◌, ◌≤◌, refl, sym, ap, ◌∙◌, arith, Some}
use Rattle.std.proofs.lemmas.Option.{none-some}
use Rattle.structure_laws.specs.table_words.specs.small_lemmas.proofs.Lists.{same_number as some_eq}
use Rattle.structure_laws.specs.table_words.specs.small_lemmas.proofs.Numbers.{tested_some as not_zero}
use Rattle.structure_laws.specs.map_history.specs.declared.op.Op.{Op}
use Rattle.structure_laws.specs.map_history.specs.Keys.{key_of}
use Rattle.structure_laws.specs.map_history.specs.Replay.{Pairs}
use Rattle.structure_laws.specs.body_terms.specs.Word.{value_of}
use Rattle.structure_laws.specs.Scene.{Cells, Readings}
use Rattle.structure_laws.specs.Stand.{StandIn}
use Rattle.structure_laws.specs.Ranks.{lower}
use Rattle.structure_laws.proofs.Lower.{lower_few, lower_falls}
use Rattle.bucket_laws.specs.Walk.{Bounds, is_del}
use Rattle.bucket_laws.proofs.Places.{eq_false}
use Rattle.node_laws.proofs.Walked.{walk_keeps}
use Rattle.tree_bodies.specs.Tree.{lock_of, key_cell, left_of, right_of, mark_of, child_of, slot_in}
use Rattle.tree_laws.specs.Search.{Nodes, IsInner, low, high}
use Rattle.tree_laws.specs.Walk.{Stage, AtRoot, AtLeft, AtKey, AtRight, AtValue, AtGrandLock, AtGrandMark, AtLock, AtMark, AtEnd, Refused, Step, step_to, Walk, start, node_of, wanted_at, after_leaf, is_ready, at_key, followed, fed, walk}
use Rattle.tree_laws.specs.Leaves.{nodes, is_lock_place, TreeStands, tree}

-- a node's cell behind its first is no lock
unlocked : (slot r : ℕ) → 1 ≤ r → r < 5 → is_lock_place (0 + 5 * slot + r) ≡ false
unlocked slot r some few = eq_false ((0 + 5 * slot + r) % 5) 0 (λ e. omega (arith, some, few, e))

module _ (slots : ℕ) (cells : Cells) (pairs : Pairs) (stands : TreeStands slots cells pairs) (b : Bounds) (op : Op) where
  abbrev n : Nodes
  n = nodes cells

  abbrev linked : ℕ → Bool
  linked = stands.covers.linked

  -- a node ranks by how many keys its place covers
  abbrev rank : ℕ → ℕ
  rank t = stands.covers.hi t - stands.covers.lo t

  abbrev pub below : ℕ → ℕ
  below = lower linked rank slots

  -- a linked inner node
  pub record IsLinkedInner (s : ℕ) : Type 0 where
    pub linked_there : linked s ≡ true
    pub inner : IsInner n s

  -- the walk's last links stand in linked inner nodes, and the last one leads to a linked node; the links that it has followed and the
  -- slots below that node are no more than there are slots
  pub record IsOnPath (last grand : Step) (deep : Bool) (links : ℕ) : Type 0 where
    pub from : IsLinkedInner last.from
    pub grand_from : deep ≡ true → IsLinkedInner grand.from
    pub to : linked (step_to last) ≡ true
    pub few : links + below (step_to last) ≤ slots

  abbrev On : Walk → Type 0
  On w = IsOnPath w.last w.grand w.deep w.links

  -- what a walk is on at each stage
  abbrev pub Stands : Walk → Stage → Type 0
  Stands w AtRoot = (w.links ≡ 0) × (w.deep ≡ false)
  Stands w AtLeft = On w
  Stands w AtKey = On w × (value_of (cells (left_of (node_of w))) ≡ value_of w.left)
  Stands w AtRight = On w × IsInner n (node_of w)
  Stands w AtValue = On w
  Stands w AtGrandLock = On w × (w.deep ≡ true)
  Stands w AtGrandMark = On w × (w.deep ≡ true)
  Stands w AtLock = On w
  Stands w AtMark = On w
  Stands w AtEnd = On w
  Stands w Refused = w.links ≤ slots

  on_few : (w : Walk) → On w → w.links ≤ slots
  on_few w on = let most = on.few in omega (arith, most)

  pub few_links : (w : Walk) (stage : Stage) → Stands w stage → w.links ≤ slots
  few_links w AtRoot at = let none = at.0 in omega (arith, none)
  few_links w AtLeft at = on_few w at
  few_links w AtKey at = on_few w at.0
  few_links w AtRight at = on_few w at.0
  few_links w AtValue at = on_few w at
  few_links w AtGrandLock at = on_few w at.0
  few_links w AtGrandMark at = on_few w at.0
  few_links w AtLock at = on_few w at
  few_links w AtMark at = on_few w at
  few_links w AtEnd at = on_few w at
  few_links w Refused at = at

  -- a child covers fewer keys than its parent
  narrower : (side : Bool) (s t : ℕ) → IsLinkedInner s → n.child side s ≡ suc t → rank t < rank s
  narrower side s t is leads = by side
      (stands.tree.child_lo side s t is.linked_there is.inner leads) (stands.tree.child_hi side s t is.linked_there is.inner leads)
      (stands.tree.inner_key s is.linked_there is.inner)
    where
      by : (side : Bool) → stands.covers.lo t ≡ low n stands.covers.lo side s → stands.covers.hi t ≡ high n stands.covers.hi side s
          → (stands.covers.lo s < n.key s) × (n.key s < stands.covers.hi s) → rank t < rank s
      by true lo hi key = let first = key.0 in let second = key.1 in omega (arith, lo, hi, first, second)
      by false lo hi key = let first = key.0 in let second = key.1 in omega (arith, lo, hi, first, second)

  -- where a link of a linked inner node leads
  record Leads (s word : ℕ) : Type 0 where
    pub is : value_of word ≡ suc (slot_in word)
    pub there : linked (slot_in word) ≡ true
    pub falls : below (slot_in word) < below s

  leads : (side : Bool) (s word : ℕ) → IsLinkedInner s → value_of (cells (child_of side s)) ≡ value_of word → Leads s word
  leads side s word is same =
      let some = stands.tree.child_some side s is.linked_there is.inner in
      let value : value_of word ≡ suc (slot_in word) = omega (arith, some, same) in
      let child = same ∙ value in
      let there = stands.tree.child_linked side s (slot_in word) is.linked_there is.inner child in
      record { is = value; there = there; falls = lower_falls linked rank slots stands.within s (slot_in word) there (narrower side s (slot_in word) is child) }

  -- a walk that follows a link of its last node
  follow : (w : Walk) (side : Bool) (word : ℕ) → On w → IsInner n (node_of w) → value_of (cells (child_of side (node_of w))) ≡ value_of word
      → Stands (followed b w side word) (followed b w side word).stage
  follow w side word on inner same = by (value_of word == 0) (nat_le b.links (suc w.links))
    where
      node : IsLinkedInner (node_of w)
      node = record { linked_there = on.to; inner = inner }

      next : Leads (node_of w) word
      next = leads side (node_of w) word node same

      few : suc w.links + below (slot_in word) ≤ slots
      few = let most = on.few in let falls = next.falls in omega (arith, most, falls)

      by : (none far : Bool) → Stands (record (followed b w side word) { stage = cond none Refused (cond far Refused AtLeft) }) (cond none Refused (cond far Refused AtLeft))
      by true far = omega (arith, few)
      by false true = omega (arith, few)
      by false false = record { from = node; grand_from = λ deep. on.from; to = next.there; few = few }

  root : IsLinkedInner 0
  root = record { linked_there = stands.tree.root; inner = stands.tree.root_inner }

  root_fed : (w : Walk) (word : ℕ) → w.deep ≡ false → value_of (cells (left_of 0)) ≡ value_of word → Stands (fed b op w AtRoot word) (fed b op w AtRoot word).stage
  root_fed w word shallow same = by (value_of word == 0) (nat_le b.links 1)
    where
      next : Leads 0 word
      next = leads true 0 word root same

      few : 1 + below (slot_in word) ≤ slots
      few = let most = lower_few linked rank slots stands.within (slot_in word) next.there in omega (arith, most)

      no_deep : {A : Type 0} → w.deep ≡ true → A
      no_deep e = absurd (let z = sym shallow ∙ e in cc)

      by : (none far : Bool) → Stands (record (fed b op w AtRoot word) { stage = cond none Refused (cond far Refused AtLeft) }) (cond none Refused (cond far Refused AtLeft))
      by true far = omega (arith, few)
      by false true = omega (arith, few)
      by false false = record { from = root; grand_from = no_deep; to = next.there; few = few }

  key_fed : (w : Walk) (leaf less : Bool) (word : ℕ) → (value_of w.left == 0) ≡ leaf → Stands w AtKey → Stands (at_key b op w leaf less word) (at_key b op w leaf less word).stage
  key_fed w true less word test at = by (is_del op) w.deep (value_of word == key_of op) refl
    where
      by : (del deep found : Bool) → w.deep ≡ deep
          → Stands (record w { stage = after_leaf op deep found; key = value_of word; found = value_of word == key_of op }) (after_leaf op deep found)
      by del deep false is = at.0
      by del true true is = removes (is_del op)
        where
          removes : (del : Bool) → Stands (record w { stage = cond del AtGrandLock AtValue; key = value_of word; found = value_of word == key_of op }) (cond del AtGrandLock AtValue)
          removes true = (at.0, is)
          removes false = at.0
      by del false true is = removes (is_del op)
        where
          removes : (del : Bool) → Stands (record w { stage = cond del Refused AtValue; key = value_of word; found = value_of word == key_of op }) (cond del Refused AtValue)
          removes true = on_few w at.0
          removes false = at.0
  key_fed w false true word test at = let same = at.1 in let some = not_zero (value_of w.left) test in follow w true w.left at.0 (omega (arith, same, some)) same
  key_fed w false false word test at = (at.0, let same = at.1 in let some = not_zero (value_of w.left) test in omega (arith, same, some))

  fed_stands : (w : Walk) (stage : Stage) (p word : ℕ) → Stands w stage → wanted_at w stage ≡ Some p → (is_lock_place p ≡ false → cells p ≡ word)
      → Stands (fed b op w stage word) (fed b op w stage word).stage
  fed_stands w AtRoot p word at want reads = let same = some_eq (left_of 0) p want in
      root_fed w word at.1 (ap value_of (ap cells same ∙ reads (ap is_lock_place (sym same) ∙ unlocked 0 2 (omega arith) (omega arith))))
  fed_stands w AtLeft p word at want reads = let same = some_eq (left_of (node_of w)) p want in
      (at, ap value_of (ap cells same ∙ reads (ap is_lock_place (sym same) ∙ unlocked (node_of w) 2 (omega arith) (omega arith))))
  fed_stands w AtKey p word at want reads = key_fed w (value_of w.left == 0) (nat_lt (key_of op) (value_of word)) word refl at
  fed_stands w AtRight p word at want reads = let same = some_eq (right_of (node_of w)) p want in
      follow w false word at.0 at.1 (ap value_of (ap cells same ∙ reads (ap is_lock_place (sym same) ∙ unlocked (node_of w) 3 (omega arith) (omega arith))))
  fed_stands w AtValue p word at want reads = at
  fed_stands w AtGrandLock p word at want reads = by (is_ready b word)
    where
      by : (c : Bool) → Stands (record w { stage = cond c AtGrandMark Refused; grand_lock = word }) (cond c AtGrandMark Refused)
      by true = at
      by false = on_few w at.0
  fed_stands w AtGrandMark p word at want reads = by (value_of word == 0)
    where
      by : (c : Bool) → Stands (record w { stage = cond c AtLock Refused; grand_mark = word }) (cond c AtLock Refused)
      by true = at.0
      by false = on_few w at.0
  fed_stands w AtLock p word at want reads = by (is_ready b word)
    where
      by : (c : Bool) → Stands (record w { stage = cond c AtMark Refused; lock = word }) (cond c AtMark Refused)
      by true = at
      by false = on_few w at
  fed_stands w AtMark p word at want reads = by (value_of word == 0)
    where
      by : (c : Bool) → Stands (record w { stage = cond c AtEnd Refused; mark = word }) (cond c AtEnd Refused)
      by true = at
      by false = on_few w at
  fed_stands w AtEnd p word at want reads = absurd (none-some p want)
  fed_stands w Refused p word at want reads = absurd (none-some p want)

  pub read_stands : (readings : Readings) → StandIn tree cells readings → Stands (walk b op start readings) (walk b op start readings).stage
  read_stands readings stand = walk_keeps _ _ _ (λ w. Stands w w.stage)
      (λ reading. is_lock_place reading.0 ≡ false → cells reading.0 ≡ reading.1)
      (λ w reading want here at. fed_stands w w.stage reading.0 reading.1 at want here) start readings
      (λ i reading h. stand i reading.0 reading.1 h) (refl, refl)

  -- a mark that is wanted next is 0
  pub mark_zero : (w : Walk) (stage : Stage) (p : ℕ) → Stands w stage → wanted_at w stage ≡ Some p → p % 5 ≡ 4 → value_of (cells p) ≡ 0
  mark_zero w AtRoot p at want mark = absurd (let same = some_eq (left_of 0) p want in omega (arith, same, mark))
  mark_zero w AtLeft p at want mark = absurd (let same = some_eq (left_of (node_of w)) p want in omega (arith, same, mark))
  mark_zero w AtKey p at want mark = absurd (let same = some_eq (key_cell (node_of w)) p want in omega (arith, same, mark))
  mark_zero w AtRight p at want mark = absurd (let same = some_eq (right_of (node_of w)) p want in omega (arith, same, mark))
  mark_zero w AtValue p at want mark = absurd (let same = some_eq (right_of (node_of w)) p want in omega (arith, same, mark))
  mark_zero w AtGrandLock p at want mark = absurd (let same = some_eq (lock_of w.grand.from) p want in omega (arith, same, mark))
  mark_zero w AtGrandMark p at want mark = let from = at.0.grand_from at.1 in
      ap (λ q. value_of (cells q)) (sym (some_eq (mark_of w.grand.from) p want)) ∙ stands.unmarked w.grand.from from.linked_there from.inner
  mark_zero w AtLock p at want mark = absurd (let same = some_eq (lock_of w.last.from) p want in omega (arith, same, mark))
  mark_zero w AtMark p at want mark = let from = at.from in
      ap (λ q. value_of (cells q)) (sym (some_eq (mark_of w.last.from) p want)) ∙ stands.unmarked w.last.from from.linked_there from.inner
  mark_zero w AtEnd p at want mark = absurd (none-some p want)
  mark_zero w Refused p at want mark = absurd (none-some p want)
