-- A walk over cells that stand as they were read.
use Rattle.std.proofs.Common.{◌≡◌, ℕ, suc, ◌<◌, ◌≤◌, Bool, true, false, cond, refl, sym, ap, subst, ◌∙◌, arith, Some}
use Rattle.std.specs.Prelude.{◌==◌, nat_le, nat_lt}
use Rattle.std.proofs.lemmas.Option.{none-some}
use Rattle.std.proofs.lemmas.Bool.{true≢false}
use Rattle.structure_laws.specs.table_words.specs.small_lemmas.proofs.Bools.{from_false as false_true}
use Rattle.structure_laws.specs.table_words.specs.small_lemmas.proofs.Lists.{same_number as some_eq}
use Rattle.structure_laws.specs.table_words.specs.small_lemmas.proofs.Numbers.{tested_some as not_zero, tested_less as below_of, tested_not_less as above_of}
use Rattle.structure_laws.specs.map_history.specs.declared.op.Op.{Op}
use Rattle.structure_laws.specs.map_history.specs.Keys.{key_of}
use Rattle.structure_laws.specs.map_history.specs.Replay.{Pairs}
use Rattle.structure_laws.specs.body_terms.specs.Word.{value_of}
use Rattle.structure_laws.specs.Scene.{Cells, Readings}
use Rattle.structure_laws.proofs.Changes.{equal_of}
use Rattle.tree_laws.specs.node_laws.proofs.Walked.{walk_keeps}
use Rattle.tree_laws.specs.bucket_laws.specs.Walk.{Bounds, is_del}
use Rattle.plain_laws.specs.Runs.{AreRead}
use Rattle.tree_laws.specs.tree_bodies.specs.Tree.{key_cell, left_of, right_of, child_of, slot_in}
use Rattle.tree_laws.specs.Search.{Nodes, Covers, IsInner, IsLeaf}
use Rattle.tree_laws.specs.Walk.{Stage, AtRoot, AtLeft, AtKey, AtRight, AtValue, AtGrandLock, AtGrandMark, AtLock, AtMark, AtEnd, Refused, Step, step_to, Walk, start, node_of, wanted_at, is_ready, after_leaf, followed, at_key, fed, walk}
use Rattle.tree_laws.specs.Leaves.{nodes, TreeStands}
use Rattle.tree_laws.specs.Landing.{IsOnPath}

module _ (slots : ℕ) (cells : Cells) (pairs : Pairs) (stands : TreeStands slots cells pairs) (b : Bounds) (op : Op) (low : key_of op ≤ 4294967293) where
  abbrev n : Nodes
  n = nodes cells

  abbrev c : Covers
  c = stands.covers

  abbrev key : ℕ
  key = key_of op

  -- a link of a linked inner node; one to the right stands in a node with no greater key
  pub record IsLink (step : Step) : Type 0 where
    pub linked : c.linked step.from ≡ true
    pub inner : IsInner n step.from
    pub right : step.side ≡ false → n.key step.from ≤ key

  pub record Trail (last grand : Step) (deep : Bool) : Type 0 where
    pub link : IsLink last
    pub above : deep ≡ true → IsLink grand
    pub node : IsOnPath c key (step_to last)

  abbrev pub TrailOf : Walk → Type 0
  TrailOf w = Trail w.last w.grand w.deep

  -- at a leaf, whose key is that of the walk
  pub record Ended (last grand : Step) (deep : Bool) (seen : ℕ) : Type 0 where
    pub trail : Trail last grand deep
    pub leaf : IsLeaf n (step_to last)
    pub keyed : n.key (step_to last) ≡ seen

  abbrev pub EndedOf : Walk → Type 0
  EndedOf w = Ended w.last w.grand w.deep w.key

  abbrev pub Knows : Walk → Stage → Type 0
  Knows w AtRoot = w.deep ≡ false
  Knows w AtLeft = TrailOf w
  Knows w AtKey = TrailOf w × (cells (left_of (node_of w)) ≡ w.left)
  Knows w AtRight = TrailOf w × IsInner n (node_of w) × (n.key (node_of w) ≤ key)
  Knows w AtValue = EndedOf w
  Knows w AtGrandLock = EndedOf w
  Knows w AtGrandMark = EndedOf w
  Knows w AtLock = EndedOf w
  Knows w AtMark = EndedOf w
  Knows w AtEnd = EndedOf w
  Knows w Refused = Unit {0}

  -- a child on the key's side is on its path
  child_path : (side : Bool) (s t : ℕ) → IsOnPath c key s → IsInner n s → n.child side s ≡ suc t → (side ≡ true → key < n.key s) → (side ≡ false → n.key s ≤ key) → IsOnPath c key t
  child_path true s t at inner leads less more = record {
    linked = stands.tree.child_linked true s t at.linked inner leads;
    lo = subst (λ k. k ≤ key) (sym (stands.tree.child_lo true s t at.linked inner leads)) at.lo;
    hi = subst (λ k. key < k) (sym (stands.tree.child_hi true s t at.linked inner leads)) (less refl);
  }
  child_path false s t at inner leads less more = record {
    linked = stands.tree.child_linked false s t at.linked inner leads;
    lo = subst (λ k. k ≤ key) (sym (stands.tree.child_lo false s t at.linked inner leads)) (more refl);
    hi = subst (λ k. key < k) (sym (stands.tree.child_hi false s t at.linked inner leads)) at.hi;
  }

  knows_link : (w : Walk) (none far : Bool) → (none ≡ false → TrailOf w) → Knows w (cond none Refused (cond far Refused AtLeft))
  knows_link w true far trail = tt
  knows_link w false true trail = tt
  knows_link w false false trail = trail refl

  leads_to : (side : Bool) (s word : ℕ) → cells (child_of side s) ≡ word → (value_of word == 0) ≡ false → n.child side s ≡ suc (slot_in word)
  leads_to true s word there some = ap value_of there ∙ (let more = not_zero (value_of word) some in let z : value_of word ≡ suc (slot_in word) = omega (arith, more) in z)
  leads_to false s word there some = ap value_of there ∙ (let more = not_zero (value_of word) some in let z : value_of word ≡ suc (slot_in word) = omega (arith, more) in z)

  knows_followed : (w : Walk) (side : Bool) (word : ℕ) → TrailOf w → IsInner n (node_of w) → cells (child_of side (node_of w)) ≡ word
      → (side ≡ true → key < n.key (node_of w)) → (side ≡ false → n.key (node_of w) ≤ key) → Knows (followed b w side word) (followed b w side word).stage
  knows_followed w side word trail inner there less more = knows_link (followed b w side word) (value_of word == 0) (nat_le b.links (suc w.links))
      (λ some. record {
        link = record { linked = trail.node.linked; inner = inner; right = more };
        above = λ deep. trail.link;
        node = child_path side (node_of w) (slot_in word) trail.node inner (leads_to side (node_of w) word there some) less more;
      })

  knows_leaf : (w : Walk) (seen : ℕ) (found : Bool) → Ended w.last w.grand w.deep seen → Knows (record w { stage = after_leaf op w.deep found; key = seen; found = found }) (after_leaf op w.deep found)
  knows_leaf w seen false ended = ended
  knows_leaf w seen true ended = by (is_del op) w.deep
    where
      by : (del deep : Bool) → Knows (record w { stage = cond del (cond deep AtGrandLock Refused) AtValue; key = seen; found = true }) (cond del (cond deep AtGrandLock Refused) AtValue)
      by true true = ended
      by true false = tt
      by false deep = ended

  knows_key : (w : Walk) (leaf less : Bool) (word : ℕ) → TrailOf w → cells (left_of (node_of w)) ≡ w.left → cells (key_cell (node_of w)) ≡ word
      → (value_of w.left == 0) ≡ leaf → nat_lt key (value_of word) ≡ less → Knows (at_key b op w leaf less word) (at_key b op w leaf less word).stage
  knows_key w true less word trail left there is_leaf is_less = knows_leaf w (value_of word) (value_of word == key_of op)
      (record { trail = trail; leaf = ap value_of left ∙ equal_of (value_of w.left) 0 is_leaf; keyed = ap value_of there })
  knows_key w false true word trail left there is_leaf is_less = knows_followed w true w.left trail (subst (λ v. 0 < value_of v) (sym left) (not_zero (value_of w.left) is_leaf)) left
      (λ e. subst (λ v. key < value_of v) (sym there) (below_of key (value_of word) is_less)) (λ e. absurd (true≢false e))
  knows_key w false false word trail left there is_leaf is_less = (
    trail,
    subst (λ v. 0 < value_of v) (sym left) (not_zero (value_of w.left) is_leaf),
    subst (λ v. value_of v ≤ key) (sym there) (above_of key (value_of word) is_less),
  )

  knows_tested : (w : Walk) (stage : Stage) (passes : Bool) → Knows w stage → Knows w (cond passes stage Refused)
  knows_tested w stage true known = known
  knows_tested w stage false known = tt

  root_path : (word : ℕ) → cells (left_of 0) ≡ word → (value_of word == 0) ≡ false → IsOnPath c key (slot_in word)
  root_path word there some = child_path true 0 (slot_in word)
      (record {
        linked = stands.tree.root;
        lo = (let e = stands.tree.root_lo in omega (arith, e));
        hi = (let e = stands.tree.root_hi in omega (arith, e, low));
      })
      stands.tree.root_inner (leads_to true 0 word there some)
      (λ e. let k = stands.sentinels.root_key in omega (arith, k, low)) (λ e. absurd (true≢false e))

  at_place : (p q word : ℕ) → q ≡ p → cells p ≡ word → cells q ≡ word
  at_place p q word same there = ap cells same ∙ there

  knows_fed : (w : Walk) (stage : Stage) (p word : ℕ) → Knows w stage → wanted_at w stage ≡ Some p → cells p ≡ word → Knows (fed b op w stage word) (fed b op w stage word).stage
  knows_fed w AtRoot p word shallow want there = knows_link (fed b op w AtRoot word) (value_of word == 0) (nat_le b.links 1) (λ some. record {
    link = record { linked = stands.tree.root; inner = stands.tree.root_inner; right = λ e. absurd (true≢false e) };
    above = λ deep. false_true (sym shallow ∙ deep);
    node = root_path word (at_place p (left_of 0) word (some_eq (left_of 0) p want) there) some;
  })
  knows_fed w AtLeft p word trail want there = (trail, at_place p (left_of (node_of w)) word (some_eq (left_of (node_of w)) p want) there)
  knows_fed w AtKey p word known want there = knows_key w (value_of w.left == 0) (nat_lt key (value_of word)) word known.0 known.1
      (at_place p (key_cell (node_of w)) word (some_eq (key_cell (node_of w)) p want) there) refl refl
  knows_fed w AtRight p word known want there = knows_followed w false word known.0 known.1
      (at_place p (right_of (node_of w)) word (some_eq (right_of (node_of w)) p want) there) (λ e. false_true e) (λ e. known.2)
  knows_fed w AtValue p word known want there = known
  knows_fed w AtGrandLock p word known want there = knows_tested (fed b op w AtGrandLock word) AtGrandMark (is_ready b word) known
  knows_fed w AtGrandMark p word known want there = knows_tested (fed b op w AtGrandMark word) AtLock (value_of word == 0) known
  knows_fed w AtLock p word known want there = knows_tested (fed b op w AtLock word) AtMark (is_ready b word) known
  knows_fed w AtMark p word known want there = knows_tested (fed b op w AtMark word) AtEnd (value_of word == 0) known
  knows_fed w AtEnd p word known want there = absurd (none-some p want)
  knows_fed w Refused p word known want there = absurd (none-some p want)

  -- a walk that is whole has come to the leaf on the key's path
  pub walk_ends : (readings : Readings) → AreRead cells readings → (walk b op start readings).stage ≡ AtEnd → EndedOf (walk b op start readings)
  walk_ends readings read at = subst (Knows (walk b op start readings)) at
      (walk_keeps _ _ _ (λ w. Knows w w.stage) (λ reading. cells reading.0 ≡ reading.1)
      (λ w reading want here known. knows_fed w w.stage reading.0 reading.1 known want here) start readings
      (λ i reading h. read i reading.0 reading.1 h) refl)
