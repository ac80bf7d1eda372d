-- A walk of the list over cells that stand as they were read ends in its key's place.
use Rattle.std.proofs.Common.{◌≡◌, ◌≢◌, ℕ, suc, ◌*◌, ◌<◌, ◌≤◌, Bool, true, false, Some, None, refl, sym, ap, ◌∙◌, subst, ⊎_elim, arith}
use Rattle.std.specs.Prelude.{nat_lt}
use Rattle.std.specs.FinMap.{get}
use Rattle.std.proofs.lemmas.Bool.{cases_eq}
use Rattle.std.proofs.lemmas.Option.{none-some}
use Rattle.structure_laws.specs.table_words.specs.small_lemmas.proofs.Lists.{same_number, none_if_never}
use Rattle.structure_laws.specs.table_words.specs.small_lemmas.proofs.Numbers.{tested_less, tested_equal, tested_other}
use Rattle.structure_laws.specs.map_history.specs.declared.op.Op.{Op}
use Rattle.structure_laws.specs.map_history.specs.Keys.{key_of}
use Rattle.structure_laws.specs.map_history.specs.Replay.{Pairs}
use Rattle.structure_laws.specs.body_terms.specs.Word.{value_of}
use Rattle.structure_laws.specs.Scene.{Cells, Readings}
use Rattle.tree_laws.specs.node_laws.proofs.Walked.{walk_keeps}
use Rattle.tree_laws.specs.bucket_laws.specs.Walk.{Bounds, is_del}
use Rattle.list_laws.specs.list_bodies.specs.List.{key_cell, next_of}
use Rattle.list_laws.specs.Line.{Nodes, rank, last_key}
use Rattle.list_laws.specs.Walk.{Stage, AtLink, AtKey, AtValue, AtLock, AtMark, AtNodeLock, AtNodeMark, AtEnd, Refused}
use Rattle.list_laws.specs.Walk.{Walk, start, node_of, wanted_at, at_key, fed, walk}
use Rattle.list_laws.specs.Nodes.{nodes, ListStands}
use Rattle.list_laws.proofs.Line.{rank_unmarked, rank_low, rank_high, above_head, none_between, le_or}
use Rattle.list_laws.proofs.Near.{IsOnLine, Stands, read_stands}
use Rattle.list_laws.proofs.Open.{leads_to}
use Rattle.list_laws.proofs.Turn.{unfixed}
use Rattle.list_laws.proofs.WalkReads.{IsAmong, HasRead, walk_reads, end_reads}
use Rattle.plain_laws.specs.Runs.{AreRead}

module _ (slots : ℕ) (cells : Cells) (pairs : Pairs) (stands : ListStands slots cells pairs) (b : Bounds) (op : Op)
    (readings : Readings) (read : AreRead cells readings) where
  abbrev n : Nodes
  n = nodes cells

  abbrev key : ℕ
  key = key_of op

  abbrev w : Walk
  w = walk b op start readings

  -- the predecessor is the head or has a lower key
  abbrev IsBelow : Walk → Type 0
  IsBelow w = w.from ≢ 0 → n.key w.from < key

  key_below : (w : Walk) (less : Bool) (place word : ℕ) → nat_lt (value_of word) key ≡ less → IsBelow w
      → Some (key_cell (node_of w)) ≡ Some place → cells place ≡ word → IsBelow (at_key op w less word)
  key_below w true place word test below want there = λ some. subst (λ k. value_of k < key)
      (sym (ap cells (same_number (key_cell (node_of w)) place want) ∙ there)) (tested_less (value_of word) key test)
  key_below w false place word test below want there = below

  fed_below : (w : Walk) (stage : Stage) (place word : ℕ) → IsBelow w → wanted_at w stage ≡ Some place
      → cells place ≡ word → IsBelow (fed b op w stage word)
  fed_below w AtLink place word below want there = below
  fed_below w AtKey place word below want there = key_below w (nat_lt (value_of word) key) place word refl below want
      there
  fed_below w AtValue place word below want there = below
  fed_below w AtLock place word below want there = below
  fed_below w AtMark place word below want there = below
  fed_below w AtNodeLock place word below want there = below
  fed_below w AtNodeMark place word below want there = below
  fed_below w AtEnd place word below want there = absurd (none-some place want)
  fed_below w Refused place word below want there = absurd (none-some place want)

  from_key : w.from ≢ 0 → n.key w.from < key
  from_key = walk_keeps _ _ _ IsBelow (λ reading. cells reading.0 ≡ reading.1)
      (λ w reading want here below. fed_below w w.stage reading.0 reading.1 below want here) start readings
      (λ i reading h. read i reading.0 reading.1 h) (λ some. absurd (some refl))

  -- a walk at its end
  module _ (low : key < last_key) (whole : w.stage ≡ AtEnd) where
    reads : HasRead readings b op w 7
    reads = end_reads readings b op w whole (walk_reads readings b op)

    on_line : IsOnLine slots cells pairs stands b op w
    on_line = subst (Stands slots cells pairs stands b op w) whole
        (read_stands slots cells pairs stands b op readings (λ i place word at free. read i place word at))

    stood : (p word : ℕ) → IsAmong readings p word → cells p ≡ word
    stood p word among = read among.0 p word among.1

    abbrev node : ℕ
    node = node_of w

    -- the predecessor's link leads to the node
    link_there : cells (next_of w.from) ≡ w.link
    link_there = stood (next_of w.from) w.link (reads.link_read (omega arith))

    link_some : 0 < value_of w.link
    link_some = reads.some (omega arith)

    link_leads : n.next w.from ≡ suc node
    link_leads = ap value_of link_there ∙ leads_to (value_of w.link) link_some

    from_tail : w.from ≢ 1
    from_tail e = let none : n.next w.from ≡ 0 = ap n.next e ∙ stands.line.tail_end in let leads = link_leads in
        omega (arith, none, leads)

    rises : rank n w.from < rank n node
    rises = (stands.line.next_on w.from node on_line.from from_tail link_leads).1

    node_head : node ≢ 0
    node_head = above_head n w.from node rises

    node_key : n.key node ≡ w.key
    node_key = let loaded = reads.key_read (omega arith) in
        ap value_of (stood (key_cell node) loaded.0 loaded.1) ∙ loaded.2

    found_key : w.found ≡ true → n.key node ≡ key
    found_key hit = node_key ∙ tested_equal w.key key (sym (reads.found_is (omega arith)) ∙ hit)

    missing_key : w.found ≡ false → key < n.key node
    missing_key missed = let high = reads.key_high (omega arith) in let is = node_key in
        above w.key (n.key node) high is (tested_other w.key key (sym (reads.found_is (omega arith)) ∙ missed))
      where
        above : (a c : ℕ) → key ≤ a → c ≡ a → a ≢ key → key < c
        above a c high is differ = ⊎_elim (λ e. absurd (differ (sym e))) (λ less. omega (arith, less, is))
            (le_or key a high)

    found_inner : w.found ≡ true → node ≢ 1
    found_inner hit e = let is = found_key hit in let few = low in
        let tail : n.key node ≡ last_key = ap n.key e ∙ stands.line.tail_key in omega (arith, is, few, tail)

    found_low : w.found ≡ true → 2 ≤ node
    found_low hit = unfixed node node_head (found_inner hit)

    -- a key that the walk found is in the map with its node's value, and one that it missed isn't
    found_is : w.found ≡ true → get pairs key ≡ Some (n.value node)
    found_is hit = ap (get pairs) (sym (found_key hit)) ∙ stands.contents.pair node on_line.node (found_low hit)

    -- the predecessor ranks below any node with the key
    before_rank : rank n w.from < suc (2 * key)
    before_rank = ⊎_elim
        (λ e. let none : rank n w.from ≡ 0 = ap (rank n) e in omega (arith, none))
        (λ ne. let below = from_key ne in let high = rank_high n w.from ne in omega (arith, below, high))
        (cases_eq w.from 0)

    missing_is : w.found ≡ false → get pairs key ≡ None
    missing_is missed = none_if_never (get pairs key) (λ v h.
        let l = stands.contents.node key v h in
        let two = l.2 in
        let is = rank_unmarked n l.0 (λ e. omega (arith, two, e)) (stands.unmarked l.0 l.1) in
        let same = l.3 in
        let before = before_rank in
        let high = rank_low n node node_head in
        let above = missing_key missed in
        ⊎_elim (λ below. omega (arith, below, is, same, before)) (λ over. omega (arith, over, is, same, high, above))
        (none_between n stands.linked stands.line w.from node l.0 on_line.from from_tail link_leads l.1))

    only_one : w.found ≡ true → (t : ℕ) → stands.linked t ≡ true → 2 ≤ t → n.key t ≡ key → t ≡ node
    only_one hit t on two same = stands.line.rank_once t node on on_line.node
        (rank_unmarked n t (λ e. omega (arith, two, e)) (stands.unmarked t on)
        ∙ (ap (λ k. suc (suc (2 * k))) (same ∙ sym (found_key hit))
        ∙ sym (rank_unmarked n node node_head (stands.unmarked node on_line.node))))

    value_is : w.found ≡ true → is_del op ≡ false → n.value node ≡ w.value
    value_is hit del = let loaded = reads.value_read (omega arith) hit del in
        ap value_of (stood _ loaded.0 loaded.1) ∙ loaded.2

    -- where it has ended, and what stands there
    pub record HasEnded : Type 0 where
      pub reads : HasRead readings b op w 7
      pub stood : (p word : ℕ) → IsAmong readings p word → cells p ≡ word
      pub from : stands.linked w.from ≡ true
      pub from_tail : w.from ≢ 1
      pub node : stands.linked (node_of w) ≡ true
      pub node_head : node_of w ≢ 0
      pub link_there : cells (next_of w.from) ≡ w.link
      pub link_some : 0 < value_of w.link
      pub link_leads : n.next w.from ≡ suc (node_of w)
      pub rises : rank n w.from < rank n (node_of w)
      pub before_rank : rank n w.from < suc (2 * key)
      pub found_key : w.found ≡ true → n.key (node_of w) ≡ key
      pub missing_key : w.found ≡ false → key < n.key (node_of w)
      pub found_inner : w.found ≡ true → node_of w ≢ 1
      pub found_is : w.found ≡ true → get pairs key ≡ Some (n.value (node_of w))
      pub missing_is : w.found ≡ false → get pairs key ≡ None
      pub only_one : w.found ≡ true → (t : ℕ) → stands.linked t ≡ true → 2 ≤ t → n.key t ≡ key → t ≡ node_of w
      pub value_is : w.found ≡ true → is_del op ≡ false → n.value (node_of w) ≡ w.value

    pub walk_ends : HasEnded
    walk_ends = record {
      reads = reads;
      stood = stood;
      from = on_line.from;
      from_tail = from_tail;
      node = on_line.node;
      node_head = node_head;
      link_there = link_there;
      link_some = link_some;
      link_leads = link_leads;
      rises = rises;
      before_rank = before_rank;
      found_key = found_key;
      missing_key = missing_key;
      found_inner = found_inner;
      found_is = found_is;
      missing_is = missing_is;
      only_one = only_one;
      value_is = value_is;
    }
