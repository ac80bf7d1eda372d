-- A walk of the list that reads what stands loads few links, and reads marks of linked nodes alone.
use Rattle.std.specs.Prelude.{◌==◌, ◌&&◌, not, ◌-◌, ◌%◌, nat_le, nat_lt, cond, Bool, true, false, take, slice_get}
use Rattle.std.proofs.Common.{◌≡◌, ◌≢◌, ℕ, suc, ◌+◌, ◌*◌, ◌<◌, ◌≤◌, refl, sym, ap, ◌∙◌, subst, arith, Some}
use Rattle.std.proofs.lemmas.Bool.Decides.{nat_tests}
use Rattle.std.proofs.lemmas.Option.{none-some}
use Rattle.structure_laws.specs.table_words.specs.small_lemmas.proofs.Lists.{same_number}
use Rattle.structure_laws.specs.table_words.specs.small_lemmas.proofs.Numbers.{other_tested, tested_some}
use Rattle.structure_laws.specs.map_history.specs.declared.op.Op.{Op}
use Rattle.structure_laws.specs.map_history.specs.Keys.{key_of}
use Rattle.structure_laws.specs.map_history.specs.Replay.{Pairs}
use Rattle.structure_laws.specs.body_terms.specs.Word.{value_of}
use Rattle.structure_laws.specs.table_words.specs.declared.layout.Layout.{Layout}
use Rattle.structure_laws.specs.table_words.specs.Places.{slot_count}
use Rattle.structure_laws.specs.Scene.{Cells, Readings}
use Rattle.structure_laws.specs.Stand.{StandIn}
use Rattle.structure_laws.specs.Ranks.{lower}
use Rattle.structure_laws.proofs.Changes.{equal_of}
use Rattle.structure_laws.proofs.Front.{front_stands}
use Rattle.structure_laws.proofs.Lower.{lower_few, lower_falls}
use Rattle.bucket_laws.specs.Walk.{Bounds, is_del}
use Rattle.node_laws.proofs.Walked.{walk_keeps}
use Rattle.list_bodies.specs.List.{next_of, mark_of, slot_in}
use Rattle.list_laws.specs.Line.{Nodes, rank}
use Rattle.list_laws.specs.Walk.{Stage, AtLink, AtKey, AtValue, AtLock, AtMark, AtNodeLock, AtNodeMark, AtEnd, Refused}
use Rattle.list_laws.specs.Walk.{Walk, start, node_of, wanted_at, takes_out, is_ready, at_key, fed, walk}
use Rattle.list_laws.specs.Nodes.{nodes, bounds, walk_of, is_lock_place, ListStands, list}
use Rattle.list_laws.specs.Short.{IsOneWalk, ListWalksAreShort}
use Rattle.list_laws.proofs.Open.{leads_to}

-- a node's cell behind its first is no lock
unlocked : (slot r : ℕ) → 1 ≤ r → r < 5 → is_lock_place (0 + 5 * slot + r) ≡ false
unlocked slot r some few = other_tested ((0 + 5 * slot + r) % 5) 0 (λ e. omega (arith, some, few, e))

-- a mark is the last cell of a node
no_mark_place : (t k place : ℕ) → k < 4 → 0 + 5 * t + k ≡ place → place % 5 ≡ 4 → ⊥
no_mark_place t k place low e four = omega (arith, low, e, four)

module _ (slots : ℕ) (cells : Cells) (pairs : Pairs) (stands : ListStands slots cells pairs) (b : Bounds) (op : Op) where
  abbrev n : Nodes
  n = nodes cells

  -- nodes rank the lower the further on they stand
  abbrev ahead : ℕ → ℕ
  ahead t = rank n 1 - rank n t

  abbrev pub below : ℕ → ℕ
  below = lower stands.linked ahead slots

  -- both its nodes are linked; the links that it has loaded and the slots ahead are fewer than there are slots
  pub record IsOnLine (w : Walk) : Type 0 where
    pub from : stands.linked w.from ≡ true
    pub node : stands.linked (node_of w) ≡ true
    pub few : w.links + below (node_of w) < slots

  -- what a walk stands on at each stage
  abbrev pub Stands : Walk → Stage → Type 0
  Stands w AtLink = (stands.linked w.from ≡ true) × (w.links + below w.from < slots)
  Stands w AtKey = IsOnLine w
  Stands w AtValue = IsOnLine w
  Stands w AtLock = IsOnLine w
  Stands w AtMark = IsOnLine w
  Stands w AtNodeLock = IsOnLine w
  Stands w AtNodeMark = IsOnLine w
  Stands w AtEnd = IsOnLine w
  Stands w Refused = w.links ≤ slots

  on_few : (w : Walk) → IsOnLine w → w.links ≤ slots
  on_few w on = let few = on.few in omega (arith, few)

  pub few_links : (w : Walk) (stage : Stage) → Stands w stage → w.links ≤ slots
  few_links w AtLink at = let few = at.1 in omega (arith, few)
  few_links w AtKey at = on_few w at
  few_links w AtValue at = on_few w at
  few_links w AtLock at = on_few w at
  few_links w AtMark at = on_few w at
  few_links w AtNodeLock at = on_few w at
  few_links w AtNodeMark at = on_few w at
  few_links w AtEnd at = on_few w at
  few_links w Refused at = at

  -- the same nodes, at another stage
  moved : (w w' : Walk) → w'.from ≡ w.from → w'.link ≡ w.link → w'.links ≡ w.links → IsOnLine w → IsOnLine w'
  moved w w' e e' e'' on = record {
    from = ap stands.linked e ∙ on.from;
    node = ap (λ l. stands.linked (slot_in l)) e' ∙ on.node;
    few = subst (λ k. k + below (node_of w') < slots) (sym e'')
        (subst (λ l. w.links + below (slot_in l) < slots) (sym e') on.few);
  }

  -- the predecessor's link leads to a node ahead, unless the predecessor is the tail
  link_stands : (w : Walk) (none far : Bool) → (value_of (cells (next_of w.from)) == 0) ≡ none → Stands w AtLink
      → Stands (record w { stage = cond none Refused (cond far Refused AtKey); links = suc w.links; link = cells (next_of w.from) })
      (cond none Refused (cond far Refused AtKey))
  link_stands w true far test at = let few = at.1 in omega (arith, few)
  link_stands w false true test at = let few = at.1 in omega (arith, few)
  link_stands w false false test at =
      let some = tested_some (value_of (cells (next_of w.from))) test in
      let inner : w.from ≢ 1 = λ e. let none : n.next w.from ≡ 0 = ap n.next e ∙ stands.line.tail_end in
      omega (arith, some, none) in
      let leads : n.next w.from ≡ suc (slot_in (cells (next_of w.from))) = leads_to (n.next w.from) some in
      let next = stands.line.next_on w.from (slot_in (cells (next_of w.from))) at.0 inner leads in
      let falls = lower_falls stands.linked ahead slots stands.within w.from (slot_in (cells (next_of w.from))) next.0
      (nearer (rank n w.from) (rank n (slot_in (cells (next_of w.from)))) (rank n 1) next.1
      (stands.line.last (slot_in (cells (next_of w.from))) next.0)) in
      let few = at.1 in
      record { from = at.0; node = next.0; few = omega (arith, few, falls) }
    where
      nearer : (a c e : ℕ) → a < c → c ≤ e → e - c < e - a
      nearer a c e less le = omega (arith, less, le)

  key_stands : (w : Walk) (less : Bool) (word : ℕ) → IsOnLine w → Stands (at_key op w less word) (at_key op w less word).stage
  key_stands w true word on = (on.node, on.few)
  key_stands w false word on = by (value_of word == key_of op) (is_del op)
    where
      by : (found del : Bool) → Stands (record w { stage = cond (found && not del) AtValue AtLock; key = value_of word; found = value_of word == key_of op })
          (cond (found && not del) AtValue AtLock)
      by true true = moved w _ refl refl refl on
      by true false = moved w _ refl refl refl on
      by false del = moved w _ refl refl refl on

  test_stands : (w : Walk) (passes : Bool) (stage : Stage) (lock mark node_lock node_mark : ℕ)
      → ((w' : Walk) → IsOnLine w' → Stands w' stage) → IsOnLine w
      → Stands (record w { stage = cond passes stage Refused; lock = lock; mark = mark; node_lock = node_lock; node_mark = node_mark })
      (cond passes stage Refused)
  test_stands w true stage lock mark node_lock node_mark to on = to _ (moved w _ refl refl refl on)
  test_stands w false stage lock mark node_lock node_mark to on = on_few w on

  mark_stands : (w : Walk) (takes : Bool) → ((w' : Walk) → IsOnLine w' → Stands w' (cond takes AtNodeLock AtEnd))
  mark_stands w true w' on = on
  mark_stands w false w' on = on

  fed_stands : (w : Walk) (stage : Stage) (place word : ℕ) → Stands w stage → wanted_at w stage ≡ Some place
      → (is_lock_place place ≡ false → cells place ≡ word) → Stands (fed b op w stage word) (fed b op w stage word).stage
  fed_stands w AtLink place word at want read =
      let place_is = same_number (next_of w.from) place want in
      let stood = read (subst (λ p. is_lock_place p ≡ false) place_is (unlocked w.from 2 (omega arith) (omega arith))) in
      subst (λ word. Stands (fed b op w AtLink word) (fed b op w AtLink word).stage)
      (ap cells place_is ∙ stood) (link_stands w _ _ refl at)
  fed_stands w AtKey place word at want read = key_stands w (nat_lt (value_of word) (key_of op)) word at
  fed_stands w AtValue place word at want read = moved w _ refl refl refl at
  fed_stands w AtLock place word at want read = test_stands w (is_ready b word) AtMark word w.mark w.node_lock w.node_mark
      (λ w' on. on) at
  fed_stands w AtMark place word at want read = test_stands w (value_of word == 0)
      (cond (takes_out op && w.found) AtNodeLock AtEnd) w.lock word w.node_lock w.node_mark
      (mark_stands w (takes_out op && w.found)) at
  fed_stands w AtNodeLock place word at want read = test_stands w (is_ready b word) AtNodeMark w.lock w.mark word
      w.node_mark (λ w' on. on) at
  fed_stands w AtNodeMark place word at want read = test_stands w (value_of word == 0) AtEnd w.lock w.mark w.node_lock word
      (λ w' on. on) at
  fed_stands w AtEnd place word at want read = absurd (none-some place want)
  fed_stands w Refused place word at want read = absurd (none-some place want)

  pub read_stands : (readings : Readings) → StandIn list cells readings
      → Stands (walk b op start readings) (walk b op start readings).stage
  read_stands readings read = walk_keeps _ _ _ (λ w. Stands w w.stage)
      (λ reading. is_lock_place reading.0 ≡ false → cells reading.0 ≡ reading.1)
      (λ w reading want here at. fed_stands w w.stage reading.0 reading.1 at want here) start readings
      (λ i reading h. read i reading.0 reading.1 h)
      (stands.line.head, none_yet (below 0) (lower_few stands.linked ahead slots stands.within 0 stands.line.head))
    where
      none_yet : (a : ℕ) → a < slots → 0 + a < slots
      none_yet a low = omega (arith, low)

  -- a mark that the walk wants is a linked node's
  pub mark_zero : (w : Walk) (stage : Stage) (place : ℕ) → Stands w stage → wanted_at w stage ≡ Some place
      → place % 5 ≡ 4 → value_of (cells place) ≡ 0
  mark_zero w AtLink place at want four = absurd (no_mark_place w.from 2 place (omega arith) (same_number _ place want) four)
  mark_zero w AtKey place at want four = absurd (no_mark_place (node_of w) 1 place (omega arith) (same_number _ place want) four)
  mark_zero w AtValue place at want four = absurd (no_mark_place (node_of w) 3 place (omega arith) (same_number _ place want) four)
  mark_zero w AtLock place at want four = absurd (no_mark_place w.from 0 place (omega arith) (same_number _ place want) four)
  mark_zero w AtMark place at want four = ap (λ p. value_of (cells p)) (sym (same_number (mark_of w.from) place want))
      ∙ stands.unmarked w.from at.from
  mark_zero w AtNodeLock place at want four = absurd (no_mark_place (node_of w) 0 place (omega arith) (same_number _ place want) four)
  mark_zero w AtNodeMark place at want four = ap (λ p. value_of (cells p))
      (sym (same_number (mark_of (node_of w)) place want)) ∙ stands.unmarked (node_of w) at.node
  mark_zero w AtEnd place at want four = absurd (none-some place want)
  mark_zero w Refused place at want four = absurd (none-some place want)

module _ (layout : Layout) (cells : Cells) (pairs : Pairs) (op : Op) (readings : Readings)
    (stands : list.stands layout cells pairs) (read : StandIn list cells readings) where
  short : (walk_of layout op readings).links ≤ slot_count layout 2
  short = few_links (slot_count layout 2) cells pairs stands (bounds layout) op (walk_of layout op readings)
      (walk_of layout op readings).stage (read_stands (slot_count layout 2) cells pairs stands (bounds layout) op readings read)

  unmarked : IsOneWalk layout op readings → (i place word : ℕ) → slice_get readings i ≡ Some (place, word)
      → place % 5 ≡ 4 → value_of word ≡ 0
  unmarked one i place word at mark =
      let w = walk_of layout op (take i readings) in
      let free = read i place word at (other_tested (place % 5) 0 (λ e. omega (arith, mark, e))) in
      ap value_of (sym free) ∙ mark_zero (slot_count layout 2) cells pairs stands (bounds layout) op w w.stage place
      (read_stands (slot_count layout 2) cells pairs stands (bounds layout) op (take i readings)
      (front_stands list cells readings i read))
      (one i place word at) mark

  -- a walk that is refused, or isn't, hasn't loaded as many links as are too many
  pub not_far : (refused : Bool) → (refused && nat_le (slot_count layout 2 + 8) (walk_of layout op readings).links) ≡ false
  not_far refused = by refused _ short
    where
      by : (refused : Bool) (links : ℕ) → links ≤ slot_count layout 2
          → (refused && nat_le (slot_count layout 2 + 8) links) ≡ false
      by true links few = above (slot_count layout 2 + 8) links (omega (arith, few))
        where
          above : (a c : ℕ) → c < a → nat_le a c ≡ false
          above a c low = grind (arith, nat_tests)
      by false links few = refl

  -- nor was a mark of 1 read
  pub no_mark : IsOneWalk layout op readings → (i place word : ℕ) → slice_get readings i ≡ Some (place, word)
      → (place % 5 == 4) ≡ true → value_of word ≢ 1
  no_mark one i place word at mark is =
      let zero = unmarked one i place word at (equal_of (place % 5) 4 mark) in omega (arith, zero, is)

pub walks_are_short : ListWalksAreShort
walks_are_short = record {
  short = λ layout cells pairs op readings stands read. short layout cells pairs op readings stands read;
  unmarked = λ layout cells pairs op readings stands read. unmarked layout cells pairs op readings stands read;
}
