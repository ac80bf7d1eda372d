-- A node of the list that is made in a slot that isn't reached.
use Rattle.std.proofs.Common.{◌≡◌, ◌≢◌, ℕ, suc, ◌*◌, ◌<◌, ◌≤◌, true, false, List, [], ◌∷◌, refl, sym, ap, ◌∙◌, arith}
use Rattle.std.specs.Prelude.{◌^◌}
use Rattle.std.specs.FinMap.{get}
use Rattle.std.proofs.lemmas.Bool.{both_ways}
use Rattle.structure_laws.specs.map_history.specs.Replay.{Pairs}
use Rattle.structure_laws.specs.body_terms.specs.Memory.{cell_of}
use Rattle.structure_laws.specs.body_terms.specs.Word.{value_of}
use Rattle.structure_laws.specs.Scene.{Cells}
use Rattle.list_laws.specs.Line.{Nodes, rank, Line, Contents}
use Rattle.list_laws.specs.Nodes.{nodes, ListStands}
use Rattle.list_laws.proofs.Contents.{contents_as}
use Rattle.list_laws.proofs.Frame.{IsSameNode, line_same}
use Rattle.list_laws.proofs.Line.{rank_unmarked}
use Rattle.list_laws.proofs.Turn.{unfixed}
use Rattle.plain_laws.proofs.Filled.{one_other, value_words, valued_slot, slot_value}

module _ (slots : ℕ) (cells : Cells) (pairs : Pairs) (stands : ListStands slots cells pairs) (f key next value : ℕ)
    (out : stands.linked f ≡ false) where
  abbrev values : List ℕ
  values = 0 ∷ key ∷ next ∷ value ∷ 0 ∷ []

  abbrev pub made : Cells
  made = valued_slot cells 0 f values

  abbrev pub made_nodes : Nodes
  made_nodes = nodes made

  -- it is neither the head nor the tail, nor any other linked node
  other : (t : ℕ) → stands.linked t ≡ true → t ≢ f
  other t on e = both_ways _ out (sym (ap stands.linked e) ∙ on)

  some : f ≢ 0
  some e = other 0 stands.line.head (sym e)

  new_low : 2 ≤ f
  new_low = unfixed f some (λ e. other 1 stands.line.tail (sym e))

  stays : (t cell : ℕ) → cell < 5 → stands.linked t ≡ true → made (cell_of 0 t cell) ≡ cells (cell_of 0 t cell)
  stays t cell low on = one_other cells 0 f (value_words cells 0 f values) t cell low (other t on)

  same_node : (t : ℕ) → stands.linked t ≡ true → IsSameNode (nodes cells) made_nodes t
  same_node t on = record {
    key = ap value_of (stays t 1 (omega arith) on);
    next = ap value_of (stays t 2 (omega arith) on);
    value = ap value_of (stays t 3 (omega arith) on);
    mark = ap value_of (stays t 4 (omega arith) on);
  }

  -- so the line stays, and the pairs
  made_line : Line made_nodes stands.linked
  made_line = line_same (nodes cells) made_nodes stands.linked
      (λ t on. let same = same_node t on in (same.key, same.next, same.mark)) stands.line

  made_map : Contents made_nodes stands.linked (get pairs)
  made_map = contents_as (nodes cells) made_nodes stands.linked (get pairs) (get pairs)
      (λ t on. let same = same_node t on in (same.key, same.value)) (λ q. refl) stands.contents

  -- what the new node holds
  own_key : key < 2 ^ 32 → made_nodes.key f ≡ key
  own_key = slot_value cells 0 f values 1 key (omega arith) refl

  own_next : next < 2 ^ 32 → made_nodes.next f ≡ next
  own_next = slot_value cells 0 f values 2 next (omega arith) refl

  own_value : value < 2 ^ 32 → made_nodes.value f ≡ value
  own_value = slot_value cells 0 f values 3 value (omega arith) refl

  own_mark : made_nodes.mark f ≡ 0
  own_mark = slot_value cells 0 f values 4 0 (omega arith) refl (omega arith)

  own_rank : key < 2 ^ 32 → rank made_nodes f ≡ suc (suc (2 * key))
  own_rank small = rank_unmarked made_nodes f some own_mark ∙ ap (λ k. suc (suc (2 * k))) (own_key small)

  -- what the memory then holds: the linked nodes as they were, so the line and the pairs, and the new node
  pub record HasNew : Type 0 where
    pub low : 2 ≤ f
    pub stays : (t cell : ℕ) → cell < 5 → stands.linked t ≡ true → made (cell_of 0 t cell) ≡ cells (cell_of 0 t cell)
    pub same : (t : ℕ) → stands.linked t ≡ true → IsSameNode (nodes cells) made_nodes t
    pub line : Line made_nodes stands.linked
    pub map : Contents made_nodes stands.linked (get pairs)
    pub key_is : key < 2 ^ 32 → made_nodes.key f ≡ key
    pub next_is : next < 2 ^ 32 → made_nodes.next f ≡ next
    pub value_is : value < 2 ^ 32 → made_nodes.value f ≡ value
    pub mark_is : made_nodes.mark f ≡ 0
    pub rank_is : key < 2 ^ 32 → rank made_nodes f ≡ suc (suc (2 * key))

  pub has_new : HasNew
  has_new = record {
    low = new_low;
    stays = stays;
    same = same_node;
    line = made_line;
    map = made_map;
    key_is = own_key;
    next_is = own_next;
    value_is = own_value;
    mark_is = own_mark;
    rank_is = own_rank;
  }
