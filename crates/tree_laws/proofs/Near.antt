-- So no such walk is too far, and none reads a mark of 1.
use Rattle.std.specs.Prelude.{◌==◌, ◌&&◌, ◌%◌, nat_le, Bool, true, false, take, slice_get}
use Rattle.std.proofs.Common.{◌≡◌, ◌≢◌, ℕ, ◌+◌, ◌<◌, ◌≤◌, refl, sym, ap, ◌∙◌, arith, Some}
use Rattle.std.proofs.lemmas.Bool.Decides.{nat_tests}
use Rattle.structure_laws.specs.map_history.specs.declared.op.Op.{Op}
use Rattle.structure_laws.specs.map_history.specs.Replay.{Pairs}
use Rattle.structure_laws.specs.body_terms.specs.Word.{value_of}
use Rattle.structure_laws.specs.table_words.specs.declared.layout.Layout.{Layout}
use Rattle.structure_laws.specs.table_words.specs.Places.{slot_count}
use Rattle.structure_laws.specs.Scene.{Cells, Readings}
use Rattle.structure_laws.proofs.Changes.{equal_of}
use Rattle.structure_laws.specs.Stand.{StandIn}
use Rattle.structure_laws.proofs.Front.{front_stands}
use Rattle.bucket_laws.proofs.Places.{eq_false}
use Rattle.tree_laws.specs.Leaves.{tree, bounds, walk_of}
use Rattle.tree_laws.specs.Short.{IsOneWalk, TreeWalksAreShort}
use Rattle.tree_laws.proofs.Falling.{few_links, read_stands, mark_zero}

module _ (layout : Layout) (cells : Cells) (pairs : Pairs) (op : Op) (readings : Readings) (stands : tree.stands layout cells pairs)
    (read : StandIn tree cells readings) where
  short : (walk_of layout op readings).links ≤ slot_count layout 3
  short = few_links (slot_count layout 3) cells pairs stands (bounds layout) op (walk_of layout op readings) (walk_of layout op readings).stage
      (read_stands (slot_count layout 3) cells pairs stands (bounds layout) op readings read)

  unmarked : IsOneWalk layout op readings → (i place word : ℕ) → slice_get readings i ≡ Some (place, word) → place % 5 ≡ 4 → value_of word ≡ 0
  unmarked one i place word at mark =
      let w = walk_of layout op (take i readings) in
      let free = read i place word at (eq_false (place % 5) 0 (λ e. omega (arith, mark, e))) in
      ap value_of (sym free) ∙ mark_zero (slot_count layout 3) cells pairs stands (bounds layout) op w w.stage place
      (read_stands (slot_count layout 3) cells pairs stands (bounds layout) op (take i readings) (front_stands tree cells readings i read))
      (one i place word at) mark

  -- a walk that is refused, or isn't, hasn't followed as many links as are too many
  pub not_far : (refused : Bool) → (refused && nat_le (slot_count layout 3 + 8) (walk_of layout op readings).links) ≡ false
  not_far refused = by refused _ short
    where
      by : (refused : Bool) (links : ℕ) → links ≤ slot_count layout 3 → (refused && nat_le (slot_count layout 3 + 8) links) ≡ false
      by true links few = above (slot_count layout 3 + 8) links (omega (arith, few))
        where
          above : (a c : ℕ) → c < a → nat_le a c ≡ false
          above a c low = grind (arith, nat_tests)
      by false links few = refl

  -- nor was a mark of 1 read
  pub no_mark : IsOneWalk layout op readings → (i place word : ℕ) → slice_get readings i ≡ Some (place, word) → (place % 5 == 4) ≡ true → value_of word ≢ 1
  no_mark one i place word at mark is =
      let zero = unmarked one i place word at (equal_of (place % 5) 4 mark) in omega (arith, zero, is)

pub walks_are_short : TreeWalksAreShort
walks_are_short = record {
  short = λ layout cells pairs op readings stands read. short layout cells pairs op readings stands read;
  unmarked = λ layout cells pairs op readings stands read. unmarked layout cells pairs op readings stands read;
}
