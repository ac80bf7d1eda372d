use Rattle.std.proofs.Common.{◌≡◌, [], subst, arith}
use Rattle.tree_walks.specs.structure_laws.specs.table_words.specs.Places.{slot_count}
use Rattle.leaf_tree.specs.Stands.{Gathers}
use Rattle.leaf_tree.proofs.Gathering.{within, gathered, all_gathered}
use Rattle.leaf_tree.proofs.Standing.{most_slots, no_items}
use Rattle.leaf_tree.proofs.tree.LeafTree.pairs.Goals as goal

pub returns-in_default : goal.returns-in_default
returns-in_default c = record {
  contents = λ pairs stand.
      let none : c.loop-made.waiting.items ≡ [] = no_items c.loop-made.waiting.items (λ some. c.in_default.ensures.variant.1 (let count = c.loop-made.waiting.ok.0 in omega (arith, count, some))) in
      gathered (slot_count c.args.words.now.layout 3) stand.cells pairs stand.stands c.loop-made._made c.loop-made.items.items
      (subst (λ xs. Gathers c.args.words.now pairs stand c.loop-made._made xs c.loop-made.items.items) none (c.loop-made.invariant.gathers pairs stand));
}

pub visit-requires : goal.visit-requires
visit-requires c = record {
  slot =
      let pairs = c.requires.stand.0 in let stand = c.requires.stand.1 in
      within (slot_count c.args.words.now.layout 3) stand.cells pairs stand.stands c.loop-made._made c.pop.new.self.items c.in-Some.slot c.loop-made.items.items
      (subst (λ xs. Gathers c.args.words.now pairs stand c.loop-made._made xs c.loop-made.items.items) c.in-Some.ensures.items (c.loop-made.invariant.gathers pairs stand));
}

pub loop-made-preserved : goal.loop-made-preserved
loop-made-preserved c = record {
  gathers = λ pairs stand. c.in_ok-visit.ensures.visited pairs stand c.loop-made._made
      (subst (λ xs. Gathers c.args.words.now pairs stand c.loop-made._made xs c.loop-made.items.items) c.in-Some.ensures.items (c.loop-made.invariant.gathers pairs stand));
}

pub returns : goal.returns
returns c = record {
  contents = λ pairs stand. all_gathered (slot_count c.args.words.now.layout 3) stand.cells pairs stand.stands c.loop-made._made c.loop-made.waiting.items c.loop-made.items.items
      (c.loop-made.invariant.gathers pairs stand) (let most = most_slots c.args.words.now c.words_are_reached.ensures.limits in let end = c.loop-made-test.false in omega (arith, most, end));
}
