use Rattle.std.proofs.Common.{sym, subst, arith}
use Rattle.list_walks.specs.structure_laws.specs.table_words.specs.Places.{slot_count}
use Rattle.sorted_list.specs.Stands.{Gathers}
use Rattle.sorted_list.proofs.Gathering.{within, few, gathered}
use Rattle.sorted_list.proofs.Standing.{begins_at, most_slots}
use Rattle.sorted_list.proofs.list.SortedList.pairs.Goals as goal

pub loop-passed-init : goal.loop-passed-init
loop-passed-init c = record {
  gathers = λ pairs stand. subst (λ items. Gathers c.args.words.now pairs stand 0 c.behind-slot.result items) (sym c.new-items.ensures.items)
      (begins_at c.args.words.now pairs stand c.behind-slot.result c.behind-slot.ensures);
}

pub returns-then-slot-eq-TAIL : goal.returns-then-slot-eq-TAIL
returns-then-slot-eq-TAIL c = record {
  contents = λ pairs stand. gathered (slot_count c.args.words.now.layout 2) stand.cells pairs stand.stands c.loop-passed._passed c.loop-passed.items.items
      (subst (λ slot. Gathers c.args.words.now pairs stand c.loop-passed._passed slot c.loop-passed.items.items) c.if-slot-eq-TAIL.true (c.loop-passed.invariant.gathers pairs stand));
}

pub pass-requires-clause-slot : goal.pass-requires-clause-slot
pass-requires-clause-slot c =
    let pairs = c.requires.stand.0 in let stand = c.requires.stand.1 in
    within (slot_count c.args.words.now.layout 2) stand.cells pairs stand.stands c.loop-passed._passed c.loop-passed.slot c.loop-passed.items.items (c.loop-passed.invariant.gathers pairs stand)

pub loop-passed-preserved : goal.loop-passed-preserved
loop-passed-preserved c = record {
  gathers = λ pairs stand. c.in_ok-slot.ensures.passed pairs stand c.loop-passed._passed (c.loop-passed.invariant.gathers pairs stand);
}

pub returns : goal.returns
returns c = record {
  contents = λ pairs stand. absurd
      (let low = few (slot_count c.args.words.now.layout 2) stand.cells pairs stand.stands c.loop-passed._passed c.loop-passed.slot c.loop-passed.items.items (c.loop-passed.invariant.gathers pairs stand) in
      let most = most_slots c.args.words.now c.words_are_reached.ensures.limits in let end = c.loop-passed-test.false in omega (arith, low, most, end));
}
