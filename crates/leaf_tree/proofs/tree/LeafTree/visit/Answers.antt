use Rattle.std.proofs.Common.{◌+◌, sym, subst, arith}
use Rattle.leaf_tree.specs.Stands.{Gathers}
use Rattle.leaf_tree.proofs.Standing.{visits_inner, visits_leaf, visits_sentinel}
use Rattle.leaf_tree.proofs.tree.LeafTree.visit.Goals as goal

pub returns-then-left-ne0 : goal.returns-then-left-ne0
returns-then-left-ne0 c = record {
  visited = λ pairs stand made so. subst (λ xs. Gathers c.args.words.now pairs stand (made + 1) xs c.args.items.now.items) (sym c.in_ok-let_wait.ensures.waits)
      (visits_inner c.args.words.now pairs stand made c.args.slot c.args.waiting.now.items c.args.items.now.items so c.requires.slot c.node-left.result c.node-right.result
      c.node-left.ensures c.node-right.ensures c.if-left-ne0.true);
}

pub returns-then-slot-lt-FIRST_REAL : goal.returns-then-slot-lt-FIRST_REAL
returns-then-slot-lt-FIRST_REAL c = record {
  visited = λ pairs stand made so. visits_sentinel c.args.words.now pairs stand made c.args.slot c.args.waiting.now.items c.args.items.now.items so c.requires.slot c.node-left.result
      c.node-right.result c.node-left.ensures c.node-right.ensures c.if-left-ne0.false c.if-slot-lt-FIRST_REAL.true;
}

pub returns : goal.returns
returns c = record {
  visited = λ pairs stand made so. subst (λ xs. Gathers c.args.words.now pairs stand (made + 1) c.args.waiting.now.items xs) (sym c.in_ok-push.ensures.items)
      (visits_leaf c.args.words.now pairs stand made c.args.slot c.args.waiting.now.items c.args.items.now.items so c.requires.slot c.node-left.result c.node-right.result
      c.node-left.ensures c.node-right.ensures c.if-left-ne0.false (let high = c.if-slot-lt-FIRST_REAL.false in omega (arith, high)) c.node-key.result c.node-key.ensures);
}
