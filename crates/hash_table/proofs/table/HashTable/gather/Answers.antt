use Rattle.std.proofs.Common.{◌+◌, ◌-◌, sym, subst, arith}
use mathlib.Core.Logic.{dite}
use native.Mathlib.Decide.{ℕ_discrete}
use Rattle.hash_table.specs.Stands.{Gathers}
use Rattle.hash_table.proofs.Standing.{begins, ends, within, few, goes_on, most_slots, before}
use Rattle.hash_table.proofs.table.HashTable.gather.Goals as goal

pub loop-made-init : goal.loop-made-init
loop-made-init g c = record {
  gathers = λ pairs stand. begins c.args.self.now.bits c.args.words.now pairs stand c.args.bucket c.head-link.result c.args.items.now.items c.requires.bucket c.head-link.ensures (c.requires.before pairs stand);
}

pub returns-then-link-eq0 : goal.returns-then-link-eq0
returns-then-link-eq0 g c = record {
  gathered = λ pairs stand. ends c.args.self.now.bits c.args.words.now pairs stand c.args.bucket c.loop-made._made c.loop-made.items.items
      (subst (λ l. Gathers c.args.self.now.bits c.args.words.now pairs stand c.args.bucket l c.loop-made._made c.loop-made.items.items) c.if-link-eq0.true (c.loop-made.invariant.gathers pairs stand));
}

pub node-key-requires-clause-slot : goal.node-key-requires-clause-slot
node-key-requires-clause-slot g c κs _ =
    let pairs = c.requires.stand.0 in let stand = c.requires.stand.1 in
    within c.args.self.now.bits c.args.words.now pairs stand c.args.bucket (c.loop-made.link - 1) c.loop-made._made c.loop-made.items.items
    (subst (λ l. Gathers c.args.self.now.bits c.args.words.now pairs stand c.args.bucket l c.loop-made._made c.loop-made.items.items) (before c.loop-made.link (let ne = c.if-link-eq0.false in omega (arith, ne)))
    (c.loop-made.invariant.gathers pairs stand))

pub node-value-requires-clause-slot : goal.node-value-requires-clause-slot
node-value-requires-clause-slot g c κs _ =
    let pairs = c.requires.stand.0 in let stand = c.requires.stand.1 in
    within c.args.self.now.bits c.args.words.now pairs stand c.args.bucket (c.loop-made.link - 1) c.loop-made._made c.loop-made.items.items
    (subst (λ l. Gathers c.args.self.now.bits c.args.words.now pairs stand c.args.bucket l c.loop-made._made c.loop-made.items.items) (before c.loop-made.link (let ne = c.if-link-eq0.false in omega (arith, ne)))
    (c.loop-made.invariant.gathers pairs stand))

pub node-link-requires-clause-slot : goal.node-link-requires-clause-slot
node-link-requires-clause-slot g c κs _ =
    let pairs = c.requires.stand.0 in let stand = c.requires.stand.1 in
    within c.args.self.now.bits c.args.words.now pairs stand c.args.bucket (c.loop-made.link - 1) c.loop-made._made c.loop-made.items.items
    (subst (λ l. Gathers c.args.self.now.bits c.args.words.now pairs stand c.args.bucket l c.loop-made._made c.loop-made.items.items) (before c.loop-made.link (let ne = c.if-link-eq0.false in omega (arith, ne)))
    (c.loop-made.invariant.gathers pairs stand))

pub loop-made-preserved : goal.loop-made-preserved
loop-made-preserved g c = record {
  gathers = λ pairs stand. subst (λ xs. Gathers c.args.self.now.bits c.args.words.now pairs stand c.args.bucket c.node-link.result (c.loop-made._made + 1) xs) (sym c.in_ok-push.ensures.items)
      (goes_on c.args.self.now.bits c.args.words.now pairs stand c.args.bucket (c.loop-made.link - 1) c.loop-made._made c.loop-made.items.items
      (subst (λ l. Gathers c.args.self.now.bits c.args.words.now pairs stand c.args.bucket l c.loop-made._made c.loop-made.items.items) (before c.loop-made.link (let ne = c.if-link-eq0.false in omega (arith, ne)))
      (c.loop-made.invariant.gathers pairs stand)) c.node-key.result c.node-value.result c.node-link.result c.node-key.ensures c.node-value.ensures c.node-link.ensures);
}

pub returns : goal.returns
returns g c = record {
  gathered = λ pairs stand. dite (ℕ_discrete c.loop-made.link 0)
      (λ e. ends c.args.self.now.bits c.args.words.now pairs stand c.args.bucket c.loop-made._made c.loop-made.items.items
      (subst (λ l. Gathers c.args.self.now.bits c.args.words.now pairs stand c.args.bucket l c.loop-made._made c.loop-made.items.items) e (c.loop-made.invariant.gathers pairs stand)))
      (λ ne. absurd (
      let low = few c.args.self.now.bits c.args.words.now pairs stand c.args.bucket (c.loop-made.link - 1) c.loop-made._made c.loop-made.items.items
      (subst (λ l. Gathers c.args.self.now.bits c.args.words.now pairs stand c.args.bucket l c.loop-made._made c.loop-made.items.items) (before c.loop-made.link (omega (arith, ne)))
      (c.loop-made.invariant.gathers pairs stand)) in
      let most = most_slots c.args.words.now c.words_are_reached.ensures.limits in let end = c.loop-made-test.false in omega (arith, low, most, end)));
}
