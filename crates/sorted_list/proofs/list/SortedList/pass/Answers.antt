use Rattle.std.proofs.Common.{◌+◌, sym, subst}
use Rattle.sorted_list.specs.Stands.{Gathers}
use Rattle.sorted_list.proofs.Standing.{goes_to}
use Rattle.sorted_list.proofs.list.SortedList.pass.Goals as goal

pub returns : goal.returns
returns c = record {
  passed = λ pairs stand passed so. subst (λ items. Gathers c.args.words.now pairs stand (passed + 1) c.behind.result items) (sym c.in_ok-push.ensures.items)
      (goes_to c.args.words.now pairs stand passed c.args.slot c.args.items.now.items so c.requires.slot c.requires.inner c.node-key.result c.node-value.result c.behind.result
      c.node-key.ensures c.node-value.ensures c.behind.ensures);
}
