use Rattle.std.proofs.Common.{◌-◌, ap, subst}
use Rattle.try_lock.specs.Ends.{EndsSo}
use Rattle.try_lock.proofs.Helping.{help_begins, some_value}
use Rattle.try_lock.proofs.runs.help.Goals as goal

pub run-requires-clause-next : goal.run-requires-clause-next
run-requires-clause-next g c κs within = help_begins (g.S.Structure.meaning c.args.table.now.structure) c.args.runner c.args.held _ (ap (λ n. n - 1) c.value.ensures) c.requires.next

pub run-requires-clause-reserve : goal.run-requires-clause-reserve
run-requires-clause-reserve g c κs within = c.requires.next.reserve

pub run-requires-clause-blocks : goal.run-requires-clause-blocks
run-requires-clause-blocks g c κs within = c.requires.next.blocks

pub overflow_sub-value : goal.overflow_sub-value
overflow_sub-value g c = some_value c.args.held c.value.result c.value.ensures c.requires.next.names

pub returns-clause-done : goal.returns-clause-done
returns-clause-done g c = λ o trail e.
    let m = g.S.Structure.meaning c.args.table.now.structure in
    let ends = c.run.ensures.done o trail e in
    let same = ap (λ n. n - 1) c.value.ensures in
    (ends.0, ends.1, subst (λ d. EndsSo m d ends.0 o trail ends.1 c.args.runner c.run.result.0) same ends.2, ends.3)
