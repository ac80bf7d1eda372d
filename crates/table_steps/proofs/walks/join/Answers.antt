use Rattle.std.proofs.Common.{ap, arith}
use Rattle.machine_states.specs.structure_laws.specs.Tray.{tray}
use Rattle.machine_states.specs.table_words.specs.declared.layout.Layout.{Layout}
use Rattle.version_words.proofs.Stages.{may_join, then_keeper, then_joined}
use Rattle.table_steps.proofs.walks.join.Goals as goal

pub join_runner-requires-clause-next : goal.join_runner-requires-clause-next
join_runner-requires-clause-next c κs = may_join tray c.args.keeper c.args.worker.number c.args.splits c.args.number c.requires.keeper.0 c.requires.keeper.1 c.requires.number
    (let a = ap (λ (l : Layout). l.runners) c.requires.own.0.layout in let b = c.requires.few in let d = c.requires.number in omega (arith, a, b, d))

pub returns-clause-keeper : goal.returns-clause-keeper
returns-clause-keeper c = (
  then_keeper tray c.args.keeper c.args.worker c.join_runner.result c.args.splits c.args.number c.join_runner.ensures.event c.requires.keeper.0,
  then_joined tray c.args.keeper c.args.worker c.join_runner.result c.args.splits c.args.number c.join_runner.ensures.event c.requires.keeper.0 c.requires.keeper.1 c.requires.number,
)
