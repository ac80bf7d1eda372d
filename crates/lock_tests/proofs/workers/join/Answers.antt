use Rattle.std.proofs.Common.{ap, arith}
use Rattle.machine_states.specs.table_words.specs.declared.layout.Layout.{Layout}
use Rattle.settled_tables.specs.closed_words.specs.version_words.proofs.Stages.{may_join, then_keeper, then_joined}
use Rattle.lock_tests.proofs.workers.join.Goals as goal

pub join_runner-requires-clause-next : goal.join_runner-requires-clause-next
join_runner-requires-clause-next g c κs within = may_join (g.S.Structure.meaning c.args.table.now.structure) c.args.keeper c.args.worker.number c.args.table.now.layout.runners c.args.number c.requires.keeper.0 c.requires.keeper.1 c.requires.number
    (let a = ap (λ (l : Layout). l.runners) c.requires.own.0.layout in let b = c.requires.few in let d = c.requires.number in omega (arith, a, b, d))

pub returns-clause-keeper : goal.returns-clause-keeper
returns-clause-keeper g c = (
  then_keeper (g.S.Structure.meaning c.args.table.now.structure) c.args.keeper c.args.worker c.join_runner.result c.args.table.now.layout.runners c.args.number c.join_runner.ensures.event c.requires.keeper.0,
  then_joined (g.S.Structure.meaning c.args.table.now.structure) c.args.keeper c.args.worker c.join_runner.result c.args.table.now.layout.runners c.args.number c.join_runner.ensures.event c.requires.keeper.0 c.requires.keeper.1 c.requires.number,
)
