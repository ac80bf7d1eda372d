use Rattle.std.proofs.Common.{ap, arith}
use Rattle.machine_states.specs.table_words.specs.declared.layout.Layout.{Layout}
use Rattle.settled_tables.specs.closed_words.specs.version_words.proofs.Stages.{may_split}
use Rattle.lock_tests.proofs.workers.split.Goals as goal

pub runner-requires-clause-next : goal.runner-requires-clause-next
runner-requires-clause-next g c κs within = may_split (g.S.Structure.meaning c.args.table.now.structure) c.args.keeper c.args.number c.requires.keeper.0 (let a = ap (λ (l : Layout). l.runners) c.requires.own.layout in let b = c.requires.few in omega (arith, a, b))
