use Rattle.std.proofs.Common.{ap, arith}
use Rattle.machine_states.specs.table_words.specs.declared.layout.Layout.{Layout}
use Rattle.settled_tables.specs.closed_words.specs.version_words.proofs.Stages.{may_split}
use Rattle.lock_tests.proofs.attempt_scene.split.Goals as goal

pub runner-requires-clause-next : goal.runner-requires-clause-next
runner-requires-clause-next g c κs within = may_split _ c.args.keeper c.args.number c.requires.keeper
    (let few = c.requires.few in let two = c.requires.scene.runners in let same = ap (λ (l : Layout). l.runners) c.requires.own.layout in omega (arith, few, two, same))
