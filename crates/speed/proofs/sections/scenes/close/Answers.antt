use Rattle.std.proofs.Common.{ap, arith}
use Rattle.machine_states.specs.structure_laws.specs.Tray.{tray}
use Rattle.machine_states.specs.table_words.specs.declared.layout.Layout.{Layout}
use Rattle.table_steps.specs.version_words.proofs.Stages.{may_join}
use Rattle.speed.proofs.sections.scenes.close.Goals as goal

pub join_runner-keeper-requires-clause-next : goal.join_runner-keeper-requires-clause-next
join_runner-keeper-requires-clause-next c κs = may_join tray c.args.keeper c.args.worker.number 1 0 c.requires.keeper.0 c.requires.keeper.1 c.requires.number
    (let a = ap (λ (l : Layout). l.runners) c.requires.own.0.layout in let b = c.requires.scene.runners in let d = c.requires.number in omega (arith, a, b, d))
