use Rattle.std.proofs.Common.{ap, arith}
use Rattle.machine_states.specs.structure_laws.specs.Tray.{tray}
use Rattle.machine_states.specs.table_words.specs.declared.layout.Layout.{Layout}
use Rattle.table_steps.specs.version_words.proofs.Stages.{may_split}
use Rattle.speed.proofs.sections.scenes.worker.Goals as goal

pub runner-requires-clause-next : goal.runner-requires-clause-next
runner-requires-clause-next c κs = may_split tray c.args.keeper 0 c.requires.keeper.0 (let a = ap (λ (l : Layout). l.runners) c.requires.own.layout in let b = c.requires.scene.runners in omega (arith, a, b))
