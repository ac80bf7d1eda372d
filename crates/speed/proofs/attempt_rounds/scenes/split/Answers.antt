use Rattle.std.proofs.Common.{ap, arith}
use Rattle.machine_states.specs.table_words.specs.declared.layout.Layout.{Layout}
use Rattle.table_steps.specs.version_words.proofs.Stages.{may_split}
use Rattle.speed.proofs.attempt_rounds.scenes.split.Goals as goal

pub runner-requires-clause-next : goal.runner-requires-clause-next
runner-requires-clause-next g c κs within = may_split _ c.args.keeper 0 c.requires.keeper.0
    (let one = c.requires.runners in let same = ap (λ (l : Layout). l.runners) c.requires.own.layout in omega (arith, one, same))
