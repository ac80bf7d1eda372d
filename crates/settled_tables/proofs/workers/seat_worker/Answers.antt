use Rattle.std.proofs.Common.{◌<◌, ap, arith}
use Rattle.machine_states.specs.table_words.specs.declared.layout.Layout.{Layout}
use Rattle.closed_words.specs.version_words.proofs.Stages.{may_split}
use Rattle.settled_tables.proofs.Keeping.{then_idle}
use Rattle.settled_tables.proofs.Working.{is_new}
use Rattle.settled_tables.proofs.workers.seat_worker.Goals as goal

pub runner-requires-clause-next : goal.runner-requires-clause-next
runner-requires-clause-next g c κs within = may_split _ c.args.keeper c.args.number c.requires.keeper.keeper
    (let few = c.requires.number in let same = ap (λ (l : Layout). l.runners) c.requires.own.layout in omega (arith, few, same))

pub returns-in-Ok-clause-keeper : goal.returns-in-Ok-clause-keeper
returns-in-Ok-clause-keeper g c =
    let few : c.args.number < c.args.keeper.layout.runners = (let low = c.requires.number in let same = ap (λ (l : Layout). l.runners) c.requires.own.layout in omega (arith, low, same)) in
    then_idle (g.S.Structure.meaning c.args.table.now.structure) c.args.keeper c.in-Ok.keeper c.args.number c.in-Ok.ensures.event c.requires.keeper few

pub returns-in-Ok-clause-worker : goal.returns-in-Ok-clause-worker
returns-in-Ok-clause-worker g c =
    let few : c.args.number < c.args.keeper.layout.runners = (let low = c.requires.number in let same = ap (λ (l : Layout). l.runners) c.requires.own.layout in omega (arith, low, same)) in
    is_new (g.S.Structure.meaning c.args.table.now.structure) c.args.table.now c.args.keeper c.in-Ok.worker c.args.number c.in-Ok.ensures.worker c.in-Ok.ensures.own.1 c.requires.keeper.keeper few
