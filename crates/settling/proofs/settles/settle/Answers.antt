use Rattle.std.proofs.Common.{length, ap, subst, refl}
use Rattle.settling.proofs.Clears.{RecordTells, keeps_on}
use Rattle.settling.proofs.Settling.{begins, enter_keeps, exit_keeps, settles}
use Rattle.settling.proofs.settles.settle.Goals as goal

pub clear_locks-keeper-requires-clause-next : goal.clear_locks-keeper-requires-clause-next
clear_locks-keeper-requires-clause-next g c κs within =
    let met = g.met.S.Structure g.world.𝓛 g.world.𝓜 g.world.𝓡 ((λ s allowed. allowed), (λ patient. patient), (λ alone. alone), (λ cuts. cuts)) in
    let m = g.S.Structure.meaning c.args.table.now.structure in
    begins m (met.laws c.args.table.now.structure) c.args.table.now (c.requires.own.limits _ refl) (c.requires.own.allowed _ refl)
    (subst (λ s. RecordTells (g.S.Structure.meaning s)) c.structure.ensures c.what_the_keeper_saw_tells.ensures)
    c.args.keeper c.enter-keeper.result c.requires.own c.requires.next c.enter-keeper.ensures.enters

pub returns-clause-settles : goal.returns-clause-settles
returns-clause-settles g c =
    let met = g.met.S.Structure g.world.𝓛 g.world.𝓜 g.world.𝓡 ((λ s allowed. allowed), (λ patient. patient), (λ alone. alone), (λ cuts. cuts)) in
    let m = g.S.Structure.meaning c.args.table.now.structure in
    let laws = met.laws c.args.table.now.structure in
    let tells = subst (λ s. RecordTells (g.S.Structure.meaning s)) c.structure.ensures c.what_the_keeper_saw_tells.ensures in
    settles m laws c.args.table.now (c.requires.own.limits _ refl) (c.requires.own.allowed _ refl) tells
    (length c.enter-keeper.result.part.records.finished) c.clear_locks-keeper.result c.exit.result c.clear_locks-keeper.ensures.own c.clear_locks-keeper.ensures.cleared c.exit.ensures.exits c.args.keeper
    (ap length c.enter-keeper.ensures.enters.keeps.finished)
    (keeps_on c.args.keeper c.clear_locks-keeper.result c.exit.result
    (keeps_on c.args.keeper c.enter-keeper.result c.clear_locks-keeper.result
    (enter_keeps m laws c.args.table.now (c.requires.own.limits _ refl) (c.requires.own.allowed _ refl) tells
    c.args.keeper c.enter-keeper.result c.requires.own c.requires.next c.enter-keeper.ensures.enters)
    c.clear_locks-keeper.ensures.keeps)
    (exit_keeps m laws c.args.table.now (c.requires.own.limits _ refl) (c.requires.own.allowed _ refl) tells
    (length c.enter-keeper.result.part.records.finished) c.clear_locks-keeper.result c.exit.result c.clear_locks-keeper.ensures.own c.clear_locks-keeper.ensures.cleared c.exit.ensures.exits))
