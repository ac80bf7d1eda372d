use Rattle.std.proofs.Common.{◌<◌, sym, subst, refl}
use Rattle.settling.specs.Clearing.{cell_count}
use Rattle.settling.proofs.Clears.{RecordTells, may_watch, may_help, may_let_go_then, may_let_go_behind, clears_named, named_keeps, clears_moved, moved_keeps}
use Rattle.settling.proofs.settles.clear_named.Goals as goal

pub watch-keeper-requires-clause-next : goal.watch-keeper-requires-clause-next
watch-keeper-requires-clause-next g c κs within =
    let met = g.met.S.Structure g.world.𝓛 g.world.𝓜 g.world.𝓡 ((λ s allowed. allowed), (λ patient. patient), (λ alone. alone), (λ cuts. cuts)) in
    let m = g.S.Structure.meaning c.args.table.now.structure in
    may_watch m (met.laws c.args.table.now.structure) c.args.table.now (c.requires.own.limits _ refl) (c.requires.own.allowed _ refl)
    (subst (λ s. RecordTells (g.S.Structure.meaning s)) c.structure.ensures c.what_the_keeper_saw_tells.ensures)
    c.requires.next.0 c.args.place c.args.held c.requires.lock c.args.keeper c.requires.next.1 (subst (λ l. c.args.place < cell_count m l) (sym c.requires.own.layout) c.requires.within)

pub run_named-keeper-requires-clause-next : goal.run_named-keeper-requires-clause-next
run_named-keeper-requires-clause-next g c κs within =
    let met = g.met.S.Structure g.world.𝓛 g.world.𝓜 g.world.𝓡 ((λ s allowed. allowed), (λ patient. patient), (λ alone. alone), (λ cuts. cuts)) in
    let m = g.S.Structure.meaning c.args.table.now.structure in
    may_help m (met.laws c.args.table.now.structure) c.args.table.now (c.requires.own.limits _ refl) (c.requires.own.allowed _ refl)
    (subst (λ s. RecordTells (g.S.Structure.meaning s)) c.structure.ensures c.what_the_keeper_saw_tells.ensures)
    c.requires.next.0 c.args.place c.args.held c.requires.lock c.args.keeper c.requires.next.1 (subst (λ l. c.args.place < cell_count m l) (sym c.requires.own.layout) c.requires.within)
    c.watch-keeper.result.1 c.watch-keeper.result.0 c.watch-keeper.ensures.own c.watch-keeper.ensures.watched c.if-stands.true

pub guard-requires-clause-next : goal.guard-requires-clause-next
guard-requires-clause-next g c κs within =
    let met = g.met.S.Structure g.world.𝓛 g.world.𝓜 g.world.𝓡 ((λ s allowed. allowed), (λ patient. patient), (λ alone. alone), (λ cuts. cuts)) in
    let m = g.S.Structure.meaning c.args.table.now.structure in
    may_let_go_behind m (met.laws c.args.table.now.structure) c.args.table.now (c.requires.own.limits _ refl) (c.requires.own.allowed _ refl)
    (subst (λ s. RecordTells (g.S.Structure.meaning s)) c.structure.ensures c.what_the_keeper_saw_tells.ensures)
    c.requires.next.0 c.args.place c.args.held c.requires.lock c.args.keeper c.requires.next.1 (subst (λ l. c.args.place < cell_count m l) (sym c.requires.own.layout) c.requires.within)
    c.watch-keeper.result.1 c.watch-keeper.result.0 c.watch-keeper.ensures.own c.watch-keeper.ensures.watched c.if-stands.true
    c.run_named-keeper.result c.run_named-keeper.ensures.own c.run_named-keeper.ensures.ran

pub returns-then-stands-clause-cleared : goal.returns-then-stands-clause-cleared
returns-then-stands-clause-cleared g c =
    let met = g.met.S.Structure g.world.𝓛 g.world.𝓜 g.world.𝓡 ((λ s allowed. allowed), (λ patient. patient), (λ alone. alone), (λ cuts. cuts)) in
    let m = g.S.Structure.meaning c.args.table.now.structure in
    λ begun is. clears_named m (met.laws c.args.table.now.structure) c.args.table.now (c.requires.own.limits _ refl) (c.requires.own.allowed _ refl)
    (subst (λ s. RecordTells (g.S.Structure.meaning s)) c.structure.ensures c.what_the_keeper_saw_tells.ensures)
    begun c.args.place c.args.held c.requires.lock c.args.keeper is (subst (λ l. c.args.place < cell_count m l) (sym c.requires.own.layout) c.requires.within)
    c.watch-keeper.result.1 c.watch-keeper.result.0 c.watch-keeper.ensures.own c.watch-keeper.ensures.watched c.if-stands.true
    c.run_named-keeper.result c.run_named-keeper.ensures.own c.run_named-keeper.ensures.ran 0 c.guard.result (c.guard.ensures.event 0)

pub returns-then-stands-clause-keeps : goal.returns-then-stands-clause-keeps
returns-then-stands-clause-keeps g c =
    let met = g.met.S.Structure g.world.𝓛 g.world.𝓜 g.world.𝓡 ((λ s allowed. allowed), (λ patient. patient), (λ alone. alone), (λ cuts. cuts)) in
    let m = g.S.Structure.meaning c.args.table.now.structure in
    named_keeps m (met.laws c.args.table.now.structure) c.args.table.now (c.requires.own.limits _ refl) (c.requires.own.allowed _ refl)
    (subst (λ s. RecordTells (g.S.Structure.meaning s)) c.structure.ensures c.what_the_keeper_saw_tells.ensures)
    c.requires.next.0 c.args.place c.args.held c.requires.lock c.args.keeper c.requires.next.1 (subst (λ l. c.args.place < cell_count m l) (sym c.requires.own.layout) c.requires.within)
    c.watch-keeper.result.1 c.watch-keeper.result.0 c.watch-keeper.ensures.own c.watch-keeper.ensures.watched c.if-stands.true
    c.run_named-keeper.result c.run_named-keeper.ensures.own c.run_named-keeper.ensures.ran 0 c.guard.result (c.guard.ensures.event 0)

pub guard-requires-else-stands-clause-next : goal.guard-requires-else-stands-clause-next
guard-requires-else-stands-clause-next g c κs within =
    let met = g.met.S.Structure g.world.𝓛 g.world.𝓜 g.world.𝓡 ((λ s allowed. allowed), (λ patient. patient), (λ alone. alone), (λ cuts. cuts)) in
    let m = g.S.Structure.meaning c.args.table.now.structure in
    may_let_go_then m (met.laws c.args.table.now.structure) c.args.table.now (c.requires.own.limits _ refl) (c.requires.own.allowed _ refl)
    (subst (λ s. RecordTells (g.S.Structure.meaning s)) c.structure.ensures c.what_the_keeper_saw_tells.ensures)
    c.requires.next.0 c.args.place c.args.held c.requires.lock c.args.keeper c.requires.next.1 (subst (λ l. c.args.place < cell_count m l) (sym c.requires.own.layout) c.requires.within)
    c.watch-keeper.result.1 c.watch-keeper.result.0 c.watch-keeper.ensures.own c.watch-keeper.ensures.watched

pub returns-else-stands-clause-cleared : goal.returns-else-stands-clause-cleared
returns-else-stands-clause-cleared g c =
    let met = g.met.S.Structure g.world.𝓛 g.world.𝓜 g.world.𝓡 ((λ s allowed. allowed), (λ patient. patient), (λ alone. alone), (λ cuts. cuts)) in
    let m = g.S.Structure.meaning c.args.table.now.structure in
    λ begun is. clears_moved m (met.laws c.args.table.now.structure) c.args.table.now (c.requires.own.limits _ refl) (c.requires.own.allowed _ refl)
    (subst (λ s. RecordTells (g.S.Structure.meaning s)) c.structure.ensures c.what_the_keeper_saw_tells.ensures)
    begun c.args.place c.args.held c.requires.lock c.args.keeper is (subst (λ l. c.args.place < cell_count m l) (sym c.requires.own.layout) c.requires.within)
    c.watch-keeper.result.1 c.watch-keeper.result.0 c.watch-keeper.ensures.own c.watch-keeper.ensures.watched c.if-stands.false 0 c.guard-else-stands.result (c.guard-else-stands.ensures.event 0)

pub returns-else-stands-clause-keeps : goal.returns-else-stands-clause-keeps
returns-else-stands-clause-keeps g c =
    let met = g.met.S.Structure g.world.𝓛 g.world.𝓜 g.world.𝓡 ((λ s allowed. allowed), (λ patient. patient), (λ alone. alone), (λ cuts. cuts)) in
    let m = g.S.Structure.meaning c.args.table.now.structure in
    moved_keeps m (met.laws c.args.table.now.structure) c.args.table.now (c.requires.own.limits _ refl) (c.requires.own.allowed _ refl)
    (subst (λ s. RecordTells (g.S.Structure.meaning s)) c.structure.ensures c.what_the_keeper_saw_tells.ensures)
    c.requires.next.0 c.args.place c.args.held c.requires.lock c.args.keeper c.requires.next.1 (subst (λ l. c.args.place < cell_count m l) (sym c.requires.own.layout) c.requires.within)
    c.watch-keeper.result.1 c.watch-keeper.result.0 c.watch-keeper.ensures.own c.watch-keeper.ensures.watched c.if-stands.false 0 c.guard-else-stands.result (c.guard-else-stands.ensures.event 0)
