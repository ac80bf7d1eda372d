use Rattle.std.proofs.Common.{◌<◌, sym, ◌∙◌, subst, refl}
use Rattle.settling.specs.Clearing.{cell_count}
use Rattle.settling.proofs.Clears.{load_keeps, keeps_on, clears_free, has_met}
use Rattle.settling.proofs.settles.clear_lock.Goals as goal

pub clear_named-requires-clause-next : goal.clear_named-requires-clause-next
clear_named-requires-clause-next g c κs within =
    let met = g.met.S.Structure g.world.𝓛 g.world.𝓜 g.world.𝓡 ((λ s allowed. allowed), (λ patient. patient), (λ alone. alone), (λ cuts. cuts)) in
    let m = g.S.Structure.meaning c.args.table.now.structure in (
      c.requires.next.0,
      has_met m (met.laws c.args.table.now.structure) c.args.table.now (c.requires.own.limits _ refl) (c.requires.own.allowed _ refl)
          c.requires.next.0 c.args.place c.requires.lock c.args.keeper c.requires.next.1 (subst (λ l. c.args.place < cell_count m l) (sym c.requires.own.layout) c.requires.within)
          c.load_cell-keeper.result.1 c.load_cell-keeper.result.0 c.load_cell-keeper.ensures.own c.load_cell-keeper.ensures.event (λ e. c.if-value-eq0.false (c.value.ensures ∙ e)),
    )

pub returns-then-value-eq0-clause-cleared : goal.returns-then-value-eq0-clause-cleared
returns-then-value-eq0-clause-cleared g c =
    let met = g.met.S.Structure g.world.𝓛 g.world.𝓜 g.world.𝓡 ((λ s allowed. allowed), (λ patient. patient), (λ alone. alone), (λ cuts. cuts)) in
    let m = g.S.Structure.meaning c.args.table.now.structure in
    λ begun clearing. clears_free m (met.laws c.args.table.now.structure) c.args.table.now (c.requires.own.limits _ refl) (c.requires.own.allowed _ refl)
    begun c.args.place c.requires.lock c.args.keeper clearing (subst (λ l. c.args.place < cell_count m l) (sym c.requires.own.layout) c.requires.within)
    c.load_cell-keeper.result.1 c.load_cell-keeper.result.0 c.load_cell-keeper.ensures.own c.load_cell-keeper.ensures.event (sym c.value.ensures ∙ c.if-value-eq0.true)

pub returns-then-value-eq0-clause-keeps : goal.returns-then-value-eq0-clause-keeps
returns-then-value-eq0-clause-keeps g c =
    let met = g.met.S.Structure g.world.𝓛 g.world.𝓜 g.world.𝓡 ((λ s allowed. allowed), (λ patient. patient), (λ alone. alone), (λ cuts. cuts)) in
    let m = g.S.Structure.meaning c.args.table.now.structure in
    load_keeps m (met.laws c.args.table.now.structure) c.args.table.now (c.requires.own.limits _ refl) (c.requires.own.allowed _ refl)
    c.requires.next.0 c.args.place c.requires.lock c.args.keeper c.requires.next.1 (subst (λ l. c.args.place < cell_count m l) (sym c.requires.own.layout) c.requires.within)
    c.load_cell-keeper.result.1 c.load_cell-keeper.result.0 c.load_cell-keeper.ensures.own c.load_cell-keeper.ensures.event

pub returns-else-value-eq0-clause-cleared : goal.returns-else-value-eq0-clause-cleared
returns-else-value-eq0-clause-cleared g c =
    let met = g.met.S.Structure g.world.𝓛 g.world.𝓜 g.world.𝓡 ((λ s allowed. allowed), (λ patient. patient), (λ alone. alone), (λ cuts. cuts)) in
    let m = g.S.Structure.meaning c.args.table.now.structure in
    λ begun clearing. c.clear_named.ensures.cleared begun
    (has_met m (met.laws c.args.table.now.structure) c.args.table.now (c.requires.own.limits _ refl) (c.requires.own.allowed _ refl)
    begun c.args.place c.requires.lock c.args.keeper clearing (subst (λ l. c.args.place < cell_count m l) (sym c.requires.own.layout) c.requires.within)
    c.load_cell-keeper.result.1 c.load_cell-keeper.result.0 c.load_cell-keeper.ensures.own c.load_cell-keeper.ensures.event (λ e. c.if-value-eq0.false (c.value.ensures ∙ e)))

pub returns-else-value-eq0-clause-keeps : goal.returns-else-value-eq0-clause-keeps
returns-else-value-eq0-clause-keeps g c =
    let met = g.met.S.Structure g.world.𝓛 g.world.𝓜 g.world.𝓡 ((λ s allowed. allowed), (λ patient. patient), (λ alone. alone), (λ cuts. cuts)) in
    let m = g.S.Structure.meaning c.args.table.now.structure in
    keeps_on c.args.keeper c.load_cell-keeper.result.0 c.clear_named.result
    (load_keeps m (met.laws c.args.table.now.structure) c.args.table.now (c.requires.own.limits _ refl) (c.requires.own.allowed _ refl)
    c.requires.next.0 c.args.place c.requires.lock c.args.keeper c.requires.next.1 (subst (λ l. c.args.place < cell_count m l) (sym c.requires.own.layout) c.requires.within)
    c.load_cell-keeper.result.1 c.load_cell-keeper.result.0 c.load_cell-keeper.ensures.own c.load_cell-keeper.ensures.event)
    c.clear_named.ensures.keeps
