use Rattle.std.proofs.Common.{◌≡◌, sym, subst, Some, refl}
use Rattle.machine_states.specs.table_words.specs.declared.spot.Spot.TheVariants.{Cell}
use Rattle.machine_states.specs.table_words.specs.declared.access.Access.TheVariants.{Exchanges}
use Rattle.machine_states.specs.runner_parts.specs.declared.event.EventKind.TheVariants as kinds
use Rattle.commit_log.specs.version_words.specs.Events.{met_by}
use Rattle.machine_states.specs.runner_parts.specs.State.{RunState}
use Rattle.commit_log.proofs.Running.{one_run}
use Rattle.idem_cell.specs.Stored.{HasStored}
use Rattle.idem_cell.proofs.Storing.{may_store, few_versions, then_stored}
use Rattle.idem_cell.proofs.stores.store.Goals as goal

pub returns-clause-stored : goal.returns-clause-stored
returns-clause-stored g c = λ q is.
    let met = g.met.S.Structure g.world.𝓛 g.world.𝓜 g.world.𝓡 ((λ s allowed. allowed), (λ patient. patient), (λ alone. alone), (λ cuts. cuts)) in
    let m = g.S.Structure.meaning c.args.table.now.structure in
    let may = c.requires.next.1 in
    subst (λ (p : RunState). HasStored m c.args.place c.args.old c.args.value c.args.runner c.exchange_cell.result.0 p) (one_run m _ _ _ may.running is)
    (then_stored m (met.laws c.args.table.now.structure) c.args.table.now (c.requires.own.limits _ refl) (c.requires.own.allowed _ refl) _ c.requires.own _ _ _ _ may
    _ _ c.exchange_cell.ensures.event)

pub next-requires : goal.next-requires
next-requires g c =
    let met = g.met.S.Structure g.world.𝓛 g.world.𝓜 g.world.𝓡 ((λ s allowed. allowed), (λ patient. patient), (λ alone. alone), (λ cuts. cuts)) in
    few_versions (g.S.Structure.meaning c.args.table.now.structure) (met.laws c.args.table.now.structure) c.args.table.now (c.requires.own.limits _ refl)
    (c.requires.own.allowed _ refl) _ c.requires.own _ _ _ _ c.requires.next.1

pub exchange_cell-requires-clause-next : goal.exchange_cell-requires-clause-next
exchange_cell-requires-clause-next g c κs within =
    let met = g.met.S.Structure g.world.𝓛 g.world.𝓜 g.world.𝓡 ((λ s allowed. allowed), (λ patient. patient), (λ alone. alone), (λ cuts. cuts)) in
    let m = g.S.Structure.meaning c.args.table.now.structure in
    subst (λ n. met_by m c.args.runner kinds.ExchangeCell ≡ Some (Cell c.args.place, Exchanges c.args.old n)) (sym c.next.ensures)
    (may_store m (met.laws c.args.table.now.structure) c.args.table.now (c.requires.own.limits _ refl) (c.requires.own.allowed _ refl) _ c.requires.own _ _ _ _
    c.requires.next.1)
