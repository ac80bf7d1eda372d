use Rattle.std.proofs.Common.{◌-◌, ap, subst, ◌∙◌, refl}
use Rattle.machine_states.specs.body_terms.specs.Word.{pack}
use Rattle.machine_states.specs.runner_parts.specs.State.{RunState}
use Rattle.commit_log.proofs.Running.{one_run}
use Rattle.nested_lock.specs.Dropped.{HasDropped}
use Rattle.nested_lock.proofs.Dropping.{may_drop, then_dropped}
use Rattle.nested_lock.proofs.drops.drop_lock.Goals as goal

pub release-requires-clause-next : goal.release-requires-clause-next
release-requires-clause-next g c κs within =
    let met = g.met.S.Structure g.world.𝓛 g.world.𝓜 g.world.𝓡 ((λ s allowed. allowed), (λ patient. patient), (λ alone. alone), (λ cuts. cuts)) in
    let m = g.S.Structure.meaning c.args.table.now.structure in
    let laws = met.laws c.args.table.now.structure in
    let may = c.requires.next.1 in
    may_drop m laws c.args.table.now (c.requires.own.limits _ refl) (c.requires.own.allowed _ refl) _ c.requires.own _ _ _ may _ (c.pack.ensures.number ∙ ap (λ n. pack 0 (n - 1)) c.version.ensures)

pub returns-clause-dropped : goal.returns-clause-dropped
returns-clause-dropped g c = λ q is.
    let met = g.met.S.Structure g.world.𝓛 g.world.𝓜 g.world.𝓡 ((λ s allowed. allowed), (λ patient. patient), (λ alone. alone), (λ cuts. cuts)) in
    let m = g.S.Structure.meaning c.args.table.now.structure in
    let laws = met.laws c.args.table.now.structure in
    let may = c.requires.next.1 in
    subst (λ (p : RunState). HasDropped m c.args.place c.args.held c.args.runner c.release.result p) (one_run m _ _ _ may.running is)
    (then_dropped m laws c.args.table.now (c.requires.own.limits _ refl) (c.requires.own.allowed _ refl) _ c.requires.own _ _ _ may _ c.release.ensures.event)
