use Rattle.std.proofs.Common.{◌-◌, sym, ap, subst, Some}
use Rattle.machine_states.specs.runner_parts.specs.declared.event.EventKind.TheVariants as kinds
use Rattle.section_runs.specs.commit_log.specs.version_words.specs.Events.{IsEnabled, Makes}
use Rattle.try_lock.proofs.Helping.{some_value}
use Rattle.try_lock.proofs.Watching.{may_guard_it, may_load_it, watched}
use Rattle.try_lock.proofs.watches.watch.Goals as goal

pub overflow_sub-descriptor : goal.overflow_sub-descriptor
overflow_sub-descriptor g c = some_value c.args.held c.value-descriptor.result c.value-descriptor.ensures c.requires.next.names

pub guard-runner-requires-clause-next : goal.guard-runner-requires-clause-next
guard-runner-requires-clause-next g c κs within =
    let m = g.S.Structure.meaning c.args.table.now.structure in
    let r = c.args.runner in
    subst (λ n. IsEnabled m (kinds.Guard (Some n)) r) (sym (ap (λ n. n - 1) c.value-descriptor.ensures))
    (may_guard_it m c.args.place c.args.held r c.requires.next)

pub load_cell-runner-requires-clause-next : goal.load_cell-runner-requires-clause-next
load_cell-runner-requires-clause-next g c κs within =
    let m = g.S.Structure.meaning c.args.table.now.structure in
    let r = c.args.runner in
    may_load_it m c.args.place c.args.held r c.requires.next
    0 c.guard-runner.result (subst (λ n. Makes m (kinds.Guard (Some n)) 0 r c.guard-runner.result) (ap (λ n. n - 1) c.value-descriptor.ensures) (c.guard-runner.ensures.event 0))

pub returns-clause-watched : goal.returns-clause-watched
returns-clause-watched g c =
    let m = g.S.Structure.meaning c.args.table.now.structure in
    let r = c.args.runner in
    watched m c.args.place c.args.held r c.requires.next
    0 c.guard-runner.result (subst (λ n. Makes m (kinds.Guard (Some n)) 0 r c.guard-runner.result) (ap (λ n. n - 1) c.value-descriptor.ensures) (c.guard-runner.ensures.event 0))
    c.load_cell-runner.result.1 c.load_cell-runner.result.0 c.load_cell-runner.ensures.event _ c.eq.ensures
