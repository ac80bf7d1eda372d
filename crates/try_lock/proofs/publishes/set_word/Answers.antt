use Rattle.std.proofs.Common.{◌+◌, ◌<◌, sym, ap, subst}
use Rattle.machine_states.specs.table_words.specs.declared.layout.Layout.{Layout}
use Rattle.machine_states.specs.table_words.specs.Places.{slot_count, descriptor_count}
use Rattle.machine_states.specs.runner_parts.specs.declared.event.EventKind.TheVariants.{PrivateLoad, PrivateStore}
use Rattle.section_runs.specs.commit_log.specs.version_words.specs.Events.{IsEnabled, Makes}
use Rattle.try_lock.proofs.Preparing.{may_load, may_store, set_already, set_stored}
use Rattle.try_lock.proofs.publishes.set_word.Goals as goal

pub descriptor_load-runner-requires-clause-few : goal.descriptor_load-runner-requires-clause-few
descriptor_load-runner-requires-clause-few g c κs within = subst (λ (l : Layout). c.args.descriptor < descriptor_count l) c.requires.own.layout c.requires.free.free.few

pub descriptor_load-runner-requires-clause-next : goal.descriptor_load-runner-requires-clause-next
descriptor_load-runner-requires-clause-next g c κs within =
    let m = g.S.Structure.meaning c.args.table.now.structure in let d = c.args.descriptor in
    let slot = ap (λ l. slot_count l m.fixed_slots + d) c.requires.own.layout in
    subst (λ n. IsEnabled m (PrivateLoad n c.args.word) c.args.runner) slot (may_load m d c.args.word c.args.runner c.requires.free c.requires.word)

pub descriptor_store-requires-clause-few : goal.descriptor_store-requires-clause-few
descriptor_store-requires-clause-few g c κs within = subst (λ (l : Layout). c.args.descriptor < descriptor_count l) c.requires.own.layout c.requires.free.free.few

pub descriptor_store-requires-clause-next : goal.descriptor_store-requires-clause-next
descriptor_store-requires-clause-next g c κs within =
    let m = g.S.Structure.meaning c.args.table.now.structure in let d = c.args.descriptor in let r = c.args.runner in let s = c.descriptor_load-runner.result.0 in
    let slot = ap (λ l. slot_count l m.fixed_slots + d) c.requires.own.layout in
    let load = subst (λ n. Makes m (PrivateLoad n c.args.word) c.descriptor_load-runner.result.1 r s) (sym slot) c.descriptor_load-runner.ensures.event in
    subst (λ n. IsEnabled m (PrivateStore n c.args.word c.args.number) s) slot
    (may_store m d c.args.word r c.requires.free c.requires.word c.descriptor_load-runner.result.1 s c.args.number load)

pub returns-then-found-number-clause-set : goal.returns-then-found-number-clause-set
returns-then-found-number-clause-set g c =
    let m = g.S.Structure.meaning c.args.table.now.structure in let d = c.args.descriptor in let r = c.args.runner in let s = c.descriptor_load-runner.result.0 in
    let slot = ap (λ l. slot_count l m.fixed_slots + d) c.requires.own.layout in
    let load = subst (λ n. Makes m (PrivateLoad n c.args.word) c.descriptor_load-runner.result.1 r s) (sym slot) c.descriptor_load-runner.ensures.event in
    set_already m (slot_count r.layout m.fixed_slots + d) c.args.word c.args.number c.descriptor_load-runner.result.1 r s load c.if-found-number.true

pub returns-else-found-number-clause-set : goal.returns-else-found-number-clause-set
returns-else-found-number-clause-set g c =
    let m = g.S.Structure.meaning c.args.table.now.structure in let d = c.args.descriptor in let r = c.args.runner in let s = c.descriptor_load-runner.result.0 in
    let slot = ap (λ l. slot_count l m.fixed_slots + d) c.requires.own.layout in
    let load = subst (λ n. Makes m (PrivateLoad n c.args.word) c.descriptor_load-runner.result.1 r s) (sym slot) c.descriptor_load-runner.ensures.event in
    set_stored m (slot_count r.layout m.fixed_slots + d) c.args.word c.args.number c.descriptor_load-runner.result.1 r s load c.descriptor_store.result c.if-found-number.false
    (λ k. subst (λ n. Makes m (PrivateStore n c.args.word c.args.number) k s c.descriptor_store.result) (sym slot) (c.descriptor_store.ensures.event k))
