use Rattle.std.proofs.Common.{ℕ, ◌+◌, ap, sym, subst, ◌∙◌, arith}
use Rattle.machine_states.specs.runner_parts.specs.declared.event.EventKind.TheVariants.{PrivateStore}
use Rattle.machine_states.specs.runner_steps.specs.Outside.{blocks_from}
use Rattle.machine_states.specs.table_words.specs.declared.layout.Layout.{Layout}
use Rattle.version_words.specs.Events.{IsEnabled, Makes}
use Rattle.version_words.proofs.Privates.{store_block, few_own_blocks}
use Rattle.version_words.proofs.table.FlockTable.empty_word.Goals as goal

pub overflow_add-slot : goal.overflow_add-slot
overflow_add-slot g c =
    let m = g.S.Structure.meaning c.args.self.now.structure in let r = c.args.runner in let own = c.requires.own in
    let next = subst (λ (l : Layout). IsEnabled m (PrivateStore (blocks_from m l + c.args.block) c.args.word 0) r) (sym own.layout) c.requires.next in
    let low = store_block m r.layout r.requests r.number c.args.block c.args.word 0 r.part next.met next.asked in
    let met = g.met.S.Structure g.world.𝓛 g.world.𝓜 g.world.𝓡 ((λ s allowed. allowed), (λ patient. patient), (λ alone. alone), (λ cuts. cuts)) in
    let few = few_own_blocks m (met.laws c.args.self.now.structure) r.layout (own.limits r.layout own.layout) in
    let first = c.self.invariant.first_block ∙ (λ i. blocks_from (g.S.Structure.meaning (c.self.view_is i).structure) ((ap (λ t. t.layout) c.self.view_is ∙ sym own.layout) i)) in
    omega (arith, low, few, first)

pub private_store-requires-clause-next : goal.private_store-requires-clause-next
private_store-requires-clause-next g c κs lives =
    let m = g.S.Structure.meaning c.args.self.now.structure in
    let first = c.self.invariant.first_block ∙ (λ i. blocks_from (g.S.Structure.meaning (c.self.view_is i).structure) ((ap (λ t. t.layout) c.self.view_is) i)) in
    subst (λ (n : ℕ). IsEnabled m (PrivateStore (n + c.args.block) c.args.word 0) c.args.runner) (sym first) c.requires.next

pub returns-clause-event : goal.returns-clause-event
returns-clause-event g c =
    let m = g.S.Structure.meaning c.args.self.now.structure in
    let first = c.self.invariant.first_block ∙ (λ i. blocks_from (g.S.Structure.meaning (c.self.view_is i).structure) ((ap (λ t. t.layout) c.self.view_is) i)) in
    λ found. subst (λ (n : ℕ). Makes m (PrivateStore (n + c.args.block) c.args.word 0) found c.args.runner c.private_store.result) first (c.private_store.ensures.event found)
