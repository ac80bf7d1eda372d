use Rattle.std.proofs.Common.{length, ◌≤◌, arith, sym, subst, ap, ◌∙◌}
use Rattle.machine_states.specs.table_words.specs.declared.layout.Layout.{Layout}
use Rattle.machine_states.specs.runner_parts.specs.declared.event.EventKind.TheVariants.{LoadGuard}
use Rattle.machine_states.specs.runner_parts.specs.State.{PartState}
use Rattle.runner_block.specs.declared.block.Block.{Block}
use Rattle.version_words.specs.Kept.{IsKept}
use Rattle.version_words.specs.Events.{IsEnabled, Makes, seen_seat}
use Rattle.version_words.proofs.GuardSteps.{next_guard, look_named, look_event, look_kept, swept_lists}
use Rattle.version_words.proofs.table.FlockTable.load_guard.Goals as goal

pub load-found-requires-clause-named : goal.load-found-requires-clause-named
load-found-requires-clause-named g c =
    let m = g.S.Structure.meaning c.args.self.now.structure in let seat = c.runner.inside.seat in
    let next = subst (IsEnabled m (LoadGuard c.args.guard)) (sym c.runner.view_is) c.requires.next in
    λ κs lives. look_named m (seen_seat seat.table_id seat.me) c.args.guard next c.args.self.now

pub load_guard-requires-clause-limits : goal.load_guard-requires-clause-limits
load_guard-requires-clause-limits g c = let few = c.self.invariant.limits.few_runners in omega (arith, few)

pub load_guard-requires-clause-few : goal.load_guard-requires-clause-few
load_guard-requires-clause-few g c =
    let m = g.S.Structure.meaning c.args.self.now.structure in let seat = c.runner.inside.seat in
    let next = next_guard m (seen_seat seat.table_id seat.me) c.args.guard (subst (IsEnabled m (LoadGuard c.args.guard)) (sym c.runner.view_is) c.requires.next) in
    let same_layout = ap (λ r. r.layout) c.runner.view_is ∙ (c.requires.own.layout ∙ ap (λ t. t.layout) (sym c.self.view_is)) in
    let a = next.next in let b = next.few in
    let low : length seat.me.0.part.guards.looked ≤ seat.me.0.layout.runners = omega (arith, a, b) in
    subst (λ (b : Block). length b.lists.part.guards.looked ≤ c.self.inside.setup.layout.runners) (sym c.deref_mut.ensures.value)
    (subst (λ (p : PartState). length p.guards.looked ≤ c.self.inside.setup.layout.runners) (sym c.runner.invariant.lists)
    (subst (λ (l : Layout). length seat.me.0.part.guards.looked ≤ l.runners) same_layout low))

pub invariant_of-runner : goal.invariant_of-runner
invariant_of-runner g c =
    let mean = g.S.Structure.meaning in let s = c.args.self.now.structure in let seat = c.runner.inside.seat in let new = c.load-found.new.seat in let number = c.runner.inside.number in
    let kept = c.runner.inside.kept.value in let found = c.load-found.result in let n = c.args.guard in
    let next = subst (IsEnabled (mean s) (LoadGuard n)) (sym c.runner.view_is) c.requires.next in
    let event = look_event (mean s) (seen_seat seat.table_id seat.me) n next found (seen_seat new.table_id new.me) c.load-found.ensures.event in
    let same_layout = sym (ap (λ r. r.layout) c.runner.view_is ∙ (c.requires.own.layout ∙ ap (λ t. t.layout) (sym c.self.view_is))) in
    subst (λ (b : Block). IsKept mean number (record b { lists = c.load_guard.new.self }) new.me) (sym c.deref_mut.ensures.value)
    (look_kept mean s n found number kept seat.table_id new.table_id seat.me new.me (ap (λ r. r.structure) c.runner.view_is ∙ c.requires.own.structure) event c.load-found.ensures.slots c.runner.invariant
    c.load_guard.new.self
    (c.load_guard.ensures ∙ (λ i. let b = c.deref_mut.ensures.value i in swept_lists (same_layout i) b.lists found)))

pub returns-clause-event : goal.returns-clause-event
returns-clause-event g c =
    let m = g.S.Structure.meaning c.args.self.now.structure in let seat = c.runner.inside.seat in let new = c.load-found.new.seat in let found = c.load-found.result in
    let next = subst (IsEnabled m (LoadGuard c.args.guard)) (sym c.runner.view_is) c.requires.next in
    subst (λ r. Makes m (LoadGuard c.args.guard) found r (seen_seat new.table_id new.me)) c.runner.view_is
    (look_event m (seen_seat seat.table_id seat.me) c.args.guard next found (seen_seat new.table_id new.me) c.load-found.ensures.event)
