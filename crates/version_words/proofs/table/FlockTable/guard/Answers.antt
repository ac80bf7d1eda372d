use Rattle.std.proofs.Common.{sym, ap, subst, ◌∙◌}
use Rattle.machine_states.specs.runner_parts.specs.declared.event.EventKind.TheVariants.{Guard}
use Rattle.version_words.specs.Events.{IsEnabled, Makes, seen_seat}
use Rattle.runner_block.specs.declared.block.Block.{Block}
use Rattle.runner_block.specs.Kept.{with_named}
use Rattle.version_words.specs.Kept.{IsKept}
use Rattle.version_words.proofs.GuardSteps.{guard_named, guard_blind, guard_event, guard_kept}
use Rattle.version_words.proofs.table.FlockTable.guard.Goals as goal

pub store-requires-clause-named : goal.store-requires-clause-named
store-requires-clause-named g c =
    let m = g.S.Structure.meaning c.args.self.now.structure in let seat = c.runner.inside.seat in let r = seen_seat seat.table_id seat.me in let d = c.args.descriptor in
    let next = subst (IsEnabled m (Guard d)) (sym c.runner.view_is) c.requires.next in
    λ κs lives. guard_named m r d next c.guard_word-word.result c.guard_word-word.ensures c.runner.inside.number c.runner.invariant.same_number c.args.self.now

pub store-requires-clause-blind : goal.store-requires-clause-blind
store-requires-clause-blind g c =
    let m = g.S.Structure.meaning c.args.self.now.structure in let seat = c.runner.inside.seat in let r = seen_seat seat.table_id seat.me in let d = c.args.descriptor in
    let next = subst (IsEnabled m (Guard d)) (sym c.runner.view_is) c.requires.next in
    λ κs lives. guard_blind m r d next c.guard_word-word.result c.guard_word-word.ensures c.runner.inside.number

pub invariant_of-runner : goal.invariant_of-runner
invariant_of-runner g c =
    let mean = g.S.Structure.meaning in let s = c.args.self.now.structure in let seat = c.runner.inside.seat in let new = c.store.new.seat in let d = c.args.descriptor in
    let next = subst (IsEnabled (mean s) (Guard d)) (sym c.runner.view_is) c.requires.next in
    let event = guard_event (mean s) (seen_seat seat.table_id seat.me) d next c.guard_word-word.result c.guard_word-word.ensures 0 (seen_seat new.table_id new.me) (c.store.ensures.event 0) in
    subst (λ (b : Block). IsKept mean c.runner.inside.number (record b { lists = c.guard.new.self }) new.me) (sym c.deref_mut.ensures.value)
    (guard_kept mean s d 0 c.runner.inside.number c.runner.inside.kept.value seat.table_id new.table_id seat.me new.me
    (ap (λ r. r.structure) c.runner.view_is ∙ c.requires.own.structure) event c.store.ensures.slots c.runner.invariant c.guard.new.self
    (c.guard.ensures ∙ ap (λ (b : Block). with_named b.lists d) c.deref_mut.ensures.value))

pub returns-clause-event : goal.returns-clause-event
returns-clause-event g c =
    let m = g.S.Structure.meaning c.args.self.now.structure in let seat = c.runner.inside.seat in let new = c.store.new.seat in let d = c.args.descriptor in
    let next = subst (IsEnabled m (Guard d)) (sym c.runner.view_is) c.requires.next in
    λ found. subst (λ r. Makes m (Guard d) found r (seen_seat new.table_id new.me)) c.runner.view_is
    (guard_event m (seen_seat seat.table_id seat.me) d next c.guard_word-word.result c.guard_word-word.ensures found (seen_seat new.table_id new.me) (c.store.ensures.event found))
