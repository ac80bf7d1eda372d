use Rattle.std.proofs.Common.{ap, sym, subst, ◌∙◌, ◌≤◌}
use Rattle.std.specs.Prelude.{◌==◌}
use Rattle.machine_states.specs.table_words.specs.Limits.{IsWithinLimits}
use Rattle.machine_states.specs.runner_parts.specs.declared.event.EventKind.TheVariants.{Hold}
use Rattle.machine_states.specs.epoch_core.specs.Lists.{times}
use Rattle.runner_block.specs.declared.block.Block.{Block}
use Rattle.runner_block.specs.Kept.{held_in, with_part, with_blocks, given_back_if}
use Rattle.version_words.specs.Kept.{IsKept}
use Rattle.version_words.specs.Events.{IsEnabled, Makes, seen_seat}
use Rattle.version_words.proofs.Holds.{can_publish, hold_event, hold_named, hold_kept, none_here, once_here}
use Rattle.version_words.proofs.table.FlockTable.hold.Goals as goal

pub held_word-held-requires-clause-version : goal.held_word-held-requires-clause-version
held_word-held-requires-clause-version g c =
    let limits = subst IsWithinLimits (sym (c.requires.own.layout ∙ ap (λ t. t.layout) (sym c.self.view_is))) c.self.invariant.limits in
    (can_publish (g.S.Structure.meaning c.args.self.now.structure) c.args.runner c.args.thunk.now c.args.descriptor limits c.requires.next).low

pub exchange_with-found-requires-clause-named : goal.exchange_with-found-requires-clause-named
exchange_with-found-requires-clause-named g c =
    let m = g.S.Structure.meaning c.args.self.now.structure in let seat = c.runner.inside.seat in let t = c.args.thunk.now in let d = c.args.descriptor in
    let limits = subst IsWithinLimits (sym (c.requires.own.layout ∙ ap (λ t. t.layout) (sym c.self.view_is))) c.self.invariant.limits in
    let next = subst (IsEnabled m (Hold t d)) (sym c.runner.view_is) c.requires.next in
    λ κs lives. hold_named m c.args.self.now (seen_seat seat.table_id seat.me) t d c.bits.result c.bits-2.result (can_publish m c.args.runner t d limits c.requires.next).few
    c.bits.ensures.number (c.bits-2.ensures.number ∙ c.held_word-held.ensures) next

pub invariant_of-runner : goal.invariant_of-runner
invariant_of-runner g c =
    let m = g.S.Structure.meaning c.args.self.now.structure in let seat = c.runner.inside.seat in let new = c.exchange_with-found.new.seat in let t = c.args.thunk.now in let d = c.args.descriptor in
    let found = c.exchange_with-found.result in let kept = c.runner.inside.kept.value in let number = c.runner.inside.number in
    let limits = subst IsWithinLimits (sym (c.requires.own.layout ∙ ap (λ t. t.layout) (sym c.self.view_is))) c.self.invariant.limits in
    let event = hold_event m t d c.bits-2.result found (seen_seat seat.table_id seat.me) (seen_seat new.table_id new.me) (can_publish m c.args.runner t d limits c.requires.next).few (c.bits-2.ensures.number ∙ c.held_word-held.ensures) c.exchange_with-found.ensures.event in
    let mean = g.S.Structure.meaning in
    subst (λ (b : Block). IsKept mean number (record b { lists = c.hold.new.self }) new.me) (sym c.deref_mut.ensures.value)
    (hold_kept mean c.args.self.now.structure t d found number kept seat.table_id new.table_id seat.me new.me (ap (λ r. r.structure) c.runner.view_is ∙ c.requires.own.structure) event c.exchange_with-found.ensures.slots c.runner.invariant
    (found == c.bits-3.result) c.hold.new.self (ap (λ n. found == n) c.bits-3.ensures.number)
    (c.hold.ensures ∙ ap (λ (b : Block). with_blocks (with_part b.lists (held_in b.lists.part d (found == c.bits-3.result))) (given_back_if (found == c.bits-3.result) d b.lists.blocks)) c.deref_mut.ensures.value))

pub returns-clause-event : goal.returns-clause-event
returns-clause-event g c =
    let m = g.S.Structure.meaning c.args.self.now.structure in let seat = c.runner.inside.seat in let new = c.exchange_with-found.new.seat in let t = c.args.thunk.now in let d = c.args.descriptor in
    let found = c.exchange_with-found.result in
    let limits = subst IsWithinLimits (sym (c.requires.own.layout ∙ ap (λ t. t.layout) (sym c.self.view_is))) c.self.invariant.limits in
    let event = hold_event m t d c.bits-2.result found (seen_seat seat.table_id seat.me) (seen_seat new.table_id new.me) (can_publish m c.args.runner t d limits c.requires.next).few (c.bits-2.ensures.number ∙ c.held_word-held.ensures) c.exchange_with-found.ensures.event in
    subst (λ r. Makes m (Hold t d) c.from_bits.result r (seen_seat new.table_id new.me)) c.runner.view_is
    (subst (λ n. Makes m (Hold t d) n (seen_seat seat.table_id seat.me) (seen_seat new.table_id new.me)) (sym c.from_bits.ensures) event)

pub hold-requires-clause-none : goal.hold-requires-clause-none
hold-requires-clause-none g c =
    let mean = g.S.Structure.meaning in let seat = c.runner.inside.seat in let t = c.args.thunk.now in let d = c.args.descriptor in
    let next = subst (IsEnabled (mean c.args.self.now.structure) (Hold t d)) (sym c.runner.view_is) c.requires.next in
    ap (λ (b : Block). b.lists.part.published) c.deref_mut.ensures.value ∙ none_here mean c.args.self.now.structure t d c.runner.inside.number c.runner.inside.kept.value seat.table_id seat.me next c.runner.invariant

pub hold-requires-clause-once : goal.hold-requires-clause-once
hold-requires-clause-once g c =
    let m = g.S.Structure.meaning c.args.self.now.structure in let seat = c.runner.inside.seat in let new = c.exchange_with-found.new.seat in let t = c.args.thunk.now in let d = c.args.descriptor in
    let found = c.exchange_with-found.result in
    let limits = subst IsWithinLimits (sym (c.requires.own.layout ∙ ap (λ t. t.layout) (sym c.self.view_is))) c.self.invariant.limits in
    let event = hold_event m t d c.bits-2.result found (seen_seat seat.table_id seat.me) (seen_seat new.table_id new.me) (can_publish m c.args.runner t d limits c.requires.next).few (c.bits-2.ensures.number ∙ c.held_word-held.ensures) c.exchange_with-found.ensures.event in
    subst (λ (b : Block). times d b.lists.part.descriptors.free ≤ 1) (sym c.deref_mut.ensures.value)
    (once_here g.S.Structure.meaning c.args.self.now.structure t d found c.runner.inside.number c.runner.inside.kept.value seat.table_id new.table_id seat.me new.me (ap (λ r. r.structure) c.runner.view_is ∙ c.requires.own.structure)
    event c.exchange_with-found.ensures.slots c.runner.invariant)
