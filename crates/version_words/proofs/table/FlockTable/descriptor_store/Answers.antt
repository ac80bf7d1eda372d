use Rattle.std.proofs.Common.{◌≡◌, true, nat_lt, ap, ◌+◌, ◌≤◌, sym, subst, ◌∙◌, arith}
use Rattle.machine_states.specs.runner_parts.specs.declared.event.EventKind.TheVariants.{PrivateStore}
use Rattle.machine_states.specs.table_words.specs.declared.layout.Layout.{Layout}
use Rattle.machine_states.specs.table_words.specs.Places.{slot_count}
use Rattle.version_words.specs.TableState.{IsOf}
use Rattle.version_words.specs.Events.{IsEnabled, Makes, seen_seat}
use Rattle.machine_states.specs.runner_steps.specs.Outside.{blocks_from}
use Rattle.version_words.proofs.OwnLoads.{before_blocks, descriptor_there}
use Rattle.version_words.proofs.Privates.{store_at, store_blind, store_event, store_named, store_kept_of}
use Rattle.version_words.proofs.Calls.{start_built}
use Rattle.version_words.proofs.table.FlockTable.descriptor_store.Goals as goal

pub store_at-requires-clause-named : goal.store_at-requires-clause-named
store_at-requires-clause-named g c =
    let t = c.args.self.now in let m = g.S.Structure.meaning t.structure in let slot = slot_count t.layout m.fixed_slots + c.args.descriptor in
    let seat = c.runner.inside.seat in let r = seen_seat seat.table_id seat.me in
    let own = subst (λ r. IsOf t r) (sym c.runner.view_is) c.requires.own in
    let next = subst (IsEnabled m (PrivateStore slot c.args.word c.args.number)) (sym c.runner.view_is) c.requires.next in
    λ κs lives. store_named m t r own slot c.args.word c.args.number next c.descriptor_spot-spot.result (c.descriptor_spot-spot.ensures ∙ sym (descriptor_there m t.layout c.args.descriptor c.args.word c.requires.few))

pub store_at-requires-clause-blind : goal.store_at-requires-clause-blind
store_at-requires-clause-blind g c =
    let t = c.args.self.now in let m = g.S.Structure.meaning t.structure in let slot = slot_count t.layout m.fixed_slots + c.args.descriptor in
    let seat = c.runner.inside.seat in let r = seen_seat seat.table_id seat.me in
    let own = subst (λ r. IsOf t r) (sym c.runner.view_is) c.requires.own in
    let next = subst (IsEnabled m (PrivateStore slot c.args.word c.args.number)) (sym c.runner.view_is) c.requires.next in
    λ κs lives. store_blind m t r own slot c.args.word c.args.number next c.descriptor_spot-spot.result (c.descriptor_spot-spot.ensures ∙ sym (descriptor_there m t.layout c.args.descriptor c.args.word c.requires.few))

pub word_at-at-requires : goal.word_at-at-requires
word_at-at-requires g c = let t = c.self.inside in
    start_built g.S.Structure.meaning t.table.shared.table_id t.table.shared.key t.setup c.self.invariant c.args.self.now c.self.view_is c.args.descriptor c.args.start c.requires.start

pub store_at-requires-clause-at : goal.store_at-requires-clause-at
store_at-requires-clause-at g c =
    let t = c.args.self.now in let m = g.S.Structure.meaning t.structure in let slot = slot_count t.layout m.fixed_slots + c.args.descriptor in
    let seat = c.runner.inside.seat in let r = seen_seat seat.table_id seat.me in
    let own = subst (λ r. IsOf t r) (sym c.runner.view_is) c.requires.own in
    let next = subst (IsEnabled m (PrivateStore slot c.args.word c.args.number)) (sym c.runner.view_is) c.requires.next in
    let there = descriptor_there m t.layout c.args.descriptor c.args.word c.requires.few in
    λ κs lives. c.word_at-at.ensures ∙ (ap (λ n. n + c.args.word) c.requires.start ∙ sym (store_at m t r own slot c.args.word c.args.number next c.descriptor_spot-spot.result (c.descriptor_spot-spot.ensures ∙ sym there) c.args.descriptor there))

pub invariant_of-runner : goal.invariant_of-runner
invariant_of-runner g c =
    let t = c.args.self.now in let mean = g.S.Structure.meaning in let m = mean t.structure in let slot = slot_count t.layout m.fixed_slots + c.args.descriptor in
    let seat = c.runner.inside.seat in let new = c.store_at.new.seat in
    let own = subst (λ r. IsOf t r) (sym c.runner.view_is) c.requires.own in
    let next = subst (IsEnabled m (PrivateStore slot c.args.word c.args.number)) (sym c.runner.view_is) c.requires.next in
    let made = store_event m t (seen_seat seat.table_id seat.me) own slot c.args.word c.args.number next c.descriptor_spot-spot.result (c.descriptor_spot-spot.ensures ∙ sym (descriptor_there m t.layout c.args.descriptor c.args.word c.requires.few))
    0 (seen_seat new.table_id new.me) (c.store_at.ensures.event 0) in
    let past : slot_count seat.me.0.layout m.fixed_slots ≤ slot = subst (λ (l : Layout). slot_count l m.fixed_slots ≤ slot) (sym own.layout) (omega arith) in
    store_kept_of mean t.structure slot c.args.word c.args.number 0 c.runner.inside.number c.runner.inside.kept.value seat.table_id new.table_id seat.me new.me own.structure made c.store_at.ensures.slots c.runner.invariant
    (subst (λ (l : Layout). nat_lt slot (blocks_from m l) ≡ true) (sym own.layout) (before_blocks m t.layout c.args.descriptor c.requires.few)) past

pub returns-clause-event : goal.returns-clause-event
returns-clause-event g c =
    let t = c.args.self.now in let m = g.S.Structure.meaning t.structure in let slot = slot_count t.layout m.fixed_slots + c.args.descriptor in
    let seat = c.runner.inside.seat in let new = c.store_at.new.seat in
    let own = subst (λ r. IsOf t r) (sym c.runner.view_is) c.requires.own in
    let next = subst (IsEnabled m (PrivateStore slot c.args.word c.args.number)) (sym c.runner.view_is) c.requires.next in
    λ found. subst (λ r. Makes m (PrivateStore slot c.args.word c.args.number) found r (seen_seat new.table_id new.me)) c.runner.view_is
    (store_event m t (seen_seat seat.table_id seat.me) own slot c.args.word c.args.number next c.descriptor_spot-spot.result (c.descriptor_spot-spot.ensures ∙ sym (descriptor_there m t.layout c.args.descriptor c.args.word c.requires.few))
    found (seen_seat new.table_id new.me) (c.store_at.ensures.event found))
