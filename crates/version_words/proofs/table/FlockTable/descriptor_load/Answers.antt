use Rattle.std.proofs.Common.{ap, ◌+◌, ◌≤◌, sym, subst, ◌∙◌, arith}
use Rattle.machine_states.specs.runner_parts.specs.declared.event.EventKind.TheVariants.{PrivateLoad}
use Rattle.machine_states.specs.table_words.specs.declared.layout.Layout.{Layout}
use Rattle.machine_states.specs.table_words.specs.Places.{slot_count}
use Rattle.version_words.specs.TableState.{IsOf}
use Rattle.version_words.specs.Events.{IsEnabled, Makes, seen_seat}
use Rattle.version_words.proofs.OwnLoads.{descriptor_there, load_at, load_event, load_named, load_kept_of}
use Rattle.version_words.proofs.Calls.{start_built}
use Rattle.version_words.proofs.table.FlockTable.descriptor_load.Goals as goal

pub load_at-found-requires-clause-named : goal.load_at-found-requires-clause-named
load_at-found-requires-clause-named g c =
    let t = c.args.self.now in let m = g.S.Structure.meaning t.structure in let slot = slot_count t.layout m.fixed_slots + c.args.descriptor in
    let seat = c.runner.inside.seat in let r = seen_seat seat.table_id seat.me in
    let own = subst (λ r. IsOf t r) (sym c.runner.view_is) c.requires.own in
    let next = subst (IsEnabled m (PrivateLoad slot c.args.word)) (sym c.runner.view_is) c.requires.next in
    λ κs lives. load_named m t r own slot c.args.word next c.descriptor_spot-spot.result (c.descriptor_spot-spot.ensures ∙ sym (descriptor_there m t.layout c.args.descriptor c.args.word c.requires.few))

pub word_at-at-requires : goal.word_at-at-requires
word_at-at-requires g c = let t = c.self.inside in
    start_built g.S.Structure.meaning t.table.shared.table_id t.table.shared.key t.setup c.self.invariant c.args.self.now c.self.view_is c.args.descriptor c.args.start c.requires.start

pub load_at-found-requires-clause-at : goal.load_at-found-requires-clause-at
load_at-found-requires-clause-at g c =
    let t = c.args.self.now in let m = g.S.Structure.meaning t.structure in let slot = slot_count t.layout m.fixed_slots + c.args.descriptor in
    let seat = c.runner.inside.seat in let r = seen_seat seat.table_id seat.me in
    let own = subst (λ r. IsOf t r) (sym c.runner.view_is) c.requires.own in
    let next = subst (IsEnabled m (PrivateLoad slot c.args.word)) (sym c.runner.view_is) c.requires.next in
    let there = descriptor_there m t.layout c.args.descriptor c.args.word c.requires.few in
    λ κs lives. c.word_at-at.ensures ∙ (ap (λ n. n + c.args.word) c.requires.start ∙ sym (load_at m t r own slot c.args.word next c.descriptor_spot-spot.result (c.descriptor_spot-spot.ensures ∙ sym there) c.args.descriptor there))

pub invariant_of-runner : goal.invariant_of-runner
invariant_of-runner g c =
    let t = c.args.self.now in let mean = g.S.Structure.meaning in let m = mean t.structure in let slot = slot_count t.layout m.fixed_slots + c.args.descriptor in
    let seat = c.runner.inside.seat in let new = c.load_at-found.new.seat in
    let own = subst (λ r. IsOf t r) (sym c.runner.view_is) c.requires.own in
    let next = subst (IsEnabled m (PrivateLoad slot c.args.word)) (sym c.runner.view_is) c.requires.next in
    let made = load_event m t (seen_seat seat.table_id seat.me) own slot c.args.word next c.descriptor_spot-spot.result (c.descriptor_spot-spot.ensures ∙ sym (descriptor_there m t.layout c.args.descriptor c.args.word c.requires.few))
    c.load_at-found.result (seen_seat new.table_id new.me) c.load_at-found.ensures.event in
    let past : slot_count seat.me.0.layout m.fixed_slots ≤ slot = subst (λ (l : Layout). slot_count l m.fixed_slots ≤ slot) (sym own.layout) (omega arith) in
    load_kept_of mean t.structure slot c.args.word c.load_at-found.result c.runner.inside.number c.runner.inside.kept.value seat.table_id new.table_id seat.me new.me own.structure made c.load_at-found.ensures.slots c.runner.invariant past

pub returns-clause-event : goal.returns-clause-event
returns-clause-event g c =
    let t = c.args.self.now in let m = g.S.Structure.meaning t.structure in let slot = slot_count t.layout m.fixed_slots + c.args.descriptor in
    let seat = c.runner.inside.seat in let new = c.load_at-found.new.seat in
    let own = subst (λ r. IsOf t r) (sym c.runner.view_is) c.requires.own in
    let next = subst (IsEnabled m (PrivateLoad slot c.args.word)) (sym c.runner.view_is) c.requires.next in
    let made = load_event m t (seen_seat seat.table_id seat.me) own slot c.args.word next c.descriptor_spot-spot.result (c.descriptor_spot-spot.ensures ∙ sym (descriptor_there m t.layout c.args.descriptor c.args.word c.requires.few))
    c.load_at-found.result (seen_seat new.table_id new.me) c.load_at-found.ensures.event in
    subst (λ r. Makes m (PrivateLoad slot c.args.word) c.load_at-found.result r (seen_seat new.table_id new.me)) c.runner.view_is made
