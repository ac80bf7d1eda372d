use Rattle.std.proofs.Common.{◌≡◌, ◌+◌, Some, ap, sym, subst, ◌∙◌}
use Rattle.machine_states.specs.table_words.specs.declared.spot.Spot.TheVariants.{ThunkWord}
use Rattle.machine_states.specs.table_words.specs.declared.access.Access.TheVariants.{Loads}
use Rattle.machine_states.specs.runner_parts.specs.declared.event.EventKind.{EventKind}
use Rattle.machine_states.specs.runner_steps.specs.Asks.{sizes_for}
use Rattle.runner_block.specs.declared.block.Block.{Block}
use Rattle.runner_block.specs.declared.place.RunPlace.{RunPlace}
use Rattle.version_words.specs.Naming.{open_of}
use Rattle.version_words.specs.Kept.{IsKept}
use Rattle.runner_block.specs.Places.{opened_place}
use Rattle.version_words.specs.Place.{opened_of}
use Rattle.version_words.specs.TableState.{IsOf}
use Rattle.version_words.specs.Events.{met_by, Makes, seen_seat}
use Rattle.version_words.proofs.Openings.{opening_kept, thunk_named}
use Rattle.version_words.proofs.Calls.{start_built}
use Rattle.version_words.proofs.table.FlockTable.load_thunk.Goals as goal

pub word_at-at-requires : goal.word_at-at-requires
word_at-at-requires g c = let t = c.self.inside in
    start_built g.S.Structure.meaning t.table.shared.table_id t.table.shared.key t.setup c.self.invariant c.args.self.now c.self.view_is c.args.descriptor c.args.start c.requires.start

pub load_at-word-requires-clause-at : goal.load_at-word-requires-clause-at
load_at-word-requires-clause-at g c = λ κs lives. c.word_at-at.ensures ∙ ap (λ n. n + c.args.index) c.requires.start

pub invariant_of-runner : goal.invariant_of-runner
invariant_of-runner g c =
    let m = g.S.Structure.meaning c.args.self.now.structure in let seat = c.runner.inside.seat in let new = c.load_at-word.new.seat in
    let d = c.args.descriptor in let index = c.args.index in let found = c.load_at-word.result in let p = seat.me.0.part in
    let old = seen_seat seat.table_id seat.me in
    let at = subst (λ r. index ≡ opened_of r.part.run) (sym c.runner.view_is) c.requires.index in
    let asked = subst (λ r. met_by m r (open_of r.part.run d) ≡ Some (ThunkWord d index, Loads)) (sym c.runner.view_is) c.requires.next in
    let own = subst (λ r. IsOf c.args.self.now r) (sym c.runner.view_is) c.requires.own in
    let same_sizes : sizes_for m c.args.self.now.layout c.args.self.now.requests ≡ sizes_for m seat.me.0.layout seat.me.0.requests = (λ i. sizes_for m (sym own.layout i) (sym own.requests i)) in
    let named = thunk_named (sizes_for m c.args.self.now.layout c.args.self.now.requests) (sizes_for m seat.me.0.layout seat.me.0.requests) p d index same_sizes at in
    let event = subst (λ (k : EventKind). Makes m k found old (seen_seat new.table_id new.me)) named c.load_at-word.ensures.event in
    let mean = g.S.Structure.meaning in let number = c.runner.inside.number in let block = c.runner.inside.kept.value in
    let kept = opening_kept mean c.args.self.now.structure d index found number block seat.table_id new.table_id seat.me new.me own.structure c.load_at-word.ensures.slots c.runner.invariant at asked event in
    subst (λ (b : Block). IsKept mean number (record { lists = b.lists; place = c.opened.new.self }) new.me) (sym c.deref_mut.ensures.value)
    (subst (λ (k : RunPlace). IsKept mean number (record { lists = block.lists; place = k }) new.me) (sym (c.opened.ensures ∙ (λ i. opened_place (c.deref_mut.ensures.value i).place d index found))) kept)

pub returns-clause-event : goal.returns-clause-event
returns-clause-event g c =
    let m = g.S.Structure.meaning c.args.self.now.structure in let seat = c.runner.inside.seat in let new = c.load_at-word.new.seat in
    let d = c.args.descriptor in let found = c.load_at-word.result in let p = seat.me.0.part in
    let at = subst (λ r. c.args.index ≡ opened_of r.part.run) (sym c.runner.view_is) c.requires.index in
    let own = subst (λ r. IsOf c.args.self.now r) (sym c.runner.view_is) c.requires.own in
    let same_sizes : sizes_for m c.args.self.now.layout c.args.self.now.requests ≡ sizes_for m seat.me.0.layout seat.me.0.requests = (λ i. sizes_for m (sym own.layout i) (sym own.requests i)) in
    let named = thunk_named (sizes_for m c.args.self.now.layout c.args.self.now.requests) (sizes_for m seat.me.0.layout seat.me.0.requests) p d c.args.index same_sizes at in
    subst (λ r. Makes m (open_of r.part.run d) found r (seen_seat new.table_id new.me)) c.runner.view_is
    (subst (λ (k : EventKind). Makes m k found (seen_seat seat.table_id seat.me) (seen_seat new.table_id new.me)) named c.load_at-word.ensures.event)
