use Rattle.std.proofs.Common.{ap, sym, subst, ◌∙◌}
use Rattle.machine_states.specs.runner_parts.specs.declared.event.EventKind.TheVariants.{PrivateLoad}
use Rattle.machine_states.specs.table_words.specs.Limits.{IsWithinLimits}
use Rattle.machine_states.specs.table_words.specs.Places.{slot_count}
use Rattle.machine_invariant.specs.After.{AreAllowed}
use Rattle.version_words.specs.TableState.{IsOf}
use Rattle.runner_block.specs.declared.block.Block.{Block}
use Rattle.runner_block.specs.Blocks.{block_looked}
use Rattle.version_words.specs.Kept.{IsKept}
use Rattle.runner_block.specs.Looks.{MayTake}
use Rattle.version_words.specs.Events.{IsEnabled, Makes, seen_seat}
use Rattle.version_words.proofs.OwnLoads.{load_within, load_event, load_named, load_kept, takes_free}
use Rattle.version_words.proofs.table.FlockTable.private_load.Goals as goal

pub private_spot-spot-requires-after_bounds : goal.private_spot-spot-requires-after_bounds
private_spot-spot-requires-after_bounds g c = λ κs lives. load_within (g.S.Structure.meaning c.args.self.now.structure) c.args.self.now c.args.runner c.requires.own c.args.slot c.args.word c.requires.next

pub load-found-requires-clause-named : goal.load-found-requires-clause-named
load-found-requires-clause-named g c =
    let m = g.S.Structure.meaning c.args.self.now.structure in let seat = c.runner.inside.seat in let r = seen_seat seat.table_id seat.me in
    let own = subst (λ r. IsOf c.args.self.now r) (sym c.runner.view_is) c.requires.own in
    let next = subst (IsEnabled m (PrivateLoad c.args.slot c.args.word)) (sym c.runner.view_is) c.requires.next in
    λ κs lives. load_named m c.args.self.now r own c.args.slot c.args.word next c.private_spot-spot.result c.private_spot-spot.ensures

pub loaded-requires-clause-own : goal.loaded-requires-clause-own
loaded-requires-clause-own g c =
    let m = g.S.Structure.meaning c.args.self.now.structure in
    let own = subst (λ r. IsOf c.args.self.now r) (sym c.runner.view_is) c.requires.own in
    let next = subst (IsEnabled m (PrivateLoad c.args.slot c.args.word)) (sym c.runner.view_is) c.requires.next in
    let made = load_event m c.args.self.now (seen_seat c.runner.inside.seat.table_id c.runner.inside.seat.me) own c.args.slot c.args.word next c.private_spot-spot.result c.private_spot-spot.ensures
    c.load-found.result (seen_seat c.load-found.new.seat.table_id c.load-found.new.seat.me) c.load-found.ensures.event in
    let met = g.met.S.Structure g.world.𝓛 g.world.𝓜 g.world.𝓡 ((λ s allowed. allowed), (λ patient. patient), (λ alone. alone), (λ cuts. cuts)) in
    let limits = subst IsWithinLimits (sym (c.load-found.ensures.own.layout ∙ ap (λ t. t.layout) (sym c.self.view_is))) c.self.invariant.limits in
    let requests = subst AreAllowed (sym (c.load-found.ensures.own.requests ∙ ap (λ t. t.requests) (sym c.self.view_is))) c.self.invariant.allowed in
    let mean = g.S.Structure.meaning in let seat = c.runner.inside.seat in let new = c.load-found.new.seat in
    subst (λ (b : Block). MayTake b c.args.slot) (sym c.deref_mut.ensures.value)
    (takes_free mean c.args.self.now.structure c.args.slot c.args.word c.load-found.result c.runner.inside.number c.runner.inside.kept.value seat.table_id new.table_id seat.me new.me
    (ap (λ r. r.structure) c.runner.view_is ∙ c.requires.own.structure) made c.load-found.ensures.slots c.runner.invariant (met.laws c.args.self.now.structure) limits requests)

pub loaded-requires-clause-room : goal.loaded-requires-clause-room
loaded-requires-clause-room g c =
    let s = c.args.self.now.structure in let m = g.S.Structure.meaning s in
    let kept = c.runner.invariant.of_table s (ap (λ r. r.structure) c.runner.view_is ∙ c.requires.own.structure) in
    let layout = ap (λ t. t.layout) c.self.view_is ∙ (sym c.requires.own.layout ∙ sym (ap (λ r. r.layout) c.runner.view_is)) in
    c.self.invariant.node_slots ∙ ((λ i. slot_count (layout i) (g.S.Structure.meaning (c.self.view_is i).structure).fixed_slots) ∙ (sym kept.room ∙ ap (λ (b : Block). b.lists.room) (sym c.deref_mut.ensures.value)))

pub invariant_of-runner : goal.invariant_of-runner
invariant_of-runner g c =
    let m = g.S.Structure.meaning c.args.self.now.structure in
    let own = subst (λ r. IsOf c.args.self.now r) (sym c.runner.view_is) c.requires.own in
    let next = subst (IsEnabled m (PrivateLoad c.args.slot c.args.word)) (sym c.runner.view_is) c.requires.next in
    let made = load_event m c.args.self.now (seen_seat c.runner.inside.seat.table_id c.runner.inside.seat.me) own c.args.slot c.args.word next c.private_spot-spot.result c.private_spot-spot.ensures
    c.load-found.result (seen_seat c.load-found.new.seat.table_id c.load-found.new.seat.me) c.load-found.ensures.event in
    let mean = g.S.Structure.meaning in let seat = c.runner.inside.seat in let new = c.load-found.new.seat in let number = c.runner.inside.number in
    let layout = ap (λ t. t.layout) c.self.view_is ∙ (sym c.requires.own.layout ∙ sym (ap (λ r. r.layout) c.runner.view_is)) in
    subst (λ (b : Block). IsKept mean number b new.me) (sym (c.loaded.ensures ∙ (λ i. block_looked (layout i) (c.deref_mut.ensures.value i) c.args.slot c.args.word c.load-found.result)))
    (load_kept mean c.args.self.now.structure c.args.slot c.args.word c.load-found.result number c.runner.inside.kept.value seat.table_id new.table_id seat.me new.me
    (ap (λ r. r.structure) c.runner.view_is ∙ c.requires.own.structure) made c.load-found.ensures.slots c.runner.invariant)

pub returns-clause-event : goal.returns-clause-event
returns-clause-event g c =
    let m = g.S.Structure.meaning c.args.self.now.structure in
    let own = subst (λ r. IsOf c.args.self.now r) (sym c.runner.view_is) c.requires.own in
    let next = subst (IsEnabled m (PrivateLoad c.args.slot c.args.word)) (sym c.runner.view_is) c.requires.next in
    let made = load_event m c.args.self.now (seen_seat c.runner.inside.seat.table_id c.runner.inside.seat.me) own c.args.slot c.args.word next c.private_spot-spot.result c.private_spot-spot.ensures
    c.load-found.result (seen_seat c.load-found.new.seat.table_id c.load-found.new.seat.me) c.load-found.ensures.event in
    subst (λ r. Makes (g.S.Structure.meaning c.args.self.now.structure) (PrivateLoad c.args.slot c.args.word) c.load-found.result r (seen_seat c.load-found.new.seat.table_id c.load-found.new.seat.me)) c.runner.view_is made
