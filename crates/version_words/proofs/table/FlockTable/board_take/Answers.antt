use Rattle.std.proofs.Common.{◌<◌, sym, subst, ap, arith, ◌∙◌}
use Rattle.std.specs.Prelude.{◌==◌}
use Rattle.machine_states.specs.body_terms.specs.Word.{value_of}
use Rattle.machine_states.specs.table_words.specs.Limits.{IsWithinLimits}
use Rattle.machine_states.specs.runner_parts.specs.declared.event.EventKind.TheVariants.{BoardTake}
use Rattle.machine_states.specs.runner_parts.specs.Lists.{slot_drawn}
use Rattle.machine_states.specs.runner_steps.specs.Board.{free_if}
use Rattle.machine_invariant.specs.After.{AreAllowed}
use Rattle.runner_block.specs.declared.block.Block.{Block}
use Rattle.runner_block.specs.Kept.{with_nodes, with_marks}
use Rattle.runner_block.specs.Marks.{slot_tried}
use Rattle.runner_block.specs.Room.{AreFew}
use Rattle.version_words.specs.TableState.{IsOf}
use Rattle.version_words.specs.Kept.{IsKept}
use Rattle.version_words.specs.Events.{IsEnabled, Tries, seen_seat}
use Rattle.version_words.proofs.BoardSteps.{link_some, take_named, take_event, take_tries, take_low, take_room, take_word, take_kept}
use Rattle.version_words.proofs.table.FlockTable.board_take.Goals as goal

pub exchange-found-requires-clause-named : goal.exchange-found-requires-clause-named
exchange-found-requires-clause-named g c =
    let t = c.args.self.now in let m = g.S.Structure.meaning t.structure in let seat = c.runner.inside.seat in
    let own = subst (λ r. IsOf t r) (sym c.runner.view_is) c.requires.own in
    let next = subst (IsEnabled m (BoardTake c.args.word c.args.link)) (sym c.runner.view_is) c.requires.next in
    λ κs lives. take_named m t (seen_seat seat.table_id seat.me) own c.args.word c.args.link next

pub overflow_sub-link : goal.overflow_sub-link
overflow_sub-link g c =
    let t = c.args.self.now in let m = g.S.Structure.meaning t.structure in let seat = c.runner.inside.seat in
    let own = subst (λ r. IsOf t r) (sym c.runner.view_is) c.requires.own in
    let next = subst (IsEnabled m (BoardTake c.args.word c.args.link)) (sym c.runner.view_is) c.requires.next in
    let some = link_some m t (seen_seat seat.table_id seat.me) own c.args.word c.args.link next in omega (arith, some)

pub draw_slot-requires-clause-word : goal.draw_slot-requires-clause-word
draw_slot-requires-clause-word g c =
    let t = c.args.self.now in let m = g.S.Structure.meaning t.structure in let seat = c.runner.inside.seat in
    let own = subst (λ r. IsOf t r) (sym c.runner.view_is) c.requires.own in
    let next = subst (IsEnabled m (BoardTake c.args.word c.args.link)) (sym c.runner.view_is) c.requires.next in
    take_word m t (seen_seat seat.table_id seat.me) own c.args.word c.args.link next

pub draw_slot-requires-clause-node : goal.draw_slot-requires-clause-node
draw_slot-requires-clause-node g c = λ won.
    let t = c.args.self.now in let mean = g.S.Structure.meaning in let s = t.structure in let seat = c.runner.inside.seat in let new = c.exchange-found.new.seat in let found = c.exchange-found.result in
    let own = subst (λ r. IsOf t r) (sym c.runner.view_is) c.requires.own in
    let next = subst (IsEnabled (mean s) (BoardTake c.args.word c.args.link)) (sym c.runner.view_is) c.requires.next in
    let event = take_event (mean s) t (seen_seat seat.table_id seat.me) own c.args.word c.args.link next found (seen_seat new.table_id new.me) c.exchange-found.ensures.event in
    let slot = c.value-slot.ensures ∙ ap value_of c.from_bits.ensures in
    let tells = c.exchange-found.ensures in
    let met = g.met.S.Structure g.world.𝓛 g.world.𝓜 g.world.𝓡 ((λ s allowed. allowed), (λ patient. patient), (λ alone. alone), (λ cuts. cuts)) in
    let limits = subst IsWithinLimits (sym (tells.own.layout ∙ ap (λ t. t.layout) (sym c.self.view_is))) c.self.invariant.limits in
    let requests = subst AreAllowed (sym (tells.own.requests ∙ ap (λ t. t.requests) (sym c.self.view_is))) c.self.invariant.allowed in
    subst (λ (b : Block). c.value-slot.result < b.lists.room) (sym c.deref_mut.ensures.value)
    (subst (λ n. n < c.runner.inside.kept.value.lists.room) (sym slot) (take_low mean s c.args.word c.runner.inside.number c.runner.inside.kept.value seat.table_id seat.me own.structure c.runner.invariant found new.table_id new.me tells.slots c.args.link event (met.laws s) limits requests won))

pub draw_slot-requires-clause-few : goal.draw_slot-requires-clause-few
draw_slot-requires-clause-few g c = λ won.
    let t = c.args.self.now in let mean = g.S.Structure.meaning in let s = t.structure in let seat = c.runner.inside.seat in let new = c.exchange-found.new.seat in let found = c.exchange-found.result in
    let own = subst (λ r. IsOf t r) (sym c.runner.view_is) c.requires.own in
    let next = subst (IsEnabled (mean s) (BoardTake c.args.word c.args.link)) (sym c.runner.view_is) c.requires.next in
    let event = take_event (mean s) t (seen_seat seat.table_id seat.me) own c.args.word c.args.link next found (seen_seat new.table_id new.me) c.exchange-found.ensures.event in
    let slot = c.value-slot.ensures ∙ ap value_of c.from_bits.ensures in
    let tells = c.exchange-found.ensures in
    let met = g.met.S.Structure g.world.𝓛 g.world.𝓜 g.world.𝓡 ((λ s allowed. allowed), (λ patient. patient), (λ alone. alone), (λ cuts. cuts)) in
    let limits = subst IsWithinLimits (sym (tells.own.layout ∙ ap (λ t. t.layout) (sym c.self.view_is))) c.self.invariant.limits in
    let requests = subst AreAllowed (sym (tells.own.requests ∙ ap (λ t. t.requests) (sym c.self.view_is))) c.self.invariant.allowed in
    subst (λ (b : Block). AreFew b.lists.room (slot_drawn b.lists.part.nodes c.value-slot.result)) (sym c.deref_mut.ensures.value)
    (subst (λ n. AreFew c.runner.inside.kept.value.lists.room (slot_drawn c.runner.inside.kept.value.lists.part.nodes n)) (sym slot) (take_room mean s c.args.word c.runner.inside.number c.runner.inside.kept.value seat.table_id seat.me own.structure c.runner.invariant found new.table_id new.me tells.slots c.args.link event (met.laws s) limits requests won))

pub invariant_of-runner : goal.invariant_of-runner
invariant_of-runner g c =
    let t = c.args.self.now in let mean = g.S.Structure.meaning in let s = t.structure in let seat = c.runner.inside.seat in let new = c.exchange-found.new.seat in let found = c.exchange-found.result in
    let own = subst (λ r. IsOf t r) (sym c.runner.view_is) c.requires.own in
    let next = subst (IsEnabled (mean s) (BoardTake c.args.word c.args.link)) (sym c.runner.view_is) c.requires.next in
    let event = take_event (mean s) t (seen_seat seat.table_id seat.me) own c.args.word c.args.link next found (seen_seat new.table_id new.me) c.exchange-found.ensures.event in
    let slot = c.value-slot.ensures ∙ ap value_of c.from_bits.ensures in
    let tells = c.exchange-found.ensures in
    subst (λ (b : Block). IsKept mean c.runner.inside.number (record b { lists = c.draw_slot.new.self }) new.me) (sym c.deref_mut.ensures.value)
    (take_kept mean s c.args.word c.runner.inside.number c.runner.inside.kept.value seat.table_id seat.me own.structure c.runner.invariant found new.table_id new.me tells.slots c.args.link event (take_word (mean s) t (seen_seat seat.table_id seat.me) own c.args.word c.args.link next) c.draw_slot.new.self
    (c.draw_slot.ensures ∙ (λ i. let b = c.deref_mut.ensures.value i in with_marks (with_nodes b.lists (free_if (found == c.args.link) (slot_drawn b.lists.part.nodes (slot i)) b.lists.part.nodes)) (slot_tried b.lists.marks c.args.word (found == c.args.link)))))

pub returns-clause-event : goal.returns-clause-event
returns-clause-event g c =
    let t = c.args.self.now in let m = g.S.Structure.meaning t.structure in let seat = c.runner.inside.seat in let new = c.exchange-found.new.seat in let found = c.exchange-found.result in
    let own = subst (λ r. IsOf t r) (sym c.runner.view_is) c.requires.own in
    let next = subst (IsEnabled m (BoardTake c.args.word c.args.link)) (sym c.runner.view_is) c.requires.next in
    subst (λ r. Tries m (BoardTake c.args.word c.args.link) (found == c.args.link) r (seen_seat new.table_id new.me)) c.runner.view_is
    (take_tries m t (seen_seat seat.table_id seat.me) own c.args.word c.args.link next (found == c.args.link) (seen_seat new.table_id new.me) c.exchange-found.ensures.tries)
