use Rattle.std.proofs.Common.{◌≡◌, ◌≤◌, true, sym, subst, ap, ◌∙◌, length}
use Rattle.std.specs.Prelude.{◌==◌}
use Rattle.machine_states.specs.table_words.specs.Limits.{IsWithinLimits}
use Rattle.machine_states.specs.runner_parts.specs.declared.event.EventKind.TheVariants.{BoardGive}
use Rattle.machine_states.specs.runner_parts.specs.Tests.{has}
use Rattle.machine_states.specs.runner_parts.specs.Lists.{slot_given}
use Rattle.machine_states.specs.runner_steps.specs.Board.{free_if}
use Rattle.machine_states.specs.epoch_core.specs.Lists.{times}
use Rattle.machine_invariant.specs.After.{AreAllowed}
use Rattle.runner_block.specs.declared.block.Block.{Block}
use Rattle.runner_block.specs.Kept.{with_nodes, with_marks}
use Rattle.runner_block.specs.Marks.{slot_tried}
use Rattle.version_words.specs.TableState.{IsOf}
use Rattle.version_words.specs.Kept.{IsKept}
use Rattle.version_words.specs.Events.{IsEnabled, Tries, seen_seat}
use Rattle.version_words.proofs.BoardSteps.{give_named, give_event, give_tries, give_once, give_own, give_word, give_kept}
use Rattle.version_words.proofs.table.FlockTable.board_give.Goals as goal

pub exchange-found-requires-clause-named : goal.exchange-found-requires-clause-named
exchange-found-requires-clause-named g c =
    let t = c.args.self.now in let m = g.S.Structure.meaning t.structure in let seat = c.runner.inside.seat in
    let own = subst (λ r. IsOf t r) (sym c.runner.view_is) c.requires.own in
    let next = subst (IsEnabled m (BoardGive c.args.word c.args.slot)) (sym c.runner.view_is) c.requires.next in
    let above = subst (λ r. r.layout.nodes ≤ length (slot_given r.part.nodes c.args.slot).free) (sym c.runner.view_is) c.requires.above in
    λ κs lives. give_named m t (seen_seat seat.table_id seat.me) own c.args.word c.args.slot next above

pub give_slot-requires-clause-word : goal.give_slot-requires-clause-word
give_slot-requires-clause-word g c =
    let t = c.args.self.now in let m = g.S.Structure.meaning t.structure in let seat = c.runner.inside.seat in
    let own = subst (λ r. IsOf t r) (sym c.runner.view_is) c.requires.own in
    let next = subst (IsEnabled m (BoardGive c.args.word c.args.slot)) (sym c.runner.view_is) c.requires.next in
    give_word m t (seen_seat seat.table_id seat.me) own c.args.word c.args.slot next

pub give_slot-requires-clause-own : goal.give_slot-requires-clause-own
give_slot-requires-clause-own g c =
    let t = c.args.self.now in let mean = g.S.Structure.meaning in let s = t.structure in let seat = c.runner.inside.seat in let new = c.exchange-found.new.seat in let found = c.exchange-found.result in
    let own = subst (λ r. IsOf t r) (sym c.runner.view_is) c.requires.own in
    let next = subst (IsEnabled (mean s) (BoardGive c.args.word c.args.slot)) (sym c.runner.view_is) c.requires.next in
    let event = give_event (mean s) t (seen_seat seat.table_id seat.me) own c.args.word c.args.slot next found (seen_seat new.table_id new.me) c.exchange-found.ensures.event in
    let tells = c.exchange-found.ensures in
    subst (λ (b : Block). has b.lists.part.nodes.free c.args.slot ≡ true) (sym c.deref_mut.ensures.value) (give_own mean s c.args.word c.runner.inside.number c.runner.inside.kept.value seat.table_id seat.me own.structure c.runner.invariant found new.table_id new.me tells.slots c.args.slot event)

pub give_slot-requires-clause-once : goal.give_slot-requires-clause-once
give_slot-requires-clause-once g c =
    let t = c.args.self.now in let mean = g.S.Structure.meaning in let s = t.structure in let seat = c.runner.inside.seat in let new = c.exchange-found.new.seat in let found = c.exchange-found.result in
    let own = subst (λ r. IsOf t r) (sym c.runner.view_is) c.requires.own in
    let next = subst (IsEnabled (mean s) (BoardGive c.args.word c.args.slot)) (sym c.runner.view_is) c.requires.next in
    let event = give_event (mean s) t (seen_seat seat.table_id seat.me) own c.args.word c.args.slot next found (seen_seat new.table_id new.me) c.exchange-found.ensures.event in
    let tells = c.exchange-found.ensures in
    let met = g.met.S.Structure g.world.𝓛 g.world.𝓜 g.world.𝓡 ((λ s allowed. allowed), (λ patient. patient), (λ alone. alone), (λ cuts. cuts)) in
    let limits = subst IsWithinLimits (sym (tells.own.layout ∙ ap (λ t. t.layout) (sym c.self.view_is))) c.self.invariant.limits in
    let requests = subst AreAllowed (sym (tells.own.requests ∙ ap (λ t. t.requests) (sym c.self.view_is))) c.self.invariant.allowed in
    subst (λ (b : Block). times c.args.slot b.lists.part.nodes.free ≤ 1) (sym c.deref_mut.ensures.value) (give_once mean s c.args.word c.runner.inside.number c.runner.inside.kept.value seat.table_id seat.me own.structure c.runner.invariant found new.table_id new.me tells.slots c.args.slot event (met.laws s) limits requests)

pub invariant_of-runner : goal.invariant_of-runner
invariant_of-runner g c =
    let t = c.args.self.now in let mean = g.S.Structure.meaning in let s = t.structure in let seat = c.runner.inside.seat in let new = c.exchange-found.new.seat in let found = c.exchange-found.result in
    let own = subst (λ r. IsOf t r) (sym c.runner.view_is) c.requires.own in
    let next = subst (IsEnabled (mean s) (BoardGive c.args.word c.args.slot)) (sym c.runner.view_is) c.requires.next in
    let event = give_event (mean s) t (seen_seat seat.table_id seat.me) own c.args.word c.args.slot next found (seen_seat new.table_id new.me) c.exchange-found.ensures.event in
    let tells = c.exchange-found.ensures in
    subst (λ (b : Block). IsKept mean c.runner.inside.number (record b { lists = c.give_slot.new.self }) new.me) (sym c.deref_mut.ensures.value)
    (give_kept mean s c.args.word c.runner.inside.number c.runner.inside.kept.value seat.table_id seat.me own.structure c.runner.invariant found new.table_id new.me tells.slots c.args.slot event (give_word (mean s) t (seen_seat seat.table_id seat.me) own c.args.word c.args.slot next) c.give_slot.new.self
    (c.give_slot.ensures ∙ ap (λ (b : Block). with_marks (with_nodes b.lists (free_if (found == 0) (slot_given b.lists.part.nodes c.args.slot) b.lists.part.nodes)) (slot_tried b.lists.marks c.args.word (found == 0))) c.deref_mut.ensures.value))

pub returns-clause-event : goal.returns-clause-event
returns-clause-event g c =
    let t = c.args.self.now in let m = g.S.Structure.meaning t.structure in let seat = c.runner.inside.seat in let new = c.exchange-found.new.seat in let found = c.exchange-found.result in
    let own = subst (λ r. IsOf t r) (sym c.runner.view_is) c.requires.own in
    let next = subst (IsEnabled m (BoardGive c.args.word c.args.slot)) (sym c.runner.view_is) c.requires.next in
    subst (λ r. Tries m (BoardGive c.args.word c.args.slot) (found == 0) r (seen_seat new.table_id new.me)) c.runner.view_is
    (give_tries m t (seen_seat seat.table_id seat.me) own c.args.word c.args.slot next (found == 0) (seen_seat new.table_id new.me) c.exchange-found.ensures.tries)
