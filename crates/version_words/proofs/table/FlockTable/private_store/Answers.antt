use Rattle.std.proofs.Common.{◌≡◌, ◌-◌, ◌≤◌, ℕ, true, false, nat_lt, Some, ap, ◌∙◌, sym, subst, arith}
use Rattle.machine_states.specs.runner_parts.specs.declared.event.EventKind.TheVariants.{PrivateStore}
use Rattle.version_words.specs.TableState.{IsOf}
use Rattle.runner_block.specs.declared.block.Block.{Block}
use Rattle.runner_block.specs.Blocks.{block_stored, block_cleared}
use Rattle.machine_states.specs.epoch_core.specs.small_lemmas.proofs.Numbers.{less_tested, not_less_tested}
use Rattle.machine_states.specs.epoch_core.specs.Lists.{times}
use Rattle.machine_states.specs.table_words.specs.Limits.{IsWithinLimits}
use Rattle.machine_states.specs.runner_steps.specs.Outside.{blocks_from}
use Rattle.machine_states.specs.runner_steps.specs.InRun.{make_slot}
use Rattle.machine_invariant.specs.After.{AreAllowed}
use Rattle.version_words.specs.Kept.{IsKept}
use Rattle.version_words.specs.Events.{IsEnabled, Makes, seen_seat}
use Rattle.version_words.proofs.Privates.{few_cells, store_blind, store_event, store_named, store_kept, next_block, clear_once, clear_kept}
use Rattle.version_words.proofs.table.FlockTable.private_store.Goals as goal

pub private_spot-spot-requires-after_bounds : goal.private_spot-spot-requires-after_bounds
private_spot-spot-requires-after_bounds g c = λ κs lives. few_cells (g.S.Structure.meaning c.args.self.now.structure) c.args.self.now c.args.runner c.requires.own c.args.slot c.args.word c.args.number c.requires.next

pub store-requires-clause-named : goal.store-requires-clause-named
store-requires-clause-named g c =
    let m = g.S.Structure.meaning c.args.self.now.structure in let seat = c.runner.inside.seat in let r = seen_seat seat.table_id seat.me in
    let own = subst (λ r. IsOf c.args.self.now r) (sym c.runner.view_is) c.requires.own in
    let next = subst (IsEnabled m (PrivateStore c.args.slot c.args.word c.args.number)) (sym c.runner.view_is) c.requires.next in
    λ κs lives. store_named m c.args.self.now r own c.args.slot c.args.word c.args.number next c.private_spot-spot.result c.private_spot-spot.ensures

pub store-requires-clause-blind : goal.store-requires-clause-blind
store-requires-clause-blind g c =
    let m = g.S.Structure.meaning c.args.self.now.structure in let seat = c.runner.inside.seat in let r = seen_seat seat.table_id seat.me in
    let own = subst (λ r. IsOf c.args.self.now r) (sym c.runner.view_is) c.requires.own in
    let next = subst (IsEnabled m (PrivateStore c.args.slot c.args.word c.args.number)) (sym c.runner.view_is) c.requires.next in
    λ κs lives. store_blind m c.args.self.now r own c.args.slot c.args.word c.args.number next c.private_spot-spot.result c.private_spot-spot.ensures

pub invariant_of-runner : goal.invariant_of-runner
invariant_of-runner g c =
    let m = g.S.Structure.meaning c.args.self.now.structure in
    let own = subst (λ r. IsOf c.args.self.now r) (sym c.runner.view_is) c.requires.own in
    let next = subst (IsEnabled m (PrivateStore c.args.slot c.args.word c.args.number)) (sym c.runner.view_is) c.requires.next in
    let made = λ (found : ℕ). store_event m c.args.self.now (seen_seat c.runner.inside.seat.table_id c.runner.inside.seat.me) own c.args.slot c.args.word c.args.number next c.private_spot-spot.result c.private_spot-spot.ensures
    found (seen_seat c.store.new.seat.table_id c.store.new.seat.me) (c.store.ensures.event found) in
    let mean = g.S.Structure.meaning in let seat = c.runner.inside.seat in let new = c.store.new.seat in let number = c.runner.inside.number in let s = c.args.self.now.structure in
    let layout = ap (λ t. t.layout) c.self.view_is ∙ (sym c.requires.own.layout ∙ sym (ap (λ r. r.layout) c.runner.view_is)) in
    let first = c.self.invariant.first_block ∙ (λ i. blocks_from (mean (c.self.view_is i).structure) (layout i)) in
    let live = ap (λ r. r.structure) c.runner.view_is ∙ c.requires.own.structure in let slot = c.args.slot in
    let test = c.if-slot-self.true in
    let before : nat_lt slot (blocks_from (mean s) seat.me.0.layout) ≡ true = less_tested slot (blocks_from (mean s) seat.me.0.layout) (omega (arith, first, test)) in
    subst (λ (b : Block). IsKept mean number b new.me) (sym (c.stored.ensures ∙ (λ i. block_stored (layout i) (c.deref_mut.ensures.value i) c.args.number)))
    (store_kept mean s slot c.args.word c.args.number 0 number c.runner.inside.kept.value seat.table_id new.table_id seat.me new.me live (made 0) c.store.ensures.slots c.runner.invariant before)

pub cleared-requires-clause-own : goal.cleared-requires-clause-own
cleared-requires-clause-own g c =
    let m = g.S.Structure.meaning c.args.self.now.structure in
    let own = subst (λ r. IsOf c.args.self.now r) (sym c.runner.view_is) c.requires.own in
    let next = subst (IsEnabled m (PrivateStore c.args.slot c.args.word c.args.number)) (sym c.runner.view_is) c.requires.next in
    let made = λ (found : ℕ). store_event m c.args.self.now (seen_seat c.runner.inside.seat.table_id c.runner.inside.seat.me) own c.args.slot c.args.word c.args.number next c.private_spot-spot.result c.private_spot-spot.ensures
    found (seen_seat c.store.new.seat.table_id c.store.new.seat.me) (c.store.ensures.event found) in
    let mean = g.S.Structure.meaning in let seat = c.runner.inside.seat in let new = c.store.new.seat in let number = c.runner.inside.number in let s = c.args.self.now.structure in
    let layout = ap (λ t. t.layout) c.self.view_is ∙ (sym c.requires.own.layout ∙ sym (ap (λ r. r.layout) c.runner.view_is)) in
    let first = c.self.invariant.first_block ∙ (λ i. blocks_from (mean (c.self.view_is i).structure) (layout i)) in
    let live = ap (λ r. r.structure) c.runner.view_is ∙ c.requires.own.structure in let slot = c.args.slot in
    let test = c.if-slot-self.false in
    let past : nat_lt slot (blocks_from (mean s) seat.me.0.layout) ≡ false = not_less_tested slot (blocks_from (mean s) seat.me.0.layout) (omega (arith, first, test)) in
    let block : slot - c.self.inside.setup.first_block ≡ slot - blocks_from (mean s) seat.me.0.layout = ap (λ n. slot - n) first in
    subst (λ (b : Block). b.place.inside ≡ true → make_slot b.lists.blocks.links.block b.lists.blocks.lists.free ≡ Some (slot - c.self.inside.setup.first_block)) (sym c.deref_mut-else-slot-self.ensures.value)
    (λ inside. next_block mean s slot c.args.word c.args.number 0 number c.runner.inside.kept.value seat.table_id new.table_id seat.me new.me live (made 0) c.store.ensures.slots c.runner.invariant past inside ∙ ap (λ (n : ℕ). Some n) (sym block))

pub cleared-requires-clause-once : goal.cleared-requires-clause-once
cleared-requires-clause-once g c =
    let m = g.S.Structure.meaning c.args.self.now.structure in
    let own = subst (λ r. IsOf c.args.self.now r) (sym c.runner.view_is) c.requires.own in
    let next = subst (IsEnabled m (PrivateStore c.args.slot c.args.word c.args.number)) (sym c.runner.view_is) c.requires.next in
    let made = λ (found : ℕ). store_event m c.args.self.now (seen_seat c.runner.inside.seat.table_id c.runner.inside.seat.me) own c.args.slot c.args.word c.args.number next c.private_spot-spot.result c.private_spot-spot.ensures
    found (seen_seat c.store.new.seat.table_id c.store.new.seat.me) (c.store.ensures.event found) in
    let mean = g.S.Structure.meaning in let seat = c.runner.inside.seat in let new = c.store.new.seat in let number = c.runner.inside.number in let s = c.args.self.now.structure in
    let layout = ap (λ t. t.layout) c.self.view_is ∙ (sym c.requires.own.layout ∙ sym (ap (λ r. r.layout) c.runner.view_is)) in
    let first = c.self.invariant.first_block ∙ (λ i. blocks_from (mean (c.self.view_is i).structure) (layout i)) in
    let live = ap (λ r. r.structure) c.runner.view_is ∙ c.requires.own.structure in let slot = c.args.slot in
    let test = c.if-slot-self.false in
    let past : nat_lt slot (blocks_from (mean s) seat.me.0.layout) ≡ false = not_less_tested slot (blocks_from (mean s) seat.me.0.layout) (omega (arith, first, test)) in
    let block : slot - c.self.inside.setup.first_block ≡ slot - blocks_from (mean s) seat.me.0.layout = ap (λ n. slot - n) first in
    let met = g.met.S.Structure g.world.𝓛 g.world.𝓜 g.world.𝓡 ((λ s allowed. allowed), (λ patient. patient), (λ alone. alone), (λ cuts. cuts)) in
    let limits = subst IsWithinLimits (sym (c.store.ensures.own.layout ∙ ap (λ t. t.layout) (sym c.self.view_is))) c.self.invariant.limits in
    let requests = subst AreAllowed (sym (c.store.ensures.own.requests ∙ ap (λ t. t.requests) (sym c.self.view_is))) c.self.invariant.allowed in
    λ inside. subst (λ (b : Block). times (slot - c.self.inside.setup.first_block) b.lists.blocks.lists.free ≤ 1) (sym c.deref_mut-else-slot-self.ensures.value)
    (subst (λ (n : ℕ). times n c.runner.inside.kept.value.lists.blocks.lists.free ≤ 1) (sym block)
    (clear_once mean s slot c.args.word c.args.number 0 number c.runner.inside.kept.value seat.table_id new.table_id seat.me new.me live (made 0) c.store.ensures.slots c.runner.invariant past (met.laws s) limits requests))

pub invariant_of-runner-else-slot-self : goal.invariant_of-runner-else-slot-self
invariant_of-runner-else-slot-self g c =
    let m = g.S.Structure.meaning c.args.self.now.structure in
    let own = subst (λ r. IsOf c.args.self.now r) (sym c.runner.view_is) c.requires.own in
    let next = subst (IsEnabled m (PrivateStore c.args.slot c.args.word c.args.number)) (sym c.runner.view_is) c.requires.next in
    let made = λ (found : ℕ). store_event m c.args.self.now (seen_seat c.runner.inside.seat.table_id c.runner.inside.seat.me) own c.args.slot c.args.word c.args.number next c.private_spot-spot.result c.private_spot-spot.ensures
    found (seen_seat c.store.new.seat.table_id c.store.new.seat.me) (c.store.ensures.event found) in
    let mean = g.S.Structure.meaning in let seat = c.runner.inside.seat in let new = c.store.new.seat in let number = c.runner.inside.number in let s = c.args.self.now.structure in
    let layout = ap (λ t. t.layout) c.self.view_is ∙ (sym c.requires.own.layout ∙ sym (ap (λ r. r.layout) c.runner.view_is)) in
    let first = c.self.invariant.first_block ∙ (λ i. blocks_from (mean (c.self.view_is i).structure) (layout i)) in
    let live = ap (λ r. r.structure) c.runner.view_is ∙ c.requires.own.structure in let slot = c.args.slot in
    let test = c.if-slot-self.false in
    let past : nat_lt slot (blocks_from (mean s) seat.me.0.layout) ≡ false = not_less_tested slot (blocks_from (mean s) seat.me.0.layout) (omega (arith, first, test)) in
    let block : slot - c.self.inside.setup.first_block ≡ slot - blocks_from (mean s) seat.me.0.layout = ap (λ n. slot - n) first in
    subst (λ (b : Block). IsKept mean number b new.me) (sym (c.cleared.ensures ∙ (λ i. block_cleared (c.deref_mut-else-slot-self.ensures.value i) (block i))))
    (clear_kept mean s slot c.args.word c.args.number 0 number c.runner.inside.kept.value seat.table_id new.table_id seat.me new.me live (made 0) c.store.ensures.slots c.runner.invariant past)

pub returns-then-slot-self-clause-event : goal.returns-then-slot-self-clause-event
returns-then-slot-self-clause-event g c =
    let m = g.S.Structure.meaning c.args.self.now.structure in
    let own = subst (λ r. IsOf c.args.self.now r) (sym c.runner.view_is) c.requires.own in
    let next = subst (IsEnabled m (PrivateStore c.args.slot c.args.word c.args.number)) (sym c.runner.view_is) c.requires.next in
    let made = λ (found : ℕ). store_event m c.args.self.now (seen_seat c.runner.inside.seat.table_id c.runner.inside.seat.me) own c.args.slot c.args.word c.args.number next c.private_spot-spot.result c.private_spot-spot.ensures
    found (seen_seat c.store.new.seat.table_id c.store.new.seat.me) (c.store.ensures.event found) in
    λ found. subst (λ r. Makes m (PrivateStore c.args.slot c.args.word c.args.number) found r (seen_seat c.store.new.seat.table_id c.store.new.seat.me)) c.runner.view_is (made found)

pub returns-else-slot-self-clause-event : goal.returns-else-slot-self-clause-event
returns-else-slot-self-clause-event g c =
    let m = g.S.Structure.meaning c.args.self.now.structure in
    let own = subst (λ r. IsOf c.args.self.now r) (sym c.runner.view_is) c.requires.own in
    let next = subst (IsEnabled m (PrivateStore c.args.slot c.args.word c.args.number)) (sym c.runner.view_is) c.requires.next in
    let made = λ (found : ℕ). store_event m c.args.self.now (seen_seat c.runner.inside.seat.table_id c.runner.inside.seat.me) own c.args.slot c.args.word c.args.number next c.private_spot-spot.result c.private_spot-spot.ensures
    found (seen_seat c.store.new.seat.table_id c.store.new.seat.me) (c.store.ensures.event found) in
    λ found. subst (λ r. Makes m (PrivateStore c.args.slot c.args.word c.args.number) found r (seen_seat c.store.new.seat.table_id c.store.new.seat.me)) c.runner.view_is (made found)
