use Rattle.std.proofs.Common.{ℕ, ◌<◌, ◌^◌, ap, sym, subst, ◌∙◌, ◌+◌, if◌then◌else◌}
use Rattle.std.specs.Prelude.{◌==◌}
use Rattle.machine_states.specs.table_words.specs.Limits.{IsWithinLimits}
use Rattle.machine_states.specs.table_words.specs.Places.{part_words}
use Rattle.machine_states.specs.runner_parts.specs.declared.event.EventKind.TheVariants.{LinkCommit}
use Rattle.machine_invariant.specs.After.{AreAllowed}
use Rattle.runner_block.specs.declared.block.Block.{Block}
use Rattle.runner_block.specs.Kept.{with_blocks}
use Rattle.runner_block.specs.Links.{block_linked}
use Rattle.version_words.specs.Place.{link_behind}
use Rattle.version_words.specs.TableState.{IsOf}
use Rattle.version_words.specs.Kept.{IsKept}
use Rattle.version_words.specs.Events.{IsEnabled, Makes, seen_seat}
use Rattle.version_words.proofs.LinkSteps.{link_apart, link_own, link_named, link_event, link_kept, link_found, link_start}
use Rattle.version_words.proofs.table.FlockTable.link_commit.Goals as goal

pub exchange-found-requires-clause-named : goal.exchange-found-requires-clause-named
exchange-found-requires-clause-named g c =
    let mean = g.S.Structure.meaning in let s = c.args.self.now.structure in let seat = c.runner.inside.seat in let kept = c.runner.inside.kept.value in
    let own = subst (λ r. IsOf c.args.self.now r) (sym c.runner.view_is) c.requires.own in
    let next = subst (IsEnabled (mean s) (LinkCommit c.args.block)) (sym c.runner.view_is) c.requires.next in
    λ κs lives. link_named mean s c.args.block c.runner.inside.number kept seat.table_id seat.me own.structure next c.runner.invariant c.args.self.now c.next_link-spot.result
    (c.next_link-spot.ensures ∙ ap (λ (b : Block). link_behind b.place.descriptor b.lists.blocks.links.last) c.deref.ensures)

pub exchange-found-requires-clause-apart : goal.exchange-found-requires-clause-apart
exchange-found-requires-clause-apart g c = let kept = c.runner.inside.kept.value in
    λ κs lives. link_apart kept.place.descriptor kept.lists.blocks.links.last c.next_link-spot.result
    (c.next_link-spot.ensures ∙ ap (λ (b : Block). link_behind b.place.descriptor b.lists.blocks.links.last) c.deref.ensures)

pub link_block-requires-clause-own : goal.link_block-requires-clause-own
link_block-requires-clause-own g c =
    let mean = g.S.Structure.meaning in let s = c.args.self.now.structure in let seat = c.runner.inside.seat in
    let own = subst (λ r. IsOf c.args.self.now r) (sym c.runner.view_is) c.requires.own in
    let next = subst (IsEnabled (mean s) (LinkCommit c.args.block)) (sym c.runner.view_is) c.requires.next in
    ap (λ (b : Block). b.lists.blocks.links.block) c.deref_mut.ensures.value
    ∙ link_own mean s c.args.block c.runner.inside.number c.runner.inside.kept.value seat.table_id seat.me own.structure next c.runner.invariant

pub link_block-requires-clause-few : goal.link_block-requires-clause-few
link_block-requires-clause-few g c =
    let mean = g.S.Structure.meaning in let s = c.args.self.now.structure in let seat = c.runner.inside.seat in let new = c.exchange-found.new.seat in let tells = c.exchange-found.ensures in
    let kept = c.runner.inside.kept.value in let number = c.runner.inside.number in let found = c.exchange-found.result in
    let own = subst (λ r. IsOf c.args.self.now r) (sym c.runner.view_is) c.requires.own in
    let next = subst (IsEnabled (mean s) (LinkCommit c.args.block)) (sym c.runner.view_is) c.requires.next in
    let met = g.met.S.Structure g.world.𝓛 g.world.𝓜 g.world.𝓡 ((λ s allowed. allowed), (λ patient. patient), (λ alone. alone), (λ cuts. cuts)) in
    let limits = subst IsWithinLimits (sym (tells.own.layout ∙ ap (λ t. t.layout) (sym c.self.view_is))) c.self.invariant.limits in
    let requests = subst AreAllowed (sym (tells.own.requests ∙ ap (λ t. t.requests) (sym c.self.view_is))) c.self.invariant.allowed in
    let event = link_event mean s c.args.block number kept seat.table_id seat.me own.structure next c.runner.invariant found (seen_seat new.table_id new.me) tells.event in
    subst (λ (b : Block). b.lists.blocks.links.start + part_words < 2 ^ 32) (sym c.deref_mut.ensures.value)
    (link_start mean s c.args.block number kept seat.table_id seat.me own.structure next c.runner.invariant found new.table_id new.me event tells.slots (met.laws s) limits requests)

pub invariant_of-runner : goal.invariant_of-runner
invariant_of-runner g c =
    let mean = g.S.Structure.meaning in let s = c.args.self.now.structure in let seat = c.runner.inside.seat in let new = c.exchange-found.new.seat in let tells = c.exchange-found.ensures in
    let kept = c.runner.inside.kept.value in let number = c.runner.inside.number in let found = c.exchange-found.result in let block = c.args.block in
    let own = subst (λ r. IsOf c.args.self.now r) (sym c.runner.view_is) c.requires.own in
    let next = subst (IsEnabled (mean s) (LinkCommit c.args.block)) (sym c.runner.view_is) c.requires.next in
    let met = g.met.S.Structure g.world.𝓛 g.world.𝓜 g.world.𝓡 ((λ s allowed. allowed), (λ patient. patient), (λ alone. alone), (λ cuts. cuts)) in
    let limits = subst IsWithinLimits (sym (tells.own.layout ∙ ap (λ t. t.layout) (sym c.self.view_is))) c.self.invariant.limits in
    let requests = subst AreAllowed (sym (tells.own.requests ∙ ap (λ t. t.requests) (sym c.self.view_is))) c.self.invariant.allowed in
    let event = link_event mean s block number kept seat.table_id seat.me own.structure next c.runner.invariant found (seen_seat new.table_id new.me) tells.event in
    subst (λ (b : Block). IsKept mean number (record b { lists = c.link_block.new.self }) new.me) (sym c.deref_mut.ensures.value)
    (subst (λ lists. IsKept mean number (record kept { lists = lists }) new.me)
    (sym (c.link_block.ensures ∙ ap (λ (b : Block). with_blocks b.lists (block_linked b.lists.blocks block found)) c.deref_mut.ensures.value))
    (link_kept mean s block number kept seat.table_id seat.me own.structure next c.runner.invariant found new.table_id new.me event tells.slots (met.laws s) limits requests))

pub agreed_slot-requires : goal.agreed_slot-requires
agreed_slot-requires g c =
    let mean = g.S.Structure.meaning in let s = c.args.self.now.structure in let seat = c.runner.inside.seat in let new = c.exchange-found.new.seat in let tells = c.exchange-found.ensures in
    let kept = c.runner.inside.kept.value in let number = c.runner.inside.number in let found = c.exchange-found.result in
    let own = subst (λ r. IsOf c.args.self.now r) (sym c.runner.view_is) c.requires.own in
    let next = subst (IsEnabled (mean s) (LinkCommit c.args.block)) (sym c.runner.view_is) c.requires.next in
    let met = g.met.S.Structure g.world.𝓛 g.world.𝓜 g.world.𝓡 ((λ s allowed. allowed), (λ patient. patient), (λ alone. alone), (λ cuts. cuts)) in
    let limits = subst IsWithinLimits (sym (tells.own.layout ∙ ap (λ t. t.layout) (sym c.self.view_is))) c.self.invariant.limits in
    let requests = subst AreAllowed (sym (tells.own.requests ∙ ap (λ t. t.requests) (sym c.self.view_is))) c.self.invariant.allowed in
    let event = link_event mean s c.args.block number kept seat.table_id seat.me own.structure next c.runner.invariant found (seen_seat new.table_id new.me) tells.event in
    link_found mean s c.args.block number kept seat.table_id seat.me own.structure next c.runner.invariant found new.table_id new.me event tells.slots (met.laws s) limits requests

pub returns-clause-event : goal.returns-clause-event
returns-clause-event g c =
    let mean = g.S.Structure.meaning in let s = c.args.self.now.structure in let m = mean s in let seat = c.runner.inside.seat in let new = c.exchange-found.new.seat in let found = c.exchange-found.result in
    let own = subst (λ r. IsOf c.args.self.now r) (sym c.runner.view_is) c.requires.own in
    let next = subst (IsEnabled m (LinkCommit c.args.block)) (sym c.runner.view_is) c.requires.next in
    let event = link_event mean s c.args.block c.runner.inside.number c.runner.inside.kept.value seat.table_id seat.me own.structure next c.runner.invariant found (seen_seat new.table_id new.me) c.exchange-found.ensures.event in
    subst (λ r. Makes m (LinkCommit c.args.block) (if found == 0 then 0 else c.agreed_slot.result + 1) r (seen_seat new.table_id new.me)) c.runner.view_is
    (subst (λ (n : ℕ). Makes m (LinkCommit c.args.block) n (seen_seat seat.table_id seat.me) (seen_seat new.table_id new.me)) c.agreed_slot.ensures.found event)
