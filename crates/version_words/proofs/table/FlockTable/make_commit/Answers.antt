use Rattle.std.proofs.Common.{◌≡◌, ℕ, ◌<◌, ◌≤◌, Some, refl, ap, sym, subst, ◌∙◌, ◌+◌, if◌then◌else◌}
use Rattle.std.specs.Prelude.{◌==◌}
use Rattle.machine_states.specs.table_words.specs.Limits.{IsWithinLimits}
use Rattle.machine_states.specs.table_words.specs.declared.access.Access.TheVariants.{Exchanges}
use Rattle.machine_states.specs.runner_parts.specs.declared.event.EventKind.TheVariants.{MakeCommit}
use Rattle.machine_states.specs.runner_parts.specs.Tests.{has}
use Rattle.machine_invariant.specs.After.{AreAllowed}
use Rattle.runner_block.specs.declared.block.Block.{Block}
use Rattle.version_words.specs.Place.{next_log, KnowsPart, kept_log}
use Rattle.runner_block.specs.Blocks.{block_made}
use Rattle.version_words.specs.Kept.{IsKept}
use Rattle.version_words.specs.Events.{met_by, Makes, seen_seat}
use Rattle.version_words.proofs.NextWords.{part_begins, next_named, next_apart}
use Rattle.version_words.proofs.MakeSteps.{make_run, in_hand, make_low, make_kept, make_found}
use Rattle.version_words.proofs.table.FlockTable.make_commit.Goals as goal

pub next_spot-spot-requires : goal.next_spot-spot-requires
next_spot-spot-requires g c =
    let mean = g.S.Structure.meaning in let s = c.args.self.now.structure in let seat = c.runner.inside.seat in let r = seen_seat seat.table_id seat.me in
    let next = subst (λ r. met_by (mean s) r MakeCommit ≡ Some (next_log r.part.run, Exchanges 0 (c.args.slot + 1))) (sym c.runner.view_is) c.requires.next in
    let run = make_run mean s (next_log r.part.run) c.args.slot c.runner.inside.number c.runner.inside.kept.value seat.table_id seat.me (ap (λ r. r.structure) c.runner.view_is ∙ c.requires.own.structure) next c.runner.invariant in
    subst (λ (b : Block). b.lists.blocks.links.start ≤ b.place.agreed) (sym c.deref.ensures) (part_begins mean c.runner.inside.number c.runner.inside.kept.value seat.table_id seat.me c.runner.invariant run.0 run.1)

pub exchange-found-requires-clause-named : goal.exchange-found-requires-clause-named
exchange-found-requires-clause-named g c =
    let mean = g.S.Structure.meaning in let s = c.args.self.now.structure in let seat = c.runner.inside.seat in let r = seen_seat seat.table_id seat.me in
    let next = subst (λ r. met_by (mean s) r MakeCommit ≡ Some (next_log r.part.run, Exchanges 0 (c.args.slot + 1))) (sym c.runner.view_is) c.requires.next in
    let run = make_run mean s (next_log r.part.run) c.args.slot c.runner.inside.number c.runner.inside.kept.value seat.table_id seat.me (ap (λ r. r.structure) c.runner.view_is ∙ c.requires.own.structure) next c.runner.invariant in
    let linked = subst (λ r. KnowsPart r.part.run) (sym c.runner.view_is) c.requires.linked in
    let is = c.next_spot-spot.ensures ∙ ap (λ (b : Block). kept_log b.place b.lists.blocks.links) c.deref.ensures in
    λ κs lives. next_named mean c.runner.inside.number c.runner.inside.kept.value seat.table_id seat.me c.runner.invariant run.0 run.1 linked c.next_spot-spot.result is (mean s) MakeCommit c.args.self.now (c.args.slot + 1) refl next

pub exchange-found-requires-clause-apart : goal.exchange-found-requires-clause-apart
exchange-found-requires-clause-apart g c =
    let mean = g.S.Structure.meaning in let s = c.args.self.now.structure in let seat = c.runner.inside.seat in let r = seen_seat seat.table_id seat.me in
    let next = subst (λ r. met_by (mean s) r MakeCommit ≡ Some (next_log r.part.run, Exchanges 0 (c.args.slot + 1))) (sym c.runner.view_is) c.requires.next in
    let run = make_run mean s (next_log r.part.run) c.args.slot c.runner.inside.number c.runner.inside.kept.value seat.table_id seat.me (ap (λ r. r.structure) c.runner.view_is ∙ c.requires.own.structure) next c.runner.invariant in
    let linked = subst (λ r. KnowsPart r.part.run) (sym c.runner.view_is) c.requires.linked in
    let is = c.next_spot-spot.ensures ∙ ap (λ (b : Block). kept_log b.place b.lists.blocks.links) c.deref.ensures in
    λ κs lives. next_apart mean c.runner.inside.number c.runner.inside.kept.value seat.table_id seat.me c.runner.invariant run.0 run.1 linked c.next_spot-spot.result is

pub made-requires-clause-own : goal.made-requires-clause-own
made-requires-clause-own g c =
    let mean = g.S.Structure.meaning in let s = c.args.self.now.structure in let seat = c.runner.inside.seat in let r = seen_seat seat.table_id seat.me in
    let next = subst (λ r. met_by (mean s) r MakeCommit ≡ Some (next_log r.part.run, Exchanges 0 (c.args.slot + 1))) (sym c.runner.view_is) c.requires.next in
    ap (λ (b : Block). has b.lists.part.nodes.hand c.args.slot) c.deref_mut.ensures.value
    ∙ in_hand mean s (next_log r.part.run) c.args.slot c.runner.inside.number c.runner.inside.kept.value seat.table_id seat.me (ap (λ r. r.structure) c.runner.view_is ∙ c.requires.own.structure) next c.runner.invariant

pub made-requires-clause-few : goal.made-requires-clause-few
made-requires-clause-few g c =
    let mean = g.S.Structure.meaning in let s = c.args.self.now.structure in let seat = c.runner.inside.seat in let new = c.exchange-found.new.seat in let tells = c.exchange-found.ensures in
    let r = seen_seat seat.table_id seat.me in
    let next = subst (λ r. met_by (mean s) r MakeCommit ≡ Some (next_log r.part.run, Exchanges 0 (c.args.slot + 1))) (sym c.runner.view_is) c.requires.next in
    let met = g.met.S.Structure g.world.𝓛 g.world.𝓜 g.world.𝓡 ((λ s allowed. allowed), (λ patient. patient), (λ alone. alone), (λ cuts. cuts)) in
    let limits = subst IsWithinLimits (sym (tells.own.layout ∙ ap (λ t. t.layout) (sym c.self.view_is))) c.self.invariant.limits in
    let requests = subst AreAllowed (sym (tells.own.requests ∙ ap (λ t. t.requests) (sym c.self.view_is))) c.self.invariant.allowed in
    subst (λ (b : Block). b.place.agreed < 64) (sym c.deref_mut.ensures.value)
    (make_low mean s (next_log r.part.run) c.args.slot c.runner.inside.number c.runner.inside.kept.value seat.table_id seat.me (ap (λ r. r.structure) c.runner.view_is ∙ c.requires.own.structure) next c.runner.invariant
    c.exchange-found.result new.table_id new.me tells.event tells.slots (met.laws s) limits requests)

pub invariant_of-runner : goal.invariant_of-runner
invariant_of-runner g c =
    let mean = g.S.Structure.meaning in let s = c.args.self.now.structure in let seat = c.runner.inside.seat in let new = c.exchange-found.new.seat in let number = c.runner.inside.number in
    let r = seen_seat seat.table_id seat.me in let found = c.exchange-found.result in
    let next = subst (λ r. met_by (mean s) r MakeCommit ≡ Some (next_log r.part.run, Exchanges 0 (c.args.slot + 1))) (sym c.runner.view_is) c.requires.next in
    subst (λ (b : Block). IsKept mean number b new.me) (sym (c.made.ensures ∙ ap (λ (b : Block). block_made b c.args.slot (found == 0)) c.deref_mut.ensures.value))
    (make_kept mean s (next_log r.part.run) c.args.slot number c.runner.inside.kept.value seat.table_id seat.me (ap (λ r. r.structure) c.runner.view_is ∙ c.requires.own.structure) next c.runner.invariant
    found new.table_id new.me c.exchange-found.ensures.event c.exchange-found.ensures.slots)

pub agreed_slot-requires : goal.agreed_slot-requires
agreed_slot-requires g c =
    let mean = g.S.Structure.meaning in let s = c.args.self.now.structure in let seat = c.runner.inside.seat in let new = c.exchange-found.new.seat in let tells = c.exchange-found.ensures in
    let r = seen_seat seat.table_id seat.me in
    let next = subst (λ r. met_by (mean s) r MakeCommit ≡ Some (next_log r.part.run, Exchanges 0 (c.args.slot + 1))) (sym c.runner.view_is) c.requires.next in
    let met = g.met.S.Structure g.world.𝓛 g.world.𝓜 g.world.𝓡 ((λ s allowed. allowed), (λ patient. patient), (λ alone. alone), (λ cuts. cuts)) in
    let limits = subst IsWithinLimits (sym (tells.own.layout ∙ ap (λ t. t.layout) (sym c.self.view_is))) c.self.invariant.limits in
    let requests = subst AreAllowed (sym (tells.own.requests ∙ ap (λ t. t.requests) (sym c.self.view_is))) c.self.invariant.allowed in
    make_found mean s (next_log r.part.run) c.args.slot c.runner.inside.number c.runner.inside.kept.value seat.table_id seat.me (ap (λ r. r.structure) c.runner.view_is ∙ c.requires.own.structure) next c.runner.invariant
    c.exchange-found.result new.table_id new.me tells.event tells.slots (met.laws s) limits requests

pub returns-clause-event : goal.returns-clause-event
returns-clause-event g c =
    let m = g.S.Structure.meaning c.args.self.now.structure in let seat = c.runner.inside.seat in let new = c.exchange-found.new.seat in let found = c.exchange-found.result in
    subst (λ r. Makes m MakeCommit (if found == 0 then 0 else c.agreed_slot.result + 1) r (seen_seat new.table_id new.me)) c.runner.view_is
    (subst (λ (n : ℕ). Makes m MakeCommit n (seen_seat seat.table_id seat.me) (seen_seat new.table_id new.me)) c.agreed_slot.ensures.found c.exchange-found.ensures.event)
