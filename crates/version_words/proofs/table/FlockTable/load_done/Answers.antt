use Rattle.std.proofs.Common.{ℕ, true, ap, sym, subst, ◌∙◌, if◌then◌else◌}
use Rattle.std.specs.Prelude.{◌==◌, not}
use Rattle.machine_states.specs.table_words.specs.Limits.{IsWithinLimits}
use Rattle.machine_states.specs.runner_parts.specs.declared.event.EventKind.TheVariants.{LoadDone}
use Rattle.machine_invariant.specs.After.{AreAllowed}
use Rattle.runner_block.specs.declared.block.Block.{Block}
use Rattle.version_words.specs.Kept.{IsKept}
use Rattle.version_words.specs.Events.{Makes, seen_seat}
use Rattle.version_words.proofs.Founds.{done_is}
use Rattle.version_words.proofs.Openings.{done_kept, done_found}
use Rattle.version_words.proofs.table.FlockTable.load_done.Goals as goal

pub invariant_of-runner : goal.invariant_of-runner
invariant_of-runner g c =
    let mean = g.S.Structure.meaning in let seat = c.runner.inside.seat in let new = c.load-found.new.seat in let number = c.runner.inside.number in
    subst (λ (b : Block). IsKept mean number (record b { place = record (b.place) { inside = true } }) new.me) (sym c.deref_mut.ensures.value)
    (done_kept mean c.args.self.now.structure 0 0 c.load-found.result number c.runner.inside.kept.value seat.table_id new.table_id seat.me new.me
    (ap (λ r. r.structure) c.runner.view_is ∙ c.requires.own.structure) c.load-found.ensures.slots c.runner.invariant c.load-found.ensures.event)

pub returns-clause-event : goal.returns-clause-event
returns-clause-event g c =
    let mean = g.S.Structure.meaning in let s = c.args.self.now.structure in let seat = c.runner.inside.seat in let new = c.load-found.new.seat in let tells = c.load-found.ensures in let found = c.load-found.result in
    let met = g.met.S.Structure g.world.𝓛 g.world.𝓜 g.world.𝓡 ((λ s allowed. allowed), (λ patient. patient), (λ alone. alone), (λ cuts. cuts)) in
    let limits = subst IsWithinLimits (sym (tells.own.layout ∙ ap (λ t. t.layout) (sym c.self.view_is))) c.self.invariant.limits in
    let requests = subst AreAllowed (sym (tells.own.requests ∙ ap (λ t. t.requests) (sym c.self.view_is))) c.self.invariant.allowed in
    let few = done_found mean s 0 0 found c.runner.inside.number c.runner.inside.kept.value seat.table_id new.table_id seat.me new.me (ap (λ r. r.structure) c.runner.view_is ∙ c.requires.own.structure) tells.slots c.runner.invariant
    (met.laws s) limits requests tells.event in
    subst (λ r. Makes (mean s) LoadDone (if not (found == 0) then 1 else 0) r (seen_seat new.table_id new.me)) c.runner.view_is
    (subst (λ (n : ℕ). Makes (mean s) LoadDone n (seen_seat seat.table_id seat.me) (seen_seat new.table_id new.me)) (done_is found few) tells.event)
