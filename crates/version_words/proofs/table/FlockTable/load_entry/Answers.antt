use Rattle.std.proofs.Common.{◌≡◌, refl, sym, subst, ◌∙◌}
use Rattle.machine_states.specs.runner_parts.specs.declared.event.EventKind.TheVariants.{LoadEntry}
use Rattle.version_words.specs.TableState.{IsOf}
use Rattle.version_words.specs.Events.{Makes, seen_seat}
use Rattle.version_words.proofs.Keeps.{idle_kept}
use Rattle.version_words.proofs.Entries.{entry_spot, entry_event, told_entry}
use Rattle.version_words.proofs.table.FlockTable.load_entry.Goals.{then-reply, else-reply}
use Rattle.version_words.proofs.table.FlockTable.load_entry.Goals as goal

pub invariant_of-runner : goal.invariant_of-runner
invariant_of-runner g c =
    let mean = g.S.Structure.meaning in let t = c.args.self.now in let seat = c.runner.inside.seat in let new = c.load-found.new.seat in
    let request = c.args.request in let reply = c.args.reply in let found = c.load-found.result in
    let spot : c.if-reply.spot ≡ entry_spot reply request = elim c.if-reply.branch [
      | then-reply w ↦ w.spot-is ∙ (λ i. entry_spot (sym w.if-reply.true i) request)
      | else-reply w ↦ w.spot-is ∙ (λ i. entry_spot (sym w.if-reply.false i) request)
    ] in
    let own = subst (λ r. IsOf t r) (sym c.runner.view_is) c.requires.own in
    idle_kept mean t.structure (LoadEntry request reply) found c.runner.inside.number c.runner.inside.kept.value seat.table_id new.table_id seat.me new.me own.structure
    (entry_event (mean t.structure) t (seen_seat seat.table_id seat.me) own request reply c.if-reply.spot spot found (seen_seat new.table_id new.me) c.load-found.ensures.event)
    c.load-found.ensures.slots c.runner.invariant refl (told_entry seat.me.0.part request reply found)

pub returns-clause-event : goal.returns-clause-event
returns-clause-event g c =
    let m = g.S.Structure.meaning c.args.self.now.structure in let t = c.args.self.now in let seat = c.runner.inside.seat in let new = c.load-found.new.seat in
    let request = c.args.request in let reply = c.args.reply in let found = c.load-found.result in
    let spot : c.if-reply.spot ≡ entry_spot reply request = elim c.if-reply.branch [
      | then-reply w ↦ w.spot-is ∙ (λ i. entry_spot (sym w.if-reply.true i) request)
      | else-reply w ↦ w.spot-is ∙ (λ i. entry_spot (sym w.if-reply.false i) request)
    ] in
    let own = subst (λ r. IsOf t r) (sym c.runner.view_is) c.requires.own in
    subst (λ r. Makes m (LoadEntry request reply) found r (seen_seat new.table_id new.me)) c.runner.view_is
    (entry_event m t (seen_seat seat.table_id seat.me) own request reply c.if-reply.spot spot found (seen_seat new.table_id new.me) c.load-found.ensures.event)
