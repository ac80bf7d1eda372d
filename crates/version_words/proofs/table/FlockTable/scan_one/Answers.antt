use Rattle.std.proofs.Common.{refl, sym, subst, ap, ◌∙◌}
use Rattle.machine_states.specs.runner_parts.specs.declared.event.EventKind.{EventKind}
use Rattle.machine_states.specs.runner_parts.specs.declared.event.EventKind.TheVariants.{ScanOne}
use Rattle.machine_states.specs.runner_steps.specs.AfterOutside.{scan_one_after}
use Rattle.runner_block.specs.declared.block.Block.{Block}
use Rattle.runner_block.specs.Kept.{with_part}
use Rattle.version_words.specs.Kept.{IsKept}
use Rattle.version_words.specs.Events.{IsEnabled, Makes, seen_seat}
use Rattle.version_words.proofs.Asked.{scan_named}
use Rattle.version_words.proofs.Told.{told_scan}
use Rattle.version_words.proofs.Keeps.{lists_kept}
use Rattle.version_words.proofs.table.FlockTable.scan_one.Goals as goal

pub invariant_of-runner : goal.invariant_of-runner
invariant_of-runner g c =
    let mean = g.S.Structure.meaning in let s = c.args.self.now.structure in let seat = c.runner.inside.seat in let new = c.load-found.new.seat in let number = c.runner.inside.number in
    let kept = c.runner.inside.kept.value in let found = c.load-found.result in let n = c.args.announcement in
    let old = seen_seat seat.table_id seat.me in
    let event : Makes (mean s) (ScanOne n) found old (seen_seat new.table_id new.me) =
    subst (λ (k : EventKind). Makes (mean s) k found old (seen_seat new.table_id new.me)) (scan_named (mean s) old n (subst (IsEnabled (mean s) (ScanOne n)) (sym c.runner.view_is) c.requires.next)) c.load-found.ensures.event in
    let same_layout = sym (ap (λ r. r.layout) c.runner.view_is ∙ (c.requires.own.layout ∙ ap (λ t. t.layout) (sym c.self.view_is))) in
    subst (λ (b : Block). IsKept mean number (record b { lists = c.scan_one.new.self }) new.me) (sym c.deref_mut.ensures.value)
    (lists_kept mean s (ScanOne n) found number kept seat.table_id new.table_id seat.me new.me (ap (λ r. r.structure) c.runner.view_is ∙ c.requires.own.structure) event c.load-found.ensures.slots c.runner.invariant refl
    c.scan_one.new.self (λ p. scan_one_after seat.me.0.layout p p.stage found)
    (c.scan_one.ensures ∙ (λ i. let b = c.deref_mut.ensures.value i in with_part b.lists (scan_one_after (same_layout i) b.lists.part b.lists.part.stage found)))
    (told_scan seat.me.0.layout seat.me.0.part seat.me.0.part.stage found))

pub returns-clause-event : goal.returns-clause-event
returns-clause-event g c =
    let m = g.S.Structure.meaning c.args.self.now.structure in let seat = c.runner.inside.seat in let new = c.load-found.new.seat in let found = c.load-found.result in let n = c.args.announcement in
    let old = seen_seat seat.table_id seat.me in
    subst (λ r. Makes m (ScanOne n) found r (seen_seat new.table_id new.me)) c.runner.view_is
    (subst (λ (k : EventKind). Makes m k found old (seen_seat new.table_id new.me)) (scan_named m old n (subst (IsEnabled m (ScanOne n)) (sym c.runner.view_is) c.requires.next)) c.load-found.ensures.event)
