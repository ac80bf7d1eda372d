use Rattle.std.proofs.Common.{refl, ap, ◌∙◌}
use Rattle.machine_states.specs.runner_parts.specs.declared.event.EventKind.TheVariants.{ReadClock}
use Rattle.version_words.proofs.Keeps.{idle_kept}
use Rattle.version_words.proofs.table.FlockTable.read_clock.Goals as goal

pub invariant_of-runner : goal.invariant_of-runner
invariant_of-runner g c =
    let seat = c.runner.inside.seat in let new = c.load-clock.new.seat in let kept = c.runner.inside.kept.value in
    idle_kept g.S.Structure.meaning c.args.self.now.structure ReadClock c.load-clock.result c.runner.inside.number kept seat.table_id new.table_id seat.me new.me
    (ap (λ r. r.structure) c.runner.view_is ∙ c.requires.own.structure) c.load-clock.ensures.event c.load-clock.ensures.slots c.runner.invariant refl refl
