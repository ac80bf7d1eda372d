use Rattle.std.proofs.Common.{refl, ap, ◌∙◌}
use Rattle.machine_states.specs.runner_parts.specs.declared.event.EventKind.TheVariants.{ClockRaise}
use Rattle.version_words.proofs.Inside.{quiet_kept}
use Rattle.version_words.proofs.table.FlockTable.clock_raise.Goals as goal

pub invariant_of-runner : goal.invariant_of-runner
invariant_of-runner g c =
    let seat = c.runner.inside.seat in let new = c.raise.new.seat in let kept = c.runner.inside.kept.value in
    quiet_kept g.S.Structure.meaning c.args.self.now.structure ClockRaise c.raise.result c.runner.inside.number kept seat.table_id new.table_id seat.me new.me
    (ap (λ r. r.structure) c.runner.view_is ∙ c.requires.own.structure) c.raise.ensures.event c.raise.ensures.slots c.runner.invariant refl refl refl
