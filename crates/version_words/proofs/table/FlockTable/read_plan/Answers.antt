use Rattle.std.proofs.Common.{refl, ap, ◌∙◌}
use Rattle.machine_states.specs.runner_parts.specs.declared.event.EventKind.TheVariants.{ReadPlan}
use Rattle.version_words.proofs.Keeps.{idle_kept}
use Rattle.version_words.proofs.table.FlockTable.read_plan.Goals as goal

pub invariant_of-runner : goal.invariant_of-runner
invariant_of-runner g c =
    let seat = c.runner.inside.seat in let new = c.exchange_with.new.seat in let kept = c.runner.inside.kept.value in
    idle_kept g.S.Structure.meaning c.args.self.now.structure (ReadPlan c.args.thunk.now) c.exchange_with.result c.runner.inside.number kept seat.table_id new.table_id seat.me new.me
    (ap (λ r. r.structure) c.runner.view_is ∙ c.requires.own.structure) c.exchange_with.ensures.event c.exchange_with.ensures.slots c.runner.invariant refl refl
