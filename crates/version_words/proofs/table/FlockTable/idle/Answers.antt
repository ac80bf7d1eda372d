use Rattle.std.proofs.Common.{[], refl, sym, subst, ap, ◌∙◌}
use Rattle.machine_states.specs.runner_parts.specs.declared.event.EventKind.TheVariants.{Idle}
use Rattle.machine_states.specs.epoch_core.specs.declared.stage.Stage.TheVariants as stages
use Rattle.machine_states.specs.runner_steps.specs.AfterOutside.{with_stage}
use Rattle.runner_block.specs.declared.block.Block.{Block}
use Rattle.runner_block.specs.Kept.{with_part, with_marks}
use Rattle.runner_block.specs.Marks.{marks_of}
use Rattle.version_words.specs.Kept.{IsKept}
use Rattle.version_words.proofs.Keeps.{marked_kept}
use Rattle.version_words.proofs.table.FlockTable.idle.Goals as goal

pub invariant_of-runner : goal.invariant_of-runner
invariant_of-runner g c =
    let mean = g.S.Structure.meaning in let seat = c.runner.inside.seat in let new = c.store.new.seat in let number = c.runner.inside.number in let kept = c.runner.inside.kept.value in
    subst (λ (b : Block). IsKept mean number (record b { lists = c.leave.new.self }) new.me) (sym c.deref_mut.ensures.value)
    (marked_kept mean c.args.self.now.structure Idle 0 number kept seat.table_id new.table_id seat.me new.me (ap (λ r. r.structure) c.runner.view_is ∙ c.requires.own.structure) (c.store.ensures.event 0)
    c.store.ensures.slots c.runner.invariant refl refl c.leave.new.self (λ p. with_stage p stages.Idle) (marks_of [])
    (c.leave.ensures ∙ ap (λ (b : Block). with_marks (with_part b.lists (with_stage b.lists.part stages.Idle)) (marks_of [])) c.deref_mut.ensures.value) refl refl)
