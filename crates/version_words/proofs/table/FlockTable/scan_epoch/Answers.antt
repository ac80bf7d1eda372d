use Rattle.std.proofs.Common.{true, refl, sym, subst, ap, ◌∙◌}
use Rattle.machine_states.specs.runner_parts.specs.declared.event.EventKind.TheVariants.{ScanEpoch}
use Rattle.machine_states.specs.epoch_core.specs.declared.stage.Stage.TheVariants as stages
use Rattle.machine_states.specs.runner_steps.specs.AfterOutside.{with_stage}
use Rattle.runner_block.specs.declared.block.Block.{Block}
use Rattle.runner_block.specs.Kept.{with_part}
use Rattle.version_words.specs.Kept.{IsKept}
use Rattle.version_words.proofs.Keeps.{lists_kept}
use Rattle.version_words.proofs.table.FlockTable.scan_epoch.Goals as goal

pub invariant_of-runner : goal.invariant_of-runner
invariant_of-runner g c =
    let mean = g.S.Structure.meaning in let seat = c.runner.inside.seat in let new = c.load-epoch.new.seat in let number = c.runner.inside.number in let kept = c.runner.inside.kept.value in
    subst (λ (b : Block). IsKept mean number (record b { lists = c.set_stage.new.self }) new.me) (sym c.deref_mut.ensures.value)
    (lists_kept mean c.args.self.now.structure ScanEpoch c.load-epoch.result number kept seat.table_id new.table_id seat.me new.me (ap (λ r. r.structure) c.runner.view_is ∙ c.requires.own.structure) c.load-epoch.ensures.event
    c.load-epoch.ensures.slots c.runner.invariant refl c.set_stage.new.self (λ p. with_stage p (stages.Scanning c.load-epoch.result 0 true))
    (c.set_stage.ensures ∙ ap (λ (b : Block). with_part b.lists (with_stage b.lists.part (stages.Scanning c.load-epoch.result 0 true))) c.deref_mut.ensures.value) refl)
