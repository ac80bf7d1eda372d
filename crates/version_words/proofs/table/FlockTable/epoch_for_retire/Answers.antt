use Rattle.std.proofs.Common.{ap, sym, subst, ◌∙◌}
use Rattle.machine_states.specs.runner_parts.specs.declared.event.EventKind.TheVariants.{EpochForRetire}
use Rattle.runner_block.specs.declared.block.Block.{Block}
use Rattle.runner_block.specs.Blocks.{block_retired}
use Rattle.version_words.specs.Kept.{IsKept}
use Rattle.version_words.specs.Events.{IsEnabled, seen_seat}
use Rattle.version_words.proofs.MakeSteps.{epoch_named, epoch_kept}
use Rattle.version_words.proofs.table.FlockTable.epoch_for_retire.Goals as goal

pub load-epoch-requires-clause-named : goal.load-epoch-requires-clause-named
load-epoch-requires-clause-named g c =
    let m = g.S.Structure.meaning c.args.self.now.structure in let seat = c.runner.inside.seat in
    λ κs lives. epoch_named m c.args.self.now (seen_seat seat.table_id seat.me) (subst (IsEnabled m EpochForRetire) (sym c.runner.view_is) c.requires.next)

pub invariant_of-runner : goal.invariant_of-runner
invariant_of-runner g c =
    let mean = g.S.Structure.meaning in let seat = c.runner.inside.seat in let new = c.load-epoch.new.seat in let number = c.runner.inside.number in
    subst (λ (b : Block). IsKept mean number b new.me) (sym (c.retired.ensures ∙ ap (λ (b : Block). block_retired b c.load-epoch.result) c.deref_mut.ensures.value))
    (epoch_kept mean c.args.self.now.structure c.load-epoch.result number c.runner.inside.kept.value seat.table_id new.table_id seat.me new.me
    (ap (λ r. r.structure) c.runner.view_is ∙ c.requires.own.structure) c.load-epoch.ensures.event c.load-epoch.ensures.slots c.runner.invariant)
