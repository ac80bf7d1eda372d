use Rattle.std.proofs.Common.{refl, sym, subst, ap, ◌∙◌, false}
use Rattle.machine_states.specs.runner_parts.specs.declared.event.EventKind.TheVariants.{SetDone}
use Rattle.runner_block.specs.declared.block.Block.{Block}
use Rattle.version_words.specs.Kept.{IsKept}
use Rattle.version_words.proofs.Inside.{done_set_kept}
use Rattle.version_words.proofs.table.FlockTable.set_done.Goals as goal

pub invariant_of-runner : goal.invariant_of-runner
invariant_of-runner g c =
    let mean = g.S.Structure.meaning in let seat = c.runner.inside.seat in let new = c.exchange.new.seat in let number = c.runner.inside.number in
    subst (λ (b : Block). IsKept mean number (record b { place = record (b.place) { inside = false } }) new.me) (sym c.deref_mut.ensures.value)
    (done_set_kept mean c.args.self.now.structure SetDone c.exchange.result number c.runner.inside.kept.value seat.table_id new.table_id seat.me new.me
    (ap (λ r. r.structure) c.runner.view_is ∙ c.requires.own.structure) c.exchange.ensures.event c.exchange.ensures.slots c.runner.invariant refl refl refl)
