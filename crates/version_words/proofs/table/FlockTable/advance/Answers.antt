use Rattle.std.proofs.Common.{refl, sym, subst, ap, ◌∙◌}
use Rattle.machine_states.specs.runner_parts.specs.declared.event.EventKind.TheVariants.{Advance}
use Rattle.machine_states.specs.runner_steps.specs.AfterOutside.{advance_after}
use Rattle.runner_block.specs.declared.block.Block.{Block}
use Rattle.runner_block.specs.Kept.{with_part}
use Rattle.version_words.specs.Kept.{IsKept}
use Rattle.version_words.proofs.Told.{told_advance}
use Rattle.version_words.proofs.Keeps.{lists_kept}
use Rattle.version_words.proofs.table.FlockTable.advance.Goals as goal

pub invariant_of-runner : goal.invariant_of-runner
invariant_of-runner g c =
    let mean = g.S.Structure.meaning in let seat = c.runner.inside.seat in let new = c.exchange-found.new.seat in let number = c.runner.inside.number in let kept = c.runner.inside.kept.value in
    subst (λ (b : Block). IsKept mean number (record b { lists = c.advance.new.self }) new.me) (sym c.deref_mut.ensures.value)
    (lists_kept mean c.args.self.now.structure Advance c.exchange-found.result number kept seat.table_id new.table_id seat.me new.me (ap (λ r. r.structure) c.runner.view_is ∙ c.requires.own.structure) c.exchange-found.ensures.event
    c.exchange-found.ensures.slots c.runner.invariant refl c.advance.new.self (λ p. advance_after p p.stage)
    (c.advance.ensures ∙ ap (λ (b : Block). with_part b.lists (advance_after b.lists.part b.lists.part.stage)) c.deref_mut.ensures.value) (told_advance seat.me.0.part seat.me.0.part.stage))
