use Rattle.std.proofs.Common.{refl, sym, subst, ap, ◌∙◌}
use Rattle.machine_states.specs.runner_parts.specs.declared.event.EventKind.TheVariants.{EnterAgain}
use Rattle.runner_block.specs.declared.block.Block.{Block}
use Rattle.runner_block.specs.Kept.{with_part, entered_in}
use Rattle.version_words.specs.Kept.{IsKept}
use Rattle.version_words.proofs.Keeps.{lists_kept}
use Rattle.version_words.proofs.table.FlockTable.enter_again.Goals as goal

pub invariant_of-runner : goal.invariant_of-runner
invariant_of-runner g c =
    let mean = g.S.Structure.meaning in let seat = c.runner.inside.seat in let new = c.load-epoch.new.seat in let number = c.runner.inside.number in let kept = c.runner.inside.kept.value in
    subst (λ (b : Block). IsKept mean number (record b { lists = c.enter.new.self }) new.me) (sym c.deref_mut.ensures.value)
    (lists_kept mean c.args.self.now.structure EnterAgain c.load-epoch.result number kept seat.table_id new.table_id seat.me new.me (ap (λ r. r.structure) c.runner.view_is ∙ c.requires.own.structure) c.load-epoch.ensures.event
    c.load-epoch.ensures.slots c.runner.invariant refl c.enter.new.self (λ p. entered_in p c.load-epoch.result)
    (c.enter.ensures ∙ ap (λ (b : Block). with_part b.lists (entered_in b.lists.part c.load-epoch.result)) c.deref_mut.ensures.value) refl)
