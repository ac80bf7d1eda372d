use Rattle.version_words.proofs.SeatCalls.{splits_owe}
use Rattle.version_words.proofs.table.FlockTable.runner.Goals as goal
use Rattle.std.proofs.Common.{ap, sym, subst, ◌∙◌}
use Rattle.machine_states.specs.runner_parts.specs.declared.event.EventKind.TheVariants.{Split}
use Rattle.machine_states.specs.runner_steps.specs.AfterOutside.{split_after}
use Rattle.runner_block.specs.declared.block.Block.{Block}
use Rattle.runner_block.specs.Kept.{with_part}
use Rattle.version_words.specs.Kept.{IsKept}
use Rattle.version_words.specs.Events.{IsEnabled}
use Rattle.version_words.proofs.Keeps.{split_kept}

pub split_seat-seat-requires : goal.split_seat-seat-requires
split_seat-seat-requires g c = let t = c.self.inside in let seat = c.keeper.inside.seat in
    splits_owe g.S.Structure.meaning t.table.shared.table_id t.table.shared.key t.setup c.self.invariant seat.table_id seat.me c.args.self.now c.args.keeper c.self.view_is c.keeper.view_is c.requires.own seat.id c.requires.next

pub invariant_of-keeper : goal.invariant_of-keeper
invariant_of-keeper g c =
    let mean = g.S.Structure.meaning in let s = c.args.self.now.structure in let seat = c.keeper.inside.seat in let new = c.split_seat-seat.new.seat in let number = c.keeper.inside.number in
    let next = subst (IsEnabled (mean s) Split) (sym c.keeper.view_is) c.requires.next in
    let layout = ap (λ t. t.layout) c.self.view_is ∙ (sym c.requires.own.layout ∙ sym (ap (λ r. r.layout) c.keeper.view_is)) in
    subst (λ (b : Block). IsKept mean number (record b { lists = c.split.new.self }) new.me) (sym c.deref_mut.ensures.value)
    (split_kept mean s number c.keeper.inside.kept.value seat.table_id seat.me new.me (ap (λ r. r.structure) c.keeper.view_is ∙ c.requires.own.structure) next (ap (λ v. v.0) c.split_seat-seat.ensures.2) (ap (λ v. v.1) c.split_seat-seat.ensures.2)
    c.keeper.invariant c.self.inside.setup.layout c.split.new.self layout (c.split.ensures ∙ ap (λ (b : Block). with_part b.lists (split_after c.self.inside.setup.layout b.lists.part)) c.deref_mut.ensures.value))
