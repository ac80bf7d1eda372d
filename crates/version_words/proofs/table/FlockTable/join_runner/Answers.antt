use Rattle.version_words.proofs.SeatCalls.{joins_owe}
use Rattle.version_words.proofs.table.FlockTable.join_runner.Goals as goal
use Rattle.std.proofs.Common.{ap, sym, subst, ◌∙◌}
use Rattle.machine_states.specs.runner_parts.specs.declared.event.EventKind.TheVariants.{Join}
use Rattle.version_words.specs.Events.{IsEnabled}
use Rattle.version_words.proofs.Keeps.{join_kept}

pub join_seat-requires : goal.join_seat-requires
join_seat-requires g c = let t = c.self.inside in let seat = c.keeper.inside.seat in let other = c.worker.inside.seat in
    joins_owe g.S.Structure.meaning t.table.shared.table_id t.table.shared.key t.setup c.self.invariant seat.table_id seat.me c.args.self.now c.args.keeper c.self.view_is c.keeper.view_is c.requires.own
    other.table_id other.me c.args.worker c.worker.view_is c.requires.worker c.requires.next seat.id other.id c.worker.invariant.slots

pub invariant_of-keeper : goal.invariant_of-keeper
invariant_of-keeper g c =
    let mean = g.S.Structure.meaning in let s = c.args.self.now.structure in let seat = c.keeper.inside.seat in let w = c.worker.inside.seat.me.0 in
    let next = subst (λ r. IsEnabled (mean s) (Join r.number) c.args.keeper) (sym c.worker.view_is) c.requires.next in
    let here = subst (IsEnabled (mean s) (Join w.number)) (sym c.keeper.view_is) next in
    join_kept mean s c.keeper.inside.number c.keeper.inside.kept.value seat.table_id seat.me c.join_seat.new.seat.me w (ap (λ r. r.structure) c.keeper.view_is ∙ c.requires.own.structure) here (ap (λ v. v.0) c.join_seat.ensures.2) (ap (λ v. v.1) c.join_seat.ensures.2) c.keeper.invariant
