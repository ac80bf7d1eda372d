use Rattle.std.proofs.Common.{ℕ, sym, ap, subst, ◌∙◌}
use Rattle.runner_block.specs.declared.block.Block.{Block}
use Rattle.runner_block.specs.Blocks.{block_saw}
use Rattle.version_words.specs.TableState.{IsOf}
use Rattle.version_words.specs.Naming.{load_of}
use Rattle.version_words.specs.Kept.{IsUnseen, IsSeen, IsKept}
use Rattle.version_words.specs.Events.{Makes, seen_seat}
use Rattle.version_words.proofs.Inside.{cell_event, cell_saw}
use Rattle.version_words.proofs.table.FlockTable.load_cell.Goals as goal

pub invariant_of-runner : goal.invariant_of-runner
invariant_of-runner g c =
    let mean = g.S.Structure.meaning in let s = c.args.self.now.structure in let seat = c.runner.inside.seat in let new = c.load-word.new.seat in
    let own = subst (λ r. IsOf c.args.self.now r) (sym c.runner.view_is) c.requires.own in
    let kept = c.runner.inside.kept.value in let found = c.load-word.result in let place = c.args.place in let sure = c.makes_sure-sure in
    subst (λ (b : Block). IsKept mean c.runner.inside.number b new.me) (sym (c.saw.ensures ∙ ap (λ (b : Block). block_saw b sure.result found) c.deref_mut.ensures.value))
    (cell_saw mean s place found c.runner.inside.number kept seat.table_id new.table_id seat.me new.me own.structure c.load-word.ensures.slots c.runner.invariant sure.result
    (λ no out. subst (λ (b : Block). IsUnseen (mean s) b place found) c.deref.ensures (sure.ensures.none no (ap (λ (b : Block). b.place.inside) c.deref.ensures ∙ out)))
    (λ yes. subst (λ (b : Block). IsSeen (mean s) b place found) c.deref.ensures (sure.ensures.some yes))
    (cell_event (mean s) c.args.self.now (seen_seat seat.table_id seat.me) own c.args.place c.load-word.result (seen_seat new.table_id new.me) c.load-word.ensures.event))

pub returns-clause-event : goal.returns-clause-event
returns-clause-event g c =
    let m = g.S.Structure.meaning c.args.self.now.structure in let seat = c.runner.inside.seat in let new = c.load-word.new.seat in
    let own = subst (λ r. IsOf c.args.self.now r) (sym c.runner.view_is) c.requires.own in
    subst (λ r. Makes m (load_of r.part.run c.args.place) c.from_bits.result r (seen_seat new.table_id new.me)) c.runner.view_is
    (subst (λ (n : ℕ). Makes m (load_of seat.me.0.part.run c.args.place) n (seen_seat seat.table_id seat.me) (seen_seat new.table_id new.me)) (sym c.from_bits.ensures)
    (cell_event m c.args.self.now (seen_seat seat.table_id seat.me) own c.args.place c.load-word.result (seen_seat new.table_id new.me) c.load-word.ensures.event))
