use Rattle.std.proofs.Common.{rules}
use Rattle.std.specs.Slots.{slots_items}
use Rattle.version_words.proofs.SeatCalls.{closes, shown_closed}
use Rattle.version_words.proofs.table.FlockTable.close.Goals as goal

pub returns : goal.returns
returns g c = let t = c.self.inside in let seat = c.keeper.inside.seat in let closed = c.close_with-closed in
    closes g.S.Structure.meaning t.table.shared.table_id t.table.shared.key t.setup c.self.invariant seat.table_id seat.me c.args.self c.args.keeper c.self.view_is c.keeper.view_is c.requires.own
    (slots_items closed.result.words) (slots_items closed.result.slots) seat.id closed.ensures.values.2 c.requires.joined

pub invariant_of-result : goal.invariant_of-result
invariant_of-result g c = let t = c.self.inside in let seat = c.keeper.inside.seat in let closed = c.close_with-closed in
    let shown = shown_closed g.S.Structure.meaning t.table.shared.table_id t.table.shared.key t.setup c.self.invariant seat.table_id seat.me c.args.self c.args.keeper c.self.view_is c.keeper.view_is c.requires.own
    (slots_items closed.result.words) (slots_items closed.result.slots) seat.id closed.ensures.values.2 c.requires.joined in
    record { full = search rules; empty = search rules; counted = search rules; as_sized = search rules; limits = search rules; allowed = search rules; shown = shown }
