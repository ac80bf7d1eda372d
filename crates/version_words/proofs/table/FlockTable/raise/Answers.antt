use Rattle.machine_states.specs.table_words.specs.declared.access.Access.TheVariants.{Raises}
use Rattle.version_words.specs.Events.{nothing}
use Rattle.version_words.proofs.Calls.{spot_fits, change_owes, own_still, event_made, slots_still}
use Rattle.version_words.proofs.table.FlockTable.raise.Goals as goal

pub address-at-requires : goal.address-at-requires
address-at-requires g c = let t = c.self.inside in let seat = c.args.seat.now in
    spot_fits g.S.Structure.meaning t.table.shared.table_id t.table.shared.key t.setup c.self.invariant seat.table_id seat.me g.E.Named.naming c.args.spot (Raises c.args.number) c.args.number 0 nothing c.args.self.now c.self.view_is c.requires.own c.requires.named

pub fetch_max-requires : goal.fetch_max-requires
fetch_max-requires g c = let t = c.self.inside in let seat = c.args.seat.now in
    change_owes g.S.Structure.meaning t.table.shared.table_id t.table.shared.key t.setup c.self.invariant seat.table_id seat.me g.E.Named.naming c.args.spot (Raises c.args.number) c.args.number 0 nothing c.args.self.now c.self.view_is c.requires.own c.requires.named
    seat.id c.address-at.result c.address-at.ensures c.requires.apart

pub returns-clause-own : goal.returns-clause-own
returns-clause-own g c = let t = c.self.inside in let seat = c.args.seat.now in
    own_still g.S.Structure.meaning t.table.shared.table_id t.table.shared.key t.setup c.self.invariant seat.table_id seat.me g.E.Named.naming c.args.spot (Raises c.args.number) c.args.number 0 nothing c.args.self.now c.self.view_is c.requires.own c.requires.named
    c.fetch_max.result c.address-at.result c.address-at.ensures c.fetch_max.new.seat.table_id c.fetch_max.new.seat.me c.fetch_max.ensures.0 c.fetch_max.ensures.2

pub returns-clause-event : goal.returns-clause-event
returns-clause-event g c = let t = c.self.inside in let seat = c.args.seat.now in
    event_made g.S.Structure.meaning t.table.shared.table_id t.table.shared.key t.setup c.self.invariant seat.table_id seat.me g.E.Named.naming c.args.spot (Raises c.args.number) c.args.number 0 nothing c.args.self.now c.self.view_is c.requires.own c.requires.named
    c.fetch_max.result c.address-at.result c.address-at.ensures c.fetch_max.new.seat.table_id c.fetch_max.new.seat.me c.fetch_max.ensures.0 c.fetch_max.ensures.2

pub returns-clause-slots : goal.returns-clause-slots
returns-clause-slots g c = let t = c.self.inside in let seat = c.args.seat.now in
    slots_still g.S.Structure.meaning t.table.shared.table_id t.table.shared.key t.setup c.self.invariant seat.table_id seat.me g.E.Named.naming c.args.spot (Raises c.args.number) c.args.number 0 nothing c.args.self.now c.self.view_is c.requires.own c.requires.named
    c.fetch_max.result c.address-at.result c.address-at.ensures c.fetch_max.new.seat.table_id c.fetch_max.new.seat.me c.fetch_max.ensures.0 c.fetch_max.ensures.2
