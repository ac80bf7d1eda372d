use Rattle.std.proofs.Common.{refl}
use Rattle.machine_states.specs.table_words.specs.declared.access.Access.TheVariants.{Exchanges}
use Rattle.version_words.specs.Events.{nothing}
use Rattle.version_words.proofs.Calls.{spot_fits, change_owes, own_still, event_made, event_tried, event_committed, slots_still}
use Rattle.version_words.proofs.table.FlockTable.exchange.Goals as goal

pub address-at-requires : goal.address-at-requires
address-at-requires g c = let t = c.self.inside in let seat = c.args.seat.now in
    spot_fits g.S.Structure.meaning t.table.shared.table_id t.table.shared.key t.setup c.self.invariant seat.table_id seat.me g.E.Named.naming c.args.spot (Exchanges c.args.old c.args.new) c.args.old c.args.new nothing c.args.self.now c.self.view_is c.requires.own c.requires.named

pub compare_exchange-requires : goal.compare_exchange-requires
compare_exchange-requires g c = let t = c.self.inside in let seat = c.args.seat.now in
    change_owes g.S.Structure.meaning t.table.shared.table_id t.table.shared.key t.setup c.self.invariant seat.table_id seat.me g.E.Named.naming c.args.spot (Exchanges c.args.old c.args.new) c.args.old c.args.new nothing c.args.self.now c.self.view_is c.requires.own c.requires.named
    seat.id c.address-at.result c.address-at.ensures c.requires.apart

pub returns-clause-own : goal.returns-clause-own
returns-clause-own g c = let t = c.self.inside in let seat = c.args.seat.now in
    own_still g.S.Structure.meaning t.table.shared.table_id t.table.shared.key t.setup c.self.invariant seat.table_id seat.me g.E.Named.naming c.args.spot (Exchanges c.args.old c.args.new) c.args.old c.args.new nothing c.args.self.now c.self.view_is c.requires.own c.requires.named
    c.compare_exchange.result c.address-at.result c.address-at.ensures c.compare_exchange.new.seat.table_id c.compare_exchange.new.seat.me c.compare_exchange.ensures.0 c.compare_exchange.ensures.2

pub returns-clause-event : goal.returns-clause-event
returns-clause-event g c = let t = c.self.inside in let seat = c.args.seat.now in
    event_made g.S.Structure.meaning t.table.shared.table_id t.table.shared.key t.setup c.self.invariant seat.table_id seat.me g.E.Named.naming c.args.spot (Exchanges c.args.old c.args.new) c.args.old c.args.new nothing c.args.self.now c.self.view_is c.requires.own c.requires.named
    c.compare_exchange.result c.address-at.result c.address-at.ensures c.compare_exchange.new.seat.table_id c.compare_exchange.new.seat.me c.compare_exchange.ensures.0 c.compare_exchange.ensures.2

pub returns-clause-tries : goal.returns-clause-tries
returns-clause-tries g c = let t = c.self.inside in let seat = c.args.seat.now in
    event_tried g.S.Structure.meaning t.table.shared.table_id t.table.shared.key t.setup c.self.invariant seat.table_id seat.me g.E.Named.naming c.args.spot (Exchanges c.args.old c.args.new) c.args.old c.args.new nothing c.args.self.now c.self.view_is c.requires.own c.requires.named
    c.compare_exchange.result c.address-at.result c.address-at.ensures c.compare_exchange.new.seat.table_id c.compare_exchange.new.seat.me c.compare_exchange.ensures.0 c.compare_exchange.ensures.2 _ refl

pub returns-clause-commits : goal.returns-clause-commits
returns-clause-commits g c = let t = c.self.inside in let seat = c.args.seat.now in
    event_committed g.S.Structure.meaning t.table.shared.table_id t.table.shared.key t.setup c.self.invariant seat.table_id seat.me g.E.Named.naming c.args.spot (Exchanges c.args.old c.args.new) c.args.old c.args.new nothing c.args.self.now c.self.view_is c.requires.own c.requires.named
    c.compare_exchange.result c.address-at.result c.address-at.ensures c.compare_exchange.new.seat.table_id c.compare_exchange.new.seat.me c.compare_exchange.ensures.0 c.compare_exchange.ensures.2 _ _ refl refl

pub returns-clause-leaves : goal.returns-clause-leaves
returns-clause-leaves g c = let t = c.self.inside in let seat = c.args.seat.now in
    let made =
    event_committed g.S.Structure.meaning t.table.shared.table_id t.table.shared.key t.setup c.self.invariant seat.table_id seat.me g.E.Named.naming c.args.spot (Exchanges c.args.old c.args.new) c.args.old c.args.new nothing c.args.self.now c.self.view_is c.requires.own c.requires.named
    c.compare_exchange.result c.address-at.result c.address-at.ensures c.compare_exchange.new.seat.table_id c.compare_exchange.new.seat.me c.compare_exchange.ensures.0 c.compare_exchange.ensures.2 _ _ refl refl in record { found = made.found; event = made.event; told = made.told }

pub returns-clause-slots : goal.returns-clause-slots
returns-clause-slots g c = let t = c.self.inside in let seat = c.args.seat.now in
    slots_still g.S.Structure.meaning t.table.shared.table_id t.table.shared.key t.setup c.self.invariant seat.table_id seat.me g.E.Named.naming c.args.spot (Exchanges c.args.old c.args.new) c.args.old c.args.new nothing c.args.self.now c.self.view_is c.requires.own c.requires.named
    c.compare_exchange.result c.address-at.result c.address-at.ensures c.compare_exchange.new.seat.table_id c.compare_exchange.new.seat.me c.compare_exchange.ensures.0 c.compare_exchange.ensures.2
