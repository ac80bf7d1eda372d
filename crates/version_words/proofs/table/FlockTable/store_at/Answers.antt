use Rattle.std.proofs.Common.{refl}
use Rattle.machine_states.specs.table_words.specs.declared.access.Access.TheVariants.{Stores}
use Rattle.version_words.specs.Events.{nothing}
use Rattle.version_words.proofs.Calls.{at_built, store_owes, own_still, event_stored, slots_still}
use Rattle.version_words.proofs.table.FlockTable.store_at.Goals as goal

pub store-requires : goal.store-requires
store-requires g c = let t = c.self.inside in let seat = c.args.seat.now in
    store_owes g.S.Structure.meaning t.table.shared.table_id t.table.shared.key t.setup c.self.invariant seat.table_id seat.me g.E.Named.naming c.args.spot (Stores c.args.number) c.args.number 0 nothing c.args.self.now c.self.view_is c.requires.own c.requires.named
    seat.id c.args.at c.args.number (at_built g.S.Structure.meaning t.table.shared.table_id t.table.shared.key t.setup c.self.invariant seat.table_id seat.me g.E.Named.naming c.args.spot (Stores c.args.number) c.args.number 0 nothing c.args.self.now c.self.view_is c.requires.own c.requires.named c.args.at c.requires.at) c.requires.apart refl c.requires.blind

pub returns-clause-own : goal.returns-clause-own
returns-clause-own g c = let t = c.self.inside in let seat = c.args.seat.now in
    own_still g.S.Structure.meaning t.table.shared.table_id t.table.shared.key t.setup c.self.invariant seat.table_id seat.me g.E.Named.naming c.args.spot (Stores c.args.number) c.args.number 0 nothing c.args.self.now c.self.view_is c.requires.own c.requires.named
    c.args.number c.args.at (at_built g.S.Structure.meaning t.table.shared.table_id t.table.shared.key t.setup c.self.invariant seat.table_id seat.me g.E.Named.naming c.args.spot (Stores c.args.number) c.args.number 0 nothing c.args.self.now c.self.view_is c.requires.own c.requires.named c.args.at c.requires.at) c.store.new.seat.table_id c.store.new.seat.me c.store.ensures.0 c.store.ensures.2

pub returns-clause-event : goal.returns-clause-event
returns-clause-event g c = let t = c.self.inside in let seat = c.args.seat.now in
    event_stored g.S.Structure.meaning t.table.shared.table_id t.table.shared.key t.setup c.self.invariant seat.table_id seat.me g.E.Named.naming c.args.spot (Stores c.args.number) c.args.number 0 nothing c.args.self.now c.self.view_is c.requires.own c.requires.named
    c.args.number c.args.at (at_built g.S.Structure.meaning t.table.shared.table_id t.table.shared.key t.setup c.self.invariant seat.table_id seat.me g.E.Named.naming c.args.spot (Stores c.args.number) c.args.number 0 nothing c.args.self.now c.self.view_is c.requires.own c.requires.named c.args.at c.requires.at) c.store.new.seat.table_id c.store.new.seat.me c.store.ensures.0 c.store.ensures.2 c.args.number refl c.requires.blind

pub returns-clause-slots : goal.returns-clause-slots
returns-clause-slots g c = let t = c.self.inside in let seat = c.args.seat.now in
    slots_still g.S.Structure.meaning t.table.shared.table_id t.table.shared.key t.setup c.self.invariant seat.table_id seat.me g.E.Named.naming c.args.spot (Stores c.args.number) c.args.number 0 nothing c.args.self.now c.self.view_is c.requires.own c.requires.named
    c.args.number c.args.at (at_built g.S.Structure.meaning t.table.shared.table_id t.table.shared.key t.setup c.self.invariant seat.table_id seat.me g.E.Named.naming c.args.spot (Stores c.args.number) c.args.number 0 nothing c.args.self.now c.self.view_is c.requires.own c.requires.named c.args.at c.requires.at) c.store.new.seat.table_id c.store.new.seat.me c.store.ensures.0 c.store.ensures.2
