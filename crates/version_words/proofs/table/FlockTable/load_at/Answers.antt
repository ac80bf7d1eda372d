use Rattle.std.proofs.Common.{refl}
use Rattle.machine_states.specs.table_words.specs.declared.access.Access.TheVariants.{Loads}
use Rattle.version_words.specs.Events.{nothing}
use Rattle.version_words.proofs.Calls.{at_built, step_owes, own_still, event_made, slots_still}
use Rattle.version_words.proofs.table.FlockTable.load_at.Goals as goal

pub load-requires : goal.load-requires
load-requires g c = let t = c.self.inside in let seat = c.args.seat.now in
    step_owes g.S.Structure.meaning t.table.shared.table_id t.table.shared.key t.setup c.self.invariant seat.table_id seat.me g.E.Named.naming c.args.spot Loads 0 0 nothing c.args.self.now c.self.view_is c.requires.own c.requires.named
    seat.id c.args.at (at_built g.S.Structure.meaning t.table.shared.table_id t.table.shared.key t.setup c.self.invariant seat.table_id seat.me g.E.Named.naming c.args.spot Loads 0 0 nothing c.args.self.now c.self.view_is c.requires.own c.requires.named c.args.at c.requires.at) (λ n z. refl)

pub returns-clause-own : goal.returns-clause-own
returns-clause-own g c = let t = c.self.inside in let seat = c.args.seat.now in
    own_still g.S.Structure.meaning t.table.shared.table_id t.table.shared.key t.setup c.self.invariant seat.table_id seat.me g.E.Named.naming c.args.spot Loads 0 0 nothing c.args.self.now c.self.view_is c.requires.own c.requires.named
    c.load.result c.args.at (at_built g.S.Structure.meaning t.table.shared.table_id t.table.shared.key t.setup c.self.invariant seat.table_id seat.me g.E.Named.naming c.args.spot Loads 0 0 nothing c.args.self.now c.self.view_is c.requires.own c.requires.named c.args.at c.requires.at) c.load.new.seat.table_id c.load.new.seat.me c.load.ensures.0 c.load.ensures.2

pub returns-clause-event : goal.returns-clause-event
returns-clause-event g c = let t = c.self.inside in let seat = c.args.seat.now in
    event_made g.S.Structure.meaning t.table.shared.table_id t.table.shared.key t.setup c.self.invariant seat.table_id seat.me g.E.Named.naming c.args.spot Loads 0 0 nothing c.args.self.now c.self.view_is c.requires.own c.requires.named
    c.load.result c.args.at (at_built g.S.Structure.meaning t.table.shared.table_id t.table.shared.key t.setup c.self.invariant seat.table_id seat.me g.E.Named.naming c.args.spot Loads 0 0 nothing c.args.self.now c.self.view_is c.requires.own c.requires.named c.args.at c.requires.at) c.load.new.seat.table_id c.load.new.seat.me c.load.ensures.0 c.load.ensures.2

pub returns-clause-slots : goal.returns-clause-slots
returns-clause-slots g c = let t = c.self.inside in let seat = c.args.seat.now in
    slots_still g.S.Structure.meaning t.table.shared.table_id t.table.shared.key t.setup c.self.invariant seat.table_id seat.me g.E.Named.naming c.args.spot Loads 0 0 nothing c.args.self.now c.self.view_is c.requires.own c.requires.named
    c.load.result c.args.at (at_built g.S.Structure.meaning t.table.shared.table_id t.table.shared.key t.setup c.self.invariant seat.table_id seat.me g.E.Named.naming c.args.spot Loads 0 0 nothing c.args.self.now c.self.view_is c.requires.own c.requires.named c.args.at c.requires.at) c.load.new.seat.table_id c.load.new.seat.me c.load.ensures.0 c.load.ensures.2
