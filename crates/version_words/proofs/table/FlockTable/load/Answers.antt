use Rattle.machine_states.specs.table_words.specs.declared.access.Access.TheVariants.{Loads}
use Rattle.version_words.specs.Events.{nothing}
use Rattle.version_words.proofs.Calls.{spot_fits, at_seen}
use Rattle.version_words.proofs.table.FlockTable.load.Goals as goal

pub address-at-requires : goal.address-at-requires
address-at-requires g c = let t = c.self.inside in let seat = c.args.seat.now in
    spot_fits g.S.Structure.meaning t.table.shared.table_id t.table.shared.key t.setup c.self.invariant seat.table_id seat.me g.E.Named.naming c.args.spot Loads 0 0 nothing c.args.self.now c.self.view_is c.requires.own c.requires.named

pub load_at-requires-clause-at : goal.load_at-requires-clause-at
load_at-requires-clause-at g c = let t = c.self.inside in let seat = c.args.seat.now in
    λ κs lives. at_seen g.S.Structure.meaning t.table.shared.table_id t.table.shared.key t.setup c.self.invariant seat.table_id seat.me g.E.Named.naming c.args.spot Loads 0 0 nothing c.args.self.now c.self.view_is c.requires.own c.requires.named c.address-at.result c.address-at.ensures
