use Rattle.machine_guards.proofs.First.{stands_by_places}
use Rattle.machine_guards.proofs.laws.guards_stand_by_places.Goals as goal

pub returns : goal.returns
returns g c = λ layout. stands_by_places (g.S.Structure.meaning c.args.structure.now) layout
