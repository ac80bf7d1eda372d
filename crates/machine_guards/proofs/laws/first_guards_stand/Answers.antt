use Rattle.machine_guards.proofs.First.{first_stands}
use Rattle.machine_guards.proofs.laws.first_guards_stand.Goals as goal

pub returns : goal.returns
returns g c = λ layout requests w start. first_stands (g.S.Structure.meaning c.args.structure.now) layout requests w start
