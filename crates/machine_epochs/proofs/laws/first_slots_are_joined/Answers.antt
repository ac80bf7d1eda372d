use Rattle.machine_epochs.proofs.FirstJoin.{first_joined}
use Rattle.machine_epochs.proofs.laws.first_slots_are_joined.Goals as goal

pub returns : goal.returns
returns g c = λ layout requests. first_joined (g.S.Structure.meaning c.args.structure.now) layout requests
