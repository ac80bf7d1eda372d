use Rattle.machine_blocks.proofs.First.{first_stand}
use Rattle.machine_blocks.proofs.laws.logs_stand_at_first.Goals as goal

pub returns : goal.returns
returns g c = λ layout requests w start. first_stand (g.S.Structure.meaning c.args.structure.now) layout requests w start
