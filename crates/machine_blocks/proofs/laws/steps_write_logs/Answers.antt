use Rattle.machine_blocks.proofs.Writes.{steps_write}
use Rattle.machine_blocks.proofs.laws.steps_write_logs.Goals as goal

pub returns : goal.returns
returns g c = λ layout requests. steps_write (g.S.Structure.meaning c.args.structure.now) layout requests
