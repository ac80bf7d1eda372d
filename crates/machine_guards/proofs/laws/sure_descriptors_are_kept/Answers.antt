use Rattle.machine_guards.proofs.Safe.{sure_kept}
use Rattle.machine_guards.proofs.laws.sure_descriptors_are_kept.Goals as goal

pub returns : goal.returns
returns g c = λ layout. sure_kept (g.S.Structure.meaning c.args.structure.now) layout
