use Rattle.machine_agreement.proofs.AllKinds.{step_goes}
use Rattle.machine_agreement.proofs.laws.steps_are_events.Goals as goal

pub returns : goal.returns
returns g c = λ layout requests w s s' r kind old step supplied. step_goes (g.S.Structure.meaning c.args.structure.now) layout requests w s old r s' kind step supplied
