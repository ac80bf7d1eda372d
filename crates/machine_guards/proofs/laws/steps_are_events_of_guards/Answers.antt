use Rattle.machine_guards.proofs.AllKinds.{step_goes}
use Rattle.machine_guards.proofs.laws.steps_are_events_of_guards.Goals as goal

pub returns : goal.returns
returns g c = λ layout requests. step_goes (g.S.Structure.meaning c.args.structure.now) layout requests
