use Rattle.machine_epochs.proofs.AllKinds.{joined_step}
use Rattle.machine_epochs.proofs.laws.steps_are_events_of_slots.Goals as goal

pub returns : goal.returns
returns g c = λ layout requests w s s' r kind old step supplied. joined_step (g.S.Structure.meaning c.args.structure.now) layout requests w s s' r kind step old supplied
