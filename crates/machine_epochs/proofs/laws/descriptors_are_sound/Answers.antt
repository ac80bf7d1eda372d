use Rattle.machine_epochs.proofs.Reached.{descriptors_after}
use Rattle.machine_epochs.proofs.laws.descriptors_are_sound.Goals as goal

pub returns : goal.returns
returns g c = descriptors_after (g.S.Structure.meaning c.args.structure.now)
