use Rattle.machine_epochs.proofs.Reached.{sound_after}
use Rattle.machine_epochs.proofs.laws.epochs_are_sound.Goals as goal

pub returns : goal.returns
returns g c = sound_after (g.S.Structure.meaning c.args.structure.now)
