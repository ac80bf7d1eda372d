use Rattle.machine_epochs.proofs.Collecting.{reached_collects}
use Rattle.machine_epochs.proofs.laws.scans_collect.Goals as goal

pub returns : goal.returns
returns g c = reached_collects (g.S.Structure.meaning c.args.structure.now)
