use Rattle.structure_laws.specs.Tray.{tray}
use Rattle.structure_laws.proofs.Moves.{moves}
use Rattle.structure_laws.proofs.TrayLaws.{tray_laws}
use Rattle.structure_laws.proofs.laws.tray_moves_are_lawful.Goals as goal

pub returns : goal.returns
returns c = λ layout limits. moves tray tray_laws layout limits
