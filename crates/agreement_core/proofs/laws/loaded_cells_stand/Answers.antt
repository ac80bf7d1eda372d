use Rattle.agreement_core.proofs.Standing.{cells_stand}
use Rattle.agreement_core.proofs.laws.loaded_cells_stand.Goals as goal

pub returns : goal.returns
returns c = λ rules w d sound. cells_stand rules w sound d
