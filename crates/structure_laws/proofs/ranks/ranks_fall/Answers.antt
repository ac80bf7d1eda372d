use Rattle.structure_laws.proofs.Lower.{lower_few, lower_falls}
use Rattle.structure_laws.proofs.ranks.ranks_fall.Goals as goal

pub returns : goal.returns
returns c = λ on rank slots within. record { few = lower_few on rank slots within; falls = lower_falls on rank slots within }
