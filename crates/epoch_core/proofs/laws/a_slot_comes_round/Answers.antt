use Rattle.epoch_core.proofs.Rounding.{comes_round}
use Rattle.epoch_core.proofs.laws.a_slot_comes_round.Goals as goal

pub returns : goal.returns
returns c = comes_round
