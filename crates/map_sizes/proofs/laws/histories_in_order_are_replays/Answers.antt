use Rattle.map_sizes.proofs.InOrder.{replayed}
use Rattle.map_sizes.proofs.laws.histories_in_order_are_replays.Goals as goal

pub returns : goal.returns
returns c = replayed
