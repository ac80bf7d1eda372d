use Rattle.history_orders.proofs.Turns.{before_following}
use Rattle.history_orders.proofs.laws.turns_follow.Goals as goal

pub returns : goal.returns
returns c = before_following
