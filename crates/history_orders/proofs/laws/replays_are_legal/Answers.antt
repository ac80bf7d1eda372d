use Rattle.history_orders.proofs.Replays.{map-oldest_first, legal-oldest_first, oldest_first-legal}
use Rattle.history_orders.proofs.laws.replays_are_legal.Goals as goal

pub returns-clause-legal : goal.returns-clause-legal
returns-clause-legal c = λ history. (legal-oldest_first history, oldest_first-legal history)

pub returns-clause-map : goal.returns-clause-map
returns-clause-map c = map-oldest_first
