use Rattle.history_orders.proofs.Still.{reply-found, still-found, equal_turns}
use Rattle.history_orders.proofs.laws.turns_are_found.Goals as goal

pub returns-clause-reply : goal.returns-clause-reply
returns-clause-reply c = reply-found

pub returns-clause-still : goal.returns-clause-still
returns-clause-still c = still-found

pub returns-clause-equal : goal.returns-clause-equal
returns-clause-equal c = equal_turns
