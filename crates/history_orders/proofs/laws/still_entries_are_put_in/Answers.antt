use Rattle.history_orders.proofs.Still.{map-put_still, replayed-put_still}
use Rattle.history_orders.proofs.laws.still_entries_are_put_in.Goals as goal

pub returns-clause-map : goal.returns-clause-map
returns-clause-map c = map-put_still

pub returns-clause-replay : goal.returns-clause-replay
returns-clause-replay c = replayed-put_still
