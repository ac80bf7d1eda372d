use Rattle.history_orders.proofs.Entries.{map-put_in, replayed-put_in, order-put_in, in-put_in, put_in-contains, length-put_in}
use Rattle.history_orders.proofs.laws.entries_are_put_in.Goals as goal

pub returns-clause-entries : goal.returns-clause-entries
returns-clause-entries c = λ e x history. (in-put_in e x history, put_in-contains e x history)

pub returns-clause-order : goal.returns-clause-order
returns-clause-order c = order-put_in

pub returns-clause-map : goal.returns-clause-map
returns-clause-map c = map-put_in

pub returns-clause-replay : goal.returns-clause-replay
returns-clause-replay c = replayed-put_in

pub returns-clause-count : goal.returns-clause-count
returns-clause-count c = length-put_in
