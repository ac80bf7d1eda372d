use Rattle.history_orders.proofs.Still.{before-later, before-still, reply-apart, still-apart}
use Rattle.history_orders.proofs.laws.turns_stand.Goals as goal

pub returns-clause-later : goal.returns-clause-later
returns-clause-later c = before-later

pub returns-clause-still : goal.returns-clause-still
returns-clause-still c = before-still

pub returns-clause-reply : goal.returns-clause-reply
returns-clause-reply c = reply-apart

pub returns-clause-quiet : goal.returns-clause-quiet
returns-clause-quiet c = still-apart
