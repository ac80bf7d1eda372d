use Rattle.history_orders.proofs.Unique.{unique, once}
use Rattle.history_orders.proofs.laws.a_history_is_one.Goals as goal

pub returns-clause-once : goal.returns-clause-once
returns-clause-once c = once

pub returns-clause-one : goal.returns-clause-one
returns-clause-one c = unique
