-- What may be served on a table.
use Rattle.std.specs.Prelude.{◌≤◌}
use Rattle.speed.specs.declared.attempt_rounds.rounds.Round.{Round}

-- there aren't too many requests, and no more than these are served
pub record IsRound (round : Round) : Type 0 where
  pub few : round.count ≤ 131072
  pub within : round.served ≤ round.count
