use Rattle.std.proofs.Common.{◌≡◌, ◌+◌, ◌*◌}
use Rattle.settled_tables.specs.closed_words.specs.version_words.specs.TableState.{IsOf}
use Rattle.lock_attempts.specs.Tickets.{HasTickets}
use Rattle.transfers.specs.Made.{HaveMade}
use Rattle.transfers.proofs.works.work.Given as goal

abbrev pub invariant-loop-turn : goal.invariant-loop-turn
invariant-loop-turn g l =
    IsOf l.table l.runner
    × (l.runner.number ≡ l.fn.runner.number)
    × HasTickets l.tickets l.runner
    × (l.tickets.next ≡ l.fn.runner.number * 100 + l.turn)
    × (l.tickets.end ≡ l.fn.runner.number * 100 + 100)
    × (l.tickets.trace ≡ l.fn.runner.number)
    × HaveMade l.table l.turn l.fn.runner.number l.fn.runner l.runner
