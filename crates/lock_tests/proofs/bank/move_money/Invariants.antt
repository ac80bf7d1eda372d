use Rattle.std.proofs.Common.{◌≡◌, ◌+◌, ◌*◌}
use Rattle.settled_tables.specs.closed_words.specs.version_words.specs.TableState.{IsOf}
use Rattle.lock_attempts.specs.Tickets.{HasTickets}
use Rattle.lock_tests.proofs.bank.move_money.Given as goal

abbrev pub invariant-loop-turn : goal.invariant-loop-turn
invariant-loop-turn g l =
    IsOf l.table l.runner
    × (l.runner.number ≡ l.fn.runner.number)
    × HasTickets l.tickets l.runner
    × (l.tickets.next ≡ l.fn.runner.number * l.each + l.turn)
    × (l.tickets.end ≡ l.fn.runner.number * l.each + l.each)
