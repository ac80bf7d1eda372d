use Rattle.std.proofs.Common.{◌≡◌, ◌/◌, map}
use Rattle.std.specs.List.{range_with_len}
use Rattle.lock_attempts.specs.Tickets.{ticket}
use Rattle.lock_attempts.proofs.tickets.make_tickets.Given as goal

abbrev pub invariant-loop-number : goal.invariant-loop-number
invariant-loop-number l = l.tickets.items ≡ map (λ n. ticket (n / l.each) n) (range_with_len 0 l.number)
