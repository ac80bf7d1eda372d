-- Tickets: requests of one section each, and those of a worker that aren't used yet.
use Rattle.std.specs.Prelude.{◌≡◌, ℕ, ◌*◌, ◌/◌, ◌%◌, ◌<◌, ◌≤◌, true, false, List, map, Some, slice_get}
use Rattle.std.specs.List.{range_with_len}
use Rattle.machine_states.specs.map_history.specs.declared.op.Op.TheVariants.{Get}
use Rattle.machine_states.specs.map_history.specs.declared.op.Request.{Request}
use Rattle.machine_states.specs.runner_parts.specs.Tests.{is_answered, are_answered}
use Rattle.version_words.specs.RunnerState.{RunnerState}
use Rattle.attempts.specs.epoch_slots.specs.Collects.{IsTidy}
use Rattle.lock_attempts.specs.declared.tickets.Tickets.{Tickets}

-- the ticket with this number, in this trace. Its operation means nothing, since it serves no map
abbrev pub ticket : (trace number : ℕ) → Request
ticket trace number = record { trace = trace; number = number; op = Get 0 }

-- for each of so many workers so many tickets, one worker's after the other's
abbrev pub tickets_for : (workers each : ℕ) → List Request
tickets_for workers each = map (λ n. ticket (n / each) n) (range_with_len 0 (workers * each))

-- the worker has these tickets, none of which is used; each earlier request of their trace is answered, and the worker
-- is idle with an empty hand
pub record HasTickets {T : Type 0} (tickets : Tickets) (r : RunnerState T) : Type 0 where
  pub tidy : IsTidy r
  pub own : tickets.trace % r.layout.runners ≡ r.number
  pub there : (n : ℕ) → tickets.next ≤ n → n < tickets.end
      → slice_get r.requests n ≡ Some (ticket tickets.trace n)
  pub unused : (n : ℕ) → tickets.next ≤ n → n < tickets.end → is_answered r.part.records.known n ≡ false
  pub earlier : are_answered r.part.records.known tickets.trace tickets.next r.requests ≡ true
