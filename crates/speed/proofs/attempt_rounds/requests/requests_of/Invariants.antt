use Rattle.std.proofs.Common.{◌≡◌, map}
use Rattle.std.specs.List.{range_with_len}
use Rattle.speed.specs.Asked.{request_at}
use Rattle.speed.proofs.attempt_rounds.requests.requests_of.Given as goal

abbrev pub invariant-loop-number : goal.invariant-loop-number
invariant-loop-number l = l.requests.items ≡ map (request_at l.kind) (range_with_len 0 l.number)
