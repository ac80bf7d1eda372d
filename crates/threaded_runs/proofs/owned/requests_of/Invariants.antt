use Rattle.std.proofs.Common.{◌≡◌, ◌++◌, length, vec_items}
use Rattle.threaded_runs.specs.Own.{own_requests}
use Rattle.threaded_runs.proofs.owned.requests_of.Given as goal

abbrev pub invariant-loop-first : goal.invariant-loop-first
invariant-loop-first l = vec_items l.own ++ own_requests l.runners l.worker l.rest ≡ own_requests l.runners l.worker l.requests

abbrev pub decreases-loop-first : goal.decreases-loop-first
decreases-loop-first l = length l.rest
