-- No map on the way is larger than the largest one.
use Rattle.std.proofs.Common.{ℕ, zero, suc, ◌≤◌, List, [], ◌∷◌, arith}
use Rattle.std.specs.FinMap.{empty, len}
use Rattle.std.proofs.Math.Nat.{le-max_left, le-max_right}
use Rattle.history_orders.specs.map_history.specs.declared.op.Request.{Request}
use Rattle.history_orders.specs.map_history.specs.Replay.{Pairs, map_after}
use Rattle.map_sizes.specs.Sizes.{map_from, peak_from, size_behind, peak}

below_from : (pairs : Pairs) (requests : List Request) (count : ℕ) → len (map_from pairs requests count) ≤ peak_from pairs requests
below_from pairs [] zero = omega arith
below_from pairs [] (suc count) = omega arith
below_from pairs (request ∷ requests) zero = le-max_left (len pairs) (peak_from (map_after pairs request.op) requests)
below_from pairs (request ∷ requests) (suc count) =
    let rest = below_from (map_after pairs request.op) requests count in
    let more = le-max_right (len pairs) (peak_from (map_after pairs request.op) requests) in omega (arith, rest, more)

pub below_peak : (requests : List Request) (count : ℕ) → size_behind requests count ≤ peak requests
below_peak requests count = below_from empty requests count
