-- The maps that requests leave, served in their order from the empty map on.
use Rattle.std.specs.Prelude.{◌≡◌, ◌≢◌, ℕ, zero, suc, ◌<◌, ◌≤◌, List, [], ◌∷◌, Some, length, max, slice_get}
use Rattle.std.specs.FinMap.{empty, len}
use Rattle.history_orders.specs.map_history.specs.declared.op.Op.{Op}
use Rattle.history_orders.specs.map_history.specs.declared.op.Request.{Request}
use Rattle.history_orders.specs.map_history.specs.Replay.{Pairs, map_after}
use Rattle.history_orders.specs.Turns.{Follows}

-- the map that the first requests, so many, leave of this one
abbrev pub map_from : Pairs → List Request → ℕ → Pairs
map_from pairs requests zero = pairs
map_from pairs [] (suc count) = pairs
map_from pairs (request ∷ requests) (suc count) = map_from (map_after pairs request.op) requests count

abbrev pub map_behind : List Request → ℕ → Pairs
map_behind requests count = map_from empty requests count

-- how many pairs it has
abbrev pub size_behind : List Request → ℕ → ℕ
size_behind requests count = len (map_behind requests count)

-- the largest size of the map on the way, from this one on
abbrev pub peak_from : Pairs → List Request → ℕ
peak_from pairs [] = len pairs
peak_from pairs (request ∷ requests) = max (len pairs) (peak_from (map_after pairs request.op) requests)

abbrev pub peak : List Request → ℕ
peak requests = peak_from empty requests

-- the operation with a request's place is its own
abbrev pub HaveOps : (ℕ → Op) → List Request → Type 0
HaveOps op requests = (n : ℕ) (request : Request) → slice_get requests n ≡ Some request → op n ≡ request.op

-- of these requests the first ones, so many, have stamps, which rise along them, where two that follow one another may
-- be the same odd one; and no other request has one
pub record HaveFirstStamps (stamp : ℕ → ℕ) (requests : List Request) (count : ℕ) : Type 0 where
  pub few : count ≤ length requests
  pub some : (n : ℕ) → n < count → stamp n ≢ 0
  pub rising : (n k : ℕ) → n < k → k < count → Follows (stamp n) (stamp k)
  pub none : (n : ℕ) → count ≤ n → stamp n ≡ 0
