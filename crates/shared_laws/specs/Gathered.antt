-- A map's pairs as they are gathered, in order of key.
use Rattle.std.specs.Prelude.{◌≡◌, ℕ, ◌<◌, List, true, cond, nat_lt, None, Some, slice_get}
use Rattle.std.specs.Ordering.{nat_cmp}
use Rattle.std.specs.FinMap.{get, find, is_sorted}
use Rattle.structure_laws.specs.map_history.specs.Replay.{Pairs}

-- these are the map's pairs with keys below this one, in order of key
pub record HasPairs (pairs : Pairs) (start : ℕ) (items : List (ℕ × ℕ)) : Type 0 where
  pub sorted : is_sorted nat_cmp items ≡ true
  pub low : (i : ℕ) (x : ℕ × ℕ) → slice_get items i ≡ Some x → x.0 < start
  pub finds : (q : ℕ) → find nat_cmp q items ≡ cond (nat_lt q start) (get pairs q) None
