-- The requests of a text, as a list.
use Rattle.std.specs.Prelude.{◌≡◌, true, ℕ, ◌<◌, ◌≤◌, List, length, map, All}
use Rattle.std.specs.List.{range_with_len}
use Rattle.std.specs.List.Sorted.{IsNonDecreasingBy}
use Rattle.map_history.specs.declared.op.Request.{Request}
use Rattle.map_history.specs.Keys.{DependsOn, is_format_1}

-- how many requests a text has at most
abbrev pub most_requests : ℕ
most_requests = 131072

-- they are numbered from 0 in order, and their traces never fall along the list and are below the count of traces
pub record AreInOrder (requests : List Request) (traces : ℕ) : Type 0 where
  pub few_traces : traces ≤ 64
  pub few : length requests ≤ most_requests
  pub numbered : map (λ request. request.number) requests ≡ range_with_len 0 (length requests)
  pub within : All (λ request. request.trace < traces) requests
  pub rising : IsNonDecreasingBy (λ request. request.trace) requests
  -- the two numbers above the greatest key serve a search tree as sentinels
  pub keys : All (λ request. (key : ℕ) → DependsOn request.op key → key ≤ 4294967293) requests

-- each can be asked in a text of format 1
abbrev pub AreOfFormat1 : List Request → Type 0
AreOfFormat1 requests = All (λ request. is_format_1 request.op ≡ true) requests
