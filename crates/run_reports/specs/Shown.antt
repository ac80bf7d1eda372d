-- The entries of requests, as their stamp words and reply words show them.
use Rattle.std.specs.Prelude.{◌≡◌, ◌≢◌, ℕ, List, Option, None, Some, length, slice_get}
use Rattle.history_orders.specs.map_history.specs.declared.op.Entry.{Entry}
use Rattle.history_orders.specs.map_history.specs.declared.op.Request.{Request}
use Rattle.history_orders.specs.map_history.specs.Words.{word_of, IsReply}

-- what these two words show of a request: no entry where the stamp word is 0, else the stamp and the reply
-- that has the reply word
abbrev pub IsShown : (stamp reply : ℕ) → Option Entry → Type 0
IsShown stamp reply None = stamp ≡ 0
IsShown stamp reply (Some entry) =
    (stamp ≢ 0) × (entry.stamp ≡ stamp) × (word_of entry.reply ≡ reply) × IsReply entry.reply

-- there is one for each request, and its words show it
pub record AreShown (stamp reply : ℕ → ℕ) (requests : List Request) (entries : List (Option Entry)) : Type 0 where
  pub one_each : length entries ≡ length requests
  pub each : (n : ℕ) (entry : Option Entry) → slice_get entries n ≡ Some entry → IsShown (stamp n) (reply n) entry
