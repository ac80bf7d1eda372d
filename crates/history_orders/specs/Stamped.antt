-- Histories of stamped requests, newest first.
use Rattle.std.specs.Prelude.{◌≡◌, ◌≢◌, ◌⊎◌, ℕ, Bool, false, IsTrue, cond, List, [], ◌∷◌, map, reverse, All, AllPairs, Contains}
use Rattle.std.specs.FinMap.{empty}
use Rattle.map_history.specs.declared.op.Op.{Op}
use Rattle.map_history.specs.declared.reply.Reply.{Reply}
use Rattle.map_history.specs.History.{Answered}
use Rattle.map_history.specs.Keys.{HaveNoCommonKey}
use Rattle.map_history.specs.Replay.{Pairs, reply_of, map_after}
use Rattle.history_orders.specs.Turns.{Turn, comes_before}

-- a request that has a stamp, with its reply
pub record Stamped : Type 0 where
  pub stamp : ℕ
  pub number : ℕ
  pub op : Op
  pub reply : Reply

abbrev pub turn_of : Stamped → Turn
turn_of e = (e.stamp, e.number)

-- the first one comes before the second
abbrev pub is_earlier : Stamped → Stamped → Bool
is_earlier a b = comes_before (turn_of a) (turn_of b)

-- each entry comes after those behind it
abbrev pub IsInOrder : List Stamped → Type 0
IsInOrder history = AllPairs (λ later earlier. IsTrue (is_earlier earlier later)) history

abbrev pub answered_of : Stamped → Answered
answered_of e = record { op = e.op; reply = e.reply }

-- the operations with their replies, oldest first
abbrev pub oldest_first : List Stamped → List Answered
oldest_first history = map answered_of (reverse history)

-- the operations, oldest first
abbrev pub ops_of : List Stamped → List Op
ops_of history = map (λ answered. answered.op) (oldest_first history)

-- the map that the operations leave, from the empty map on
abbrev pub map_of : List Stamped → Pairs
map_of [] = empty
map_of (e ∷ history) = map_after (map_of history) e.op

-- each reply is that of the map at its place
abbrev pub IsReplayed : List Stamped → Type 0
IsReplayed [] = Unit {0}
IsReplayed (e ∷ history) = (e.reply ≡ reply_of (map_of history) e.op) × IsReplayed history

-- the map at the entry's turn: that of the entries which come before it
abbrev pub map_before : Stamped → List Stamped → Pairs
map_before e [] = empty
map_before e (x ∷ history) = cond (is_earlier x e) (map_of (x ∷ history)) (map_before e history)

-- its reply is that of the map at its turn
abbrev pub HasReply : Stamped → List Stamped → Type 0
HasReply e history = e.reply ≡ reply_of (map_before e history) e.op

-- its operation leaves the map at its turn as it is
abbrev pub IsStill : Stamped → List Stamped → Type 0
IsStill e history = map_after (map_before e history) e.op ≡ map_before e history

-- an entry put in behind those that come after it
abbrev pub put_in : Stamped → List Stamped → List Stamped
put_in e [] = e ∷ []
put_in e (x ∷ history) = cond (is_earlier x e) (e ∷ x ∷ history) (x ∷ put_in e history)

-- no entry that comes after this one has a key in common with it
abbrev pub IsLastOnItsKeys : Stamped → List Stamped → Type 0
IsLastOnItsKeys e history = All (λ x. is_earlier x e ≡ false → HaveNoCommonKey x.op e.op) history

-- each entry that comes after this one has no key in common with it, or changes nothing at its own turn
abbrev pub AreApartOrStill : Stamped → List Stamped → Type 0
AreApartOrStill e history = (x : Stamped) → Contains history x → is_earlier x e ≡ false
    → HaveNoCommonKey x.op e.op ⊎ IsStill x history

-- the entries are the requests whose stamp word isn't 0, in order, each with its operation
pub record IsHistoryOf (op : ℕ → Op) (stamp : ℕ → ℕ) (history : List Stamped) : Type 0 where
  pub order : IsInOrder history
  pub stamped : (e : Stamped) → Contains history e → e.stamp ≢ 0
  pub stamps : (e : Stamped) → Contains history e → e.stamp ≡ stamp e.number
  pub ops : (e : Stamped) → Contains history e → e.op ≡ op e.number
  pub all : (n : ℕ) → stamp n ≢ 0 → (e : Stamped) × Contains history e × (e.number ≡ n)
