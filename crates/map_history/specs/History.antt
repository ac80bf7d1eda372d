-- Histories: operations with the replies that they were given, in order.
use Rattle.std.specs.Prelude.{◌≡◌, ℕ, ◌==◌, List, [], ◌∷◌, All}
use Rattle.std.specs.List.{filter}
use Rattle.map_history.specs.declared.op.Op.{Op}
use Rattle.map_history.specs.declared.reply.Reply.{Reply}
use Rattle.map_history.specs.Keys.{key_of, IsOneKeyed}
use Rattle.map_history.specs.Replay.{Pairs, reply_of, map_after}

-- an operation and its reply
pub record Answered : Type 0 where
  pub op : Op
  pub reply : Reply

-- each reply is the one that the map gives at its place, from this map on
abbrev pub IsLegalFrom : Pairs → List Answered → Type 0
IsLegalFrom pairs [] = Unit {0}
IsLegalFrom pairs (answered ∷ history) =
    (answered.reply ≡ reply_of pairs answered.op) × IsLegalFrom (map_after pairs answered.op) history

-- no operation of the history has a second key
abbrev pub AreOneKeyed : List Answered → Type 0
AreOneKeyed history = All (λ answered. IsOneKeyed answered.op) history

-- the part of a history on one key
abbrev pub on_key : ℕ → List Answered → List Answered
on_key key history = filter (λ answered. key_of answered.op == key) history
