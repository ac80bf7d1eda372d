-- The sequential map: what an operation is answered, what map it leaves, and the same for a list of operations.
use Rattle.std.specs.Prelude.{◌≡◌, ◌<◌, ◌^◌, ℕ, false, List, [], ◌∷◌, Option, None, Some, if◌then◌else◌}
use Rattle.std.specs.Ordering.{nat_cmp}
use Rattle.std.specs.FinMap.{FinMap, get, contains_key, insert, remove}
use Rattle.map_history.specs.declared.op.Op.{Op}
use Rattle.map_history.specs.declared.op.Op.TheVariants.{Get, Ins, Del, Put, Mov}
use Rattle.map_history.specs.declared.reply.Reply.{Reply}
use Rattle.map_history.specs.declared.reply.Reply.TheVariants.{New, Dup, Val, Gone, Absent, Was, Moved}

-- a finite map from keys to values
abbrev pub Pairs : Type 0
Pairs = FinMap nat_cmp ℕ

-- the values of the map have 32 bits
abbrev pub HasSmallValues : Pairs → Type 0
HasSmallValues pairs = (key value : ℕ) → get pairs key ≡ Some value → value < 2 ^ 32

-- the reply of a look-up
abbrev pub found : Option ℕ → Reply
found None = Absent
found (Some value) = Val value

-- the reply where a key's value is set, by what the key had
abbrev pub replaced : Option ℕ → Reply
replaced None = New
replaced (Some value) = Was value

-- the reply where a value moves to another key, by what the two keys had
abbrev pub moved : Option ℕ → Option ℕ → Reply
moved None there = Absent
moved (Some value) (Some there) = Dup
moved (Some value) None = Moved

-- the map where the value of `from`, which had this or none, moves to `to`, which had that or none
abbrev pub after_move : Pairs → ℕ → ℕ → Option ℕ → Option ℕ → Pairs
after_move pairs from to None there = pairs
after_move pairs from to (Some value) (Some there) = pairs
after_move pairs from to (Some value) None = insert (remove pairs from) to value

-- what the map answers
abbrev pub reply_of : Pairs → Op → Reply
reply_of pairs (Get key) = found (get pairs key)
reply_of pairs (Ins key value) = if contains_key pairs key then Dup else New
reply_of pairs (Del key) = if contains_key pairs key then Gone else Absent
reply_of pairs (Put key value) = replaced (get pairs key)
reply_of pairs (Mov from to) = moved (get pairs from) (get pairs to)

-- the map that the operation leaves
abbrev pub map_after : Pairs → Op → Pairs
map_after pairs (Get key) = pairs
map_after pairs (Ins key value) = if contains_key pairs key then pairs else insert pairs key value
map_after pairs (Del key) = remove pairs key
map_after pairs (Put key value) = insert pairs key value
map_after pairs (Mov from to) = after_move pairs from to (get pairs from) (get pairs to)

-- the operation needs memory for a pair that the map hasn't
abbrev pub Grows : Pairs → Op → Type 0
Grows pairs (Ins key value) = contains_key pairs key ≡ false
Grows pairs (Get key) = ⊥
Grows pairs (Del key) = ⊥
Grows pairs (Put key value) = contains_key pairs key ≡ false
Grows pairs (Mov from to) = moved (get pairs from) (get pairs to) ≡ Moved

-- the replies to a list of operations, in order
abbrev pub replies_of : Pairs → List Op → List Reply
replies_of pairs [] = []
replies_of pairs (op ∷ ops) = reply_of pairs op ∷ replies_of (map_after pairs op) ops

-- the map that a list of operations leaves
abbrev pub map_after_all : Pairs → List Op → Pairs
map_after_all pairs [] = pairs
map_after_all pairs (op ∷ ops) = map_after_all (map_after pairs op) ops
