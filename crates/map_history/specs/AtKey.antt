-- What an operation with one key does to it: the reply, and what the key has afterwards, by what it had before.
-- Of an operation with a second key this says nothing; where the second is the first, it is a look-up.
use Rattle.std.specs.Prelude.{ℕ, Bool, true, false, is_some, Option, None, Some, if◌then◌else◌}
use Rattle.map_history.specs.declared.op.Op.{Op}
use Rattle.map_history.specs.declared.op.Op.TheVariants.{Get, Ins, Del, Put, Mov}
use Rattle.map_history.specs.declared.reply.Reply.{Reply}
use Rattle.map_history.specs.declared.reply.Reply.TheVariants.{New, Dup, Gone, Absent}
use Rattle.map_history.specs.Replay.{found, replaced}

-- what becomes of a key
pub data Change : Type 0 where
  Keeps : Change
  Gets : (value : ℕ) → Change
  Loses : Change

-- the reply, where the key had this value or none
abbrev pub reply_at : Option ℕ → Op → Reply
reply_at had (Get key) = found had
reply_at had (Ins key value) = if is_some had then Dup else New
reply_at had (Del key) = if is_some had then Gone else Absent
reply_at had (Put key value) = replaced had
reply_at had (Mov from to) = if is_some had then Dup else Absent

-- what becomes of the key then
abbrev pub change_at : Option ℕ → Op → Change
change_at had (Get key) = Keeps
change_at had (Ins key value) = if is_some had then Keeps else Gets value
change_at had (Del key) = if is_some had then Loses else Keeps
change_at had (Put key value) = Gets value
change_at had (Mov from to) = Keeps

-- what the key has behind such a change
abbrev pub left_by : Option ℕ → Change → Option ℕ
left_by had Keeps = had
left_by had (Gets value) = Some value
left_by had Loses = None

-- what the key has afterwards
abbrev pub left_at : Option ℕ → Op → Option ℕ
left_at had op = left_by had (change_at had op)

abbrev pub is_change : Change → Bool
is_change Keeps = false
is_change (Gets value) = true
is_change Loses = true

-- whether the key's value is set or taken
abbrev pub changes_at : Option ℕ → Op → Bool
changes_at had op = is_change (change_at had op)
