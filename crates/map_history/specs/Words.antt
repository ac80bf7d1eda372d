-- A reply as one word.
use Rattle.std.specs.Prelude.{ℕ, ◌+◌, ◌*◌, ◌^◌, ◌/◌, ◌<◌, ◌==◌, ◌||◌, Bool}
use Rattle.map_history.specs.declared.reply.Reply.{Reply}
use Rattle.map_history.specs.declared.reply.Reply.TheVariants.{New, Dup, Val, Gone, Absent, Was, Moved}

-- a code times 2^32, and the value
abbrev pub word_of : Reply → ℕ
word_of New = 1 * 2 ^ 32
word_of Dup = 2 * 2 ^ 32
word_of (Val value) = 3 * 2 ^ 32 + value
word_of Gone = 4 * 2 ^ 32
word_of Absent = 5 * 2 ^ 32
word_of (Was value) = 6 * 2 ^ 32 + value
word_of Moved = 7 * 2 ^ 32

-- a value has 32 bits
abbrev pub IsReply : Reply → Type 0
IsReply (Val value) = value < 2 ^ 32
IsReply (Was value) = value < 2 ^ 32
IsReply New = Unit {0}
IsReply Dup = Unit {0}
IsReply Gone = Unit {0}
IsReply Absent = Unit {0}
IsReply Moved = Unit {0}

-- whether the word says that a pair was added, or put in the place of another: it is the word of New, of some Was,
-- or of Moved
abbrev pub adds_by : ℕ → Bool
adds_by word = (word == word_of New) || ((word / 2 ^ 32 == 6) || (word == word_of Moved))
