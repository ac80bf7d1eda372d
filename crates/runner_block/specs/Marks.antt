-- What a runner's code keeps of its loads of the board: for each word a mark of its latest load.
use Rattle.std.specs.Prelude.{ℕ, zero, suc, ◌+◌, ◌==◌, Bool, List, [], ◌∷◌, ◌++◌, Option, Some, None, if◌then◌else◌, slice_index_or, slice_set}
use Rattle.machine_states.specs.table_words.specs.Places.{board_words}
use Rattle.machine_states.specs.runner_parts.specs.declared.entries.BoardRead.{BoardRead}
use Rattle.machine_states.specs.runner_parts.specs.declared.entries.Tried.{Tried}
use Rattle.machine_states.specs.runner_parts.specs.declared.entries.Tried.TheVariants as tries
use Rattle.runner_block.specs.declared.marks.Mark.{Mark}
use Rattle.runner_block.specs.declared.marks.Mark.TheVariants.{Empty, Linked, Lost}

-- the runner's latest load of this word, if there is one; the latest load stands first
abbrev pub latest : List BoardRead → ℕ → Option BoardRead
latest [] word = None
latest (x ∷ xs) word = if x.word == word then Some x else latest xs word

-- of a load that found a link: whether the exchange behind it lost
abbrev pub mark_behind : Tried → Mark
mark_behind tries.Lost = Lost
mark_behind _ = Linked

-- the mark of a word by its latest load
abbrev pub mark_of : Option BoardRead → Mark
mark_of None = Empty
mark_of (Some x) = if x.read == 0 then Empty else mark_behind x.tried

-- the mark behind a load that found this number, and behind an exchange
abbrev pub mark_loaded : ℕ → Mark
mark_loaded found = if found == 0 then Empty else Linked

abbrev pub mark_tried : Mark → Bool → Mark
mark_tried Empty won = Empty
mark_tried _ won = if won then Linked else Lost

-- the marks behind an exchange on this word
abbrev pub slot_tried : List Mark → ℕ → Bool → List Mark
slot_tried marks word won = slice_set marks word (mark_tried (slice_index_or marks word Empty) won)

-- the marks of the first words, so many
abbrev pub marks_below : List BoardRead → ℕ → List Mark
marks_below board zero = []
marks_below board (suc n) = marks_below board n ++ mark_of (latest board n) ∷ []

abbrev pub marks_of : List BoardRead → List Mark
marks_of board = marks_below board board_words

-- 1 where a link was lost
abbrev pub count_lost : Mark → ℕ
count_lost Lost = 1
count_lost _ = 0

-- how many of these marks say that a link was lost
abbrev pub lost_in : List Mark → ℕ
lost_in [] = 0
lost_in (mark ∷ marks) = count_lost mark + lost_in marks

-- in how many of the first words, so many, the runner's latest load found a link and the exchange behind it lost; and
-- of all words of the board
abbrev pub lost_below : List BoardRead → ℕ → ℕ
lost_below board zero = 0
lost_below board (suc n) = lost_below board n + count_lost (mark_of (latest board n))

abbrev pub lost_links : List BoardRead → ℕ
lost_links board = lost_below board board_words
