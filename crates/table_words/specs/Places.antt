-- Where each word stands.
use Rattle.std.specs.Prelude.{ℕ, ◌+◌, ◌*◌, ◌<◌, ◌≤◌, Bool, true, ◌&&◌, nat_lt, nat_le}
use Rattle.table_words.specs.declared.layout.Layout.{Layout}
use Rattle.table_words.specs.declared.sizes.Sizes.{Sizes}
use Rattle.table_words.specs.declared.spot.Spot.{Spot}
use Rattle.table_words.specs.declared.spot.Spot.TheVariants.{Seat, Epoch, Clock, Announcement, Guard, Stamp, Reply, Cell, ThunkWord, DoneWord, LogWord, LinkWord, BlockWord, BlockLink, Board}

-- the number of all node slots: the fixed ones, the workers', the keeper's
abbrev pub slot_count : Layout → ℕ → ℕ
slot_count layout fixed_slots = fixed_slots + layout.nodes * layout.runners + (2 * layout.runners + 2)

-- the number of all descriptors: the workers', and the keeper's, of which it has one for each worker
abbrev pub descriptor_count : Layout → ℕ
descriptor_count layout = layout.sections * layout.runners + layout.runners

-- a log is kept in parts of so many words: the first part stands in the descriptor, and each further one in a block
-- that is linked to the part before it
abbrev pub part_words : ℕ
part_words = 7

-- how many blocks a worker has, and the keeper. A log goes on in at most eight, so a worker has as many as the logs of
-- all its descriptors may want, and eight more; the keeper has those for one log of each worker
abbrev pub worker_blocks : Layout → ℕ
worker_blocks layout = 8 * layout.sections + 8

abbrev pub keeper_blocks : Layout → ℕ
keeper_blocks layout = 8 * layout.runners

-- how many free blocks an attempt may want: those for the log of its own section, and those for the log of one that it
-- helps
abbrev pub attempt_blocks : ℕ
attempt_blocks = 16

-- the number of all blocks
abbrev pub block_count : Layout → ℕ
block_count layout = worker_blocks layout * layout.runners + keeper_blocks layout

abbrev pub sizes_of : Layout → ℕ → ℕ → ℕ → Sizes
sizes_of layout requests fixed_cells fixed_slots = record {
  runners = layout.runners;
  requests = requests;
  cells = fixed_cells + 5 * slot_count layout fixed_slots;
  descriptors = descriptor_count layout;
  blocks = block_count layout;
}

-- the words of one descriptor: twelve thunk words come first, then the done word, a part of the log and its link
abbrev pub thunk_words : ℕ
thunk_words = 12

abbrev pub descriptor_words : ℕ
descriptor_words = 14 + part_words

-- those of one block: a part of a log and its link
abbrev pub block_words : ℕ
block_words = part_words + 1

-- those of the board, on which runners leave node slots for one another
abbrev pub board_words : ℕ
board_words = 64

-- so many words fill a line of 128 bytes; the epoch, the clock, each announcement and each guard word begin one
abbrev pub line_words : ℕ
line_words = 16

abbrev pub entries_at : Sizes → ℕ
entries_at s = 16 * (5 + 2 * s.runners)

abbrev pub cells_at : Sizes → ℕ
cells_at s = entries_at s + 2 * s.requests

abbrev pub descriptor_at : Sizes → ℕ → ℕ
descriptor_at s d = cells_at s + s.cells + descriptor_words * d

abbrev pub block_at : Sizes → ℕ → ℕ
block_at s b = descriptor_at s s.descriptors + block_words * b

abbrev pub board_at : Sizes → ℕ
board_at s = block_at s s.blocks

-- the number of words
abbrev pub size : Sizes → ℕ
size s = board_at s + board_words

-- where a word stands
abbrev pub address : Sizes → Spot → ℕ
address s Seat = 0
address s Epoch = 16
address s Clock = 32
address s (Announcement r) = 16 * (3 + r)
address s (Guard r) = 16 * (4 + s.runners + r)
address s (Stamp q) = entries_at s + 2 * q
address s (Reply q) = entries_at s + 2 * q + 1
address s (Cell p) = cells_at s + p
address s (ThunkWord d j) = descriptor_at s d + j
address s (DoneWord d) = descriptor_at s d + 12
address s (LogWord d k) = descriptor_at s d + 13 + k
address s (LinkWord d) = descriptor_at s d + 13 + part_words
address s (BlockWord b k) = block_at s b + k
address s (BlockLink b) = block_at s b + part_words
address s (Board i) = board_at s + i

-- the table has this word
abbrev pub Fits : Sizes → Spot → Type 0
Fits s Seat = Unit {0}
Fits s Epoch = Unit {0}
Fits s Clock = Unit {0}
Fits s (Announcement r) = r ≤ s.runners
Fits s (Guard r) = r ≤ s.runners
Fits s (Stamp q) = q < s.requests
Fits s (Reply q) = q < s.requests
Fits s (Cell p) = p < s.cells
Fits s (ThunkWord d j) = (d < s.descriptors) × (j < 12)
Fits s (DoneWord d) = d < s.descriptors
Fits s (LogWord d k) = (d < s.descriptors) × (k < part_words)
Fits s (LinkWord d) = d < s.descriptors
Fits s (BlockWord b k) = (b < s.blocks) × (k < part_words)
Fits s (BlockLink b) = b < s.blocks
Fits s (Board i) = i < board_words

-- whether it has this word
abbrev pub fits : Sizes → Spot → Bool
fits s Seat = true
fits s Epoch = true
fits s Clock = true
fits s (Announcement r) = nat_le r s.runners
fits s (Guard r) = nat_le r s.runners
fits s (Stamp q) = nat_lt q s.requests
fits s (Reply q) = nat_lt q s.requests
fits s (Cell p) = nat_lt p s.cells
fits s (ThunkWord d j) = nat_lt d s.descriptors && nat_lt j 12
fits s (DoneWord d) = nat_lt d s.descriptors
fits s (LogWord d k) = nat_lt d s.descriptors && nat_lt k part_words
fits s (LinkWord d) = nat_lt d s.descriptors
fits s (BlockWord b k) = nat_lt b s.blocks && nat_lt k part_words
fits s (BlockLink b) = nat_lt b s.blocks
fits s (Board i) = nat_lt i board_words
