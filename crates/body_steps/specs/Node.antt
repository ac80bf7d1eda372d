-- The places of a node's cells, in a structure without fixed cells whose nodes have a lock, a key and a mark.
use Rattle.std.specs.Prelude.{ℕ, ◌-◌, ◌%◌, Bool, ◌==◌}
use Rattle.body_terms.specs.Memory.{cell_of}
use Rattle.body_terms.specs.Word.{value_of}

-- of a node's five cells the first is its lock, the second its key and the last its mark; what the two between them are
-- each structure says
abbrev pub lock_of : ℕ → ℕ
lock_of slot = cell_of 0 slot 0

abbrev pub key_cell : ℕ → ℕ
key_cell slot = cell_of 0 slot 1

abbrev pub mark_of : ℕ → ℕ
mark_of slot = cell_of 0 slot 4

-- the slot to which a link's word leads
abbrev pub slot_in : ℕ → ℕ
slot_in word = value_of word - 1

-- whether a place is that of a lock, or of a mark
abbrev pub is_lock_place : ℕ → Bool
is_lock_place place = place % 5 == 0

abbrev pub is_mark_place : ℕ → Bool
is_mark_place place = place % 5 == 4
