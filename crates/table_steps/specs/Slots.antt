-- How the walks number slots.
use Rattle.std.specs.Prelude.{ℕ, ◌+◌}
use Rattle.machine_states.specs.table_words.specs.declared.layout.Layout.{Layout}
use Rattle.machine_states.specs.table_words.specs.Places.{slot_count}
use Rattle.machine_states.specs.structure_laws.specs.Tray.{tray}

-- a descriptor among all slots: the node slots come first
abbrev pub slot_of : Layout → ℕ → ℕ
slot_of layout descriptor = slot_count layout tray.fixed_slots + descriptor
