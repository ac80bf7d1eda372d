-- How often the gates of a run are asked.
use Rattle.std.specs.Prelude.{◌≡◌, ◌≤◌, ◌+◌, ◌-◌, ◌*◌, ◌^◌, ℕ, min, Bool, false, true, Option, IfSome}
use Rattle.machine_states.specs.structure_laws.specs.Cells.{slots}
use Rattle.threaded_runs.specs.Asks.{halted_in}
use Rattle.threaded_runs.specs.Runs.{served_in}
use Rattle.flock_tool.specs.Runs.{words_in, answers_in, meaning_of}
use Rattle.flock_tool.specs.Streams.{Gating}
use Rattle.flock_tool.specs.declared.ran.Ran.{Ran}

-- of the requests so many are served: they have an entry in the closed words
abbrev pub served_of : Ran → ℕ
served_of ran = served_in (meaning_of ran) (words_in ran)

-- the table has so many node slots
abbrev pub nodes_of : Ran → ℕ
nodes_of ran = slots (meaning_of ran) (words_in ran).layout

-- where a run of one runner came back, at whatever status, the asks of the gates rose by at most so many for
-- each served request, and once more by so many
abbrev pub AsksFew : ℕ × Option Ran → Gating → Type 0
AsksFew result gates = IfSome result.1 (λ ran. (words_in ran).layout.runners ≡ 1
    → gates.asks_after ≤ gates.asks_before + (served_of ran + 1) * (6 * nodes_of ran + 256))

-- so many of the runners were halted
abbrev pub halted_of : Ran → ℕ
halted_of ran = halted_in (answers_in ran)

-- so many asks for a served request, at least: fewer where reads take no lock
abbrev pub asks_each : Bool → ℕ
asks_each false = 16
asks_each true = 8

-- where a run came back, at whatever status and however many its runners, the asks of the gates rose by at least so
-- many for each served request, but for one at most of each runner that was halted. The count stands still at the last
-- number of 64 bits
abbrev pub AsksOften : Bool → ℕ × Option Ran → Gating → Type 0
AsksOften reads_free result gates = IfSome result.1 (λ ran.
    min (gates.asks_before + asks_each reads_free * (served_of ran - halted_of ran)) (2 ^ 64 - 1) ≤ gates.asks_after)
