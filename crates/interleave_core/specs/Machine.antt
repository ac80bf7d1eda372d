-- What contracts see of a machine.
use Rattle.std.specs.Prelude.{◌≡◌, ℕ, ◌≤◌, ◌+◌, ◌&&◌, not, Bool, List, length}
use Rattle.std.specs.List.{list_any}
use Rattle.machine_states.specs.map_history.specs.Requests.{most_requests}
use Rattle.machine_states.specs.map_history.specs.declared.op.Request.{Request}
use Rattle.machine_states.specs.table_words.specs.declared.layout.Layout.{Layout}
use Rattle.machine_states.specs.table_words.specs.Limits.{IsWithinLimits}
use Rattle.machine_states.specs.table_words.specs.declared.spot.Spot.{Spot}
use Rattle.machine_states.specs.table_words.specs.Places.{size, board_words, Fits}
use Rattle.machine_states.specs.table_words.specs.Seen.{seen}
use Rattle.machine_states.specs.structure_laws.specs.Meaning.{Meaning}
use Rattle.machine_states.specs.runner_steps.specs.Asks.{sizes_for}
use Rattle.machine_states.specs.World.{World}
use Rattle.interleave_core.specs.Parts.{is_on_board, owns}

pub record MachineState (T : Type 0) : Type 0 where
  pub structure : T
  pub layout : Layout
  pub requests : List Request
  pub world : World

-- the machine has all words and all parts
pub record HasShape (m : Meaning) (l : Layout) (requests : List Request) (w : World) : Type 0 where
  pub limits : IsWithinLimits l
  pub few : length requests ≤ most_requests
  pub words : size (sizes_for m l requests) ≤ length w.words
  pub parts : length w.parts ≡ l.runners + 1

-- the structure, the layout and the requests are as before
pub record IsSameTable {T : Type 0} (old new : MachineState T) : Type 0 where
  pub structure : new.structure ≡ old.structure
  pub layout : new.layout ≡ old.layout
  pub requests : new.requests ≡ old.requests

-- the machine has this word
abbrev pub HasWord : {T : Type 0} → Meaning → MachineState T → Spot → Type 0
HasWord m s spot = Fits (sizes_for m s.layout s.requests) spot

-- the word at this spot
abbrev pub word_of : {T : Type 0} → Meaning → MachineState T → Spot → ℕ
word_of m s spot = seen (sizes_for m s.layout s.requests) s.world.words spot

-- the node slot is in no runner's lists, and no word of the board names it
abbrev pub is_live : {T : Type 0} → Meaning → MachineState T → ℕ → Bool
is_live m s slot = not (list_any (λ p. owns p slot) s.world.parts)
    && not (is_on_board (sizes_for m s.layout s.requests) s.world.words slot board_words)
