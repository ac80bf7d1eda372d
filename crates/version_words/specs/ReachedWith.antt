-- A state that the machine reaches, as one runner sees it, and a step by which it reaches one.
use Rattle.std.specs.Prelude.{◌≡◌, ℕ, Bool, true, false, List, slice_get, Some}
use Rattle.machine_states.specs.map_history.specs.declared.op.Request.{Request}
use Rattle.machine_states.specs.table_words.specs.declared.layout.Layout.{Layout}
use Rattle.machine_states.specs.table_words.specs.declared.spot.Spot.{Spot}
use Rattle.machine_states.specs.table_words.specs.declared.access.Access.{Access}
use Rattle.machine_states.specs.table_words.specs.declared.access.Access.TheVariants.{Stores}
use Rattle.machine_states.specs.table_words.specs.Access.{written}
use Rattle.machine_states.specs.table_words.specs.Seen.{seen}
use Rattle.machine_states.specs.structure_laws.specs.Meaning.{Meaning}
use Rattle.machine_states.specs.runner_parts.specs.declared.event.EventKind.{EventKind}
use Rattle.machine_states.specs.runner_parts.specs.State.{PartState}
use Rattle.machine_states.specs.runner_steps.specs.Asks.{sizes_for}
use Rattle.machine_states.specs.World.{World, seat_of, happens}
use Rattle.machine_states.specs.Reached.{Reached}

-- the machine reaches a state in which this runner has this part, and the word at this spot is this number
pub record ReachedWith (m : Meaning) (l : Layout) (requests : List Request)
    (runner : ℕ) (part : PartState) (spot : Spot) (number : ℕ) : Type 0 where
  pub world : World
  pub reached : Reached m l requests world
  pub own : slice_get world.parts (seat_of l runner) ≡ Some part
  pub word : seen (sizes_for m l requests) world.words spot ≡ number

-- a plain store isn't told what it found
abbrev pub is_told : Access → Bool
is_told (Stores number) = false
is_told _ = true

-- the machine reaches a state in which this runner has the one part and finds this number in the word that it meets,
-- and by its event of this kind a state in which it has the other part and the word is what the event left there
pub record ReachedBy (m : Meaning) (l : Layout) (requests : List Request) (runner : ℕ)
    (kind : EventKind) (old new : PartState) (met : Spot × Access) (found : ℕ) : Type 0 where
  pub before : World
  pub was_reached : Reached m l requests before
  pub was_own : slice_get before.parts (seat_of l runner) ≡ Some old
  pub was_found : is_told met.1 ≡ true → seen (sizes_for m l requests) before.words met.0 ≡ found
  pub world : World
  pub happened : happens m l requests before (record { runner = runner; kind = kind }) ≡ Some world
  pub reached : Reached m l requests world
  pub own : slice_get world.parts (seat_of l runner) ≡ Some new
  pub word : seen (sizes_for m l requests) world.words met.0 ≡ written met.1 found
