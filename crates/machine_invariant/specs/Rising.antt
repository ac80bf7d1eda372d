-- What a step of the machine does to the versions of cells.
use Rattle.std.specs.Prelude.{ℕ, suc, ◌≡◌, ◌⊎◌, List, Some}
use Rattle.machine_states.specs.map_history.specs.declared.op.Request.{Request}
use Rattle.machine_states.specs.body_terms.specs.Word.{version_of}
use Rattle.machine_states.specs.table_words.specs.Limits.{IsWithinLimits}
use Rattle.machine_states.specs.table_words.specs.declared.layout.Layout.{Layout}
use Rattle.machine_states.specs.table_words.specs.declared.spot.Spot.{Spot}
use Rattle.machine_states.specs.table_words.specs.declared.spot.Spot.TheVariants.{Cell}
use Rattle.machine_states.specs.structure_laws.specs.Meaning.{Meaning}
use Rattle.machine_states.specs.runner_parts.specs.declared.event.Event.{Event}
use Rattle.machine_states.specs.World.{World, happens}
use Rattle.machine_states.specs.Schedules.{IsAfter}
use Rattle.machine_states.specs.Sight.{sight}
use Rattle.machine_invariant.specs.After.{AreAllowed}

-- the word of each cell is the same, or its version has risen by one
abbrev pub CellsRise : (Spot → ℕ) → (Spot → ℕ) → Type 0
CellsRise word word' = (p : ℕ)
    → (word' (Cell p) ≡ word (Cell p)) ⊎ (version_of (word' (Cell p)) ≡ suc (version_of (word (Cell p))))

-- so it is behind each event that is enabled in this state of the machine
abbrev pub StepsRise : Meaning → Layout → List Request → World → Type 0
StepsRise m l requests w = (e : Event) (v : World) → happens m l requests w e ≡ Some v
    → CellsRise (sight m l requests w).word (sight m l requests v).word

-- so it is wherever events lead from a first state, where the layout and the requests are within their limits
abbrev pub RisesAfter : Meaning → Layout → List Request → List Event → World → Type 0
RisesAfter m l requests events w = IsWithinLimits l → AreAllowed requests → IsAfter m l requests events w
    → StepsRise m l requests w
