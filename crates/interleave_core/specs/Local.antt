-- What an event reads and changes.
use Rattle.std.specs.Prelude.{◌≡◌, ◌≢◌, ◌↔◌, ℕ, suc, List, slice_get, Option, Some, None}
use Rattle.machine_states.specs.map_history.specs.declared.op.Request.{Request}
use Rattle.machine_states.specs.table_words.specs.declared.layout.Layout.{Layout}
use Rattle.machine_states.specs.table_words.specs.declared.spot.Spot.{Spot}
use Rattle.machine_states.specs.table_words.specs.declared.access.Access.{Access}
use Rattle.machine_states.specs.table_words.specs.Places.{address}
use Rattle.machine_states.specs.structure_laws.specs.Meaning.{Meaning}
use Rattle.machine_states.specs.runner_parts.specs.declared.event.EventKind.{EventKind}
use Rattle.machine_states.specs.runner_parts.specs.declared.event.EventKind.TheVariants as kinds
use Rattle.machine_states.specs.runner_parts.specs.declared.event.Event.{Event}
use Rattle.machine_states.specs.runner_parts.specs.State.{PartState}
use Rattle.machine_states.specs.runner_steps.specs.Outside.{Ask}
use Rattle.machine_states.specs.runner_steps.specs.Asks.{asks, sizes_for}
use Rattle.machine_states.specs.World.{World, seat_of, happens}

-- the worker that an event of this kind joins, if any
abbrev pub joined_by : EventKind → Option ℕ
joined_by (kinds.Join worker) = Some worker
joined_by _ = None

-- the word that the event meets on this part, and how; None where it isn't enabled
abbrev pub met_by : Meaning → Layout → List Request → Event → Option PartState → Ask
met_by m l requests e None = None
met_by m l requests e (Some p) = asks m l requests e.runner e.kind p

-- the part of the runner with this number
abbrev pub part_of : Layout → World → ℕ → Option PartState
part_of l w r = slice_get w.parts (seat_of l r)

-- the word that the event meets in this state, and how
abbrev pub meets : Meaning → Layout → List Request → World → Event → Ask
meets m l requests w e = met_by m l requests e (part_of l w e.runner)

module _ (m : Meaning) (l : Layout) (requests : List Request) where
  -- the number of the word at this spot
  abbrev pub number_of : Spot → ℕ
  number_of a = address (sizes_for m l requests) a

  -- the two states have the same word at this spot
  abbrev pub HaveSameWord : Spot → World → World → Type 0
  HaveSameWord a w w' = slice_get w'.words (number_of a) ≡ slice_get w.words (number_of a)

  -- the two states have the same part of this runner
  abbrev pub HaveSamePart : ℕ → World → World → Type 0
  HaveSamePart r w w' = part_of l w' r ≡ part_of l w r

  -- the two states have the same words at all other spots
  abbrev pub HaveOtherWords : Spot → World → World → Type 0
  HaveOtherWords a w w' = (i : ℕ) → i ≢ number_of a → slice_get w'.words i ≡ slice_get w.words i

  -- the two states have the same parts of all other runners
  abbrev pub HaveOtherParts : ℕ → World → World → Type 0
  HaveOtherParts r w w' = (i : ℕ) → i ≢ seat_of l r → slice_get w'.parts i ≡ slice_get w.parts i

  -- the event reads and changes its word and its runner's part alone
  pub record IsLocal (e : Event) : Type 0 where
    -- the part says whether it is enabled, which word it meets, and how
    pub asks : (w w' : World) → HaveSamePart e.runner w w' → meets m l requests w' e ≡ meets m l requests w e
    pub enabled : (w : World) → happens m l requests w e ≡ None ↔ meets m l requests w e ≡ None
    -- every other word and every other part is as before
    pub words : (w v : World) (a : Spot) (access : Access) → meets m l requests w e ≡ Some (a, access)
        → happens m l requests w e ≡ Some v → HaveOtherWords a w v
    pub parts : (w v : World) → happens m l requests w e ≡ Some v → HaveOtherParts e.runner w v
    -- the part and the word that it met say what becomes of the two
    pub word_after : (w w' v v' : World) (a : Spot) (access : Access)
        → meets m l requests w e ≡ Some (a, access) → HaveSamePart e.runner w w' → HaveSameWord a w w'
        → happens m l requests w e ≡ Some v → happens m l requests w' e ≡ Some v' → HaveSameWord a v v'
    pub part_after : (w w' v v' : World) (a : Spot) (access : Access)
        → meets m l requests w e ≡ Some (a, access) → HaveSamePart e.runner w w' → HaveSameWord a w w'
        → happens m l requests w e ≡ Some v → happens m l requests w' e ≡ Some v' → HaveSamePart e.runner v v'

  -- a join changes no word, and of the parts only the keeper's and the worker's
  pub record JoinsTwo (e : Event) (worker : ℕ) : Type 0 where
    pub words : (w v : World) → happens m l requests w e ≡ Some v → v.words ≡ w.words
    pub parts : (w v : World) → happens m l requests w e ≡ Some v → (i : ℕ) → i ≢ seat_of l e.runner
        → i ≢ suc worker → slice_get v.parts i ≡ slice_get w.parts i
