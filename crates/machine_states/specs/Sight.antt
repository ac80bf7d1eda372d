-- A state without its lists: the word at each spot, and each runner's part by its number.
use Rattle.std.specs.Prelude.{◌≡◌, ℕ, ◌+◌, ◌≤◌, List, [], length, Option, Some, None, slice_get}
use Rattle.runner_steps.specs.map_history.specs.declared.op.Request.{Request}
use Rattle.runner_steps.specs.table_words.specs.declared.layout.Layout.{Layout}
use Rattle.runner_steps.specs.table_words.specs.declared.spot.Spot.{Spot}
use Rattle.runner_steps.specs.table_words.specs.declared.access.Access.{Access}
use Rattle.runner_steps.specs.table_words.specs.Access.{written}
use Rattle.runner_steps.specs.table_words.specs.Places.{size, Fits}
use Rattle.runner_steps.specs.table_words.specs.Seen.{seen, upd, put}
use Rattle.runner_steps.specs.runner_parts.specs.structure_laws.specs.Meaning.{Meaning}
use Rattle.runner_steps.specs.runner_parts.specs.declared.event.EventKind.{EventKind}
use Rattle.runner_steps.specs.runner_parts.specs.declared.event.EventKind.TheVariants as kinds
use Rattle.runner_steps.specs.runner_parts.specs.State.{PartState}
use Rattle.runner_steps.specs.Asks.{asks, sizes_for}
use Rattle.runner_steps.specs.After.{after, leaves, knows_also}
use Rattle.machine_states.specs.World.{World, seat_of}
use Rattle.machine_states.specs.First.{first_part}

pub record Sight : Type 0 where
  pub word : Spot → ℕ
  pub part : ℕ → PartState

-- a number that no runner has shows a part that has done nothing and owns nothing
abbrev pub part_or_first : Option PartState → PartState
part_or_first None = first_part [] [] []
part_or_first (Some p) = p

-- the runners' parts by their numbers
abbrev pub part_of : Layout → List PartState → ℕ → PartState
part_of l parts r = part_or_first (slice_get parts (seat_of l r))

abbrev pub sight : Meaning → Layout → List Request → World → Sight
sight m l requests w = record { word = seen (sizes_for m l requests) w.words; part = part_of l w.parts }

-- the parts after an event that leaves the stepping runner with this part; a join also takes over what the
-- worker knew, and the worker makes no further step
abbrev pub parts_after : EventKind → (ℕ → PartState) → ℕ → PartState → ℕ → PartState
parts_after (kinds.Join worker) part r p = upd (upd part r (knows_also p (part worker))) worker (leaves (part worker))
parts_after _ part r p = upd part r p

-- what is seen after an event that asks this
abbrev pub sight_after : Meaning → Layout → Sight → ℕ → EventKind → Spot × Access → Sight
sight_after m l s r kind x = record {
  word = put s.word x.0 (written x.1 (s.word x.0));
  part = parts_after kind s.part r (after m l r kind x.0 x.1 (s.part r) (s.word x.0));
}

-- an event of this runner leads from one sight to the other
pub record Steps (m : Meaning) (l : Layout) (requests : List Request) (s s' : Sight) (r : ℕ) (kind : EventKind) : Type 0
  where
    pub runner : r ≤ l.runners
    pub ask : Spot × Access
    pub asked : asks m l requests r kind (s.part r) ≡ Some ask
    pub has_word : Fits (sizes_for m l requests) ask.0
    pub next : s' ≡ sight_after m l s r kind ask

-- the machine has all words and all parts
pub record IsWhole (m : Meaning) (l : Layout) (requests : List Request) (w : World) : Type 0 where
  pub words : size (sizes_for m l requests) ≤ length w.words
  pub parts : length w.parts ≡ l.runners + 1
