-- The state that the table's words and the seats' views show.
use Rattle.std.specs.Prelude.{◌≡◌, ℕ, zero, suc, ◌+◌, ◌<◌, ◌≤◌, List, [], ◌∷◌, ◌==◌, length, slice_get, Option, Some, None, if◌then◌else◌}
use Rattle.std.specs.Option.{IsSome}
use mathlib.Core.Option.{some}
use lib.ListN.{get_elem?}
use Rattle.machine_states.specs.table_words.specs.declared.layout.Layout.{Layout}
use Rattle.machine_states.specs.structure_laws.specs.Meaning.{Meaning}
use Rattle.machine_states.specs.runner_parts.specs.State.{PartState}
use Rattle.machine_states.specs.runner_steps.specs.After.{leaves}
use Rattle.machine_states.specs.World.{World}
use Rattle.machine_states.specs.First.{worker_part}
use Rattle.version_words.specs.declared.view.View.{View}

-- the part of a worker that was joined, as the keeper keeps it
abbrev pub left_part : List (ℕ × PartState) → ℕ → Option PartState
left_part [] worker = None
left_part (x ∷ xs) worker = if x.0 == worker then Some (leaves x.1) else left_part xs worker

-- the part in this seat: the one of its view; where the view was spent at a join, the one that the keeper keeps
abbrev pub part_at : {T : Type 0} → List (ℕ × PartState) → ℕ → PartState → Option T → Option PartState
part_at joined seat p (Some s) = Some p
part_at joined zero p None = None
part_at joined (suc worker) p None = left_part joined worker

-- what the keeper, whose view is the first, keeps of the joined workers
abbrev pub joined_in : {T : Type 0} → List (View T) → List (ℕ × PartState)
joined_in [] = []
joined_in (v ∷ vs) = v.joined

-- the view of this seat was spent at a join
pub record IsSpent {T : Type 0} (views : List (View T)) (seat : ℕ) : Type 0 where
  pub view : View T
  pub there : get_elem? views seat ≡ some view
  pub empty : view.structure ≡ None

-- the words and the views show this state: each seat its part, the keeper the parts of those that were joined and no
-- others, and a worker that wasn't split off yet is in its first state
pub record IsShown {T : Type 0} (m : Meaning) (l : Layout) (held : List ℕ)
    (views : List (View T)) (w : World) : Type 0 where
  pub words : w.words ≡ held
  pub parts : length w.parts ≡ l.runners + 1
  pub seated : (seat : ℕ) (v : View T) → get_elem? views seat ≡ some v
      → slice_get w.parts seat ≡ part_at (joined_in views) seat v.part v.structure
  pub left : (worker : ℕ) → IsSome (left_part (joined_in views) worker) → IsSpent views (suc worker)
  pub waiting : (worker : ℕ) → length views ≤ suc worker → worker < l.runners
      → slice_get w.parts (suc worker) ≡ Some (worker_part m l worker)
