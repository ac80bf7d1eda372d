-- What a runner's type says of its fields, and how its block changes.
use Rattle.std.specs.Prelude.{◌≡◌, ◌⊎◌, ℕ, [], length, true, false, Some}
use Rattle.atomic_table.specs.Table.{Me}
use Rattle.machine_states.specs.body_terms.specs.declared.thunk.Thunk.{Thunk}
use Rattle.machine_states.specs.table_words.specs.Places.{slot_count}
use Rattle.machine_states.specs.structure_laws.specs.Meaning.{Meaning}
use Rattle.machine_states.specs.runner_parts.specs.State.{PartState}
use Rattle.version_words.specs.declared.view.View.{View}
use Rattle.runner_block.specs.declared.block.Block.{Block}
use Rattle.runner_block.specs.Kept.{KeptState}
use Rattle.runner_block.specs.Links.{names}
use Rattle.runner_block.specs.Marks.{marks_of}
use Rattle.version_words.specs.RunnerState.{told_part}
use Rattle.version_words.specs.Place.{HasPlace, HasLinks, HasEpoch, EndsSo}

-- the lists have room for each node slot of the table, and the place says whether a run is in progress and has the
-- epoch for its retirement
pub record IsOfTable {T : Type 0} (m : Meaning) (kept : Block) (v : View T) : Type 0 where
  pub room : kept.lists.room ≡ slot_count v.layout m.fixed_slots
  pub run : EndsSo m kept.place v.part.run
  pub epoch : HasEpoch m kept.place.epoch v.part.run

-- the blocks are those of this part, with those of its run, and so is what the guard word names
pub record KeepsBlocks (kept : KeptState) (p : PartState) : Type 0 where
  pub lists : kept.blocks.lists ≡ p.blocks
  pub named : kept.named ≡ p.guards.named
  pub links : HasLinks kept.blocks.links p.run

-- the number and the block are those of the view, and the seat holds no slot
pub record IsKept {T : Type 0} (mean : T → Meaning) (number : ℕ) (kept : Block) (me : Me Thunk (View T)) : Type 0 where
  pub same_number : number ≡ me.0.number
  pub lists : kept.lists.part ≡ told_part me.0.part
  pub marks : kept.lists.marks ≡ marks_of me.0.part.board
  pub blocks : KeepsBlocks kept.lists me.0.part
  pub place : HasPlace kept.place me.0.part
  pub slots : me.1 ≡ []
  pub of_table : (s : T) → me.0.structure ≡ Some s → IsOfTable (mean s) kept me.0

-- outside a run this word of this place makes a runner sure of the descriptor that its guard word names, if it wasn't so
pub record IsSeen (m : Meaning) (kept : Block) (place word : ℕ) : Type 0 where
  pub outside : kept.place.inside ≡ false
  pub names : names kept.lists.named word ≡ true
  pub lock : m.is_lock place ≡ true

-- or no block lies in limbo, or it doesn't
abbrev pub IsUnseen : Meaning → Block → ℕ → ℕ → Type 0
IsUnseen m kept place word = (length kept.lists.blocks.lists.limbo ≡ 0) ⊎ ((names kept.lists.named word ≡ false) ⊎ (m.is_lock place ≡ false))
