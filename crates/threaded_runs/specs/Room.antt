-- When a run has room for all its requests, wherever a runner stops.
use Rattle.std.specs.Prelude.{ℕ, ◌+◌, ◌*◌, ◌<◌, ◌≤◌}
use Rattle.machine_states.specs.body_terms.specs.Word.{version_of}
use Rattle.machine_states.specs.table_words.specs.declared.spot.Spot.TheVariants.{Cell}
use Rattle.machine_states.specs.structure_laws.specs.Meaning.{Meaning}
use Rattle.version_words.specs.TableState.{WordsState, word_of}
use Rattle.free_serving.specs.resource_bounds.specs.Makes.{inserts}

module _ {T : Type 0} (m : Meaning) (w : WordsState T) where
  -- each worker has two node slots for each request that inserts, and two more
  abbrev pub HasEnoughSlots : Type 0
  HasEnoughSlots = 2 * inserts w.requests + 2 ≤ w.layout.nodes

  -- each worker has a descriptor more than there are workers, so that the guard words of all others can't keep all its
  -- own from it
  abbrev pub HasEnoughDescriptors : Type 0
  HasEnoughDescriptors = w.layout.runners + 1 ≤ w.layout.sections

  -- two versions at least are left of each cell
  abbrev pub HasEnoughVersions : Type 0
  HasEnoughVersions = (place : ℕ) → version_of (word_of m w (Cell place)) + 1 < w.layout.version_max

  -- all three
  pub record HasRoomForAll : Type 0 where
    pub slots : HasEnoughSlots
    pub descriptors : HasEnoughDescriptors
    pub versions : HasEnoughVersions
