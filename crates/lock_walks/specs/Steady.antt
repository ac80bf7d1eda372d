-- Walks of what stands in a memory where no section is open.
use Rattle.std.specs.Prelude.{◌≡◌, ◌≢◌, ℕ, true, false, slice_get, Some}
use Rattle.machine_states.specs.map_history.specs.declared.op.Op.{Op}
use Rattle.machine_states.specs.map_history.specs.Replay.{Pairs}
use Rattle.machine_states.specs.body_terms.specs.Word.{value_of}
use Rattle.machine_states.specs.table_words.specs.declared.layout.Layout.{Layout}
use Rattle.machine_states.specs.table_words.specs.Limits.{IsWithinLimits}
use Rattle.machine_states.specs.structure_laws.specs.Scene.{Readings, Scene}
use Rattle.machine_states.specs.structure_laws.specs.Meaning.{Meaning}
use Rattle.machine_states.specs.structure_laws.specs.Sections.{IsAllowed}
use Rattle.machine_states.specs.structure_laws.specs.InTurn.{StandsFor}
use Rattle.machine_states.specs.structure_laws.specs.Planner.{IsQuiet}
use Rattle.machine_states.specs.structure_laws.specs.Stand.{StandIn}
use Rattle.try_lock.specs.Planning.{Planning}
use Rattle.try_lock.specs.Plans.{IsWalk}

module _ (m : Meaning) (planning : Planning) where
  -- these are the readings of a walk of an operation that is served, and they stand in a memory that stands for
  -- a map, in a scene where no section is open
  pub record IsSteadyWalk (layout : Layout) (op : Op) (readings : Readings) : Type 0 where
    pub limits : IsWithinLimits layout
    pub allowed : IsAllowed op
    pub served : planning.serves op ≡ true
    pub walk : IsWalk m planning layout op readings
    pub scene : Scene
    pub pairs : Pairs
    pub stands : StandsFor m layout scene pairs
    pub quiet : IsQuiet m scene
    pub read : StandIn m scene.cells readings

  -- such a walk reads no mark of 1, and isn't too far: it is refused by a lock's word alone
  pub record IsSteady : Type 0 where
    pub unmarked : (layout : Layout) (op : Op) (readings : Readings) → IsSteadyWalk layout op readings
        → (i place word : ℕ) → slice_get readings i ≡ Some (place, word) → m.is_lock place ≡ false
        → planning.is_mark place ≡ true → value_of word ≢ 1
    pub near : (layout : Layout) (op : Op) (readings : Readings) → IsSteadyWalk layout op readings
        → planning.is_far layout op readings ≡ false
