-- What a `get` costs: its body changes nothing, and its walk is short.
use Rattle.std.specs.Prelude.{◌≡◌, ℕ, ◌+◌, ◌*◌, ◌≤◌, length, true}
use Rattle.std.specs.List.{list_all}
use Rattle.machine_states.specs.map_history.specs.declared.op.Op.TheVariants.{Get}
use Rattle.machine_states.specs.body_terms.specs.Shape.{is_look}
use Rattle.machine_states.specs.body_terms.specs.declared.thunk.Thunk.{Thunk}
use Rattle.machine_states.specs.table_words.specs.declared.layout.Layout.{Layout}
use Rattle.machine_states.specs.table_words.specs.Limits.{IsWithinLimits}
use Rattle.machine_states.specs.structure_laws.specs.Scene.{Readings}
use Rattle.machine_states.specs.structure_laws.specs.Meaning.{Meaning}
use Rattle.machine_states.specs.structure_laws.specs.Cells.{slots}
use Rattle.machine_states.specs.structure_laws.specs.Sections.{IsAllowed}
use Rattle.try_lock.specs.Planning.{Planning}
use Rattle.try_lock.specs.Plans.{IsWalk}

module _ (m : Meaning) (planning : Planning) where
  -- in a structure that serves the map a thunk that fits a `get` has a body that changes nothing; and the walk of a
  -- `get` makes at most half as many loads as walks of other operations may
  pub record GetsAreLight : Type 0 where
    pub looks : m.is_map ≡ true → (layout : Layout) (key : ℕ) (readings : Readings) (thunk : Thunk)
        → m.fits layout (Get key) readings thunk ≡ true → list_all is_look (m.body thunk) ≡ true
    pub few : (layout : Layout) (key : ℕ) (readings : Readings) → IsWithinLimits layout → IsAllowed (Get key)
        → planning.serves (Get key) ≡ true → IsWalk m planning layout (Get key) readings
        → length readings ≤ 3 * slots m layout + 28
