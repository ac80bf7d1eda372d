-- The way of a walk: what it wants, and how it goes on.
use Rattle.std.specs.Prelude.{◌≡◌, ℕ, ◌+◌, ◌*◌, ◌<◌, ◌≤◌, ◌⊎◌, [], ◌∷◌, ◌++◌, length, take, slice_get}
use Rattle.std.specs.Prelude.{Bool, true, false, Option, Some, None, is_some}
use Rattle.machine_states.specs.map_history.specs.declared.op.Op.{Op}
use Rattle.machine_states.specs.body_terms.specs.Word.{is_free, is_spent}
use Rattle.machine_states.specs.body_terms.specs.declared.thunk.Thunk.{Thunk}
use Rattle.machine_states.specs.table_words.specs.declared.layout.Layout.{Layout}
use Rattle.machine_states.specs.structure_laws.specs.Scene.{Readings}
use Rattle.machine_states.specs.structure_laws.specs.Meaning.{Meaning}
use Rattle.machine_states.specs.structure_laws.specs.Cells.{slots}
use Rattle.machine_states.specs.runner_parts.specs.Tests.{has_pair, is_readable}
use Rattle.try_lock.specs.Planning.{Planning}
use Rattle.try_lock.specs.Plans.{refused_at}

-- how a walker of this type goes: for which structure and operation, the place that it wants, how it
-- goes on by a word, how many loads are left at most, whether it was refused, and the thunk for a
-- whole walk, for the request with this number
pub record Way (W : Type 0) : Type 0 where
  pub planning : W → Planning
  pub op : W → Op
  pub wants : W → Option ℕ
  pub fed : W → ℕ → W
  pub left : W → ℕ
  pub refused : W → Bool
  pub thunk : W → ℕ → Thunk

module _ {W : Type 0} (way : Way W) where
  -- the walker after these readings
  abbrev pub fed_all : W → Readings → W
  fed_all walk [] = walk
  fed_all walk (reading ∷ readings) = fed_all (way.fed walk reading.1) readings

  -- each reading is of the place that the walker wants after those before it
  abbrev pub IsLedBy : W → Readings → Type 0
  IsLedBy walk readings = (i place word : ℕ) → slice_get readings i ≡ Some (place, word)
      → way.wants (fed_all walk (take i readings)) ≡ Some place

  module _ (m : Meaning) (layout : Layout) (walk : W) where
    -- the thunk may be published with these readings
    pub record IsThunkFor (number : ℕ) (readings : Readings) (thunk : Thunk) : Type 0 where
      pub fits : m.fits layout (way.op walk) readings thunk ≡ true
      pub request : thunk.request ≡ number
      pub operands : length thunk.operands ≡ 8
      pub free : is_free thunk.word ≡ true
      pub unspent : is_spent layout.version_max thunk.word ≡ false
      pub read : has_pair readings thunk.lock thunk.word ≡ true

    -- the walker walks as its structure plans: each load brings it nearer to its end; it wants what
    -- the structure's walk wants, which a runner may load; by readings of a state that the machine
    -- reaches it is refused exactly where the last one refuses; and where it is whole, its thunk fits
    pub record Leads : Type 0 where
      pub begins : (place : ℕ) × (way.wants walk ≡ Some place)
      pub shorter : (other : W) (place word : ℕ) → way.wants other ≡ Some place
          → way.left (way.fed other word) < way.left other
      pub steady : (readings : Readings) → way.planning (fed_all walk readings) ≡ way.planning walk
      pub wanted : (readings : Readings) → IsLedBy walk readings
          → (way.planning walk).wants layout (way.op walk) readings ≡ way.wants (fed_all walk readings)
      pub readable : (readings : Readings) (place : ℕ) → IsLedBy walk readings
          → way.wants (fed_all walk readings) ≡ Some place
          → (readings ≡ []) ⊎ m.walked layout (way.op walk) readings
          → (is_readable m readings place ≡ true) × (place < m.fixed_cells + 5 * slots m layout)
      pub refuses : (readings : Readings) (place word : ℕ) → IsLedBy walk readings
          → way.wants (fed_all walk readings) ≡ Some place
          → m.walked layout (way.op walk) (readings ++ (place, word) ∷ [])
          → way.refused (way.fed (fed_all walk readings) word)
          ≡ is_some (refused_at m (way.planning walk) layout (way.op walk) readings place word)
      pub goes_on : (readings : Readings) (place : ℕ) → IsLedBy walk readings
          → way.wants (fed_all walk readings) ≡ Some place → way.refused (fed_all walk readings) ≡ false
      pub fits : (number : ℕ) (readings : Readings) → IsLedBy walk readings
          → way.wants (fed_all walk readings) ≡ None → way.refused (fed_all walk readings) ≡ false
          → IsThunkFor number readings (way.thunk (fed_all walk readings) number)
      pub few : way.left walk ≤ 6 * slots m layout + 44
