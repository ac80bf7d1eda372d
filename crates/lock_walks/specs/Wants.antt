-- What a section wants of a cell was read.
use Rattle.std.specs.Prelude.{◌≡◌, ℕ, true, slice_get, Some}
use Rattle.machine_states.specs.map_history.specs.declared.op.Op.{Op}
use Rattle.machine_states.specs.body_terms.specs.declared.step.Step.TheVariants.{Load, Want}
use Rattle.machine_states.specs.body_terms.specs.declared.thunk.Thunk.{Thunk}
use Rattle.machine_states.specs.table_words.specs.declared.layout.Layout.{Layout}
use Rattle.machine_states.specs.table_words.specs.Limits.{IsWithinLimits}
use Rattle.machine_states.specs.structure_laws.specs.Scene.{Readings}
use Rattle.machine_states.specs.structure_laws.specs.Meaning.{Meaning}
use Rattle.machine_states.specs.structure_laws.specs.Sections.{IsAllowed}
use Rattle.machine_states.specs.structure_laws.specs.Shape.{HasStep}

-- a word that a fitting thunk wants in a cell was read there
abbrev pub WantsWereRead : Meaning → Type 0
WantsWereRead m = (layout : Layout) → IsWithinLimits layout → (readings : Readings) (op : Op) (thunk : Thunk)
    → IsAllowed op → m.fits layout op readings thunk ≡ true → (i j p r w : ℕ)
    → HasStep m thunk i (Load p r) → HasStep m thunk j (Want r w) → (k : ℕ) × (slice_get readings k ≡ Some (p, w))
