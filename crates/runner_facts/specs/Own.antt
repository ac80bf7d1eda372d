-- Where a worker's own descriptors are.
use Rattle.std.specs.Prelude.{◌≡◌, ℕ, ◌+◌, ◌*◌, ◌<◌, ◌≤◌, ◌⊎◌, true, Some}
use Rattle.machine_states.specs.table_words.specs.declared.layout.Layout.{Layout}
use Rattle.machine_states.specs.runner_parts.specs.declared.entries.Published.{Published}
use Rattle.machine_states.specs.runner_parts.specs.State.{PartState}
use Rattle.machine_states.specs.runner_parts.specs.Tests.{has}
use Rattle.machine_states.specs.Sight.{Sight}

-- the descriptor is free, in limbo or published
abbrev pub HasOwn : PartState → ℕ → Type 0
HasOwn p d = (has p.descriptors.free d ≡ true) ⊎ ((has p.descriptors.limbo d ≡ true)
    ⊎ ((x : Published) × (p.published ≡ Some x) × (x.descriptor ≡ d)))

-- so is each of a worker's own descriptors, with it
abbrev pub OwnStand : Layout → Sight → Type 0
OwnStand l s = (r d : ℕ) → r < l.runners → l.sections * r ≤ d → d < l.sections * r + l.sections → HasOwn (s.part r) d
