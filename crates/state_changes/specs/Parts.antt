-- A part with some of its lists changed.
use Rattle.std.specs.Prelude.{ℕ, Bool, ◌==◌, if◌then◌else◌}
use Rattle.runner_steps.specs.runner_parts.specs.State.{PartState}
use Rattle.runner_steps.specs.runner_parts.specs.Lists.{slot_made, slot_back}
use Rattle.runner_steps.specs.AfterInRun.{kept_unless, retired_if}

-- a Make's slot is live where the exchange won, and comes back otherwise
abbrev pub slot_decided : PartState → ℕ → Bool → ℕ → PartState
slot_decided p slot worn found =
    record p { nodes = if found == 0 then slot_made p.nodes slot else slot_back p.nodes slot worn }

-- the own section with this descriptor was run to its end
abbrev pub section_over : PartState → ℕ → PartState
section_over p descriptor =
    record p {
      published = kept_unless p.published descriptor;
      descriptors = retired_if p.descriptors p.published descriptor;
    }
