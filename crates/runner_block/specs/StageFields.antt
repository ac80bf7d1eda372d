-- A runner's stage, in fields.
use Rattle.std.specs.Prelude.{ℕ, Bool, ◌&&◌}
use Rattle.machine_states.specs.epoch_core.specs.declared.stage.Stage.{Stage}
use Rattle.machine_states.specs.epoch_core.specs.declared.stage.Stage.TheVariants as stages
use Rattle.runner_block.specs.declared.stage_fields.Phase.{Phase}
use Rattle.runner_block.specs.declared.stage_fields.Phase.TheVariants as phases

-- the stage that the fields give
abbrev pub stage_of : Phase → ℕ → ℕ → Bool → Stage
stage_of phases.Idle epoch next clear = stages.Idle
stage_of phases.Loaded epoch next clear = stages.Loaded epoch
stage_of phases.Announced epoch next clear = stages.Announced
stage_of phases.Entered epoch next clear = stages.Entered epoch
stage_of phases.Scanning epoch next clear = stages.Scanning epoch next clear

-- a scan that goes on with this announcement, and stays clear where this is so
abbrev pub gone_on : Stage → ℕ → Bool → Stage
gone_on (stages.Scanning epoch last clear) next still = stages.Scanning epoch next (clear && still)
gone_on stage next still = stage
