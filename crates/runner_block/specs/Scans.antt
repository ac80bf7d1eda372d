-- Which event the next step of a scan is.
use Rattle.machine_states.specs.runner_parts.specs.declared.event.EventKind.{EventKind}
use Rattle.machine_states.specs.runner_parts.specs.declared.event.EventKind.TheVariants as kinds
use Rattle.machine_states.specs.epoch_core.specs.declared.stage.Stage.{Stage}
use Rattle.machine_states.specs.epoch_core.specs.declared.stage.Stage.TheVariants as stages

-- a scan reads the announcement that comes next
abbrev pub scan_of : Stage → EventKind
scan_of (stages.Scanning epoch next clear) = kinds.ScanOne next
scan_of _ = kinds.ScanOne 0
