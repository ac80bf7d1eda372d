-- Where a scan ends, and the epoch for which the scanner then collects.
use Rattle.std.specs.Prelude.{ℕ, ◌+◌, not, ◌==◌, ◌&&◌, nat_lt, Option, Some, None, if◌then◌else◌}
use Rattle.machine_states.specs.table_words.specs.declared.layout.Layout.{Layout}
use Rattle.machine_states.specs.runner_parts.specs.declared.event.EventKind.{EventKind}
use Rattle.machine_states.specs.runner_parts.specs.declared.event.EventKind.TheVariants as kinds
use Rattle.machine_states.specs.epoch_core.specs.declared.stage.Stage.{Stage}
use Rattle.machine_states.specs.epoch_core.specs.declared.stage.Stage.TheVariants.{Scanning}
use Rattle.machine_states.specs.epoch_core.specs.State.{last_epoch}
use Rattle.machine_states.specs.epoch_core.specs.Moves.{is_clear}

-- the epoch for which a scanner collects that reads the last announcement, where no advance is tried
abbrev pub scan_collects : Layout → ℕ → Stage → Option ℕ
scan_collects l found (Scanning epoch next clear) =
    if next == l.runners && not ((clear && is_clear epoch found) && nat_lt epoch last_epoch) then Some epoch else None
scan_collects l found _ = None

-- the same where it tries one
abbrev pub advance_collects : Stage → Option ℕ
advance_collects (Scanning epoch next clear) = if nat_lt epoch last_epoch then Some (epoch + 1) else None
advance_collects _ = None

-- the epoch for which a step of this kind collects, if it ends a scan
abbrev pub collects : Layout → EventKind → Stage → ℕ → Option ℕ
collects l (kinds.ScanOne n) stage found = scan_collects l found stage
collects l kinds.Advance stage found = advance_collects stage
collects l _ stage found = None
