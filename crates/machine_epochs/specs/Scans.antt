-- What each scanner has found of the announcements, read off the events.
use Rattle.std.specs.Prelude.{ℕ, List, [], ◌∷◌, Bool, false, Option, Some, None}
use Rattle.machine_states.specs.map_history.specs.declared.op.Request.{Request}
use Rattle.machine_states.specs.table_words.specs.declared.layout.Layout.{Layout}
use Rattle.machine_states.specs.table_words.specs.declared.spot.Spot.TheVariants.{Announcement}
use Rattle.machine_states.specs.structure_laws.specs.Meaning.{Meaning}
use Rattle.machine_states.specs.epoch_core.specs.declared.stage.Stage.{Stage}
use Rattle.machine_states.specs.epoch_core.specs.declared.stage.Stage.TheVariants as stages
use Rattle.machine_states.specs.runner_parts.specs.declared.event.EventKind.{EventKind}
use Rattle.machine_states.specs.runner_parts.specs.declared.event.EventKind.TheVariants as kinds
use Rattle.machine_states.specs.runner_parts.specs.declared.event.Event.{Event}
use Rattle.machine_states.specs.epoch_core.specs.Update.{upd2, upd_row}
use Rattle.machine_states.specs.epoch_core.specs.Moves.{is_clear}
use Rattle.machine_states.specs.World.{World, happens}
use Rattle.machine_states.specs.Sight.{Sight, sight}

-- whether a scanner has found this runner's announcement idle or of its epoch, in its present scan
abbrev pub Found : Type 0
Found = ℕ → ℕ → Bool

-- no scan has begun
abbrev pub nothing_found : Found
nothing_found r r' = false

-- a scanner at this stage reads this announcement
abbrev pub found_one : Found → ℕ → ℕ → ℕ → Stage → Found
found_one found r r' word (stages.Scanning epoch next clear) = upd2 found r r' (is_clear epoch word)
found_one found r r' word _ = found

-- a scan begins with nothing found, and goes on by one announcement after the other
abbrev pub found_more : Found → Sight → ℕ → EventKind → Found
found_more found s r kinds.ScanEpoch = upd_row found r (λ r'. false)
found_more found s r (kinds.ScanOne r') = found_one found r r' (s.word (Announcement r')) (s.part r).stage
found_more found s r _ = found

abbrev pub then_found : Option World → Found → (World → Found) → Found
then_found None found f = found
then_found (Some w) found f = f w

-- what has been found after these events
abbrev pub found_after : Meaning → Layout → List Request → World → Found → List Event → Found
found_after m l requests w found [] = found
found_after m l requests w found (e ∷ es) =
    then_found (happens m l requests w e) found
    (λ v. found_after m l requests v (found_more found (sight m l requests w) e.runner e.kind) es)
