-- What the end of a scan leaves in the runner's limbo.
use Rattle.std.specs.Prelude.{◌≡◌, ℕ, ◌+◌, ◌^◌, ◌<◌, ◌≤◌, ◌⊎◌, Bool, true, false, List, Some, All}
use Rattle.machine_states.specs.map_history.specs.declared.op.Request.{Request}
use Rattle.machine_states.specs.table_words.specs.declared.layout.Layout.{Layout}
use Rattle.machine_states.specs.table_words.specs.declared.spot.Spot.TheVariants.{Announcement}
use Rattle.machine_states.specs.structure_laws.specs.Meaning.{Meaning}
use Rattle.machine_states.specs.epoch_core.specs.declared.stage.Stage.TheVariants.{Idle, Scanning}
use Rattle.machine_states.specs.runner_parts.specs.declared.event.EventKind.{EventKind}
use Rattle.machine_states.specs.runner_parts.specs.declared.event.EventKind.TheVariants as kinds
use Rattle.machine_states.specs.runner_parts.specs.State.{PartState}
use Rattle.machine_states.specs.epoch_core.specs.Moves.{is_clear}
use Rattle.machine_states.specs.World.{World, happens}
use Rattle.machine_states.specs.Sight.{sight}

-- no node slot in its limbo list was retired two epochs before this one
pub record HasNothingOld (epoch : ℕ) (p : PartState) : Type 0 where
  pub nodes : All (λ x. epoch < x.epoch + 2) p.nodes.limbo

-- a runner that scans for this epoch, and has the next announcement before it, makes a step of this kind
pub record ScanStep (m : Meaning) (l : Layout) (requests : List Request) (w v : World) (kind : EventKind)
    (r epoch next : ℕ) (clear : Bool) : Type 0 where
  pub stage : ((sight m l requests w).part r).stage ≡ Scanning epoch next clear
  pub step : happens m l requests w (record { runner = r; kind = kind }) ≡ Some v

pub record ScansCollect (m : Meaning) (l : Layout) (requests : List Request) (w v : World) : Type 0 where
  -- a scan that ends with an announcement leaves nothing old; some announcement stood in the way, or the
  -- epoch is the last
  pub last : (r n epoch next : ℕ) (clear : Bool) → ScanStep m l requests w v (kinds.ScanOne n) r epoch next clear
      → ((sight m l requests v).part r).stage ≡ Idle → HasNothingOld epoch ((sight m l requests v).part r)
  pub unclear : (r n epoch next : ℕ) → ScanStep m l requests w v (kinds.ScanOne n) r epoch next true
      → ((sight m l requests v).part r).stage ≡ Idle
      → (is_clear epoch ((sight m l requests w).word (Announcement n)) ≡ false) ⊎ (2 ^ 62 ≤ epoch)
  -- one that ends with the advance leaves nothing that is old in the next epoch, whether the exchange won
  -- or lost; each announcement was found idle or of the scan's epoch, and that isn't the last
  pub advance : (r epoch next : ℕ) (clear : Bool) → ScanStep m l requests w v kinds.Advance r epoch next clear
      → HasNothingOld (epoch + 1) ((sight m l requests v).part r)
  pub clear : (r epoch next : ℕ) (clear : Bool) → ScanStep m l requests w v kinds.Advance r epoch next clear
      → (clear ≡ true) × (l.runners < next) × (epoch < 2 ^ 62)
