-- The epoch, the announcements and the runners' entries, in every state that the machine reaches.
use Rattle.std.specs.Prelude.{◌≡◌, ℕ, ◌+◌, ◌^◌, ◌<◌, ◌≤◌, Bool, true, false, List}
use Rattle.machine_states.specs.map_history.specs.declared.op.Request.{Request}
use Rattle.machine_states.specs.table_words.specs.declared.layout.Layout.{Layout}
use Rattle.machine_states.specs.table_words.specs.declared.spot.Spot.TheVariants.{Epoch, Announcement}
use Rattle.machine_states.specs.structure_laws.specs.Meaning.{Meaning}
use Rattle.machine_states.specs.epoch_core.specs.declared.stage.Stage.TheVariants.{Idle, Loaded, Announced, Entered, Scanning}
use Rattle.machine_states.specs.runner_parts.specs.declared.event.Event.{Event}
use Rattle.machine_states.specs.World.{World}
use Rattle.machine_states.specs.Schedules.{IsAfter}
use Rattle.machine_states.specs.Sight.{Sight, sight}
use Rattle.machine_epochs.specs.Scans.{Found, nothing_found, found_after}

pub record EpochsAreSound (s : Sight) (found : Found) : Type 0 where
  -- the epoch starts at 1 and never passes the last one
  pub some : 1 ≤ s.word Epoch
  pub bounded : s.word Epoch ≤ 2 ^ 62
  -- an announced epoch is at most the epoch; who has announced nothing has the announcement 0, and
  -- everybody else one of at least 1
  pub announced_most : (r : ℕ) → s.word (Announcement r) ≤ s.word Epoch
  pub idle : (r : ℕ) → (s.part r).stage ≡ Idle → s.word (Announcement r) ≡ 0
  pub unannounced : (r e : ℕ) → (s.part r).stage ≡ Loaded e → s.word (Announcement r) ≡ 0
  pub unannounced_scan : (r x n : ℕ) (b : Bool) → (s.part r).stage ≡ Scanning x n b → s.word (Announcement r) ≡ 0
  pub announced_some : (r : ℕ) → (s.part r).stage ≡ Announced → 1 ≤ s.word (Announcement r)
  pub entered_some : (r g : ℕ) → (s.part r).stage ≡ Entered g → 1 ≤ s.word (Announcement r)
  -- an epoch that was loaded to be announced is at most the epoch
  pub loaded_some : (r e : ℕ) → (s.part r).stage ≡ Loaded e → 1 ≤ e
  pub loaded_most : (r e : ℕ) → (s.part r).stage ≡ Loaded e → e ≤ s.word Epoch
  -- the epoch is that of each entered runner, or the next one
  pub entered_most : (r g : ℕ) → (s.part r).stage ≡ Entered g → g ≤ s.word Epoch
  pub entered_least : (r g : ℕ) → (s.part r).stage ≡ Entered g → s.word Epoch ≤ g + 1
  pub entered_announced : (r g : ℕ) → (s.part r).stage ≡ Entered g → s.word (Announcement r) ≤ g
  -- a scan's epoch is at most the epoch
  pub scan_some : (r x n : ℕ) (b : Bool) → (s.part r).stage ≡ Scanning x n b → 1 ≤ x
  pub scan_most : (r x n : ℕ) (b : Bool) → (s.part r).stage ≡ Scanning x n b → x ≤ s.word Epoch
  -- a runner whose announcement was found idle or of the scan's epoch has entered with that epoch if it is
  -- entered, as long as that is the epoch
  pub scanned : (r r' x n g : ℕ) (b : Bool) → (s.part r).stage ≡ Scanning x n b → found r r' ≡ true → s.word Epoch ≡ x
      → (s.part r').stage ≡ Entered g → g ≡ x
  -- where a scan is clear so far, each announcement that it read was found so, and where it isn't, some one wasn't
  pub scan_clear : (r r' x n : ℕ) → (s.part r).stage ≡ Scanning x n true → r' < n → found r r' ≡ true
  pub scan_unclear : (r x n : ℕ) → (s.part r).stage ≡ Scanning x n false → (r' : ℕ) × (r' < n) × (found r r' ≡ false)

-- where these events lead from a first state to this one, its epochs are sound
abbrev pub SoundAfter : Meaning → Layout → List Request → List Event → World → Type 0
SoundAfter m l requests events w = (after : IsAfter m l requests events w)
    → EpochsAreSound (sight m l requests w) (found_after m l requests after.start nothing_found events)
