-- Who moves the epoch where there is one worker, and whom its scans and its sweeps meet.
use Rattle.std.specs.Prelude.{◌≡◌, true, false}
use Rattle.machine_states.specs.table_words.specs.declared.layout.Layout.{Layout}
use Rattle.machine_states.specs.table_words.specs.declared.spot.Spot.TheVariants.{Epoch, Announcement}
use Rattle.machine_states.specs.epoch_core.specs.declared.stage.Stage.TheVariants.{Idle}
use Rattle.machine_states.specs.runner_steps.specs.After.{own_epoch}
use Rattle.machine_states.specs.Sight.{Sight}

-- the worker, which has number 0, found the epoch as its own steps had left it, met no announcement but idle ones in
-- its scans, and in its sweeps no guard word that names a descriptor; the epoch is as it left it; and the keeper, which
-- has number 1, is idle
pub record IsUncrossed (s : Sight) : Type 0 where
  pub uncrossed : (s.part 0).records.crossed ≡ false
  pub epoch : s.word Epoch ≡ own_epoch (s.part 0).records.epoch_seen
  pub silent : s.word (Announcement 1) ≡ 0
  pub idle : (s.part 1).stage ≡ Idle

pub record EpochIsOwn (s : Sight) : Type 0 where
  -- while the worker isn't joined and the keeper's own steps have not met the epoch
  pub before : (s.part 0).gone ≡ false → (s.part 1).records.epoch_seen ≡ 0 → IsUncrossed s
  -- once it is joined, where they had not met it then
  pub behind : (s.part 0).gone ≡ true → (s.part 1).records.crosses ≡ false → (s.part 0).records.crossed ≡ false

-- so it is with one worker
abbrev pub OneWorkerIsUncrossed : Layout → Sight → Type 0
OneWorkerIsUncrossed l s = l.runners ≡ 1 → EpochIsOwn s
