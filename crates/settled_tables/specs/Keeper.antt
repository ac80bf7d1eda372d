-- The keeper of a table, which makes the workers and takes them back.
use Rattle.std.specs.Prelude.{◌≡◌, ℕ, ◌<◌, [], true, false, None}
use Rattle.machine_states.specs.structure_laws.specs.Meaning.{Meaning}
use Rattle.machine_states.specs.epoch_core.specs.declared.stage.Stage.TheVariants as stages
use Rattle.machine_states.specs.runner_parts.specs.Lists.{no_guards}
use Rattle.machine_states.specs.runner_parts.specs.Tests.{has}
use Rattle.machine_states.specs.First.{keeper_part}
use Rattle.closed_words.specs.version_words.specs.RunnerState.{RunnerState}
use Rattle.closed_words.specs.version_words.specs.Stages.{IsAt, IsKeeper, HasJoined}

-- an idle keeper that has split off so many workers and joined the first ones, so many; it has all its own node slots
-- and blocks still
pub record IsIdleKeeper {T : Type 0} (m : Meaning) (splits count : ℕ) (r : RunnerState T) : Type 0 where
  pub keeper : IsKeeper r splits
  pub at : IsAt r stages.Idle None
  pub joined : HasJoined r count
  pub told : (worker : ℕ) → worker < count → has r.part.records.joined worker ≡ true
  pub nodes : r.part.nodes ≡ (keeper_part m r.layout).nodes
  pub blocks : r.part.blocks ≡ (keeper_part m r.layout).blocks
  -- it guards nothing, and has no sweep in progress
  pub guards : r.part.guards ≡ no_guards
  -- and has run no section
  pub finished : r.part.records.finished ≡ []
  -- its own steps have not met the epoch, so they crossed no worker's that it joined
  pub unmet : r.part.records.epoch_seen ≡ 0
  pub apart : r.part.records.crosses ≡ false
