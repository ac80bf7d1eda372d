-- The order in time: an attempt's stamp, and what was answered as the attempt began.
use Rattle.std.specs.Prelude.{◌≢◌, ℕ, ◌<◌}
use Rattle.machine_states.specs.table_words.specs.declared.spot.Spot.TheVariants.{Stamp, Reply}
use Rattle.machine_states.specs.structure_laws.specs.Meaning.{Meaning}
use Rattle.machine_states.specs.Sight.{sight}
use Rattle.request_facts.specs.reached_histories.specs.RealTime.{LeadsTo}
use Rattle.version_words.specs.RunnerState.{RunnerState}
use Rattle.caller_facts.specs.try_lock.specs.Reached.{IsReached}

module _ {T : Type 0} (m : Meaning) where
  -- take any state of the machine in which the runner has its first part, and any later one in which it has its last:
  -- the stamp is above that of each request that was answered in the first state, whoever asked it and whoever served
  -- it
  abbrev pub IsAboveAnswered : ℕ → RunnerState T → RunnerState T → Type 0
  IsAboveAnswered stamp old new = (from : IsReached m old) (to : IsReached m new)
      → LeadsTo m old.layout old.requests from.world to.world
      → (k : ℕ) → (sight m old.layout old.requests from.world).word (Reply k) ≢ 0
      → (sight m old.layout old.requests to.world).word (Stamp k) < stamp
