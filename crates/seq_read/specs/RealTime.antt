-- The order in time: a read's stamp, and what was answered as the read began.
use Rattle.std.specs.Prelude.{◌≢◌, ℕ}
use Rattle.history_orders.specs.Turns.{Follows}
use Rattle.machine_states.specs.table_words.specs.declared.spot.Spot.TheVariants.{Stamp, Reply}
use Rattle.machine_states.specs.structure_laws.specs.Meaning.{Meaning}
use Rattle.machine_states.specs.Sight.{sight}
use Rattle.caller_facts.specs.request_facts.specs.reached_histories.specs.RealTime.{LeadsTo}
use Rattle.caller_facts.specs.version_words.specs.RunnerState.{RunnerState}
use Rattle.caller_facts.specs.try_lock.specs.Reached.{IsReached}

module _ {T : Type 0} (m : Meaning) where
  -- take any state of the machine in which the runner has its first part, and any later one in which it has its last:
  -- the stamp is above that of each request that was answered in the first state, whoever asked it and whoever served
  -- it; or it is the same odd one, so that both are of reads, which change nothing
  abbrev pub FollowsAnswered : ℕ → RunnerState T → RunnerState T → Type 0
  FollowsAnswered stamp old new = (from : IsReached m old) (to : IsReached m new)
      → LeadsTo m old.layout old.requests from.world to.world
      → (k : ℕ) → (sight m old.layout old.requests from.world).word (Reply k) ≢ 0
      → Follows ((sight m old.layout old.requests to.world).word (Stamp k)) stamp
