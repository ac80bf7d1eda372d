-- Sections that left since they found another word than the expected one, as runners keep them.
use Rattle.std.specs.Prelude.{◌≡◌, ◌≢◌, ℕ, Some, slice_get}
use Rattle.machine_states.specs.body_terms.specs.declared.outcome.Outcome.TheVariants.{Stale}
use Rattle.machine_states.specs.runner_parts.specs.State.{FinishedState}
use Rattle.machine_states.specs.Sight.{Sight}

-- where a runner keeps of a section that it ran to its end that it left so, the words differ
pub record StaleStand (s : Sight) : Type 0 where
  pub finished : (r i place expected read : ℕ) (f : FinishedState) → slice_get (s.part r).records.finished i ≡ Some f
      → f.outcome ≡ Stale place expected read → expected ≢ read
