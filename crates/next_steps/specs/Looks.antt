-- The clocks that were loaded for reads without a lock.
use Rattle.std.specs.Prelude.{ℕ, ◌<◌, ◌≤◌, ◌≡◌, Some}
use Rattle.machine_states.specs.table_words.specs.declared.spot.Spot.TheVariants.{Clock}
use Rattle.machine_states.specs.runner_parts.specs.declared.entries.Look.{Look}
use Rattle.machine_states.specs.runner_steps.specs.InRun.{last_clock}
use Rattle.machine_states.specs.Sight.{Sight}

-- none is more than the clock
abbrev pub LooksAreSmall : Sight → Type 0
LooksAreSmall s = (r : ℕ) (x : Look) → (s.part r).reads.look ≡ Some x → x.clock ≤ s.word Clock

-- so a stamp can be made from each
abbrev pub LooksHaveStamps : Sight → Type 0
LooksHaveStamps s = (r : ℕ) (x : Look) → (s.part r).reads.look ≡ Some x → x.clock < last_clock
