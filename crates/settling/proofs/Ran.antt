-- A run under a gate that never halts comes to its end.
use Rattle.std.proofs.Common.{◌≡◌, refl, arith}
use Rattle.try_lock.specs.section_runs.specs.runner_gate.specs.Asks.{HaltedOnce}
use Rattle.machine_states.specs.body_terms.specs.Trail.{Agreed}
use Rattle.machine_states.specs.body_terms.specs.declared.outcome.Outcome.{Outcome}
use Rattle.try_lock.specs.section_runs.specs.declared.runs.RunEnd.{RunEnd}
use Rattle.try_lock.specs.section_runs.specs.declared.runs.RunEnd.TheVariants.{Done, Halted}

-- a count that stays 0 is none behind a halt
pub not_rose : HaltedOnce 0 0 → ⊥
not_rose once = grind (arith, once)

-- what holds of each outcome holds where the run isn't halted
pub at_end : (P : Type 0) (end : RunEnd) → ((o : Outcome) (trail : Agreed) → end ≡ Done o trail → P) → (end ≡ Halted → ⊥) → P
at_end P (Done o trail) done halted = done o trail refl
at_end P Halted done halted = absurd (halted refl)
