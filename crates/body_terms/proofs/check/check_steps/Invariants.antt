use Rattle.std.proofs.Common.{◌≡◌, ℕ, ◌<◌, None}
use Rattle.body_terms.specs.Fault.{fault_at}
use Rattle.body_terms.proofs.check.check_steps.Given as goal

abbrev pub invariant-loop-at : goal.invariant-loop-at
invariant-loop-at l = (i : ℕ) → i < l.at → fault_at l.steps i ≡ None
