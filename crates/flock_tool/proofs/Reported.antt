-- From what comes of a report to the clauses of the top call.
use Rattle.std.proofs.Common.{◌≡◌, ℕ, Option, None, Some, IfSome, IsSome, codes, sym, ◌⊎◌, ⊎_elim, inl, inr, subst, arith, rules}
use Rattle.std.specs.Prelude.{◌↔◌, Bool}
use Rattle.threaded_runs.specs.runner_gate.specs.fault_count.specs.Rose.{Rose}
use Rattle.threaded_runs.specs.Counts.{halts_counted}
use Rattle.flock_tool.specs.Runs.{answers_in, EndsRun, HasReported, IsRunStatus}
use Rattle.flock_tool.specs.Streams.{Fails, Gating, Halts, Stream, Told}
use Rattle.flock_tool.specs.declared.ran.Ran.{Ran}
use Rattle.flock_tool.proofs.Finishing.{halts_rise}

pub not_seven : (n : ℕ) → IsRunStatus n → n ≡ 7 → ⊥
not_seven n run seven = absurd (grind arith)

not_eight : (n : ℕ) → IsRunStatus n → n ≡ 8 → ⊥
not_eight n run eight = absurd (grind arith)

pub some_back : (back : Option Ran) (ran : Ran) → back ≡ Some ran → IsSome back
some_back back ran is = search rules

pub none_back : (back : Option Ran) → back ≡ None → IsSome back → ⊥
none_back back none some = absurd (cc)

module _ (ran : Ran) (traces : ℕ) (waits : Bool) (result : ℕ × Option Ran) (sink faults : Stream) (reported : HasReported ran traces waits result sink faults) where
  pub reported_ran : IsSome result.1 ↔ IsRunStatus result.0
  reported_ran =
      ⊎_elim (λ ends. (λ some. ends.status, λ run. some_back result.1 ran ends.back))
      (λ lacks. (λ some. absurd (none_back result.1 lacks.none some), λ run. absurd (not_seven result.0 run lacks.status))) reported

  pub reported_back : (P : Ran → Type 0) → (EndsRun ran traces waits result sink faults → P ran) → IfSome result.1 P
  reported_back P given =
      ⊎_elim (λ ends. subst (λ back. IfSome back P) (sym ends.back) (given ends)) (λ lacks. subst (λ back. IfSome back P) (sym lacks.none) tt) reported

  pub reported_halted : (gates : Gating) → gates.halts_after ≡ halts_counted gates.halts_before (answers_in ran) → result.0 ≡ 1 → Halts gates
  reported_halted gates counted one =
      ⊎_elim (λ ends. subst (Rose gates.halts_before) (sym counted) (halts_rise gates.halts_before (answers_in ran) (ends.halted one)))
      (λ lacks. absurd (omega (arith, one, lacks.status))) reported

  pub reported_status : IsRunStatus result.0 ⊎ (result.0 ≡ 7)
  reported_status = ⊎_elim (λ ends. inl ends.status) (λ lacks. inr lacks.status) reported

  pub reported_memory : result.0 ≡ 7 → Told (codes "flock: memory\n") faults
  reported_memory seven = ⊎_elim (λ ends. absurd (not_seven result.0 ends.status seven)) (λ lacks. lacks.memory) reported

  pub reported_read : result.0 ≡ 8 → ⊥
  reported_read eight = ⊎_elim (λ ends. not_eight result.0 ends.status eight) (λ lacks. absurd (omega (arith, eight, lacks.status))) reported

  pub reported_write : result.0 ≡ 9 → Fails sink × Told (codes "flock: write fault\n") faults
  reported_write nine = ⊎_elim (λ ends. ((ends.ended.in_part nine).1, ends.ended.failed nine)) (λ lacks. absurd (omega (arith, nine, lacks.status))) reported
