-- The example's events may come, each by computation.
use Rattle.std.proofs.Common.{◌≡◌, ℕ, true, refl, sym, subst, lit<, lit≤, arith}
use Rattle.std.specs.Prelude.{◌==◌}
use Rattle.std.proofs.lemmas.Bool.Decides.{nat_tests}
use Rattle.small_lemmas.proofs.Bools.{false_not_true as none}
use Rattle.epoch_core.specs.State.{MayHold}
use Rattle.epoch_core.specs.Round.{ComesRound, made_state}

-- the slot that is reached
only_first : (s : ℕ) → s == 0 ≡ true → MayHold made_state 0 s
only_first s here =
    let first : s ≡ 0 = grind (arith, nat_tests) in
    let slot : MayHold made_state 0 0 = record { kept = tt; retires = λ r' pending e. absurd (none pending.0) } in
    subst (λ (n : ℕ). MayHold made_state 0 n) (sym first) slot

pub comes_round : ComesRound
comes_round =
    record {
      makes = (refl, ((lit≤ tt, refl), (refl, ((refl, refl), ((refl, lit< tt), ((refl, refl, refl), ((refl, refl), tt)))))));
      live = refl;
      retires = (
        (refl, λ s here. only_first s here),
        (
          (refl, refl),
          ((refl, refl, refl, lit< tt, λ h. refl, λ h r' pending e. absurd (none pending.0)), (refl, ((refl, refl), ((refl, refl), tt)))),
        ),
      );
      limbo = refl;
      collects = (
        refl,
        (
          (refl, lit≤ tt, refl),
          (
            (refl, lit≤ tt, refl),
            (
              (refl, lit< tt, lit< tt),
              (refl, ((refl, lit≤ tt, refl), ((refl, lit≤ tt, refl), ((refl, lit< tt, lit< tt), (refl, tt))))),
            ),
          ),
        ),
      );
      free = refl;
      epoch = refl;
      passes = ((refl, lit< tt), (refl, tt));
      given = refl;
      passed = refl;
      made = refl;
      retired = refl;
    }
