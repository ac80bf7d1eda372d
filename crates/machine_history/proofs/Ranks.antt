-- The four steps of a line that have to do with a stamp stand in their order.
use Rattle.std.proofs.Common.{◌≡◌, ◌≢◌, ℕ, zero, suc, ◌+◌, ◌<◌, ◌≤◌, Bool, true, false, cond, refl, sym, ap, ◌∙◌, ⊎_elim, arith}
use Rattle.std.specs.Prelude.{nat_lt, max}
use Rattle.std.proofs.lemmas.Bool.{cases_lt}
use mathlib.Core.Logic.{dite}
use native.Mathlib.Decide.{ℕ_discrete}
use Rattle.agreement_core.specs.body_terms.specs.declared.micro.Micro.{Micro}
use Rattle.agreement_core.specs.body_terms.specs.declared.micro.Micro.TheVariants as micros
use Rattle.agreement_core.specs.section_lines.specs.Line.{phase, is_clock_raise, IsLine, IsWholeLine}
use Rattle.machine_history.specs.Tied.{rank}

pub rank_most : (x : Micro) → rank x ≤ 4
rank_most x = grind arith

phase_of : (x : Micro) → rank x ≢ 0 → rank x ≢ 4 → phase x ≡ 3
phase_of x some other = grind arith

pub reply_of : (x : Micro) → rank x ≡ 4 → (n : ℕ) × (x ≡ micros.ReplyExchange n)
reply_of (micros.ReplyExchange n) is = (n, refl)
reply_of x is = absurd (cc)

behind_low : (edge at i : ℕ) → cond (nat_lt edge (suc at)) (suc at) edge ≤ i → edge ≤ i
behind_low edge at i le = grind arith

behind_at : (edge at i : ℕ) → cond (nat_lt edge (suc at)) (suc at) edge ≤ i → at < i
behind_at edge at i le = grind arith

module _ (is_lock : ℕ → Bool) (version_max lock : ℕ) (code : ℕ → Micro) (slot : ℕ → ℕ) (line : IsLine is_lock version_max lock code slot) (whole : IsWholeLine code) where
  place_of : (i : ℕ) (x : Micro) → code i ≡ x → rank x ≢ 0 → rank x ≢ 4 → i + 2 ≡ line.stamped.stamp + rank x
  place_of i micros.ClockLoad is some other = let at = line.stamped.stamp_once (suc i) (line.ordered.clock_next i (suc i) is refl) in omega arith
  place_of i micros.StampExchange is some other = let at = line.stamped.stamp_once i is in omega arith
  place_of zero micros.ClockRaise is some other = absurd (differ (sym (ap is_clock_raise is) ∙ whole.start_raise))
    where
      differ : true ≡ false → ⊥
      differ e = cc
  place_of (suc i) micros.ClockRaise is some other = let at = line.stamped.stamp_once i (line.ordered.raise_before i (suc i) is refl) in omega arith
  place_of i (micros.ReplyExchange n) is some other = absurd (other refl)
  place_of i x is some other = absurd (some (grind arith))

  pub rank_rises : (i j : ℕ) → i < j → rank (code i) ≢ 0 → rank (code j) ≢ 0 → rank (code i) < rank (code j)
  rank_rises i j lt some some' = dite (ℕ_discrete (rank (code j)) 4)
      (λ last. dite (ℕ_discrete (rank (code i)) 4)
      (λ four.
      let a = reply_of (code i) four in let b = reply_of (code j) last in
      let here = line.stamped.answer_once i a.0 a.1 in let there = line.stamped.answer_once j b.0 b.1 in absurd (omega arith))
      (λ other. let most = rank_most (code i) in omega arith))
      (λ other. dite (ℕ_discrete (rank (code i)) 4)
      (λ four.
      let a = reply_of (code i) four in
      let first = ap phase a.1 in let last = phase_of (code j) some' other in
      let phases = line.in_phases.phases i j (omega arith) in absurd (omega arith))
      (λ other'. let a = place_of i (code i) refl some other' in let b = place_of j (code j) refl some' other in omega arith))

  -- a section that has come behind exactly the steps that are passed still has when a run passes one more
  pub further_passed : (at edge stage : ℕ) → at ≤ edge → ((i : ℕ) → rank (code i) ≢ 0 → i < edge → rank (code i) ≤ stage)
      → (i : ℕ) → rank (code i) ≢ 0 → i < cond (nat_lt edge (suc at)) (suc at) edge → rank (code i) ≤ max stage (rank (code at))
  further_passed at edge stage behind passed i some lt = ⊎_elim
      (λ low. let before = passed i some low in omega arith)
      (λ high. let here : i ≡ at = last edge at i behind lt high in let same = ap (λ i. rank (code i)) here in omega arith)
      (cases_lt i edge)
    where
      last : (edge at i : ℕ) → at ≤ edge → i < cond (nat_lt edge (suc at)) (suc at) edge → edge ≤ i → i ≡ at
      last edge at i behind lt high = grind arith

  pub further_unpassed : (at edge stage : ℕ) → at ≤ edge → ((i : ℕ) → rank (code i) ≢ 0 → edge ≤ i → stage < rank (code i))
      → (i : ℕ) → rank (code i) ≢ 0 → cond (nat_lt edge (suc at)) (suc at) edge ≤ i → max stage (rank (code at)) < rank (code i)
  further_unpassed at edge stage behind unpassed i some le =
      let before = unpassed i some (behind_low edge at i le) in
      dite (ℕ_discrete (rank (code at)) 0) (λ none. omega arith) (λ some'. let rises = rank_rises at i (behind_at edge at i le) some' some in omega arith)
