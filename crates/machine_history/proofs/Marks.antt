-- Which sections are stamped, by how far their runs have come.
use Rattle.std.proofs.Common.{◌≡◌, ℕ, zero, suc, ◌+◌, ◌<◌, ◌≤◌, Bool, true, false, List, refl, sym, ap, ◌∙◌, inl, inr, ⊎_elim, arith}
use Rattle.std.specs.Prelude.{◌⊎◌, ◌||◌}
use Rattle.std.proofs.lemmas.Bool.{cases_lt}
use mathlib.Core.Logic.{dite}
use native.Mathlib.Decide.{ℕ_discrete}
use Rattle.agreement_core.specs.body_terms.specs.declared.step.Step.{Step}
use Rattle.agreement_core.specs.body_terms.specs.declared.step.Step.TheVariants.{Stamp}
use Rattle.agreement_core.specs.body_terms.specs.declared.micro.Micro.{Micro}
use Rattle.agreement_core.specs.body_terms.specs.declared.micro.Micro.TheVariants as micros
use Rattle.agreement_core.specs.body_terms.specs.Shape.{IsStep}
use Rattle.agreement_core.specs.body_terms.specs.Line.{line, micro_at, begins}
use Rattle.agreement_core.specs.body_terms.proofs.LineLemmas.{begins_next, micro_within}
use Rattle.agreement_core.specs.section_lines.proofs.Places.{step_inside}
use Rattle.agreement_core.specs.section_lines.specs.Line.{phase, IsLine}
use Rattle.agreement_core.specs.section_lines.specs.Progress.{passed_steps}
use Rattle.agreement_core.specs.section_lines.proofs.Sources.{of_stamp}
use Rattle.agreement_core.specs.Checks.{is_stamp_exchange}
use Rattle.machine_scenes.proofs.Places.{passed_from}
use Rattle.machine_scenes.proofs.Takes.{passed_below}
use Rattle.machine_history.specs.Memory.{passed_stamp}

exchange_of : (x : Micro) → is_stamp_exchange x ≡ true → x ≡ micros.StampExchange
exchange_of x is = grind arith

by_test : (code : ℕ → Micro) (n : ℕ) → (passed_stamp code n ≡ true → (i : ℕ) × (i < n) × (code i ≡ micros.StampExchange))
    → (b : Bool) → is_stamp_exchange (code n) ≡ b → (b || passed_stamp code n) ≡ true → (i : ℕ) × (i < suc n) × (code i ≡ micros.StampExchange)
by_test code n rest true is passed = (n, omega arith, exchange_of (code n) is)
by_test code n rest false is passed = let at = rest passed in (at.0, (let lt = at.1 in omega arith), at.2)

-- where it is passed
pub passed_at : (code : ℕ → Micro) (n : ℕ) → passed_stamp code n ≡ true → (i : ℕ) × (i < n) × (code i ≡ micros.StampExchange)
passed_at code zero passed = absurd (cc)
passed_at code (suc n) passed = by_test code n (passed_at code n) (is_stamp_exchange (code n)) refl passed

-- behind it, it is passed
pub passed_behind : (code : ℕ → Micro) (n i : ℕ) → i < n → code i ≡ micros.StampExchange → passed_stamp code n ≡ true
passed_behind code zero i lt is = absurd (omega arith)
passed_behind code (suc n) i lt is = dite (ℕ_discrete i n)
    (λ same. ap (λ x. is_stamp_exchange x || passed_stamp code n) (ap code (sym same) ∙ is))
    (λ other. ap (λ b. is_stamp_exchange (code n) || b) (passed_behind code n i (omega arith) is) ∙ either (is_stamp_exchange (code n)))
  where
    either : (b : Bool) → (b || true) ≡ true
    either true = refl
    either false = refl

-- a step of an earlier phase, the load of the clock, or the exchange itself: the exchange isn't passed
abbrev pub is_early : Micro → Bool
is_early micros.ClockRaise = false
is_early (micros.ExchangeCell place log value) = false
is_early (micros.EpochForRetire slot log) = false
is_early (micros.RetireCommit slot log) = false
is_early (micros.ReplyExchange reply) = false
is_early micros.End = false
is_early micros.SetDone = false
is_early (micros.Release place word) = false
is_early _ = true

early_kind : (x : Micro) → is_early x ≡ true → (phase x ≤ 2) ⊎ ((x ≡ micros.ClockLoad) ⊎ (x ≡ micros.StampExchange))
early_kind micros.ClockLoad early = inr (inl refl)
early_kind micros.StampExchange early = inr (inr refl)
early_kind x early = inl (grind arith)

pub not_passed : (is_lock : ℕ → Bool) (version_max lock : ℕ) (code : ℕ → Micro) (slot : ℕ → ℕ) → IsLine is_lock version_max lock code slot → (e : ℕ) (x : Micro) → code e ≡ x → is_early x ≡ true
    → passed_stamp code e ≡ false
not_passed is_lock version_max lock code slot line e x is early = by_bool (passed_stamp code e) refl
  where
    impossible : passed_stamp code e ≡ true → ⊥
    impossible passed =
        let at = passed_at code e passed in
        let lt = at.1 in
        let phases = line.in_phases.phases at.0 e (omega arith) in
        let here = line.stamped.stamp_once at.0 at.2 in
        ⊎_elim (λ low. let first = ap phase at.2 in let last = ap phase is in omega arith)
        (⊎_elim (λ clock. let there = line.stamped.stamp_once (suc e) (line.ordered.clock_next e (suc e) (is ∙ clock) refl) in omega arith)
        (λ stamp. let there = line.stamped.stamp_once e (is ∙ stamp) in omega arith))
        (early_kind x early)

    by_bool : (b : Bool) → passed_stamp code e ≡ b → passed_stamp code e ≡ false
    by_bool true is = absurd (impossible is)
    by_bool false is = is

-- a body's Stamp that a section has come to, where the exchange is passed
pub come_stamp : (body : List Step) (edge i : ℕ) → i < edge → micro_at (line body) i ≡ micros.StampExchange → (n : ℕ) × (n ≤ passed_steps body edge) × IsStep body n Stamp
come_stamp body edge i lt is =
    let f = (of_stamp body i micros.StampExchange is refl).from in
    (f.n, passed_from body edge f.n (let inside = step_inside body f.n Stamp f.here in omega arith) (let at = f.place in omega arith), f.here)

-- a body's Stamp that a section has passed: the exchange is passed
pub passed_stamp_step : (body : List Step) (edge n : ℕ) → IsStep body n Stamp → n < passed_steps body edge → (i : ℕ) × (i < edge) × (micro_at (line body) i ≡ micros.StampExchange)
passed_stamp_step body edge n here past =
    let next = begins_next body n Stamp here in (
      begins body n + 1,
      ⊎_elim (λ before. absurd (let few = passed_below body edge (suc n) (step_inside body n Stamp here) before in omega arith)) (λ le. omega arith) (cases_lt edge (begins body (suc n))),
      micro_within body n 1 Stamp here (omega arith),
    )
