-- A run in one go that comes to the Answer ends with that answer.
use Rattle.std.proofs.Common.{◌≡◌, ℕ, zero, suc, ◌<◌, ◌≤◌, true, false, List, [], ◌∷◌, length, take, drop, refl, sym, ap, ◌∙◌, arith, Some, None}
use Rattle.std.proofs.Math.Seq.{take-suc}
use Rattle.std.proofs.lemmas.List.{take-append-drop}
use Rattle.section_lines.specs.structure_laws.specs.body_terms.specs.Line.{is_check, micro_at}
use Rattle.section_lines.specs.structure_laws.specs.body_terms.specs.Run.{Setting, Run, leaves, ran, acted, unless_over}
use Rattle.section_lines.specs.structure_laws.specs.body_terms.specs.declared.outcome.Outcome.TheVariants.{Answered}
use Rattle.section_lines.specs.structure_laws.specs.body_terms.specs.declared.micro.Micro.{Micro}
use Rattle.section_lines.specs.structure_laws.specs.body_terms.specs.declared.micro.Micro.TheVariants as micros
use Rattle.section_lines.specs.structure_laws.specs.body_terms.proofs.RunLemmas.{ran-append, ran_over}
use Rattle.section_lines.specs.Runs.{agreed, Follows}
use Rattle.agreement_core.specs.Checks.{is_reply_exchange}
use Rattle.agreement_core.proofs.Frame.{not_both}

-- only a check and the Answer give a run an outcome
still_none : (s : Setting) (r : Run) (m : Micro) → is_reply_exchange m ≡ false → (is_check m ≡ true → leaves s r.trail m ≡ None)
    → r.outcome ≡ None
    → (acted s m r).outcome ≡ None
still_none s r (micros.CheckWord place k word) quiet passes none = passes refl
still_none s r (micros.CheckFresh place k) quiet passes none = passes refl
still_none s r (micros.CheckFree place k word) quiet passes none = passes refl
still_none s r (micros.CheckHeld place k word) quiet passes none = passes refl
still_none s r (micros.ReplyExchange reply) quiet passes none = absurd (not_both _ refl quiet)
still_none s r m quiet passes none = none

-- a run follows the log up to each earlier place
pub follows_below : (s : Setting) (start : Run) (line : List Micro) (log : ℕ → ℕ) (edge n : ℕ) → n ≤ edge → Follows s start line log edge
    → Follows s start line log n
follows_below s start line log edge n le f = record {
  unbegun = f.unbegun;
  unended = f.unended;
  loaded = λ i p k lt. f.loaded i p k (omega arith);
  nested = λ i p k lt. f.nested i p k (omega arith);
  outcome = λ i p k lt. f.outcome i p k (omega arith);
  made = λ i k lt. f.made i k (omega arith);
  retired = λ i t k lt. f.retired i t k (omega arith);
  passed = λ i lt. f.passed i (omega arith);
}

module _ (s : Setting) (start : Run) (line : List Micro) (log : ℕ → ℕ) (edge : ℕ) (f : Follows s start line log edge)
    (trails : (i : ℕ) → i ≤ edge → (ran s start (take i line)).trail ≡ agreed line log i)
    (answer reply : ℕ) (passed : answer < edge) (inside : answer < length line) (is : micro_at line answer ≡ micros.ReplyExchange reply)
    (first : (i : ℕ) → i < answer → is_reply_exchange (micro_at line i) ≡ false) where
  -- the run when it has come to this place
  abbrev come : ℕ → Run
  come i = ran s start (take i line)

  one_more : (i : ℕ) → i < length line → come (suc i) ≡ unless_over (come i).outcome (acted s (micro_at line i) (come i)) (come i)
  one_more i lt = ap (ran s start) (take-suc line i micros.End lt) ∙ ran-append s start (take i line) (micro_at line i ∷ [])

  going : (i : ℕ) → (come i).outcome ≡ None → unless_over (come i).outcome (acted s (micro_at line i) (come i)) (come i) ≡ acted s
      (micro_at line i) (come i)
  going i none = ap (λ o. unless_over o (acted s (micro_at line i) (come i)) (come i)) none

  none_before : (i : ℕ) → i ≤ answer → (come i).outcome ≡ None
  none_before zero le = f.unended
  none_before (suc i) le =
      let none = none_before i (omega arith) in
      ap (λ (r : Run). r.outcome) (one_more i (omega arith) ∙ going i none)
      ∙ still_none s (come i) (micro_at line i) (first i (omega arith))
      (λ check. ap (λ t. leaves s t (micro_at line i)) (trails i (omega arith)) ∙ f.passed i (omega arith) check) none

  answered : (come (suc answer)).outcome ≡ Some (Answered reply)
  answered =
      ap (λ (r : Run). r.outcome) (one_more answer inside ∙ going answer (none_before answer (omega arith)))
      ∙ ap (λ m. (acted s m (come answer)).outcome) is

  pub ends_answered : (ran s start line).outcome ≡ Some (Answered reply)
  ends_answered =
      ap (λ (r : Run). r.outcome) (ap (ran s start) (sym (take-append-drop (suc answer) line))
      ∙ ran-append s start (take (suc answer) line) (drop (suc answer) line)
      ∙ ran_over s (come (suc answer)) (Answered reply) (drop (suc answer) line) answered)
      ∙ answered
