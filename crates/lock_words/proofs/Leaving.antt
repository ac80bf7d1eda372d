-- How a section leaves by a spent word.
use Rattle.std.specs.Prelude.{◌==◌, ◌&&◌, cond, nat_lt, Bool, true, false, slice_index}
use Rattle.std.specs.Prelude.{◌⊎◌}
use Rattle.std.proofs.Common.{◌≡◌, ℕ, ◌+◌, ◌<◌, List, refl, sym, ap, ◌∙◌, inl, inr, arith, Option, Some, None}
use Rattle.std.proofs.lemmas.Bool.Decides.{nat_tests}
use Rattle.machine_states.specs.epoch_core.specs.small_lemmas.proofs.Bools.{second_of as last}
use Rattle.machine_states.specs.body_terms.specs.Run.{leaves, refusal, is_takable}
use Rattle.machine_states.specs.body_terms.specs.Word.{version_of, held_word, is_free, is_spent}
use Rattle.machine_states.specs.body_terms.specs.declared.outcome.Outcome.{Outcome}
use Rattle.machine_states.specs.body_terms.specs.declared.outcome.Outcome.TheVariants.{Busy, Stale, Spent}
use Rattle.machine_states.specs.body_terms.specs.declared.micro.Micro.{Micro}
use Rattle.machine_states.specs.body_terms.specs.declared.micro.Micro.TheVariants.{CheckWord, CheckFresh, CheckFree, CheckHeld}
use Rattle.machine_states.specs.table_words.specs.declared.layout.Layout.{Layout}
use Rattle.machine_states.specs.runner_steps.specs.Sections.{setting_of, outcome_or}
use Rattle.machine_states.proofs.Steps.{some_same, none_some}
use Rattle.lock_words.specs.Spent.{IsLate}

-- a check of a Take: its place in the log has the word
abbrev pub IsTakeCheck : Micro → ℕ → ℕ → Type 0
IsTakeCheck micro place log = ((w : ℕ) × (micro ≡ CheckFree place log w)) ⊎ ((w : ℕ) × (micro ≡ CheckHeld place log w))

-- the check at which it leaves
abbrev pub IsCheckOf : Micro → ℕ → ℕ → Type 0
IsCheckOf micro place log = (micro ≡ CheckFresh place log) ⊎ IsTakeCheck micro place log

pub record LeavesAt (l : Layout) (trail : List ℕ) (micro : Micro) (place spent : ℕ) : Type 0 where
  pub log : ℕ
  pub word : slice_index trail log ≡ spent
  pub late : (IsTakeCheck micro place log × (is_free spent ≡ true) × IsLate l spent)
      ⊎ ((version_of spent ≡ l.version_max) × (micro ≡ CheckFresh place log))
  pub check : IsCheckOf micro place log

spent_same : (p q a b : ℕ) → Spent p a ≡ Spent q b → (p ≡ q) × (a ≡ b)
spent_same p q a b e = (cc, cc)

at_limit : (v n : ℕ) → (n == v) ≡ true → n ≡ v
at_limit v n e = grind (arith, nat_tests)

late_less : (v n : ℕ) → nat_lt v (n + 2) ≡ true → v < n + 2
late_less v n e = grind (arith, nat_tests)

first : (a b : Bool) → (a && b) ≡ true → a ≡ true
first true b e = refl
first false b e = absurd (let z = e in cc)

module _ (l : Layout) (d : ℕ) (trail : List ℕ) (place spent : ℕ) where
  abbrev Leaves : Micro → Type 0
  Leaves micro = leaves (setting_of l d) trail micro ≡ Some (Spent place spent)

  -- a refusal of a Take
  refused : (p expected read : ℕ) → refusal (setting_of l d) p expected read ≡ Spent place spent → (p ≡ place) × (read ≡ spent) × (is_free spent ≡ true) × IsLate l spent
  refused p expected read = by (is_free read) (is_spent l.version_max read) refl
    where
      by : (free late : Bool) → is_spent l.version_max read ≡ late
          → cond free (cond late (Spent p read) (Stale p expected read)) (Busy p read) ≡ Spent place spent → (p ≡ place) × (read ≡ spent) × (is_free spent ≡ true) × IsLate l spent
      by true true is e = let same = spent_same p place read spent e in (
        same.0,
        same.1,
        ap is_free (sym same.1) ∙ first (is_free read) _ is,
        late_less l.version_max (version_of spent)
            (ap (λ w. nat_lt l.version_max (version_of w + 2)) (sym same.1) ∙ last (is_free read) _ is),
      )
      by true false is e = absurd (let z = e in cc)
      by false late is e = absurd (let z = e in cc)

  by_fresh : (p log : ℕ) → Leaves (CheckFresh p log) → LeavesAt l trail (CheckFresh p log) place spent
  by_fresh p log = by (version_of (slice_index trail log) == l.version_max) refl
    where
      by : (b : Bool) → (version_of (slice_index trail log) == l.version_max) ≡ b → cond b (Some (Spent p (slice_index trail log))) None ≡ Some (Spent place spent)
          → LeavesAt l trail (CheckFresh p log) place spent
      by true is e = let same = spent_same p place (slice_index trail log) spent (some_same _ _ e) in record {
        log = log;
        word = same.1;
        late = inr (at_limit l.version_max (version_of spent) (ap (λ w. version_of w == l.version_max) (sym same.1) ∙ is), ap (λ q. CheckFresh q log) same.0);
        check = inl (ap (λ q. CheckFresh q log) same.0);
      }
      by false is e = absurd (none_some _ (sym e))

  by_free : (p log w : ℕ) → Leaves (CheckFree p log w) → LeavesAt l trail (CheckFree p log w) place spent
  by_free p log w = by (is_takable (setting_of l d) w (slice_index trail log))
    where
      by : (b : Bool) → cond b None (Some (refusal (setting_of l d) p w (slice_index trail log))) ≡ Some (Spent place spent)
          → LeavesAt l trail (CheckFree p log w) place spent
      by true e = absurd (none_some _ (sym e))
      by false e = let same = refused p w (slice_index trail log) (some_same _ _ e) in record {
        log = log;
        word = same.1;
        late = inl (inl (w, ap (λ q. CheckFree q log w) same.0), same.2, same.3);
        check = inr (inl (w, ap (λ q. CheckFree q log w) same.0));
      }

  by_held : (p log w : ℕ) → Leaves (CheckHeld p log w) → LeavesAt l trail (CheckHeld p log w) place spent
  by_held p log w = by (slice_index trail log == held_word d w)
    where
      by : (b : Bool) → cond b None (Some (refusal (setting_of l d) p w (slice_index trail log))) ≡ Some (Spent place spent)
          → LeavesAt l trail (CheckHeld p log w) place spent
      by true e = absurd (none_some _ (sym e))
      by false e = let same = refused p w (slice_index trail log) (some_same _ _ e) in record {
        log = log;
        word = same.1;
        late = inl (inr (w, ap (λ q. CheckHeld q log w) same.0), same.2, same.3);
        check = inr (inr (w, ap (λ q. CheckHeld q log w) same.0));
      }

  by_word : (p log w : ℕ) → Leaves (CheckWord p log w) → LeavesAt l trail (CheckWord p log w) place spent
  by_word p log w = by (slice_index trail log == w)
    where
      by : (b : Bool) → cond b None (Some (Stale p w (slice_index trail log))) ≡ Some (Spent place spent) → LeavesAt l trail (CheckWord p log w) place spent
      by true e = absurd (none_some _ (sym e))
      by false e = absurd (let z = some_same _ _ e in cc)

  pub leaves_at : (micro : Micro) → Leaves micro → LeavesAt l trail micro place spent
  leaves_at (CheckWord p log w) e = by_word p log w e
  leaves_at (CheckFresh p log) e = by_fresh p log e
  leaves_at (CheckFree p log w) e = by_free p log w e
  leaves_at (CheckHeld p log w) e = by_held p log w e
  leaves_at _ e = absurd (none_some _ (sym e))

-- an outcome that isn't the reply
pub not_reply : (o : Option Outcome) (reply place spent : ℕ) → outcome_or o reply ≡ Spent place spent → o ≡ Some (Spent place spent)
not_reply None reply place spent e = absurd (let z = e in cc)
not_reply (Some o) reply place spent e = ap (λ x. Some x) e
