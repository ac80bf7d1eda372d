-- The word by which a section leaves that finds a lock held is one that it has agreed on for a Take.
use Rattle.std.specs.Prelude.{◌==◌, ◌⊎◌, cond, Bool, true, false, slice_index}
use Rattle.std.proofs.Common.{◌≡◌, ℕ, suc, ◌<◌, List, length, refl, sym, ap, ◌∙◌, subst, ⊎_elim, inl, inr, arith, Option, Some, None}
use Rattle.machine_states.specs.body_terms.specs.Line.{micro_at, is_commit}
use Rattle.machine_states.specs.body_terms.specs.Run.{leaves, refusal, is_takable}
use Rattle.machine_states.specs.body_terms.specs.Word.{version_of, held_word, is_free, is_spent}
use Rattle.machine_states.specs.body_terms.specs.declared.outcome.Outcome.{Outcome}
use Rattle.machine_states.specs.body_terms.specs.declared.outcome.Outcome.TheVariants.{Busy, Stale, Spent}
use Rattle.machine_states.specs.body_terms.specs.declared.micro.Micro.{Micro}
use Rattle.machine_states.specs.body_terms.specs.declared.micro.Micro.TheVariants.{CheckWord, CheckFresh, CheckFree, CheckHeld}
use Rattle.machine_states.specs.table_words.specs.declared.layout.Layout.{Layout}
use Rattle.machine_states.specs.structure_laws.specs.Meaning.{Meaning}
use Rattle.machine_states.specs.runner_parts.specs.State.{RunState}
use Rattle.machine_states.specs.runner_steps.specs.Sections.{setting_of, outcome_or, line_of}
use Rattle.agreement_core.specs.State.{AgreementState, Section}
use Rattle.machine_states.specs.Sight.{Sight}
use Rattle.machine_states.proofs.Steps.{some_same, none_some}
use Rattle.runner_facts.specs.machine_facts.specs.machine_invariant.specs.Whole.{Beside, IsWhole}
use Rattle.runner_facts.specs.machine_facts.specs.machine_invariant.proofs.Trails.{run_used}
use Rattle.runner_facts.specs.machine_facts.specs.machine_agreement.proofs.RunPlaces.{code_here}
use Rattle.agreement_core.specs.section_lines.specs.Line.{IsLine}
use Rattle.lock_words.proofs.Agreed.{agreed}
use Rattle.lock_words.specs.Taken.{CommitsLock, IsAgreed}
use Rattle.lock_words.proofs.Facts.{line_of_section, code_is}
use Rattle.runner_facts.specs.machine_facts.specs.machine_invariant.specs.machine_blocks.proofs.Holding.{log_read}

-- the check of a Take at which it leaves: its place in the log has the word
abbrev IsCheckOf : Micro → ℕ → ℕ → Type 0
IsCheckOf micro place log = ((w : ℕ) × (micro ≡ CheckFree place log w)) ⊎ ((w : ℕ) × (micro ≡ CheckHeld place log w))

record LeavesAt (trail : List ℕ) (micro : Micro) (place word : ℕ) : Type 0 where
  log : ℕ
  held : is_free word ≡ false
  is : slice_index trail log ≡ word
  check : IsCheckOf micro place log

busy_same : (p q a b : ℕ) → Busy p a ≡ Busy q b → (p ≡ q) × (a ≡ b)
busy_same p q a b e = (cc, cc)

module _ (l : Layout) (d : ℕ) (trail : List ℕ) (place word : ℕ) where
  abbrev Leaves : Micro → Type 0
  Leaves micro = leaves (setting_of l d) trail micro ≡ Some (Busy place word)

  refused : (p expected read : ℕ) → refusal (setting_of l d) p expected read ≡ Busy place word
      → (p ≡ place) × (read ≡ word) × (is_free word ≡ false)
  refused p expected read = by (is_free read) refl (is_spent l.version_max read)
    where
      by : (free : Bool) → is_free read ≡ free → (late : Bool) → cond free (cond late (Spent p read) (Stale p expected read)) (Busy p read) ≡ Busy place word
          → (p ≡ place) × (read ≡ word) × (is_free word ≡ false)
      by true is true e = absurd (let z = e in cc)
      by true is false e = absurd (let z = e in cc)
      by false is late e = let same = busy_same p place read word e in (same.0, same.1, ap is_free (sym same.1) ∙ is)

  by_free : (p log w : ℕ) → Leaves (CheckFree p log w) → LeavesAt trail (CheckFree p log w) place word
  by_free p log w = by (is_takable (setting_of l d) w (slice_index trail log))
    where
      by : (b : Bool) → cond b None (Some (refusal (setting_of l d) p w (slice_index trail log))) ≡ Some (Busy place word)
          → LeavesAt trail (CheckFree p log w) place word
      by true e = absurd (none_some _ (sym e))
      by false e = let same = refused p w (slice_index trail log) (some_same _ _ e) in record {
        log = log;
        held = same.2;
        is = same.1;
        check = inl (w, ap (λ q. CheckFree q log w) same.0);
      }

  by_held : (p log w : ℕ) → Leaves (CheckHeld p log w) → LeavesAt trail (CheckHeld p log w) place word
  by_held p log w = by (slice_index trail log == held_word d w)
    where
      by : (b : Bool) → cond b None (Some (refusal (setting_of l d) p w (slice_index trail log))) ≡ Some (Busy place word)
          → LeavesAt trail (CheckHeld p log w) place word
      by true e = absurd (none_some _ (sym e))
      by false e = let same = refused p w (slice_index trail log) (some_same _ _ e) in record {
        log = log;
        held = same.2;
        is = same.1;
        check = inr (w, ap (λ q. CheckHeld q log w) same.0);
      }

  by_word : (p log w : ℕ) → Leaves (CheckWord p log w) → LeavesAt trail (CheckWord p log w) place word
  by_word p log w = by (slice_index trail log == w)
    where
      by : (b : Bool) → cond b None (Some (Stale p w (slice_index trail log))) ≡ Some (Busy place word) → LeavesAt trail (CheckWord p log w) place word
      by true e = absurd (none_some _ (sym e))
      by false e = absurd (let z = some_same _ _ e in cc)

  by_fresh : (p log : ℕ) → Leaves (CheckFresh p log) → LeavesAt trail (CheckFresh p log) place word
  by_fresh p log = by (version_of (slice_index trail log) == l.version_max)
    where
      by : (b : Bool) → cond b (Some (Spent p (slice_index trail log))) None ≡ Some (Busy place word) → LeavesAt trail (CheckFresh p log) place word
      by true e = absurd (let z = some_same _ _ e in cc)
      by false e = absurd (none_some _ (sym e))

  leaves_at : (micro : Micro) → Leaves micro → LeavesAt trail micro place word
  leaves_at (CheckWord p log w) e = by_word p log w e
  leaves_at (CheckFresh p log) e = by_fresh p log e
  leaves_at (CheckFree p log w) e = by_free p log w e
  leaves_at (CheckHeld p log w) e = by_held p log w e
  leaves_at _ e = absurd (none_some _ (sym e))

-- an outcome that isn't the reply
not_reply : (o : Option Outcome) (reply place word : ℕ) → outcome_or o reply ≡ Busy place word → o ≡ Some (Busy place word)
not_reply None reply place word e = absurd (let z = e in cc)
not_reply (Some o) reply place word e = ap (λ x. Some x) e

module _ (m : Meaning) (l : Layout) (b : Beside) (s : Sight) (whole : IsWhole m l b s) (r : ℕ) (q : RunState) (runs : (s.part r).run ≡ Some q)
    (full : length q.opened ≡ 13) where
  abbrev a : AgreementState
  a = b.agreement

  abbrev sec : Section
  sec = a.section q.descriptor

  used : a.used q.descriptor ≡ true
  used = run_used m l a s whole.sections r q runs

  section_line : IsLine m.is_lock l.version_max sec.lock sec.code sec.slot
  section_line = line_of_section m l b s whole q.descriptor used

  code : (i : ℕ) → sec.code i ≡ micro_at (line_of m q) i
  code = code_here m l a s whole.sections r q runs full

  -- a commit below the run's place, with its word in the trail
  agreed_at : (i place log word : ℕ) → i < q.at → CommitsLock (sec.code i) place log → is_commit (sec.code i) ≡ true → log ≡ sec.slot i
      → slice_index q.trail log ≡ word → IsAgreed m s q.descriptor place word
  agreed_at i place log word low commits commit slot is = record {
    at = i;
    log = log;
    commits = subst (λ (micro : Micro). CommitsLock micro place log) (code_is m l b s whole q.descriptor used i) commits;
    agreed = log_read m l whole.logs r q.descriptor ((whole.slots.tied r).run_sure q runs) log
        ∙ (sym (agreed m l a s whole.sections r q runs full i log low commit slot) ∙ is);
  }

  pub left_agreed : (reply place word : ℕ)
      → outcome_or (leaves (setting_of l q.descriptor) q.trail (micro_at (line_of m q) q.at)) reply ≡ Busy place word
      → IsAgreed m s q.descriptor place word × (is_free word ≡ false)
  left_agreed reply place word e =
      let left = leaves_at l q.descriptor q.trail place word (micro_at (line_of m q) q.at)
      (not_reply (leaves (setting_of l q.descriptor) q.trail (micro_at (line_of m q) q.at)) reply place word e) in (
        ⊎_elim
            (λ free.
            let before = section_line.ordered.free_before q.at place left.log free.0 (code q.at ∙ free.1) in
            agreed_at before.0 place left.log word (let at = before.1 in omega (arith, at)) (inl before.2) (ap is_commit before.2)
            (section_line.counted.nested_log before.0 place left.log before.2) left.is)
            (λ held.
            let before = section_line.ordered.held_before q.at place left.log held.0 (code q.at ∙ held.1) in
            agreed_at (suc (suc before.0)) place left.log word (let at = before.1 in omega (arith, at)) (inr before.3) (ap is_commit before.3)
            (section_line.counted.outcome_log (suc (suc before.0)) place left.log before.3) left.is)
            left.check,
        left.held,
      )
