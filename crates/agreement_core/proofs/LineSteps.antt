-- Each step of a run's line keeps the invariant, kind by kind.
use Rattle.std.proofs.Common.{◌≡◌, ◌≢◌, ℕ, suc, ◌<◌, ◌≤◌, Bool, true, false, sym, ap, ◌∙◌, subst, arith}
use Rattle.std.specs.Prelude.{max}
use Rattle.section_lines.specs.structure_laws.specs.body_terms.specs.Line.{is_event, is_commit, is_check}
use Rattle.section_lines.specs.structure_laws.specs.body_terms.specs.Word.{version_of}
use Rattle.section_lines.specs.structure_laws.specs.body_terms.specs.declared.micro.Micro.{Micro}
use Rattle.section_lines.specs.structure_laws.specs.body_terms.specs.declared.micro.Micro.TheVariants as micros
use Rattle.section_lines.specs.Line.{phase, is_clock_raise}
use Rattle.agreement_core.specs.State.{CellRules, Section, Run, AgreementState}
use Rattle.agreement_core.specs.Checks.{passes, is_stop, is_stamp_exchange, is_reply_exchange}
use Rattle.agreement_core.specs.Events.{goes_on, agrees}
use Rattle.agreement_core.specs.Runs.{RunIsSound}
use Rattle.agreement_core.specs.Sound.{UsedIsSound, IsSound}
use Rattle.agreement_core.proofs.Frame.{undone, not_both}
use Rattle.agreement_core.proofs.Committing.{MayCommit}
use Rattle.agreement_core.proofs.Following.{Follows, follows_any, gives_number}
use Rattle.agreement_core.proofs.Stepping.{MayGo, goes_sound, agrees_sound}
use Rattle.agreement_core.proofs.Lines.{event_goes, pass_goes, passes_same}

-- the steps that have no effect at the edge, and after which no cell is come to
abbrev pub is_plain : Micro → Bool
is_plain (micros.NestedLoad p k) = true
is_plain (micros.OutcomeLoad p k) = true
is_plain (micros.PrivateLoad i k) = true
is_plain (micros.PrivateStore i k v) = true
is_plain micros.ClockLoad = true
is_plain (micros.EpochForRetire slot k) = true
is_plain _ = false

plain_event : (m : Micro) → is_plain m ≡ true → is_event m ≡ true
plain_event m h = grind arith

plain_quiet : (m : Micro) → is_plain m ≡ true → (is_stamp_exchange m ≡ false) × (is_clock_raise m ≡ false) × (is_reply_exchange m ≡ false)
plain_quiet m h = (grind arith, grind arith, grind arith)

check_quiet : (m : Micro) → is_check m ≡ true → (is_stamp_exchange m ≡ false) × (is_clock_raise m ≡ false) × (is_reply_exchange m ≡ false)
check_quiet m h = (grind arith, grind arith, grind arith)

pub same_load : (p k p' k' : ℕ) → micros.LoadCell p k ≡ micros.LoadCell p' k' → p' ≡ p
same_load p k p' k' e = grind arith

pub same_outcome : (p k p' k' : ℕ) → micros.OutcomeLoad p k ≡ micros.OutcomeLoad p' k' → p' ≡ p
same_outcome p k p' k' e = grind arith

pub same_nested : (p k p' k' : ℕ) → micros.NestedLoad p k ≡ micros.NestedLoad p' k' → p' ≡ p
same_nested p k p' k' e = grind arith

pub same_hold : (p w p' w' : ℕ) → micros.NestedHold p w ≡ micros.NestedHold p' w' → (p' ≡ p) × (w' ≡ w)
same_hold p w p' w' e = (grind arith, grind arith)

same_retire : (s k s' k' : ℕ) → micros.RetireCommit s k ≡ micros.RetireCommit s' k' → s ≡ s'
same_retire s k s' k' e = grind arith

pub above_left : (a b : ℕ) → a ≤ max a b
above_left a b = grind arith

pub above_right : (a b : ℕ) → b ≤ max a b
above_right a b = grind arith

some_version : (word : ℕ) → 0 < version_of word → 0 < word
some_version word h = grind arith

pub pass_checks : (c : CellRules) (d : ℕ) (trail : ℕ → ℕ) (m : Micro) → passes c d trail m ≡ true → is_check m ≡ true
pass_checks c d trail m h = grind arith

check_commits : (m : Micro) → is_check m ≡ true → is_commit m ≡ false
check_commits m h = grind arith

check_numbers : (m : Micro) → is_check m ≡ true → gives_number m ≡ false
check_numbers m h = grind arith

module _ (c : CellRules) (w : AgreementState) (old : IsSound c w) (r : ℕ) (running : (w.run r).running ≡ true)
    (going : (w.run r).ended ≡ false) where
  abbrev q : Run
  q = w.run r

  abbrev s : Section
  s = w.section q.descriptor

  own : UsedIsSound c w.shared (w.live q.descriptor) (w.over q.descriptor) q.descriptor s
  own = old.sections q.descriptor (old.running_used r running)

  run : RunIsSound c w.shared q.descriptor s q
  run = old.runs r running

  pub plain_goes : is_plain (s.code q.at) ≡ true → q.at ≡ s.edge → MayGo c w old r running going
  plain_goes plain' at =
      let plain = subst (λ n. is_plain (s.code n) ≡ true) at plain' in
      let quiet = plain_quiet _ plain in
      record {
        goes = event_goes c _ _ _ (plain_event _ plain);
        no_exchange = λ p k v e. not_both _ plain (ap is_plain e);
        hold = λ p free e. absurd (not_both _ plain (ap is_plain e));
        stamp = λ e. absurd (not_both _ e quiet.0);
        raise = λ e. absurd (not_both _ e quiet.1);
        reply = λ e. absurd (not_both _ e quiet.2);
        alone = λ p k e. absurd (not_both _ plain (ap is_plain e));
      }

  -- a word that is committed as it was loaded
  loaded_commits : 0 < q.word → is_event (s.code q.at) ≡ true → phase (s.code q.at) ≡ 1 → q.at ≡ s.edge
      → MayCommit w.shared q.descriptor s q.word
  loaded_commits some event early at =
      let un = undone c q.descriptor s own.section.in_log (event_goes c _ _ _ (subst (λ n. is_event (s.code n) ≡ true) at event)) in
      let code : (m : Micro) → s.code s.edge ≡ m → s.code q.at ≡ m = λ m e. ap s.code at ∙ e in
      record {
        some = some;
        standing = λ p k e. run.in_word.standing p k at (code _ e);
        read = λ p k e. run.in_word.read p k (code _ e);
        nested_read = λ p k e. run.in_word.nested_read p k (code _ e);
        outcome_read = λ p k e. run.in_word.outcome_read p k (code _ e);
        outcome_held = λ p k e v. run.in_word.outcome_held un p k (code _ e) v;
        outcome_named = λ p k e v. run.in_word.outcome_named p k (code _ e) v;
        retired = λ slot k e. let a : 5 ≡ 1 = ap phase (sym (code _ e)) ∙ early in absurd (omega arith);
      }

  -- a word that isn't loaded from a cell
  own_commits : (proposal : ℕ) → 0 < proposal → ((p k : ℕ) → s.code q.at ≢ micros.Commit p k)
      → ((p k : ℕ) → s.code q.at ≢ micros.NestedCommit p k) → ((p k : ℕ) → s.code q.at ≢ micros.OutcomeCommit p k)
      → ((slot k : ℕ) → s.code q.at ≡ micros.RetireCommit slot k → proposal ≡ suc slot) → q.at ≡ s.edge
      → MayCommit w.shared q.descriptor s proposal
  own_commits proposal some no_cell no_nested no_outcome retired at =
      let code : (m : Micro) → s.code s.edge ≡ m → s.code q.at ≡ m = λ m e. ap s.code at ∙ e in
      record {
        some = some;
        standing = λ p k e. absurd (no_cell p k (code _ e));
        read = λ p k e. absurd (no_cell p k (code _ e));
        nested_read = λ p k e. absurd (no_nested p k (code _ e));
        outcome_read = λ p k e. absurd (no_outcome p k (code _ e));
        outcome_held = λ p k e v. absurd (no_outcome p k (code _ e));
        outcome_named = λ p k e v. absurd (no_outcome p k (code _ e));
        retired = λ slot k e. retired slot k (code _ e);
      }

  pub commit_sound : (p k : ℕ) → s.code q.at ≡ micros.Commit p k → IsSound c (agrees w r k q.word)
  commit_sound p k e = agrees_sound c w old r running going k q.word (own.published.line.counted.commit_log q.at p k e) (ap is_commit e)
      (ap is_event e)
      (loaded_commits (some_version _ (old.versions.read_positive p q.word (run.in_word.read p k e))) (ap is_event e) (ap phase e))
      (follows_any _ _ _ _ _ (ap gives_number e))

  pub nested_commit_sound : (p k : ℕ) → s.code q.at ≡ micros.NestedCommit p k → IsSound c (agrees w r k q.word)
  nested_commit_sound p k e = agrees_sound c w old r running going k q.word (own.published.line.counted.nested_log q.at p k e)
      (ap is_commit e) (ap is_event e)
      (loaded_commits (some_version _ (old.versions.read_positive p q.word (run.in_word.nested_read p k e))) (ap is_event e) (ap phase e))
      (follows_any _ _ _ _ _ (ap gives_number e))

  pub outcome_commit_sound : (p k : ℕ) → s.code q.at ≡ micros.OutcomeCommit p k → IsSound c (agrees w r k q.word)
  outcome_commit_sound p k e = agrees_sound c w old r running going k q.word (own.published.line.counted.outcome_log q.at p k e)
      (ap is_commit e) (ap is_event e)
      (loaded_commits (some_version _ (old.versions.read_positive p q.word (run.in_word.outcome_read p k e))) (ap is_event e) (ap phase e))
      (follows_any _ _ _ _ _ (ap gives_number e))

  pub make_commit_sound : (k proposal : ℕ) → s.code q.at ≡ micros.MakeCommit k → 0 < proposal → IsSound c (agrees w r k proposal)
  make_commit_sound k proposal e some = agrees_sound c w old r running going k proposal (own.published.line.counted.make_log q.at k e)
      (ap is_commit e) (ap is_event e)
      (own_commits proposal some (λ p n f. let a : 1 ≡ 2 = ap phase (sym f ∙ e) in omega arith)
      (λ p n f. let a : 1 ≡ 2 = ap phase (sym f ∙ e) in omega arith) (λ p n f. let a : 1 ≡ 2 = ap phase (sym f ∙ e) in omega arith)
      (λ slot n f. let a : 5 ≡ 2 = ap phase (sym f ∙ e) in absurd (omega arith)))
      (follows_any _ _ _ _ _ (ap gives_number e))

  pub retire_commit_sound : (slot k : ℕ) → s.code q.at ≡ micros.RetireCommit slot k → IsSound c (agrees w r k (suc slot))
  retire_commit_sound slot k e = agrees_sound c w old r running going k (suc slot) (own.published.line.counted.retire_log q.at slot k e)
      (ap is_commit e) (ap is_event e)
      (own_commits (suc slot) (omega arith) (λ p n f. let a : 1 ≡ 5 = ap phase (sym f ∙ e) in omega arith)
      (λ p n f. let a : 1 ≡ 5 = ap phase (sym f ∙ e) in omega arith) (λ p n f. let a : 1 ≡ 5 = ap phase (sym f ∙ e) in omega arith)
      (λ slot' n f. ap suc (same_retire slot k slot' n (sym e ∙ f))))
      (follows_any _ _ _ _ _ (ap gives_number e))

  -- a plain step behind which the next one doesn't go by its number
  pub plain_sound : (word : ℕ) → is_plain (s.code q.at) ≡ true → is_commit (s.code q.at) ≡ false
      → Follows w.shared s.code s.request q.at word → IsSound c (goes_on w r word)
  plain_sound word plain no_commit follows = goes_sound c w old r running going word no_commit (plain_goes plain) follows

  pub pass_sound : passes c q.descriptor q.trail (s.code q.at) ≡ true → IsSound c (goes_on w r q.word)
  pass_sound pass =
      let check = pass_checks c q.descriptor q.trail _ pass in
      let agreed : passes c q.descriptor s.log (s.code q.at) ≡ true =
      sym (passes_same c s.lock s.code s.slot own.published.line q.descriptor q.at q.trail s.log
      (λ k lt. run.in_trail.agreed k (let e = run.in_trail.counted in omega arith))) ∙ pass in
      goes_sound c w old r running going q.word (check_commits _ check)
      (λ at.
      let check' : is_check (s.code s.edge) ≡ true = subst (λ n. is_check (s.code n) ≡ true) at check in
      let quiet = check_quiet _ check' in
      record {
        goes = subst (λ n. is_stop c q.descriptor s.log (s.code n) ≡ false) at (pass_goes c q.descriptor s.log (s.code q.at) agreed);
        no_exchange = λ p k v e. not_both _ check' (ap is_check e);
        hold = λ p free e. absurd (not_both _ check' (ap is_check e));
        stamp = λ e. absurd (not_both _ e quiet.0);
        raise = λ e. absurd (not_both _ e quiet.1);
        reply = λ e. absurd (not_both _ e quiet.2);
        alone = λ p k e. absurd (not_both _ check' (ap is_check e));
      })
      (follows_any _ _ _ _ _ (check_numbers _ check))
