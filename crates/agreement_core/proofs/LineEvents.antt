-- Each event of a run's line keeps the invariant.
use Rattle.std.proofs.Common.{◌≡◌, ◌≢◌, ℕ, zero, suc, ◌+◌, ◌*◌, ◌/◌, ◌<◌, ◌≤◌, Bool, true, false, refl, sym, ap, ◌∙◌, subst, ⊎_elim, arith}
use Rattle.std.proofs.lemmas.Bool.{cases_lt, cases_eq}
use Rattle.std.specs.Prelude.{max}
use Rattle.section_lines.specs.structure_laws.specs.body_terms.specs.Update.{upd}
use Rattle.section_lines.specs.structure_laws.specs.body_terms.specs.Run.{written_once}
use Rattle.section_lines.specs.structure_laws.specs.body_terms.specs.Line.{is_event, is_commit, is_check}
use Rattle.section_lines.specs.structure_laws.specs.body_terms.specs.Word.{version_of, held_word}
use Rattle.section_lines.specs.structure_laws.specs.body_terms.specs.declared.micro.Source.{Source}
use Rattle.section_lines.specs.structure_laws.specs.body_terms.specs.declared.micro.Micro.{Micro}
use Rattle.section_lines.specs.structure_laws.specs.body_terms.specs.declared.micro.Micro.TheVariants as micros
use Rattle.section_lines.specs.Line.{phase, is_clock_raise}
use Rattle.agreement_core.specs.State.{CellRules, Section, Run, AgreementState}
use Rattle.agreement_core.specs.Checks.{passes, stored_word, is_stamp_exchange, is_reply_exchange}
use Rattle.agreement_core.specs.Events.{Enabled, after, HasCome, reads, with_cell}
use Rattle.agreement_core.specs.Events.{LoadCell, Commit, NestedLoad, NestedCommit, NestedHold, OutcomeLoad, OutcomeCommit, PrivateLoad, PrivateStore, MakeCommit, ClockLoad, StampExchange, ClockRaise, ExchangeCell, EpochForRetire, RetireCommit, ReplyExchange}
use Rattle.agreement_core.specs.Sound.{UsedIsSound, IsSound}
use Rattle.agreement_core.proofs.Frame.{undone, not_both}
use Rattle.agreement_core.proofs.Committing.{upd_here}
use Rattle.agreement_core.proofs.Following.{follows_any, gives_number}
use Rattle.agreement_core.proofs.Stepping.{goes_sound}
use Rattle.agreement_core.proofs.Changing.{fails_sound, store_sound, hold_sound}
use Rattle.agreement_core.proofs.Reading.{reads_sound, marks_here, stamps_sound, written_some, replies_sound, raises_sound, stores_sound}
use Rattle.agreement_core.proofs.LineSteps.{is_plain, plain_sound, commit_sound, nested_commit_sound, outcome_commit_sound, make_commit_sound, retire_commit_sound, same_load, same_outcome, same_nested, same_hold, above_left, above_right}
use Rattle.agreement_core.proofs.Lines.{event_goes, load_of_hold, store_logged}

-- the load of an outcome
abbrev is_outcome : Micro → Bool
is_outcome (micros.OutcomeLoad p k) = true
is_outcome _ = false

pub positive : (n : ℕ) → n ≢ 0 → 0 < n
positive zero ne = absurd (ne refl)
positive (suc n) ne = omega arith

same_reply : (n n' : ℕ) → micros.ReplyExchange n ≡ micros.ReplyExchange n' → n ≡ n'
same_reply n n' e = grind arith

free_passes : (c : CellRules) (d : ℕ) (log : ℕ → ℕ) (p k free : ℕ) → passes c d log (micros.CheckFree p k free) ≡ true → log k ≡ free
free_passes c d log p k free h = grind arith

pub above : (a b : ℕ) → version_of a < version_of b → b ≢ a
above a b lt e = let same : version_of b ≡ version_of a = ap version_of e in never _ _ lt same
  where
    never : (m n : ℕ) → m < n → n ≡ m → ⊥
    never m n lt e = omega arith

module _ (c : CellRules) (w : AgreementState) (old : IsSound c w) (r : ℕ) where
  abbrev q : Run
  q = w.run r

  abbrev s : Section
  s = w.section q.descriptor

  -- a cell that was read now
  seen_here : (place : ℕ) → (reads w place).shared.seen place (w.shared.cells place) ≡ true
  seen_here place = marks_here w.shared.seen place (w.shared.cells place)

  cell_at : (place place' : ℕ) → place' ≡ place → w.shared.cells place ≡ w.shared.cells place'
  cell_at place place' e = ap w.shared.cells (sym e)

  seen_at : (place place' : ℕ) → place' ≡ place → (reads w place).shared.seen place' (w.shared.cells place) ≡ true
  seen_at place place' e = ap (λ n. (reads w place).shared.seen n (w.shared.cells place)) e ∙ seen_here place

  pub load_cell : (place log : ℕ) → Enabled c w (LoadCell r place log) → IsSound c (after w (LoadCell r place log))
  load_cell place log ok =
      let at = ok.0 in
      goes_sound c (reads w place) (reads_sound c w place old) r at.running at.going (w.shared.cells place) (ap is_commit at.next)
      (λ edge. let here : s.code s.edge ≡ micros.LoadCell place log = ap s.code (sym edge) ∙ at.next in record {
        goes = event_goes c _ _ _ (ap is_event here);
        no_exchange = λ p k v e. let a : 1 ≡ 4 = ap phase (sym here ∙ e) in omega arith;
        hold = λ p free e. absurd (not_both _ (ap gives_number here) (ap gives_number e));
        stamp = λ e. absurd (not_both _ e (ap is_stamp_exchange here));
        raise = λ e. absurd (not_both _ e (ap is_clock_raise here));
        reply = λ e. absurd (not_both _ e (ap is_reply_exchange here));
        alone = λ p k e d' ne o come. ok.1 edge (undone c q.descriptor s (old.sections _ (old.running_used r at.running)).section.in_log
            (event_goes c _ _ _ (ap is_event here)))
            d' ne (record { used = o.used; undone = o.undone })
            (subst (HasCome (w.section d')) (same_load place log p k (sym here ∙ e)) come);
      })
      (record {
        cell = λ p k e. let same = same_load place log p k (sym at.next ∙ e) in (cell_at place p same, seen_at place p same);
        nested = λ p k e. absurd (not_both _ (ap is_plain e) (ap is_plain at.next));
        outcome = λ p k e. absurd (not_both _ (ap is_plain e) (ap is_plain at.next));
        clock = λ e. absurd (not_both _ (ap is_plain e) (ap is_plain at.next));
        stamp = λ e. let a : 1 ≡ 3 = ap phase (sym at.next ∙ e) in absurd (omega arith);
      })

  -- a lock that is loaded isn't the cell of a Load
  pub nested_load : (place log : ℕ) → Enabled c w (NestedLoad r place log) → IsSound c (after w (NestedLoad r place log))
  nested_load place log at =
      plain_sound c (reads w place) (reads_sound c w place old) r at.running at.going (w.shared.cells place) (ap is_plain at.next)
      (ap is_commit at.next)
      (record {
        cell = λ p k e. absurd (not_both _ (ap is_plain at.next) (ap is_plain e));
        nested = λ p k e. seen_at place p (same_nested place log p k (sym at.next ∙ e));
        outcome = λ p k e. absurd (not_both _ (ap is_outcome e) (ap is_outcome at.next));
        clock = λ e. let a : 1 ≡ 3 = ap phase (sym at.next ∙ e) in absurd (omega arith);
        stamp = λ e. let a : 1 ≡ 3 = ap phase (sym at.next ∙ e) in absurd (omega arith);
      })

  pub outcome_load : (place log : ℕ) → Enabled c w (OutcomeLoad r place log) → IsSound c (after w (OutcomeLoad r place log))
  outcome_load place log at =
      plain_sound c (reads w place) (reads_sound c w place old) r at.running at.going (w.shared.cells place) (ap is_plain at.next)
      (ap is_commit at.next)
      (record {
        cell = λ p k e. absurd (not_both _ (ap is_plain at.next) (ap is_plain e));
        nested = λ p k e. absurd (not_both _ (ap is_outcome at.next) (ap is_outcome e));
        outcome = λ p k e. let same = same_outcome place log p k (sym at.next ∙ e) in (cell_at place p same, seen_at place p same);
        clock = λ e. let a : 1 ≡ 3 = ap phase (sym at.next ∙ e) in absurd (omega arith);
        stamp = λ e. let a : 1 ≡ 3 = ap phase (sym at.next ∙ e) in absurd (omega arith);
      })

  pub commit : (place log : ℕ) → Enabled c w (Commit r place log) → IsSound c (after w (Commit r place log))
  commit place log at = commit_sound c w old r at.running at.going place log at.next

  pub nested_commit : (place log : ℕ) → Enabled c w (NestedCommit r place log) → IsSound c (after w (NestedCommit r place log))
  nested_commit place log at = nested_commit_sound c w old r at.running at.going place log at.next

  pub outcome_commit : (place log : ℕ) → Enabled c w (OutcomeCommit r place log) → IsSound c (after w (OutcomeCommit r place log))
  outcome_commit place log at = outcome_commit_sound c w old r at.running at.going place log at.next

  pub make_commit : (log proposal : ℕ) → Enabled c w (MakeCommit r log proposal) → IsSound c (after w (MakeCommit r log proposal))
  make_commit log proposal ok = let at = ok.0 in make_commit_sound c w old r at.running at.going log proposal at.next
      (positive proposal ok.1)

  pub retire_commit : (slot log : ℕ) → Enabled c w (RetireCommit r slot log) → IsSound c (after w (RetireCommit r slot log))
  retire_commit slot log at = retire_commit_sound c w old r at.running at.going slot log at.next

  pub private_load : (cell log place : ℕ) → Enabled c w (PrivateLoad r cell log place) → IsSound c (after w (PrivateLoad r cell log place))
  private_load cell log place at =
      plain_sound c (reads w place) (reads_sound c w place old) r at.running at.going (w.shared.cells place) (ap is_plain at.next)
      (ap is_commit at.next) (follows_any _ _ _ _ _ (ap gives_number at.next))

  pub private_store : (cell log : ℕ) (v : Source) (place word : ℕ) → Enabled c w (PrivateStore r cell log v place word)
      → IsSound c (after w (PrivateStore r cell log v place word))
  private_store cell log v place word ok =
      let at = ok.0 in
      plain_sound c (with_cell w place word) (stores_sound c w place word ok.1 old) r at.running at.going q.word (ap is_plain at.next)
      (ap is_commit at.next) (follows_any _ _ _ _ _ (ap gives_number at.next))

  pub epoch_for_retire : (slot log epoch : ℕ) → Enabled c w (EpochForRetire r slot log epoch)
      → IsSound c (after w (EpochForRetire r slot log epoch))
  epoch_for_retire slot log epoch at =
      plain_sound c w old r at.running at.going epoch (ap is_plain at.next) (ap is_commit at.next)
      (follows_any _ _ _ _ _ (ap gives_number at.next))

  pub clock_load : Enabled c w (ClockLoad r) → IsSound c (after w (ClockLoad r))
  clock_load at =
      plain_sound c w old r at.running at.going w.shared.clock (ap is_plain at.next) (ap is_commit at.next)
      (record {
        cell = λ p k e. let a : 3 ≡ 1 = ap phase (sym at.next ∙ e) in absurd (omega arith);
        nested = λ p k e. let a : 3 ≡ 1 = ap phase (sym at.next ∙ e) in absurd (omega arith);
        outcome = λ p k e. let a : 3 ≡ 1 = ap phase (sym at.next ∙ e) in absurd (omega arith);
        clock = λ e. omega arith;
        stamp = λ e. absurd (not_both _ (ap is_plain at.next) (ap is_plain e));
      })

  own : (w.run r).running ≡ true → UsedIsSound c w.shared (w.live q.descriptor) (w.over q.descriptor) q.descriptor s
  own running = old.sections q.descriptor (old.running_used r running)

  pub stamp_exchange : Enabled c w (StampExchange r) → IsSound c (after w (StampExchange r))
  stamp_exchange at =
      let word = written_once (w.shared.stamp s.request) (2 * (q.word + 1)) in
      goes_sound c (record w { shared = record (w.shared) { stamp = upd w.shared.stamp s.request word } })
      (stamps_sound c w s.request (2 * (q.word + 1)) old) r at.running at.going word (ap is_commit at.next)
      (λ edge. let here : s.code s.edge ≡ micros.StampExchange = ap s.code (sym edge) ∙ at.next in record {
        goes = event_goes c _ _ _ (ap is_event here);
        no_exchange = λ p k v e. let a : 3 ≡ 4 = ap phase (sym here ∙ e) in omega arith;
        hold = λ p free e. let a : 3 ≡ 1 = ap phase (sym here ∙ e) in absurd (omega arith);
        stamp = λ e. written_some w.shared.stamp s.request (2 * (q.word + 1)) (omega arith);
        raise = λ e. absurd (not_both _ e (ap is_clock_raise here));
        reply = λ e. absurd (not_both _ e (ap is_reply_exchange here));
        alone = λ p k e. let a : 3 ≡ 1 = ap phase (sym here ∙ e) in absurd (omega arith);
      })
      (record {
        cell = λ p k e. let a : 3 ≡ 1 = ap phase (sym at.next ∙ e) in absurd (omega arith);
        nested = λ p k e. let a : 3 ≡ 1 = ap phase (sym at.next ∙ e) in absurd (omega arith);
        outcome = λ p k e. let a : 3 ≡ 1 = ap phase (sym at.next ∙ e) in absurd (omega arith);
        clock = λ e. absurd (not_both _ (ap is_stamp_exchange at.next) (ap is_stamp_exchange e));
        stamp = λ e. sym (upd_here w.shared.stamp s.request word);
      })

  pub clock_raise : Enabled c w (ClockRaise r) → IsSound c (after w (ClockRaise r))
  clock_raise at =
      let clock = max w.shared.clock (q.word / 2) in
      goes_sound c (record w { shared = record (w.shared) { clock = clock } })
      (raises_sound c w clock (above_left w.shared.clock (q.word / 2)) old) r at.running at.going q.word (ap is_commit at.next)
      (λ edge. let here : s.code s.edge ≡ micros.ClockRaise = ap s.code (sym edge) ∙ at.next in record {
        goes = event_goes c _ _ _ (ap is_event here);
        no_exchange = λ p k v e. let a : 3 ≡ 4 = ap phase (sym here ∙ e) in omega arith;
        hold = λ p free e. let a : 3 ≡ 1 = ap phase (sym here ∙ e) in absurd (omega arith);
        stamp = λ e. absurd (not_both _ e (ap is_stamp_exchange here));
        raise = λ e. subst (λ n. n / 2 ≤ clock) ((old.runs r at.running).in_word.stamp_agreed (ap is_clock_raise at.next))
            (above_right w.shared.clock (q.word / 2));
        reply = λ e. absurd (not_both _ e (ap is_reply_exchange here));
        alone = λ p k e. let a : 3 ≡ 1 = ap phase (sym here ∙ e) in absurd (omega arith);
      })
      (follows_any _ _ _ _ _ (ap gives_number at.next))

  -- a reply isn't 0
  pub reply_is : (reply : ℕ) → Enabled c w (ReplyExchange r reply) → 0 < reply
  reply_is reply at =
      let line = (own at.running).published.line.stamped in
      let is : reply ≡ line.reply = same_reply reply line.reply
      (sym at.next ∙ ap s.code (line.answer_once q.at reply at.next) ∙ line.answers) in
      positive reply (λ e. line.replies (sym is ∙ e))

  pub reply_exchange : (reply : ℕ) → Enabled c w (ReplyExchange r reply) → IsSound c (after w (ReplyExchange r reply))
  reply_exchange reply at =
      goes_sound c (record w {
        shared = record (w.shared) {
          reply = upd w.shared.reply s.request
              (written_once (w.shared.reply s.request) reply);
        };
      }) (replies_sound c w s.request reply old) r at.running at.going q.word
      (ap is_commit at.next)
      (λ edge. let here : s.code s.edge ≡ micros.ReplyExchange reply = ap s.code (sym edge) ∙ at.next in record {
        goes = event_goes c _ _ _ (ap is_event here);
        no_exchange = λ p k v e. let a : 6 ≡ 4 = ap phase (sym here ∙ e) in omega arith;
        hold = λ p free e. let a : 6 ≡ 1 = ap phase (sym here ∙ e) in absurd (omega arith);
        stamp = λ e. absurd (not_both _ e (ap is_stamp_exchange here));
        raise = λ e. absurd (not_both _ e (ap is_clock_raise here));
        reply = λ e. written_some w.shared.reply s.request reply (reply_is reply at);
        alone = λ p k e. let a : 6 ≡ 1 = ap phase (sym here ∙ e) in absurd (omega arith);
      })
      (follows_any _ _ _ _ _ (ap gives_number at.next))

  -- a late store finds the cell past the agreed word
  pub store_misses : (place log : ℕ) (v : Source) → (w.run r).running ≡ true → s.code q.at ≡ micros.ExchangeCell place log v → q.at < s.edge
      → w.shared.cells place ≢ q.trail log
  store_misses place log v running next lt e =
      let logged = store_logged c s.lock s.code s.slot (own running).published.line q.at place log v next in
      let run = old.runs r running in
      let agreed = run.in_trail.agreed log (let n = run.in_trail.counted in omega arith) in
      above _ _ ((own running).section.in_cells.left q.at place log v lt next) (e ∙ agreed)

  pub exchange_cell : (place log : ℕ) (v : Source) → Enabled c w (ExchangeCell r place log v)
      → IsSound c (after w (ExchangeCell r place log v))
  exchange_cell place log v at = ⊎_elim
      (λ lt. fails_sound c w old r at.running at.going place (q.trail log) (stored_word q.trail log v)
      (store_misses place log v at.running at.next lt)
      (goes_sound c w old r at.running at.going q.word (ap is_commit at.next)
      (λ edge. absurd (omega arith)) (follows_any _ _ _ _ _ (ap gives_number at.next))))
      (λ le.
      let edge : q.at ≡ s.edge = let b = (old.runs r at.running).in_trail.behind in omega arith in
      store_sound c w old r at.running at.going edge place log v (ap s.code (sym edge) ∙ at.next))
      (cases_lt q.at s.edge)

  -- a try on a nested lock finds it past the expected word, or free
  hold_misses : (place free : ℕ) → (w.run r).running ≡ true → q.at ≡ s.edge → s.code s.edge ≡ micros.NestedHold place free
      → w.shared.cells place ≢ free → version_of free < version_of (w.shared.cells place)
  hold_misses place free running edge next ne =
      let o = own running in
      let j = load_of_hold c s.lock s.code s.slot o.published.line s.edge place free next in
      let far = j.2 in
      let agreed : s.log j.1 ≡ free = free_passes c q.descriptor s.log place j.1 free
      (ap (passes c q.descriptor s.log) (sym j.5) ∙ o.section.in_log.passed (suc (suc j.0)) (omega arith) (ap is_check j.5)) in
      let read = o.section.in_locks.nested_read (suc j.0) place j.1 (omega arith) j.4 in
      subst (λ n. version_of n < version_of (w.shared.cells place)) agreed
      (⊎_elim (λ e. absurd (ne (e ∙ agreed))) (λ lt. lt) (old.versions.past place (s.log j.1) read))

  hold_fails : (place free : ℕ) → Enabled c w (NestedHold r place free) → w.shared.cells place ≢ free
      → IsSound c (after w (NestedHold r place free))
  hold_fails place free at ne =
      fails_sound c w old r at.running at.going place free (held_word q.descriptor free) ne
      (goes_sound c w old r at.running at.going q.word (ap is_commit at.next)
      (λ edge. let here : s.code s.edge ≡ micros.NestedHold place free = ap s.code (sym edge) ∙ at.next in record {
        goes = event_goes c _ _ _ (ap is_event here);
        no_exchange = λ p k v e. let a : 1 ≡ 4 = ap phase (sym here ∙ e) in omega arith;
        hold = λ p free' e. let same = same_hold place free p free' (sym here ∙ e) in
            subst (λ n. version_of free' < version_of (w.shared.cells n)) (sym same.0)
            (subst (λ n. version_of n < version_of (w.shared.cells place)) (sym same.1)
            (hold_misses place free at.running edge here ne));
        stamp = λ e. absurd (not_both _ e (ap is_stamp_exchange here));
        raise = λ e. absurd (not_both _ e (ap is_clock_raise here));
        reply = λ e. absurd (not_both _ e (ap is_reply_exchange here));
        alone = λ p k e. absurd (not_both _ (ap gives_number e) (ap gives_number here));
      })
      (follows_any _ _ _ _ _ (ap gives_number at.next)))

  pub nested_hold : (place free : ℕ) → Enabled c w (NestedHold r place free) → IsSound c (after w (NestedHold r place free))
  nested_hold place free at = ⊎_elim
      (λ finds. ⊎_elim
      (λ lt. absurd (above _ _ ((own at.running).section.in_locks.nested_past q.at place free lt at.next) finds))
      (λ le.
      let edge : q.at ≡ s.edge = let b = (old.runs r at.running).in_trail.behind in omega arith in
      hold_sound c w old r at.running at.going edge place free (ap s.code (sym edge) ∙ at.next) finds)
      (cases_lt q.at s.edge))
      (λ ne. hold_fails place free at ne)
      (cases_eq (w.shared.cells place) free)
