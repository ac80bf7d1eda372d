-- Each event of agreement keeps the completed memory, or leads its map on.
use Rattle.std.proofs.Common.{◌≡◌, ◌≢◌, ℕ, Bool, true, false, refl, sym, ap, ◌∙◌, subst, ⊎_elim, arith}
use Rattle.std.specs.Prelude.{Option, None}
use Rattle.std.proofs.lemmas.Bool.{cases_eq}
use Rattle.std.proofs.lemmas.Option.{slice_get_within, slice_get_cases}
use mathlib.Core.Logic.{dite}
use native.Mathlib.Decide.{ℕ_discrete}
use Rattle.agreement_core.specs.map_history.specs.Replay.{Pairs}
use Rattle.agreement_core.specs.body_terms.specs.Update.{upd}
use Rattle.agreement_core.specs.body_terms.specs.Run.{written_once}
use Rattle.agreement_core.specs.body_terms.specs.Word.{next_word, held_word}
use Rattle.agreement_core.specs.body_terms.specs.Line.{is_event, is_commit, is_check}
use Rattle.agreement_core.specs.body_terms.specs.declared.step.Step.TheVariants.{Store}
use Rattle.agreement_core.specs.body_terms.specs.declared.micro.Micro.{Micro}
use Rattle.agreement_core.specs.body_terms.specs.declared.micro.Micro.TheVariants as micros
use Rattle.agreement_core.specs.table_words.specs.declared.layout.Layout.{Layout}
use Rattle.agreement_core.specs.table_words.specs.Limits.{IsWithinLimits}
use Rattle.agreement_core.specs.section_lines.specs.structure_laws.specs.Scene.{Status, Readings}
use Rattle.agreement_core.specs.section_lines.specs.structure_laws.specs.Scene as scenes
use Rattle.agreement_core.specs.section_lines.specs.structure_laws.specs.Meaning.{Meaning}
use Rattle.agreement_core.specs.section_lines.specs.structure_laws.specs.Sections.{Here, Settled, Ended}
use Rattle.agreement_core.specs.section_lines.specs.structure_laws.specs.Laws.{Laws}
use Rattle.agreement_core.specs.section_lines.specs.structure_laws.proofs.Changes.{upd_same, upd_other}
use Rattle.agreement_core.specs.section_lines.specs.Line.{IsLine}
use Rattle.agreement_core.specs.State.{Section, AgreementState}
use Rattle.agreement_core.specs.Events as agreement
use Rattle.agreement_core.specs.Events.{Event, Enabled, IsBefore, step_of}
use Rattle.agreement_core.specs.Events.{Publish, RetireDescriptor, Free, StoreLog, StoreDone, Read, Open, Pass, SetDone, Release, Finish, LoadCell, Commit, NestedLoad, NestedCommit, NestedHold, OutcomeLoad, OutcomeCommit, PrivateLoad, PrivateStore, MakeCommit, ClockLoad, StampExchange, ClockRaise, ExchangeCell, EpochForRetire, RetireCommit, ReplyExchange, ReadReply, ReadStamp}
use Rattle.agreement_core.proofs.LineSteps.{pass_checks}
use Rattle.agreement_core.proofs.Words.{version_held, version_next}
use Rattle.agreement_core.proofs.Lines.{hold_lock}
use Rattle.agreement_core.proofs.Releasing.{taken_lock}
use Rattle.epoch_core.specs.State.{Counts}
use Rattle.read_answers.specs.completed_memory.specs.Pending.{StillStores}
use Rattle.read_answers.specs.completed_memory.proofs.Stores.{come_settled}
use Rattle.machine_scenes.specs.Shown.{Publications, States, rules_of, scene_of, status_of, reader_of, section_of}
use Rattle.machine_scenes.specs.Kinds.{is_plain}
use Rattle.machine_scenes.specs.Steps.{Agreement}
use Rattle.machine_scenes.specs.Kept.{IsKept}
use Rattle.machine_scenes.proofs.Shown.{shown_unused, shown_done}
use Rattle.machine_scenes.proofs.Running.{own, event_open, pass_open, within_shown, late_agreed}
use Rattle.machine_scenes.proofs.RunSteps.{ends}
use Rattle.machine_scenes.proofs.Events.{stops_of}
use Rattle.machine_scenes.proofs.Links.{true_false}
use Rattle.machine_history.specs.Memory.{passed_stamp, marks_of, pairs_after, MemoryStands}
use Rattle.machine_history.proofs.Marks.{is_early}
use Rattle.machine_history.proofs.Leaving.{some_none, some_inj, Keep, completed_on}
use Rattle.machine_history.proofs.Standing.{are_marked}
use Rattle.machine_history.proofs.Runs.{there, marks_same, run_memory, early_leads, raise_leads, epoch_leads, reply_leads}
use Rattle.machine_history.proofs.Changing.{still, lock_exchanged}
use Rattle.machine_history.proofs.Stamps.{stamp_memory, store_memory}

check_early : (x : Micro) → is_check x ≡ true → is_early x ≡ true
check_early x check = grind arith

check_other : (x : Micro) → is_check x ≡ true → x ≢ micros.StampExchange
check_other x check is = true_false (sym (ap is_check is) ∙ check) refl

module _ (m : Meaning) (laws : Laws m) (layout : Layout) (limits : IsWithinLimits layout) (c : Counts) (j : States) (kept : IsKept m layout c j)
    (pairs : Pairs) (memory : MemoryStands m layout c j pairs) where
  abbrev a : AgreementState
  a = j.agreement

  abbrev p : Publications
  p = j.publications

  -- the states after an event of agreement
  abbrev pub next : Event → States
  next v = record j { agreement = agreement.after j.agreement v }

  abbrev section : ℕ → Section
  section r = a.section ((a.run r).descriptor)

  line_of : (r : ℕ) → (a.run r).running ≡ true → (a.run r).ended ≡ false
      → IsLine ((rules_of m layout).is_lock) layout.version_max ((section r).lock) ((section r).code) ((section r).slot)
  line_of r running going = (own m layout p a kept.agreement kept.thunks r running going).published.line

  -- a step before the exchange of the stamp that commits nothing
  early_step : (r : ℕ) (x : Micro) → IsBefore a r x → is_early x ≡ true → is_event x ≡ true → x ≢ micros.StampExchange → (j' : States)
      → ((place : ℕ) → j'.agreement.shared.cells place ≡ a.shared.cells place)
      → ((e : ℕ) → (scene_of m c j').section e ≡ (scene_of m c (next (ClockLoad r))).section e) → ((e : ℕ) → marks_of j'.agreement e ≡ marks_of (next (ClockLoad r)).agreement e)
      → MemoryStands m layout c j' pairs
  early_step r x before early event other j' cells sections marks = run_memory m layout c j kept r before.running before.going j' ((section r).log) pairs cells sections marks
      (λ is. other (sym before.next ∙ is)) (λ lt. refl)
      (early_leads m layout c j kept r before.running before.going ((section r).log) x before.next early
      (event_open m layout p a kept.agreement kept.thunks r before.running before.going (ap is_event before.next ∙ event))) memory

  -- a commit before it
  pub early_commit : (r : ℕ) (x : Micro) (log proposal : ℕ) → IsBefore a r x → is_early x ≡ true → is_event x ≡ true → is_commit x ≡ true → x ≢ micros.StampExchange
      → log ≡ (section r).slot ((a.run r).at) → (j' : States) → ((place : ℕ) → j'.agreement.shared.cells place ≡ a.shared.cells place)
      → ((e : ℕ) → (scene_of m c j').section e ≡ (scene_of m c (next (MakeCommit r log proposal))).section e)
      → ((e : ℕ) → marks_of j'.agreement e ≡ marks_of (next (MakeCommit r log proposal)).agreement e) → MemoryStands m layout c j' pairs
  early_commit r x log proposal before early event commit other at j' cells sections marks =
      let log' = upd ((section r).log) log (written_once ((section r).log log) proposal) in
      run_memory m layout c j kept r before.running before.going j' log' pairs cells sections marks (λ is. other (sym before.next ∙ is))
      (late_agreed m layout p a kept.agreement kept.thunks r before.running before.going log proposal at (ap is_commit before.next ∙ commit))
      (early_leads m layout c j kept r before.running before.going log' x before.next early
      (event_open m layout p a kept.agreement kept.thunks r before.running before.going (ap is_event before.next ∙ event))) memory

  -- a section changes that isn't published
  unused : (d : ℕ) (x : Section) → a.used d ≡ false → (j' : States) → ((place : ℕ) → j'.agreement.shared.cells place ≡ a.shared.cells place)
      → ((e : ℕ) → (scene_of m c j').section e ≡ section_of m p e (a.used e) (upd a.section d x e))
      → ((e : ℕ) → marks_of j'.agreement e ≡ passed_stamp ((upd a.section d x e).code) ((upd a.section d x e).edge)) → MemoryStands m layout c j' pairs
  unused d x none j' cells sections marks = still m laws layout limits c j kept pairs memory j' same marked cells
    where
      same : (e : ℕ) → (scene_of m c j').section e ≡ (scene_of m c j).section e
      same e = sections e ∙ dite (ℕ_discrete e d)
          (λ is. shown_unused m p e (a.used e) (upd a.section d x e) (ap a.used is ∙ none) ∙ sym (shown_unused m p e (a.used e) (a.section e) (ap a.used is ∙ none)))
          (λ other. ap (section_of m p e (a.used e)) (upd_other a.section d e x other))

      marked : (e : ℕ) (y : scenes.Section) → Here (scene_of m c j) e y → marks_of j'.agreement e ≡ marks_of a e
      marked e y here = dite (ℕ_discrete e d)
          (λ is. absurd (some_none (sym here ∙ shown_unused m p e (a.used e) (a.section e) (ap a.used is ∙ none))))
          (λ other. marks e ∙ ap (λ x. passed_stamp (x.code) (x.edge)) (upd_other a.section d e x other))

  pub free_memory : (d : ℕ) → Enabled (rules_of m layout) a (Free d) → MemoryStands m layout c (next (Free d)) pairs
  free_memory d ok = still m laws layout limits c j kept pairs memory (next (Free d)) same (λ e x here. refl) (λ n. refl)
    where
      closed : (b : Bool) → a.used d ≡ b → (scene_of m c j).section d ≡ None
      closed true is = shown_done m p d (a.used d) (a.section d) (λ un. true_false ((kept.agreement.sections d is).open_live un) ok.0)
      closed false is = shown_unused m p d (a.used d) (a.section d) is

      same : (e : ℕ) → section_of m p e (upd a.used d false e) (a.section e) ≡ (scene_of m c j).section e
      same e = dite (ℕ_discrete e d)
          (λ is. shown_unused m p e (upd a.used d false e) (a.section e) (upd_same a.used d e false is) ∙ sym (ap ((scene_of m c j).section) is ∙ closed (a.used d) refl))
          (λ other. ap (λ b. section_of m p e b (a.section e)) (upd_other a.used d e false other))

  pub done_memory : (r : ℕ) → Enabled (rules_of m layout) a (SetDone r) → MemoryStands m layout c (next (SetDone r)) pairs
  done_memory r ok = ⊎_elim
      (λ un. record {
        cells = memory.cells;
        completed = completed_on m layout (scene_of m c j) (scene_of m c (next (SetDone r))) (marks_of a) (marks_of (next (SetDone r)).agreement) memory.cells memory.completed (λ n. refl)
            (keep un) back;
        stands = memory.stands;
      })
      (λ done. still m laws layout limits c j kept pairs memory (next (SetDone r)) (same done) (λ e x here. marked e) (λ n. refl))
      (cases_eq ((section r).done) 0)
    where
      some_done : (n : ℕ) → written_once n 1 ≢ 0
      some_done n e = grind arith

      after : Section
      after = record (section r) { done = written_once ((section r).done) 1 }

      status : ℕ → Status
      status t = status_of c j.epochs.location t

      reader : ℕ → Option Readings
      reader i = reader_of j.epochs j.walk i

      marked : (e : ℕ) → marks_of (next (SetDone r)).agreement e ≡ marks_of a e
      marked e = dite (ℕ_discrete e ((a.run r).descriptor))
          (λ is. ap (λ x. passed_stamp (x.code) (x.edge)) (upd_same a.section ((a.run r).descriptor) e (record (section r) { done = written_once ((section r).done) 1 }) is) ∙ ap (marks_of a) (sym is))
          (λ other. ap (λ x. passed_stamp (x.code) (x.edge)) (upd_other a.section ((a.run r).descriptor) e (record (section r) { done = written_once ((section r).done) 1 }) other))

      now_done : (e : ℕ) → e ≡ (a.run r).descriptor → (scene_of m c (next (SetDone r))).section e ≡ None
      now_done e is = shown_done m p e (a.used e) (upd a.section ((a.run r).descriptor) (record (section r) { done = written_once ((section r).done) 1 }) e)
          (λ none. some_done ((section r).done) (sym (ap (λ x. x.done) (upd_same a.section ((a.run r).descriptor) e (record (section r) { done = written_once ((section r).done) 1 }) is)) ∙ none))

      others : (e : ℕ) → e ≢ (a.run r).descriptor → (scene_of m c (next (SetDone r))).section e ≡ (scene_of m c j).section e
      others e other = ap (section_of m p e (a.used e)) (upd_other a.section ((a.run r).descriptor) e (record (section r) { done = written_once ((section r).done) 1 }) other)

      same : (section r).done ≢ 0 → (e : ℕ) → (scene_of m c (next (SetDone r))).section e ≡ (scene_of m c j).section e
      same done e = dite (ℕ_discrete e ((a.run r).descriptor))
          (λ is. now_done e is ∙ sym (shown_done m p e (a.used e) (a.section e) (λ none. done (ap (λ d. (a.section d).done) (sym is) ∙ none))))
          (others e)

      -- a settled section is done at its end
      stored : (section r).done ≡ 0 → (z : scenes.Section) (n w : ℕ) → Here (scene_of m c j) ((a.run r).descriptor) z → marks_of a ((a.run r).descriptor) ≡ true → StillStores m z n w → ⊥
      stored un z n w here mark store =
          let is = some_inj (sym here ∙ there m layout c j kept r ok.0 ok.1 un) in
          let come = (are_marked m layout c j kept).come ((a.run r).descriptor) z here mark in
          let settled = come_settled m layout z (kept.lawful.shaped ((a.run r).descriptor) z here) come in
          let end = subst (Ended m) (sym is) (ends m laws layout limits p j.epochs.epoch status reader a kept.agreement kept.thunks kept.lawful r ok.0 ok.1
          (stops_of (rules_of m layout) a kept.agreement r ok) (subst (Settled m) is settled)) in
          let within = slice_get_within (m.body z.thunk) store.at (Store store.reg store.value) store.stores in
          let later = store.later in
          ⊎_elim (λ inside. some_none (sym inside.2 ∙ end)) (λ past. let long = past.0 in omega arith) ((slice_get_cases (m.body z.thunk) z.at).1)

      keep : (section r).done ≡ 0 → Keep m layout (scene_of m c j) (scene_of m c (next (SetDone r))) (marks_of a) (marks_of (next (SetDone r)).agreement)
      keep un e z n w here mark store = dite (ℕ_discrete e ((a.run r).descriptor))
          (λ is. absurd (stored un z n w (subst (λ e. Here (scene_of m c j) e z) is here) (subst (λ e. marks_of a e ≡ true) is mark) store))
          (λ other. (z, others e other ∙ here, marked e ∙ mark, store))

      back : Keep m layout (scene_of m c (next (SetDone r))) (scene_of m c j) (marks_of (next (SetDone r)).agreement) (marks_of a)
      back e z n w here mark store = dite (ℕ_discrete e ((a.run r).descriptor))
          (λ is. absurd (some_none (sym here ∙ now_done e is)))
          (λ other. (z, sym (others e other) ∙ here, sym (marked e) ∙ mark, store))

  pass_memory : (r : ℕ) → Enabled (rules_of m layout) a (Pass r) → MemoryStands m layout c (next (Pass r)) pairs
  pass_memory r ok =
      let check = pass_checks (rules_of m layout) ((a.run r).descriptor) ((a.run r).trail) (step_of a r) ok.2 in
      run_memory m layout c j kept r ok.0 ok.1 (next (Pass r)) ((section r).log) pairs (λ n. refl) (λ e. refl) (λ e. refl) (check_other (step_of a r) check) (λ lt. refl)
      (early_leads m layout c j kept r ok.0 ok.1 ((section r).log) (step_of a r) refl (check_early (step_of a r) check)
      (pass_open m layout p a kept.agreement kept.thunks r ok.0 ok.1 ok.2)) memory

  hold_memory : (r place word : ℕ) → IsBefore a r (micros.NestedHold place word) → MemoryStands m layout c (next (NestedHold r place word)) pairs
  hold_memory r place word ok = lock_exchanged m laws layout limits c j kept pairs memory (next (NestedHold r place word))
      (λ e. ap (λ sections. sections e) (within_shown m layout p a kept.agreement kept.thunks r ok.running ok.going (micros.NestedHold place word) ok.next refl
      (event_open m layout p a kept.agreement kept.thunks r ok.running ok.going (ap is_event ok.next))))
      (λ e x here. marks_same m layout c j kept r ok.running ok.going ((section r).log) (λ is. other (sym ok.next ∙ is)) e)
      place word (held_word ((a.run r).descriptor) word)
      (hold_lock (rules_of m layout) ((section r).lock) ((section r).code) ((section r).slot) (line_of r ok.running ok.going) ((a.run r).at) place word ok.next)
      (let e = version_held ((a.run r).descriptor) word (own m layout p a kept.agreement kept.thunks r ok.running ok.going).published.link in omega arith)
      (λ n. refl)
    where
      other : micros.NestedHold place word ≡ micros.StampExchange → ⊥
      other e = cc

  release_memory : (r place word : ℕ) → Enabled (rules_of m layout) a (Release r place word) → MemoryStands m layout c (next (Release r place word)) pairs
  release_memory r place word ok =
      let used = kept.agreement.running_used r ok.0 in
      lock_exchanged m laws layout limits c j kept pairs memory (next (Release r place word)) (λ e. refl) (λ e x here. refl)
      place (held_word ((a.run r).descriptor) word) (next_word (held_word ((a.run r).descriptor) word) 0)
      (taken_lock (rules_of m layout) ((a.run r).descriptor) (section r) (kept.agreement.sections ((a.run r).descriptor) used).published ((a.run r).at) place word ok.2)
      (let e = version_next (held_word ((a.run r).descriptor) word) 0 (omega arith) in omega arith)
      (λ n. refl)

  pub plain_memory : (v : Event) → is_plain v ≡ true → Enabled (rules_of m layout) a v → MemoryStands m layout c (next v) (pairs_after j (Agreement v) pairs)
  plain_memory (Publish d lock word request code slot) plain ok = absurd (cc)
  plain_memory (RetireDescriptor d) plain ok = still m laws layout limits c j kept pairs memory (next (RetireDescriptor d)) (λ e. refl) (λ e x here. refl) (λ n. refl)
  plain_memory (Free d) plain ok = free_memory d ok
  plain_memory (StoreLog d log word) plain ok = unused d (record (a.section d) { log = upd ((a.section d).log) log word }) ok (next (StoreLog d log word)) (λ n. refl) (λ e. refl) (λ e. refl)
  plain_memory (StoreDone d word) plain ok = unused d (record (a.section d) { done = word }) ok (next (StoreDone d word)) (λ n. refl) (λ e. refl) (λ e. refl)
  plain_memory (Read place) plain ok = still m laws layout limits c j kept pairs memory (next (Read place)) (λ e. refl) (λ e x here. refl) (λ n. refl)
  plain_memory (Open r d) plain ok = still m laws layout limits c j kept pairs memory (next (Open r d)) (λ e. refl) (λ e x here. refl) (λ n. refl)
  plain_memory (Pass r) plain ok = pass_memory r ok
  plain_memory (SetDone r) plain ok = done_memory r ok
  plain_memory (Release r place word) plain ok = release_memory r place word ok
  plain_memory (Finish r) plain ok = still m laws layout limits c j kept pairs memory (next (Finish r)) (λ e. refl) (λ e x here. refl) (λ n. refl)
  plain_memory (LoadCell r place log) plain ok = early_step r (micros.LoadCell place log) ok.0 refl refl (λ e. cc) (next (LoadCell r place log)) (λ n. refl) (λ e. refl) (λ e. refl)
  plain_memory (Commit r place log) plain ok = early_commit r (micros.Commit place log) log ((a.run r).word) ok refl refl refl (λ e. cc)
      ((line_of r ok.running ok.going).counted.commit_log ((a.run r).at) place log ok.next) (next (Commit r place log)) (λ n. refl) (λ e. refl) (λ e. refl)
  plain_memory (NestedLoad r place log) plain ok = early_step r (micros.NestedLoad place log) ok refl refl (λ e. cc) (next (NestedLoad r place log)) (λ n. refl) (λ e. refl) (λ e. refl)
  plain_memory (NestedCommit r place log) plain ok = early_commit r (micros.NestedCommit place log) log ((a.run r).word) ok refl refl refl (λ e. cc)
      ((line_of r ok.running ok.going).counted.nested_log ((a.run r).at) place log ok.next) (next (NestedCommit r place log)) (λ n. refl) (λ e. refl) (λ e. refl)
  plain_memory (NestedHold r place word) plain ok = hold_memory r place word ok
  plain_memory (OutcomeLoad r place log) plain ok = early_step r (micros.OutcomeLoad place log) ok refl refl (λ e. cc) (next (OutcomeLoad r place log)) (λ n. refl) (λ e. refl) (λ e. refl)
  plain_memory (OutcomeCommit r place log) plain ok = early_commit r (micros.OutcomeCommit place log) log ((a.run r).word) ok refl refl refl (λ e. cc)
      ((line_of r ok.running ok.going).counted.outcome_log ((a.run r).at) place log ok.next) (next (OutcomeCommit r place log)) (λ n. refl) (λ e. refl) (λ e. refl)
  plain_memory (PrivateLoad r cell log place) plain ok = early_step r (micros.PrivateLoad cell log) ok refl refl (λ e. cc) (next (PrivateLoad r cell log place)) (λ n. refl) (λ e. refl) (λ e. refl)
  plain_memory (PrivateStore r cell log value place word) plain ok = absurd (cc)
  plain_memory (MakeCommit r log proposal) plain ok = absurd (cc)
  plain_memory (ClockLoad r) plain ok = early_step r micros.ClockLoad ok refl refl (λ e. cc) (next (ClockLoad r)) (λ n. refl) (λ e. refl) (λ e. refl)
  plain_memory (StampExchange r) plain ok = stamp_memory m laws layout limits c j kept pairs memory r ok.running ok.going ok.next
  plain_memory (ClockRaise r) plain ok = run_memory m layout c j kept r ok.running ok.going (next (ClockRaise r)) ((section r).log) pairs (λ n. refl) (λ e. refl) (λ e. refl)
      (λ is. other_raise (sym ok.next ∙ is)) (λ lt. refl) (raise_leads m layout c j kept r ok.running ok.going ok.next) memory
    where
      other_raise : micros.ClockRaise ≡ micros.StampExchange → ⊥
      other_raise e = cc
  plain_memory (ExchangeCell r place log value) plain ok = store_memory m laws layout limits c j kept pairs memory r ok.running ok.going place log value ok.next
  plain_memory (EpochForRetire r slot log epoch) plain ok = run_memory m layout c j kept r ok.running ok.going (next (EpochForRetire r slot log epoch)) ((section r).log) pairs (λ n. refl) (λ e. refl) (λ e. refl)
      (λ is. other_epoch (sym ok.next ∙ is)) (λ lt. refl) (epoch_leads m layout c j kept r ok.running ok.going slot log ok.next) memory
    where
      other_epoch : micros.EpochForRetire slot log ≡ micros.StampExchange → ⊥
      other_epoch e = cc
  plain_memory (RetireCommit r slot log) plain ok = absurd (cc)
  plain_memory (ReplyExchange r reply) plain ok = run_memory m layout c j kept r ok.running ok.going (next (ReplyExchange r reply)) ((section r).log) pairs (λ n. refl) (λ e. refl) (λ e. refl)
      (λ is. other_reply (sym ok.next ∙ is)) (λ lt. refl) (reply_leads m layout c j kept r ok.running ok.going reply ok.next) memory
    where
      other_reply : micros.ReplyExchange reply ≡ micros.StampExchange → ⊥
      other_reply e = cc
  plain_memory (ReadReply request reply) plain ok = still m laws layout limits c j kept pairs memory (next (ReadReply request reply)) (λ e. refl) (λ e x here. refl) (λ n. refl)
  plain_memory (ReadStamp request stamp) plain ok = still m laws layout limits c j kept pairs memory (next (ReadStamp request stamp)) (λ e. refl) (λ e x here. refl) (λ n. refl)
