-- Each step of a run that takes no slot and retires none leads from a lawful scene to a lawful scene.
use Rattle.std.proofs.Common.{◌≡◌, ◌≢◌, ℕ, suc, ◌<◌, List, true, false, refl, sym, ap, ◌∙◌, subst, inl, inr, ⊎_elim, arith}
use Rattle.std.specs.Prelude.{◌⊎◌, ◌==◌, not, Option, Some, None}
use Rattle.std.proofs.lemmas.Bool.{cases_eq, both_ways}
use Rattle.std.proofs.lemmas.Bool.Decides.{nat_tests}
use Rattle.agreement_core.specs.body_terms.specs.Update.{upd}
use Rattle.agreement_core.specs.body_terms.specs.Run.{written_once}
use Rattle.agreement_core.specs.body_terms.specs.Word.{value_of, version_of, next_word, held_word}
use Rattle.agreement_core.specs.body_terms.specs.Line.{line, micro_at, is_event, is_commit, is_check}
use Rattle.agreement_core.specs.body_terms.specs.Shape.{IsShaped}
use Rattle.agreement_core.specs.body_terms.specs.declared.step.Step.{Step}
use Rattle.agreement_core.specs.body_terms.specs.declared.step.Step.TheVariants.{Take}
use Rattle.agreement_core.specs.body_terms.specs.declared.micro.Source.{Source}
use Rattle.agreement_core.specs.body_terms.specs.declared.micro.Source.TheVariants.{Fixed, Agreed}
use Rattle.agreement_core.specs.body_terms.specs.declared.micro.Micro.{Micro}
use Rattle.agreement_core.specs.body_terms.specs.declared.micro.Micro.TheVariants as micros
use Rattle.agreement_core.specs.table_words.specs.declared.layout.Layout.{Layout}
use Rattle.agreement_core.specs.table_words.specs.Limits.{IsWithinLimits}
use Rattle.agreement_core.specs.section_lines.specs.structure_laws.specs.Scene.{Readings, Status, Scene}
use Rattle.agreement_core.specs.section_lines.specs.structure_laws.specs.Scene as scenes
use Rattle.agreement_core.specs.section_lines.specs.structure_laws.specs.Meaning.{Meaning}
use Rattle.agreement_core.specs.section_lines.specs.structure_laws.specs.Sections.{value_in, Here, IsStep, Holds, Unheld, Settled, Ended}
use Rattle.agreement_core.specs.section_lines.specs.structure_laws.specs.Laws.{Laws}
use Rattle.agreement_core.specs.section_lines.specs.structure_laws.specs.Lawful.{IsLawful, Moves}
use Rattle.agreement_core.specs.section_lines.specs.structure_laws.proofs.Moves.{moves}
use Rattle.agreement_core.specs.section_lines.specs.Progress.{source_word}
use Rattle.agreement_core.specs.section_lines.proofs.Moves.{is_within, load_moves, want_moves, fresh_moves, take_moves, stamp_moves, StoreMoves, store_moves, answer_moves, nested_moves, outcome_moves, check_exits, end_passes}
use Rattle.agreement_core.specs.State.{Section, Run, AgreementState}
use Rattle.agreement_core.specs.Checks.{passes, is_stop, exchanged, stored_word, source_in}
use Rattle.agreement_core.specs.Sound.{IsSound}
use Rattle.agreement_core.specs.Events.{HasTaken}
use Rattle.agreement_core.proofs.Words.{value_held, version_held, version_next}
use Rattle.agreement_core.proofs.Changing.{exchange_wins, exchange_fails}
use Rattle.agreement_core.proofs.Releasing.{taken_lock}
use Rattle.agreement_core.proofs.Storing.{store_finds}
use Rattle.agreement_core.proofs.Lines.{stored_same, store_logged, hold_lock}
use Rattle.machine_scenes.specs.Shown.{Publications, AreOfThunks, rules_of, section_with}
use Rattle.machine_scenes.proofs.Shown.{shown, shown_change, shown_same, shown_done, upd_found}
use Rattle.machine_scenes.proofs.Takes.{holder_named}
use Rattle.machine_scenes.proofs.Running.{sections, further, used, own, run, by_place, at_edge, event_open, pass_agreed, pass_open, here, late_shown, lead_shown, same_shown, within_shown, late_agreed, lead_agreed}

word_passes : (m : Meaning) (layout : Layout) (d : ℕ) (log : ℕ → ℕ) (p k word : ℕ)
    → passes (rules_of m layout) d log (micros.CheckWord p k word) ≡ true → log k ≡ word
word_passes m layout d log p k word h = grind arith

fresh_passes : (m : Meaning) (layout : Layout) (d : ℕ) (log : ℕ → ℕ) (p k : ℕ)
    → passes (rules_of m layout) d log (micros.CheckFresh p k) ≡ true → version_of (log k) ≢ layout.version_max
fresh_passes m layout d log p k h e = newer (version_of (log k)) layout.version_max h e
  where
    newer : (a b : ℕ) → not (a == b) ≡ true → a ≡ b → ⊥
    newer a b h e = grind (arith, nat_tests)

held_passes : (m : Meaning) (layout : Layout) (d : ℕ) (log : ℕ → ℕ) (p k word : ℕ)
    → passes (rules_of m layout) d log (micros.CheckHeld p k word) ≡ true → log k ≡ held_word d word
held_passes m layout d log p k word h = grind arith

module _ (m : Meaning) (laws : Laws m) (layout : Layout) (limits : IsWithinLimits layout) (p : Publications)
    (epoch : ℕ) (status : ℕ → Status) (reader : ℕ → Option Readings) where
  abbrev pub scene : (ℕ → ℕ) → (ℕ → Option scenes.Section) → Scene
  scene cells sections = record { cells = cells; epoch = epoch; status = status; reader = reader; section = sections }

  abbrev pub Lawful : (ℕ → ℕ) → (ℕ → Option scenes.Section) → Type 0
  Lawful cells sections = IsLawful m layout (scene cells sections)

  by_moves : Moves m layout
  by_moves = moves m laws layout limits

  pub with_sections : (cells : ℕ → ℕ) (a b : ℕ → Option scenes.Section) → a ≡ b → Lawful cells b → Lawful cells a
  with_sections cells a b e lawful = subst (Lawful cells) (sym e) lawful

  -- an exchange of a lock from a word to a later one
  pub lock_exchange : (cells : ℕ → ℕ) (sections : ℕ → Option scenes.Section) (place found new : ℕ) → m.is_lock place ≡ true
      → version_of found < version_of new
      → Lawful cells sections → Lawful (upd cells place (exchanged (cells place) found new)) sections
  lock_exchange cells sections place found new lock rises lawful = ⊎_elim
      (λ same. subst (λ n. Lawful (upd cells place n) sections) (sym (exchange_wins (cells place) found new same))
      (by_moves.lock (scene cells sections) place new lock (subst (λ n. version_of n < version_of new) (sym same) rises) lawful))
      (λ ne. subst (λ f. Lawful f sections) (sym
      (upd_found cells place (exchanged (cells place) found new) (exchange_fails (cells place) found new ne))) lawful)
      (cases_eq (cells place) found)

  -- a release
  pub release_lawful : (w : AgreementState) → IsSound (rules_of m layout) w → (sections : ℕ → Option scenes.Section)
      → Lawful w.shared.cells sections
      → (d at place word : ℕ) → w.used d ≡ true → HasTaken (w.section d) at place word
      → Lawful (upd w.shared.cells place (exchanged (w.shared.cells place) (held_word d word) (next_word (held_word d word) 0))) sections
  release_lawful w old sections lawful d at place word used taken =
      lock_exchange w.shared.cells sections place (held_word d word) (next_word (held_word d word) 0)
      (taken_lock (rules_of m layout) d (w.section d) (old.sections d used).published at place word taken)
      (let e = version_next (held_word d word) 0 (omega arith) in omega arith) lawful

  module _ (w : AgreementState) (old : IsSound (rules_of m layout) w) (of_thunks : AreOfThunks m p w)
      (lawful : Lawful w.shared.cells (λ d. shown m p w.used w.section d))
      (r : ℕ) (running : (w.run r).running ≡ true) (going : (w.run r).ended ≡ false) where
    abbrev q : Run
    q = w.run r

    abbrev d : ℕ
    d = q.descriptor

    abbrev s : Section
    s = w.section d

    abbrev body : List Step
    body = m.body (p.thunk d)

    abbrev cells : ℕ → ℕ
    cells = w.shared.cells

    abbrev all : ℕ → Option scenes.Section
    all i = sections m layout p w old of_thunks r running going i

    abbrev after : (ℕ → ℕ) → ℕ → Option scenes.Section
    after log i = further m layout p w old of_thunks r running going log i

    abbrev pub at_now : scenes.Section
    at_now = section_with m p d s.log s.edge

    abbrev micro_now : (x : Micro) → s.code q.at ≡ x → q.at ≡ s.edge → micro_at (line body) s.edge ≡ x
    micro_now = at_edge m layout p w old of_thunks r running going

    is_open : is_event (s.code q.at) ≡ true → q.at ≡ s.edge → s.done ≡ 0
    is_open = event_open m layout p w old of_thunks r running going

    there : s.done ≡ 0 → Here (scene cells all) d at_now
    there = here m layout p w old of_thunks r running going

    by_edge : {A : Type 0} → (q.at < s.edge → A) → (q.at ≡ s.edge → A) → A
    by_edge = by_place m layout p w old of_thunks r running going

    late : q.at < s.edge → Lawful cells (after s.log)
    late lt = with_sections cells (after s.log) all (late_shown m layout p w old of_thunks r running going s.log refl lt) lawful

    pub shape : s.done ≡ 0 → IsShaped body
    shape un = (lawful.shaped d at_now (there un)).shape

    -- at the edge the section becomes this one
    becomes : (log : ℕ → ℕ) → q.at ≡ s.edge → s.done ≡ 0 → (x : scenes.Section) → section_with m p d log (suc s.edge) ≡ x
        → Lawful cells (upd all d (Some x)) → Lawful cells (after log)
    becomes log at un x e next = with_sections cells (after log) (upd all d (Some x))
        (lead_shown m layout p w old of_thunks r running going log at un x e) next

    pub within_lawful : (x : Micro) → s.code q.at ≡ x → is_within x ≡ true → (q.at ≡ s.edge → s.done ≡ 0) → Lawful cells (after s.log)
    within_lawful x is within un = with_sections cells (after s.log) all
        (within_shown m layout p w old of_thunks r running going x is within un) lawful

    -- a commit behind the edge
    late_commit : (log proposal : ℕ) → log ≡ s.slot q.at → is_commit (s.code q.at) ≡ true → q.at < s.edge
        → Lawful cells (after (upd s.log log (written_once (s.log log) proposal)))
    late_commit log proposal at commit lt = subst (λ l. Lawful cells (after l))
        (sym (late_agreed m layout p w old of_thunks r running going log proposal at commit lt)) (late lt)

    -- a commit at the edge, by what it comes to with its proposal
    lead_commit : (log proposal : ℕ) → log ≡ s.slot q.at → q.at ≡ s.edge → Lawful cells (after (upd s.log log proposal))
        → Lawful cells (after (upd s.log log (written_once (s.log log) proposal)))
    lead_commit log proposal at edge next = subst (λ n. Lawful cells (after (upd s.log log n)))
        (sym (lead_agreed m layout p w old of_thunks r running going log proposal at edge)) next

    commits : (log proposal : ℕ) → log ≡ s.slot q.at → is_commit (s.code q.at) ≡ true
        → (q.at ≡ s.edge → Lawful cells (after (upd s.log log proposal)))
        → Lawful cells (after (upd s.log log (written_once (s.log log) proposal)))
    commits log proposal at commit lead = by_edge (λ lt. late_commit log proposal at commit lt)
        (λ edge. lead_commit log proposal at edge (lead edge))

    -- the commit of a Load
    pub commit_lawful : (place log : ℕ) → s.code q.at ≡ micros.Commit place log
        → Lawful cells (after (upd s.log log (written_once (s.log log) q.word)))
    commit_lawful place log is = commits log q.word
        ((own m layout p w old of_thunks r running going).published.line.counted.commit_log q.at place log is) (ap is_commit is)
        (λ at. let un = is_open (ap is_event is) at in
        let load = load_moves body (p.op d) (p.thunk d) (p.readings d) s.log s.edge place log q.word
        (micro_now (micros.Commit place log) is at) in
        let stands = (run m layout p w old of_thunks r running going).in_word.standing place log at is in
        becomes (upd s.log log q.word) at un (scenes.passed_with at_now load.0 q.word) load.2
        (subst (λ n. Lawful cells (upd all d (Some (scenes.passed_with at_now load.0 n)))) (sym stands)
        (by_moves.load (scene cells all) d place load.0 at_now (there un) load.1 lawful)))

    pub nested_commit_lawful : (place log : ℕ) → s.code q.at ≡ micros.NestedCommit place log
        → Lawful cells (after (upd s.log log (written_once (s.log log) q.word)))
    nested_commit_lawful place log is = commits log q.word
        ((own m layout p w old of_thunks r running going).published.line.counted.nested_log q.at place log is) (ap is_commit is)
        (λ at. with_sections cells (after (upd s.log log q.word)) all
        (same_shown m layout p w old of_thunks r running going (upd s.log log q.word) at (is_open (ap is_event is) at)
        (nested_moves body (p.op d) (p.thunk d) (p.readings d) s.log s.edge place log q.word
        (micro_now (micros.NestedCommit place log) is at))) lawful)

    pub outcome_commit_lawful : (place log : ℕ) → s.code q.at ≡ micros.OutcomeCommit place log
        → Lawful cells (after (upd s.log log (written_once (s.log log) q.word)))
    outcome_commit_lawful place log is = commits log q.word
        ((own m layout p w old of_thunks r running going).published.line.counted.outcome_log q.at place log is) (ap is_commit is)
        (λ at. with_sections cells (after (upd s.log log q.word)) all
        (same_shown m layout p w old of_thunks r running going (upd s.log log q.word) at (is_open (ap is_event is) at)
        (outcome_moves body (p.op d) (p.thunk d) (p.readings d) s.log s.edge place log q.word
        (micro_now (micros.OutcomeCommit place log) is at))) lawful)

    -- the raise of the clock, and the reply
    pub stamp_lawful : s.code q.at ≡ micros.ClockRaise → Lawful cells (after s.log)
    stamp_lawful is = by_edge late (λ at. let un = is_open (ap is_event is) at in
        let stamp = stamp_moves body (p.op d) (p.thunk d) (p.readings d) s.log s.edge (micro_now micros.ClockRaise is at) in
        becomes s.log at un (scenes.passed at_now) stamp.1 (by_moves.stamp (scene cells all) d at_now (there un) stamp.0 lawful))

    pub answer_lawful : (reply : ℕ) → s.code q.at ≡ micros.ReplyExchange reply → Lawful cells (after s.log)
    answer_lawful reply is = by_edge late (λ at. let un = is_open (ap is_event is) at in
        let answer = answer_moves body (p.op d) (p.thunk d) (p.readings d) s.log s.edge reply
        (micro_now (micros.ReplyExchange reply) is at) in
        becomes s.log at un (scenes.passed at_now) answer.1 (by_moves.answer (scene cells all) d reply at_now (there un) answer.0 lawful))

    -- the lock of a Take that is now found to be held is held by no section
    take_unheld : (l k word : ℕ) → q.at ≡ s.edge → s.done ≡ 0 → s.code q.at ≡ micros.CheckHeld l k word → s.log k ≡ held_word d word
        → IsStep m at_now at_now.at (Take l word) → Unheld m (scene cells all) l
    take_unheld l k word at un is agreed step d' x here' holds =
        let o = own m layout p w old of_thunks r running going in
        let before = o.published.line.ordered.held_before q.at l k word is in
        let value : value_of (s.log k) ≡ suc d = ap value_of agreed ∙ value_held d word o.published.link in
        let held = o.section.in_locks.outcome_held un (suc (suc before.0)) l k (let e = before.1 in omega arith) before.3 value in
        let named = holder_named m layout p w old of_thunks d' l x here' holds in
        let same : d' ≡ d = let e = sym named ∙ (ap value_of held ∙ value) in omega arith in
        let this : at_now ≡ x = some_inj (sym (there un) ∙ (ap all (sym same) ∙ here')) in
        let shaped = lawful.shaped d at_now (there un) in
        ⊎_elim (λ outer. shaped.take_inner at_now.at l word step outer)
        (λ took. let once = shaped.take_once took.0 at_now.at l took.1 word took.3 step in let low = took.2 in omega arith)
        (subst (λ y. Holds m y l) (sym this) holds)
      where
        some_inj : {a b : scenes.Section} → Some a ≡ Some b → a ≡ b
        some_inj e = cc

    -- a check that passes
    pub check_lawful : (x : Micro) → s.code q.at ≡ x → passes (rules_of m layout) d q.trail (s.code q.at) ≡ true → is_check x ≡ true
        → Lawful cells (after s.log)
    check_lawful x is pass check = by_edge late
        (λ at. by_kind x is (subst (λ y. passes (rules_of m layout) d s.log y ≡ true) is
        (pass_agreed m layout p w old of_thunks r running going pass)) check at
        (pass_open m layout p w old of_thunks r running going pass at))
      where
        by_kind : (x : Micro) → s.code q.at ≡ x → passes (rules_of m layout) d s.log x ≡ true → is_check x ≡ true → q.at ≡ s.edge
            → s.done ≡ 0 → Lawful cells (after s.log)
        by_kind (micros.CheckWord place k word) is pass check at un =
            let want = want_moves body (shape un) (p.op d) (p.thunk d) (p.readings d) s.log s.edge place k word
            (micro_now (micros.CheckWord place k word) is at) in
            becomes s.log at un (scenes.passed at_now) want.3 (by_moves.want (scene cells all) d want.0 word at_now (there un) want.1
            (want.2 ∙ word_passes m layout d s.log place k word pass) lawful)
        by_kind (micros.CheckFresh place k) is pass check at un =
            let fresh = fresh_moves body (shape un) (p.op d) (p.thunk d) (p.readings d) s.log s.edge place k
            (micro_now (micros.CheckFresh place k) is at) in
            becomes s.log at un (scenes.passed at_now) fresh.3 (by_moves.fresh (scene cells all) d fresh.0 at_now (there un) fresh.1
            (λ e. fresh_passes m layout d s.log place k pass (ap version_of (sym fresh.2) ∙ e)) lawful)
        by_kind (micros.CheckFree place k word) is pass check at un = within_lawful (micros.CheckFree place k word) is refl (λ at. un)
        by_kind (micros.CheckHeld place k word) is pass check at un =
            let take = take_moves body (p.op d) (p.thunk d) (p.readings d) s.log s.edge place k word
            (micro_now (micros.CheckHeld place k word) is at) in
            becomes s.log at un (scenes.passed at_now) take.1 (by_moves.take (scene cells all) d place word at_now (there un) take.0
            (take_unheld place k word at un is (held_passes m layout d s.log place k word pass) take.0) lawful)
        by_kind x is pass check at un = absurd (cc)

    -- the exchange of a Take
    pub nested_hold_lawful : (place word : ℕ) → s.code q.at ≡ micros.NestedHold place word
        → Lawful (upd cells place (exchanged (cells place) word (held_word d word))) (after s.log)
    nested_hold_lawful place word is =
        let o = own m layout p w old of_thunks r running going in let c = rules_of m layout in
        lock_exchange cells (after s.log) place word (held_word d word)
        (hold_lock c s.lock s.code s.slot o.published.line q.at place word is)
        (let e = version_held d word o.published.link in omega arith)
        (within_lawful (micros.NestedHold place word) is refl (is_open (ap is_event is)))

    -- behind the edge a store finds a later version
    pub late_store : (place log : ℕ) (value : Source) → s.code q.at ≡ micros.ExchangeCell place log value → q.at < s.edge
        → upd cells place (exchanged (cells place) (q.trail log) (stored_word q.trail log value)) ≡ cells
    late_store place log value is lt =
        let o = own m layout p w old of_thunks r running going in let run = run m layout p w old of_thunks r running going in
        let low = store_logged (rules_of m layout) s.lock s.code s.slot o.published.line q.at place log value is in
        let agreed = run.in_trail.agreed log (let e = run.in_trail.counted in omega arith) in
        let left = o.section.in_cells.left q.at place log value lt is in
        upd_found cells place (exchanged (cells place) (q.trail log) (stored_word q.trail log value))
        (exchange_fails (cells place) (q.trail log) (stored_word q.trail log value)
        (λ e. later (s.log log) (cells place) left (e ∙ agreed)))
      where
        later : (a b : ℕ) → version_of a < version_of b → b ≡ a → ⊥
        later a b lt e = let same : version_of b ≡ version_of a = ap version_of e in omega arith

    -- at the edge it is a Store of its section
    pub store_at : (place log : ℕ) (value : Source) → s.code q.at ≡ micros.ExchangeCell place log value → q.at ≡ s.edge → (un : s.done ≡ 0)
        → StoreMoves body (shape un) (p.op d) (p.thunk d) (p.readings d) s.log s.edge place log value
    store_at place log value is at un = store_moves body (shape un) (p.op d) (p.thunk d) (p.readings d) s.log s.edge place log value
        (micro_now (micros.ExchangeCell place log value) is at)

    -- which finds the agreed word
    store_found : (place log : ℕ) (value : Source) → s.code q.at ≡ micros.ExchangeCell place log value → q.at ≡ s.edge
        → cells place ≡ s.log log
    store_found place log value is at = let o = own m layout p w old of_thunks r running going in
        store_finds (rules_of m layout) w.shared d s place log value o.published (ap s.code (sym at) ∙ is) o.section

    -- and writes what its section's value stands for
    pub store_word : (place log : ℕ) (value : Source) (is : s.code q.at ≡ micros.ExchangeCell place log value) (at : q.at ≡ s.edge)
        (un : s.done ≡ 0)
        → exchanged (cells place) (q.trail log) (stored_word q.trail log value) ≡ next_word
        (at_now.reg (store_at place log value is at un).reg) (value_in at_now.reg (store_at place log value is at un).value)
    store_word place log value is at un =
        let o = own m layout p w old of_thunks r running going in let run = run m layout p w old of_thunks r running going in
        let c = rules_of m layout in let store = store_at place log value is at un in
        let agreed : (k : ℕ) → k < s.slot q.at → q.trail k ≡ s.log k = λ k low. run.in_trail.agreed k
        (let e = run.in_trail.counted in omega arith) in
        let old_word : cells place ≡ q.trail log = store_found place log value is at
        ∙ sym (agreed log (store_logged c s.lock s.code s.slot o.published.line q.at place log value is)) in
        exchange_wins (cells place) (q.trail log) (stored_word q.trail log value) old_word
        ∙ (stored_same c s.lock s.code s.slot o.published.line q.at place log value q.trail s.log is agreed
        ∙ (ap (next_word (s.log log)) (source_same s.log value ∙ sym store.stores)
        ∙ ap (λ n. next_word n (value_in at_now.reg store.value)) (sym store.word)))
      where
        source_same : (log : ℕ → ℕ) (v : Source) → source_in log v ≡ source_word log v
        source_same log (Fixed number) = refl
        source_same log (Agreed k) = refl

    lead_store : (place log : ℕ) (value : Source) → s.code q.at ≡ micros.ExchangeCell place log value → q.at ≡ s.edge → s.done ≡ 0
        → Lawful (upd cells place (exchanged (cells place) (q.trail log) (stored_word q.trail log value))) (after s.log)
    lead_store place log value is at un =
        let store = store_at place log value is at un in
        subst (λ n. Lawful (upd cells place n) (after s.log)) (sym (store_word place log value is at un))
        (with_sections (upd cells place (next_word (at_now.reg store.reg) (value_in at_now.reg store.value))) (after s.log)
        (upd all d (Some (scenes.passed at_now)))
        (lead_shown m layout p w old of_thunks r running going s.log at un (scenes.passed at_now) store.next)
        (by_moves.store (scene cells all) d store.load place store.reg at_now store.value (there un) store.here store.earlier store.loads
        (store_found place log value is at ∙ sym store.word) lawful))

    pub store_lawful : (place log : ℕ) (value : Source) → s.code q.at ≡ micros.ExchangeCell place log value
        → Lawful (upd cells place (exchanged (cells place) (q.trail log) (stored_word q.trail log value))) (after s.log)
    store_lawful place log value is = by_edge
        (λ lt. subst (λ f. Lawful f (after s.log)) (sym (late_store place log value is lt)) (late lt))
        (λ at. lead_store place log value is at (is_open (ap is_event is) at))

    -- where a run stops, a settled section is at its end
    pub ends : is_stop (rules_of m layout) d s.log (s.code s.edge) ≡ true → Settled m at_now → Ended m at_now
    ends stop settled = by_stop (s.code s.edge) (sym ((of_thunks d (used m layout p w old of_thunks r running going)).code s.edge)) stop
      where
        neither : (x : Micro) → is_stop (rules_of m layout) d s.log x ≡ true → (is_check x ≡ true) ⊎ (x ≡ micros.End)
        neither micros.End stop = inr refl
        neither x stop = inl (grind arith)

        by_stop : (x : Micro) → micro_at (line body) s.edge ≡ x → is_stop (rules_of m layout) d s.log x ≡ true → Ended m at_now
        by_stop x is stop = ⊎_elim
            (λ check. let exit = check_exits body (p.op d) (p.thunk d) (p.readings d) s.log s.edge x is check in
            absurd (both_ways _ (settled at_now.at exit.0 (omega arith) exit.1) exit.2))
            (λ end. end_passes body (p.op d) (p.thunk d) (p.readings d) s.log s.edge (is ∙ end))
            (neither x stop)

    -- the done word is set
    pub done_lawful : is_stop (rules_of m layout) d s.log (s.code s.edge) ≡ true
        → Lawful cells (λ i. shown m p w.used (upd w.section d (record s { done = written_once s.done 1 })) i)
    done_lawful stop = ⊎_elim
        (λ un. with_sections cells (λ i. shown m p w.used (upd w.section d (record s { done = written_once s.done 1 })) i) (upd all d None)
        (shown_change m p w.used w.section d (record s { done = written_once s.done 1 })
        ∙ ap (upd all d) (shown_done m p d (w.used d) (record s { done = written_once s.done 1 }) (some_done s.done)))
        (by_moves.done (scene cells all) d at_now (there un) (ends stop) lawful))
        (λ ne. with_sections cells (λ i. shown m p w.used (upd w.section d (record s { done = written_once s.done 1 })) i) all
        (shown_same m p w.used w.section d (record s { done = written_once s.done 1 })
        (shown_done m p d (w.used d) (record s { done = written_once s.done 1 }) (some_done s.done)
        ∙ sym (shown_done m p d (w.used d) s ne))) lawful)
        (cases_eq s.done 0)
      where
        some_done : (n : ℕ) → written_once n 1 ≢ 0
        some_done n e = grind arith
