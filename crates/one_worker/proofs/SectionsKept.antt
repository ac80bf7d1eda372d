-- The section that is under way, over one step.
use Rattle.std.specs.Prelude.{◌==◌, ◌^◌, ◌⊎◌, cond, Bool, true, false, if◌then◌else◌}
use Rattle.std.proofs.Common.{◌≡◌, ◌≢◌, ℕ, suc, ◌+◌, ◌<◌, ◌≤◌, List, [], ◌∷◌, length, length-append, refl, sym, ap, ◌∙◌, subst, ⊎_elim, inl, inr, arith, Option, Some, None}
use Rattle.std.proofs.lemmas.Bool.{cases_lt}
use Rattle.std.proofs.lemmas.Bool.Decides.{nat_tests}
use Rattle.machine_states.specs.map_history.specs.declared.op.Request.{Request}
use Rattle.machine_states.specs.body_terms.specs.Run.{settled}
use Rattle.machine_states.specs.body_terms.specs.Shape.{IsShaped}
use Rattle.machine_states.specs.body_terms.specs.declared.step.Step.TheVariants.{Load, Want}
use Rattle.machine_states.specs.body_terms.specs.Line.{line, micro_at, is_event, is_commit, is_check}
use Rattle.machine_states.specs.body_terms.specs.Word.{value_of, version_of, held_word}
use Rattle.machine_states.specs.body_terms.specs.declared.micro.Source.{Source}
use Rattle.machine_states.specs.body_terms.specs.declared.micro.Micro.{Micro}
use Rattle.machine_states.specs.body_terms.specs.declared.micro.Micro.TheVariants as micros
use Rattle.machine_states.specs.body_terms.specs.declared.thunk.Thunk.{Thunk}
use Rattle.agreement_core.specs.section_lines.specs.Line.{IsLine}
use Rattle.agreement_core.specs.section_lines.proofs.Wants.{wanted_at}
use Rattle.machine_states.specs.table_words.specs.declared.layout.Layout.{Layout}
use Rattle.machine_states.specs.table_words.specs.declared.spot.Spot.{Spot}
use Rattle.machine_states.specs.table_words.specs.declared.spot.Spot.TheVariants as spots
use Rattle.machine_states.specs.table_words.specs.declared.access.Access.{Access}
use Rattle.machine_states.specs.table_words.specs.Access.{written, exchanged}
use Rattle.machine_states.specs.table_words.specs.Seen.{put}
use Rattle.machine_states.specs.table_words.specs.Limits.{IsWithinLimits}
use Rattle.machine_states.specs.structure_laws.specs.Meaning.{Meaning}
use Rattle.machine_states.specs.structure_laws.specs.Shape.{HasStep}
use Rattle.machine_states.specs.structure_laws.specs.Planner.{PlannerLawsOver}
use Rattle.machine_states.specs.structure_laws.specs.Cells.{IsOutside}
use Rattle.machine_states.specs.runner_parts.specs.declared.event.EventKind.{EventKind}
use Rattle.machine_states.specs.runner_parts.specs.declared.event.EventKind.TheVariants as kinds
use Rattle.machine_states.specs.runner_parts.specs.State.{RunState, PartState}
use Rattle.machine_states.specs.runner_steps.specs.Asks.{opening_ask}
use Rattle.machine_states.specs.runner_steps.specs.Asks.{ask_by, line_ask}
use Rattle.machine_states.specs.runner_steps.specs.After.{after_by, line_after}
use Rattle.machine_states.specs.runner_steps.specs.AfterInRun.{opened_more}
use Rattle.machine_states.specs.runner_steps.specs.Sections.{thunk_of, is_open_run, line_of, next_of, setting_of}
use Rattle.agreement_core.specs.State.{AgreementState, Section}
use Rattle.agreement_core.specs.Runs.{RunIsSound}
use Rattle.agreement_core.proofs.Lines.{hold_lock, hold_inner, hold_once, commit_unlocked, exchange_unlocked}
use Rattle.machine_states.specs.Sight.{Sight, Steps}
use Rattle.machine_states.proofs.Sights.{unless_gone, joins}
use Rattle.machine_states.proofs.Steps.{some_same, none_some}
use Rattle.resource_bounds.specs.machine_epochs.specs.Slots.{thunk_in}
use Rattle.resource_bounds.specs.machine_epochs.proofs.RunPlaces.{next_in_line, open_run}
use Rattle.resource_bounds.specs.machine_scenes.specs.Shown.{rules_of, section_with}
use Rattle.resource_bounds.specs.machine_scenes.proofs.Shown.{shown_open}
use Rattle.runner_facts.specs.machine_facts.specs.machine_agreement.specs.Joined.{IsRunOf}
use Rattle.runner_facts.specs.machine_facts.specs.machine_agreement.proofs.RunPlaces.{opened_thunk}
use Rattle.runner_facts.specs.machine_facts.specs.machine_invariant.specs.Whole.{IsWhole}
use Rattle.runner_facts.specs.next_steps.proofs.Parts.{each_part}
use Rattle.resource_bounds.specs.reached_histories.specs.Laws.{HasHistory}
use Rattle.runner_facts.proofs.Lines.{commit_unique, rests_behind}
use Rattle.one_worker.proofs.Lines.{hold_behind}
use Rattle.machine_states.specs.body_terms.specs.block_words.specs.Blocks.{log_in}
use Rattle.runner_facts.specs.machine_facts.specs.machine_invariant.specs.machine_blocks.specs.Writes.{carries_word as carries}
use Rattle.runner_facts.specs.machine_facts.specs.machine_invariant.proofs.LogSteps.{won_word, kept_word, IsSure, Commits}
use Rattle.runner_facts.proofs.Logs.{log_of, commit_of, log_place}
use Rattle.runner_facts.proofs.Runs as runs_of
use Rattle.runner_facts.proofs.Runs.{nested_kind}
use Rattle.one_worker.proofs.Cells as cells_of
use Rattle.one_worker.proofs.Goes.{Goes, IsUndone}
use Rattle.one_worker.proofs.State.{event_commit, not_both, by_zero, held_value, sound, in_line, code_is, code_back, passed_some, done_passed, scene, not_outside, not_locked}

module _ (m : Meaning) (l : Layout) (limits : IsWithinLimits l) (rs : List Request) (over_planner : (per_pair : ℕ) × PlannerLawsOver m l per_pair)
    (s s' : Sight) (r : ℕ) (kind : EventKind) (st : Steps m l rs s s' r kind) (before : HasHistory m l rs s)
    (d : ℕ) (t : Thunk) (used_d : before.beside.agreement.used d ≡ true) (live_d : before.beside.agreement.live d ≡ true)
    (thunk_is : thunk_in s.word d ≡ t)
    (sure : IsSure s d) (log_goes : (k : ℕ) → (log_in s'.word d k ≡ log_in s.word d k) ⊎ Commits m s s' r st.ask d k)
    (done_stands : s.word (spots.DoneWord d) ≢ 0 → s'.word (spots.DoneWord d) ≡ s.word (spots.DoneWord d))
    (alone : (e : ℕ) → before.beside.agreement.used e ≡ true → (before.beside.agreement.section e).done ≡ 0 → e ≡ d)
    (named : (p e : ℕ) → m.is_lock p ≡ true → value_of (s.word (spots.Cell p)) ≡ suc e → e ≡ d)
    (no_hold : (u : Thunk) (e : ℕ) → kind ≡ kinds.Hold u e → (s.part r).run ≡ None → s.word st.ask.0 ≡ u.word → ⊥)
    (old : Goes m s d t) where
  whole : IsWhole m l before.beside s
  whole = before.whole

  abbrev a : AgreementState
  a = before.beside.agreement

  abbrev sec : Section
  sec = a.section d

  abbrev y : PartState
  y = s.part r

  abbrev x : Spot × Access
  x = st.ask

  abbrev f : Spot → ℕ
  f = s.word

  abbrev found : ℕ
  found = f x.0

  abbrev cd : ℕ → Micro
  cd i = micro_at (line (m.body t)) i

  line_of_section : IsLine m.is_lock l.version_max sec.lock sec.code sec.slot
  line_of_section = in_line m l rs s before d t used_d thunk_is

  asked : ask_by m l rs r kind y y.run ≡ Some x
  asked = (unless_gone _ y.gone _ x st.asked).1

  word_now : (b : Spot) → s'.word b ≡ put f x.0 (written x.1 found) b
  word_now b = ap (λ (u : Sight). u.word b) st.next

  undone_before : IsUndone m s' d t → IsUndone m s d t
  undone_before undone = ⊎_elim (λ z. z) (λ some. absurd (some (sym (done_stands some) ∙ undone))) (by_zero (s.word (spots.DoneWord d)))

  undone_section : IsUndone m s d t → sec.done ≡ 0
  undone_section undone = (whole.sections.sections d).done ∙ undone

  in_section : (i : ℕ) (micro : Micro) → cd i ≡ micro → sec.code i ≡ micro
  in_section = code_is m l rs s before d t used_d thunk_is

  -- the line of a run of this section is this line
  run_line : (q : RunState) → y.run ≡ Some q → length q.opened ≡ 13 → q.descriptor ≡ d → (i : ℕ) (micro : Micro) → micro_at (line_of m q) i ≡ micro → cd i ≡ micro
  run_line q runs all of i micro e =
      let thunk : thunk_of q.opened ≡ t = sym (opened_thunk m l a s whole.sections r q runs all) ∙ (ap (thunk_in s.word) of ∙ thunk_is) in
      sym (ap (λ (u : Thunk). micro_at (line (m.body u)) i) thunk) ∙ e

  -- a new word of the log
  record IsNew (k : ℕ) : Type 0 where
    pub run : RunState
    pub runs : y.run ≡ Some run
    pub opened : length run.opened ≡ 13
    pub of : run.descriptor ≡ d
    pub micro : Micro
    pub at : micro_at (line_of m run) run.at ≡ micro
    pub commit : is_commit micro ≡ true
    pub log : log_of micro ≡ k
    pub carried : carries micro ≡ true → log_in s'.word d k ≡ run.word

  -- a word that is agreed on stands
  log_stands : (k : ℕ) → log_in s.word d k ≢ 0 → log_in s'.word d k ≡ log_in s.word d k
  log_stands k some = ⊎_elim (λ same. same) (λ new. new.now ∙ kept_word (log_in s.word d k) new.proposal some) (log_goes k)

  new_log : (k : ℕ) → log_in s.word d k ≡ 0 → log_in s'.word d k ≢ 0 → IsNew k
  new_log k none some = ⊎_elim
      (λ same. absurd (some (same ∙ none)))
      (λ c. let of_log = commit_of (next_of m c.run) k c.commits in record {
        run = c.run;
        runs = c.runs;
        opened = open_run c.run c.open_run;
        of = c.of_section;
        micro = next_of m c.run;
        at = commit_at c.run (next_of m c.run) refl of_log.0;
        commit = of_log.0;
        log = of_log.1;
        carried = λ carries. c.now ∙ (won_word (log_in s.word d k) c.proposal none ∙ c.carried carries);
      })
      (log_goes k)
    where
      commit_at : (q : RunState) (micro : Micro) → next_of m q ≡ micro → is_commit micro ≡ true → micro_at (line_of m q) q.at ≡ micro
      commit_at q (micros.Commit p k) e c = next_in_line m q (micros.Commit p k) refl e
      commit_at q (micros.NestedCommit p k) e c = next_in_line m q (micros.NestedCommit p k) refl e
      commit_at q (micros.OutcomeCommit p k) e c = next_in_line m q (micros.OutcomeCommit p k) refl e
      commit_at q (micros.MakeCommit k) e c = next_in_line m q (micros.MakeCommit k) refl e
      commit_at q (micros.RetireCommit u k) e c = next_in_line m q (micros.RetireCommit u k) refl e
      commit_at q micro e c = absurd (let z = c in cc)

  -- what is known of a run that agrees on a new word: it is the furthest one, and the section isn't done
  module _ (k : ℕ) (none : log_in s.word d k ≡ 0) (new : IsNew k) where
    abbrev q : RunState
    q = new.run

    code_q : sec.code q.at ≡ new.micro
    code_q = in_section q.at new.micro (run_line q new.runs new.opened new.of q.at new.micro new.at)

    behind_q : q.at ≤ sec.edge
    behind_q = subst (λ e. q.at ≤ (a.section e).edge) new.of (cells_of.behind m l before.beside s whole r q new.runs new.opened)

    place : k ≡ sec.slot q.at
    place = sym new.log ∙ log_place m.is_lock l.version_max sec.lock sec.code sec.slot line_of_section q.at new.micro code_q new.commit

    edge : q.at ≡ sec.edge
    edge = ⊎_elim (λ less. absurd (passed_some m l rs s before d t used_d thunk_is sure q.at k new.micro code_q new.commit new.log less none))
        (λ ge. let le = behind_q in omega (arith, ge, le)) (cases_lt q.at sec.edge)

    undone : IsUndone m s d t
    undone = ⊎_elim (λ z. z)
        (λ some. absurd (let less = done_passed m l rs s before d t used_d thunk_is some q.at new.micro code_q (event_commit new.micro new.commit) behind_q in
        let same = edge in omega (arith, less, same)))
        (by_zero (s.word (spots.DoneWord d)))

    -- where the line commits to this place in the log, the run stands
    here : (i : ℕ) (micro : Micro) → sec.code i ≡ micro → is_commit micro ≡ true → log_of micro ≡ k → (q.at ≡ i) × (new.micro ≡ micro)
    here i micro e commit at =
        let same = commit_unique m.is_lock l.version_max sec.lock sec.code sec.slot line_of_section q.at i (ap is_commit code_q ∙ new.commit) (ap is_commit e ∙ commit)
        (sym place ∙ (sym at ∙ log_place m.is_lock l.version_max sec.lock sec.code sec.slot line_of_section i micro e commit)) in
        (same, sym code_q ∙ (ap sec.code same ∙ e))

    run_here : RunIsSound (rules_of m l) a.shared d sec (a.run r)
    run_here = subst (λ e. RunIsSound (rules_of m l) a.shared e (a.section e) (a.run r)) new.of (cells_of.run_sound m l before.beside s whole r q new.runs new.opened)

    is_run : IsRunOf (a.run r) q
    is_run = cells_of.here m l before.beside s whole r q new.runs new.opened

    code_run : (micro : Micro) → new.micro ≡ micro → sec.code ((a.run r).at) ≡ micro
    code_run micro e = ap sec.code is_run.at ∙ (code_q ∙ e)

  cell_same : (p : ℕ) → a.shared.cells p ≡ f (spots.Cell p)
  cell_same p = whole.sections.words.cells p

  still : (k : ℕ) → log_in s.word d k ≢ 0 → (w : ℕ) → log_in s.word d k ≡ w → log_in s'.word d k ≡ w
  still k some w e = log_stands k some ∙ e

  wanted' : (i p k w : ℕ) → cd i ≡ micros.CheckWord p k w → log_in s'.word d k ≢ 0 → log_in s'.word d k ≡ w
  wanted' i p k w e some = ⊎_elim
      (λ none. let new = new_log k none some in
      let loaded = line_of_section.resolved.word_loaded i p k w (in_section i _ e) in
      let at = here k none new loaded.0 (micros.Commit p k) loaded.2 refl refl in
      let word = is_run k none new in
      let standing = (run_here k none new).in_word.standing p k (let same = edge k none new in let place = word.at in place ∙ same) (code_run k none new _ at.1) in
      let cell : f (spots.Cell p) ≡ w = ⊎_elim (λ same. same) (λ agreed. absurd (agreed none)) (old.wants (undone k none new) i p k w e) in
      new.carried (ap carries at.1) ∙ (sym word.word ∙ (standing ∙ (cell_same p ∙ cell))))
      (λ agreed. still k agreed w (old.wanted i p k w e agreed))
      (by_zero (log_in s.word d k))

  free' : (i p k w : ℕ) → cd i ≡ micros.CheckFree p k w → log_in s'.word d k ≢ 0 → log_in s'.word d k ≡ w
  free' i p k w e some = ⊎_elim
      (λ none. let new = new_log k none some in
      let loaded = line_of_section.ordered.free_before i p k w (in_section i _ e) in
      let at = here k none new loaded.0 (micros.NestedCommit p k) loaded.2 refl refl in
      let line_here = run_line new.run new.runs new.opened new.of in
      new.carried (ap carries at.1)
      ∙ old.loads r new.run p k w new.runs new.of new.opened (line_here new.run.at _ new.at ∙ at.1)
      (ap cd (ap suc at.0 ∙ sym loaded.1) ∙ e) none)
      (λ agreed. still k agreed w (old.free i p k w e agreed))
      (by_zero (log_in s.word d k))

  link : suc d < 2 ^ 32
  link = (sound m l rs s before d t used_d thunk_is).published.link

  -- a lock that the section has come past, and that isn't its own yet, is its own
  taken_cell : IsUndone m s d t → (j p w : ℕ) → cd j ≡ micros.NestedHold p w → j < sec.edge → f (spots.Cell p) ≡ held_word d w
  taken_cell undone j p w e below = ⊎_elim
      (λ same. absurd (let past = (sound m l rs s before d t used_d thunk_is).section.in_locks.nested_past j p w below (in_section j _ e) in
      let v = ap version_of (cell_same p ∙ same) in omega (arith, past, v)))
      (λ held. held) (old.takes undone j p w e)

  held' : (i p k w : ℕ) → cd i ≡ micros.CheckHeld p k w → log_in s'.word d k ≢ 0 → log_in s'.word d k ≡ held_word d w
  held' i p k w e some = ⊎_elim
      (λ none. let new = new_log k none some in
      let taken = line_of_section.ordered.held_before i p k w (in_section i _ e) in
      let at = here k none new (suc (suc taken.0)) (micros.OutcomeCommit p k) taken.3 refl refl in
      let word = is_run k none new in
      let cell = taken_cell (undone k none new) taken.0 p w (code_back m l rs s before d t used_d thunk_is taken.0 _ taken.2)
      (let le = behind_q k none new in let same = at.0 in omega (arith, le, same)) in
      let named_own = (run_here k none new).in_word.outcome_named p k (code_run k none new _ at.1) (ap value_of (cell_same p ∙ cell) ∙ held_value d w link) in
      new.carried (ap carries at.1) ∙ (sym word.word ∙ (named_own ∙ (cell_same p ∙ cell))))
      (λ agreed. still k agreed (held_word d w) (old.held i p k w e agreed))
      (by_zero (log_in s.word d k))

  -- what a step does to a cell
  effect : (open_yet : IsUndone m s d t) (p : ℕ) → cells_of.Leaves m l rs before.beside s whole d (undone_section open_yet) alone named r kind x p no_hold
  effect open_yet p = cells_of.leaves m l rs before.beside s whole d (undone_section open_yet) alone named r kind x p no_hold asked

  in_own : (q : RunState) → y.run ≡ Some q → length q.opened ≡ 13 → q.descriptor ≡ d → (micro : Micro) → micro_at (line_of m q) q.at ≡ micro → sec.code q.at ≡ micro
  in_own q runs all of micro e = in_section q.at micro (run_line q runs all of q.at micro e)

  behind_own : (q : RunState) → y.run ≡ Some q → length q.opened ≡ 13 → q.descriptor ≡ d → q.at ≤ sec.edge
  behind_own q runs all of = subst (λ e. q.at ≤ (a.section e).edge) of (cells_of.behind m l before.beside s whole r q runs all)

  wants' : IsUndone m s' d t → (i p k w : ℕ) → cd i ≡ micros.CheckWord p k w → (s'.word (spots.Cell p) ≡ w) ⊎ (log_in s'.word d k ≢ 0)
  wants' later i p k w e = ⊎_elim
      (λ same. ⊎_elim
      (λ stays. inl (word_now (spots.Cell p) ∙ (stays ∙ same)))
      (λ more. ⊎_elim
      (λ fill. absurd (not_outside m l rs s before d t used_d thunk_is r fill.slot fill.cell p fill.low fill.place fill.here unlocked read_outside))
      (λ own. ⊎_elim (λ store. inr (stored own store)) (λ take. absurd (not_both (m.is_lock p)
      (hold_lock (rules_of m l) sec.lock sec.code sec.slot line_of_section own.run.at p take.0 (in_own own.run own.runs own.opened own.of _ take.1)) unlocked)) own.by)
      more)
      (effect open_yet p))
      (λ agreed. inr (λ z. agreed (sym (log_stands k agreed) ∙ z)))
      (old.wants open_yet i p k w e)
    where
      open_yet : IsUndone m s d t
      open_yet = undone_before later

      loaded : (j : ℕ) × (j < i) × (sec.code j ≡ micros.Commit p k)
      loaded = line_of_section.resolved.word_loaded i p k w (in_section i _ e)

      unlocked : m.is_lock p ≡ false
      unlocked = commit_unlocked (rules_of m l) sec.lock sec.code sec.slot line_of_section loaded.0 p k loaded.2

      -- the publisher read the cell
      read_outside : IsOutside m (scene m l rs s before d t used_d thunk_is) p
      read_outside =
          let shown = shown_open m before.beside.publications d (a.used d) sec used_d (undone_section open_yet) in
          let y = section_with m before.beside.publications d sec.log sec.edge in
          let fits = whole.kept.lawful.sound.fits d y shown in
          let allowed = whole.kept.lawful.sound.allowed d y shown in
          let thunk : before.beside.publications.thunk d ≡ t = whole.tied.thunk d used_d ∙ thunk_is in
          let wants = wanted_at (m.body t) (subst (λ (u : Thunk). IsShaped (m.body u)) thunk (whole.kept.shaped d used_d).shape) i p k w e in
          let read = over_planner.1.want_read y.readings y.op y.thunk allowed fits wants.load wants.want p wants.register w
          (subst (λ (u : Thunk). HasStep m u wants.load (Load p wants.register)) (sym thunk) wants.loads)
          (subst (λ (u : Thunk). HasStep m u wants.want (Want wants.register w)) (sym thunk) wants.wants) in
          (whole.kept.lawful.sound.published d y shown).outside read.0 p w read.1

      stored : (own : cells_of.Own m l rs before.beside s whole d (undone_section open_yet) alone named r kind x p no_hold)
          → (k1 : ℕ) × (v : Source) × (micro_at (line_of m own.run) own.run.at ≡ micros.ExchangeCell p k1 v) → log_in s'.word d k ≢ 0
      stored own store z =
          let at = in_own own.run own.runs own.opened own.of _ store.2 in
          let le = behind_own own.run own.runs own.opened own.of in
          let first = line_of_section.resolved.store_loaded own.run.at p store.0 store.1 at in
          let one = line_of_section.ordered.commit_before first.0 p store.0 first.2 in
          let two = line_of_section.ordered.commit_before loaded.0 p k loaded.2 in
          let same = line_of_section.placed.load_once one.0 two.0 p store.0 k one.2 two.2 in
          let low : loaded.0 < sec.edge = (let here = first.1 in let a1 = one.1 in let a2 = two.1 in omega (arith, le, here, a1, a2, same)) in
          let some = passed_some m l rs s before d t used_d thunk_is sure loaded.0 k (micros.Commit p k) loaded.2 refl refl low in
          some (sym (log_stands k some) ∙ z)

  takes' : IsUndone m s' d t → (i p w : ℕ) → cd i ≡ micros.NestedHold p w → (s'.word (spots.Cell p) ≡ w) ⊎ (s'.word (spots.Cell p) ≡ held_word d w)
  takes' later i p w e = ⊎_elim
      (λ stays. ⊎_elim (λ same. inl (word_now (spots.Cell p) ∙ (stays ∙ same))) (λ same. inr (word_now (spots.Cell p) ∙ (stays ∙ same))) (old.takes open_yet i p w e))
      (λ more. ⊎_elim
      (λ fill. absurd (not_locked m l rs s before d t used_d thunk_is r fill.slot fill.cell p fill.low fill.place fill.here live_d i w (in_section i _ e)))
      (λ own. ⊎_elim
      (λ store. absurd (not_both (m.is_lock p) locked
      (exchange_unlocked (rules_of m l) sec.lock sec.code sec.slot line_of_section own.run.at p store.0 store.1 (in_own own.run own.runs own.opened own.of _ store.2))))
      (λ take. taken own take (f (spots.Cell p) == w) refl) own.by)
      more)
      (effect open_yet p)
    where
      open_yet : IsUndone m s d t
      open_yet = undone_before later

      locked : m.is_lock p ≡ true
      locked = hold_lock (rules_of m l) sec.lock sec.code sec.slot line_of_section i p w (in_section i _ e)

      unlike : (b : ℕ) → (b == w) ≡ false → b ≡ w → ⊥
      unlike b fails same = grind (arith, nat_tests)

      hold_word : (w1 : ℕ) → micros.NestedHold p w1 ≡ micros.NestedHold p w → w1 ≡ w
      hold_word w1 same = cc

      taken : (own : cells_of.Own m l rs before.beside s whole d (undone_section open_yet) alone named r kind x p no_hold)
          → (take : (w1 : ℕ) × (micro_at (line_of m own.run) own.run.at ≡ micros.NestedHold p w1)
          × (put f x.0 (written x.1 (f x.0)) (spots.Cell p) ≡ exchanged (f (spots.Cell p)) w1 (held_word d w1)))
          → (b : Bool) → (f (spots.Cell p) == w) ≡ b → (s'.word (spots.Cell p) ≡ w) ⊎ (s'.word (spots.Cell p) ≡ held_word d w)
      taken own take b is =
          let at = in_own own.run own.runs own.opened own.of _ take.1 in
          let place = hold_once (rules_of m l) sec.lock sec.code sec.slot line_of_section own.run.at i p take.0 w at (in_section i _ e) in
          let word : take.0 ≡ w = hold_word take.0 (sym at ∙ (ap sec.code place ∙ in_section i _ e)) in
          let now = word_now (spots.Cell p) ∙ (take.2 ∙ ap (λ n. exchanged (f (spots.Cell p)) n (held_word d n)) word) in
          by b is now
        where
          by : (b : Bool) → (f (spots.Cell p) == w) ≡ b → s'.word (spots.Cell p) ≡ exchanged (f (spots.Cell p)) w (held_word d w)
              → (s'.word (spots.Cell p) ≡ w) ⊎ (s'.word (spots.Cell p) ≡ held_word d w)
          by true is now = inr (now ∙ ap (λ c. if c then held_word d w else f (spots.Cell p)) is)
          by false is now = ⊎_elim (λ same. absurd (unlike (f (spots.Cell p)) is same))
              (λ held. inr (now ∙ (ap (λ c. if c then held_word d w else f (spots.Cell p)) is ∙ held))) (old.takes open_yet i p w e)

  event_next : (q : RunState) (micro : Micro) → micro_at (line_of m q) q.at ≡ micro → is_event micro ≡ true → next_of m q ≡ micro
  event_next q micro e event = picks (is_event (micro_at (line_of m q) q.at)) _ _ micro (ap is_event e ∙ event) e
    where
      picks : (b : Bool) (one two three : Micro) → b ≡ true → one ≡ three → cond b one two ≡ three
      picks true one two three is same = same
      picks false one two three is same = absurd (let z = is in cc)

  -- the runs after the step
  abbrev Loaded : ℕ → Option RunState → Type 0
  Loaded i o = (q : RunState) (p k w : ℕ) → o ≡ Some q → q.descriptor ≡ d → length q.opened ≡ 13 → cd q.at ≡ micros.NestedCommit p k
      → cd (suc q.at) ≡ micros.CheckFree p k w → log_in s.word d k ≡ 0 → q.word ≡ w

  own_loaded : Loaded r (after_by m l kind y y.run found).run
  own_loaded = by y.run refl asked
    where
      in_open : (q : RunState) → y.run ≡ Some q → is_open_run q ≡ true → line_ask m l kind y.nodes.free y.blocks.free q (next_of m q) ≡ Some x
          → Loaded r (line_after m l kind y q (next_of m q) found).run
      in_open q runs opened e q' p k w is of all at next none = ⊎_elim
          (λ over. absurd (none_some q' (sym is ∙ over)))
          (λ more. by_run more.0 (some_same more.0 q' (sym more.1 ∙ is)) more.2)
          (runs_of.line_runs m l y found kind q runs kind refl (next_of m q)).run
        where
          full : length q.opened ≡ 13
          full = open_run q opened

          by_run : (q1 : RunState) → q1 ≡ q' → runs_of.Goes m l y found kind q q1 → q'.word ≡ w
          by_run q1 same goes = ⊎_elim
              (λ waits. sym (ap (λ (u : RunState). u.word) same) ∙ (waits.1 ∙ old.loads r q p k w runs own full
              (ap cd (sym (at_same ∙ waits.0)) ∙ at) (ap (λ i. cd (suc i)) (sym (at_same ∙ waits.0)) ∙ next) none))
              (λ rests. sym (ap (λ (u : RunState). u.word) same) ∙ rested rests.0 (at_same ∙ rests.1) rests.2)
              goes.at
            where
              own : q.descriptor ≡ d
              own = sym goes.descriptor ∙ (ap (λ (u : RunState). u.descriptor) same ∙ of)

              at_same : q'.at ≡ q1.at
              at_same = sym (ap (λ (u : RunState). u.at) same)

              rested : (trail : List ℕ) → q'.at ≡ settled (setting_of l q.descriptor) trail (line_of m q) (q.at + 1)
                  → (runs_of.loads_lock kind ≡ true → q1.word ≡ found) → q1.word ≡ w
              rested trail place word =
                  let commit = in_section q'.at _ at in
                  let load = line_of_section.ordered.nested_before q'.at p k commit in
                  let load_line = code_back m l rs s before d t used_d thunk_is load.0 _ load.2 in
                  let in_run : micro_at (line_of m q) load.0 ≡ micros.NestedLoad p k = back load.0 _ load_line in
                  let here = rests_behind (setting_of l q.descriptor) trail (line_of m q) q.at load.0 (sym place ∙ load.1) (ap is_check in_run) in
                  let event : next_of m q ≡ micros.NestedLoad p k = event_next q (micros.NestedLoad p k) (ap (micro_at (line_of m q)) (sym here) ∙ in_run) refl in
                  let k1 = nested_kind m l y.nodes.free y.blocks.free q x p k kind (ap (λ u. line_ask m l kind y.nodes.free y.blocks.free q u) (sym event) ∙ e) in
                  word (ap runs_of.loads_lock k1.0) ∙ (ap (λ (u : Spot × Access). f u.0) (sym k1.1) ∙ cell_here (load.1 ∙ ap suc here) (in_section q.at _ (ap cd (sym here) ∙ load_line)))
                where
                  back : (i : ℕ) (micro : Micro) → cd i ≡ micro → micro_at (line_of m q) i ≡ micro
                  back i micro e = sym (run_line q runs full own i _ refl) ∙ e

                  cell_here : q'.at ≡ suc q.at → sec.code q.at ≡ micros.NestedLoad p k → f (spots.Cell p) ≡ w
                  cell_here place' load_at =
                      let hold = hold_behind (m.body t) (suc q'.at) p k w next in
                      ⊎_elim (λ same. same)
                      (λ held. absurd (
                      let lock = hold_lock (rules_of m l) sec.lock sec.code sec.slot line_of_section (suc (suc q'.at)) p w (in_section _ _ hold) in
                      let with_it = (sound m l rs s before d t used_d thunk_is).section.in_locks.held p lock (ap value_of (cell_same p ∙ held) ∙ held_value d w link) in
                      ⊎_elim
                      (λ outer. hold_inner (rules_of m l) sec.lock sec.code sec.slot line_of_section (suc (suc q'.at)) p w (in_section _ _ hold) outer.0)
                      (λ nested.
                      let same = hold_once (rules_of m l) sec.lock sec.code sec.slot line_of_section nested.0 (suc (suc q'.at)) p nested.1 w nested.3 (in_section _ _ hold) in
                      passed_some m l rs s before d t used_d thunk_is sure q'.at k (micros.NestedCommit p k) (in_section q'.at _ at) refl refl
                      (let low = nested.2 in omega (arith, low, same)) none)
                      with_it))
                      (old.takes open_yet (suc (suc q'.at)) p w hold)
                    where
                      -- behind a load that comes late the word is agreed
                      open_yet : IsUndone m s d t
                      open_yet = ⊎_elim (λ z. z)
                          (λ some. absurd (
                          let le = behind_own q runs full own in
                          let less = done_passed m l rs s before d t used_d thunk_is some q.at (micros.NestedLoad p k) load_at refl le in
                          let more = done_passed m l rs s before d t used_d thunk_is some q'.at (micros.NestedCommit p k) (in_section q'.at _ at) refl
                          (omega (arith, less, place')) in
                          passed_some m l rs s before d t used_d thunk_is sure q'.at k (micros.NestedCommit p k) (in_section q'.at _ at) refl refl more none))
                          (by_zero (s.word (spots.DoneWord d)))

      in_opening : (q : RunState) → y.run ≡ Some q → opening_ask kind q ≡ Some x → Loaded r (opened_more y q found).run
      in_opening q runs e q' p k w is of all at next none =
          let same = some_same _ q' is in
          let place = ap (λ (u : RunState). u.at) same in
          let long = ap (λ (u : RunState). length u.opened) same in
          let sum = length-append q.opened (found ∷ []) in
          let begins = ((whole.sections.tied r).begins q runs (omega (arith, long, sum, all))).0 in
          let load = line_of_section.ordered.nested_before q'.at p k (in_section q'.at _ at) in
          absurd (let suc_at = load.1 in omega (arith, place, begins, suc_at))

      by : (o : Option RunState) → y.run ≡ o → ask_by m l rs r kind y o ≡ Some x → Loaded r (after_by m l kind y o found).run
      by None is e = λ q p k w now of all at next none. absurd (
          let one = (runs_of.outside_runs m l y found kind is kind).run q now in omega (arith, one, all))
      by (Some q) is e = opened_or (is_open_run q) refl e
        where
          opened_or : (b : Bool) → is_open_run q ≡ b → (if b then line_ask m l kind y.nodes.free y.blocks.free q (next_of m q) else opening_ask kind q) ≡ Some x
              → Loaded r (if b then line_after m l kind y q (next_of m q) found else opened_more y q found).run
          opened_or true opened e = in_open q is opened e
          opened_or false opened e = in_opening q is e

  all_loaded : (i : ℕ) → Loaded i (s'.part i).run
  all_loaded = subst (λ (u : Sight). (i : ℕ) → Loaded i (u.part i).run) (sym st.next)
      (each_part m l s r x (λ i z. Loaded i z.run) (λ i z blocks board records gone h. h) kind (joins m l rs kind r y x st.asked) own_loaded
      (λ i ne q p k w is of all at next none. old.loads i q p k w is of all at next none))

  loads' : (i : ℕ) (q : RunState) (p k w : ℕ) → (s'.part i).run ≡ Some q → q.descriptor ≡ d → length q.opened ≡ 13 → cd q.at ≡ micros.NestedCommit p k
      → cd (suc q.at) ≡ micros.CheckFree p k w → log_in s'.word d k ≡ 0 → q.word ≡ w
  loads' i q p k w is of all at next none = all_loaded i q p k w is of all at next
      (⊎_elim (λ z. z) (λ some. absurd (some (sym (log_stands k some) ∙ none))) (by_zero (log_in s.word d k)))

  pub kept : Goes m s' d t
  kept = record { wants = wants'; takes = takes'; loads = loads'; wanted = wanted'; free = free'; held = held' }
