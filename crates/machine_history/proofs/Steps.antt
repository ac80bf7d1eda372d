-- Each joint step keeps the completed memory, or leads its map on.
use Rattle.std.proofs.Common.{◌≡◌, ◌≢◌, ℕ, suc, Bool, false, refl, sym, ap, ◌∙◌, subst, arith}
use Rattle.std.specs.Prelude.{Option, Some, None}
use Rattle.std.specs.FinMap.{empty}
use mathlib.Core.Path.{fun_ext}
use mathlib.Core.Logic.{dite}
use native.Mathlib.Decide.{ℕ_discrete}
use Rattle.epoch_core.specs.small_lemmas.proofs.Numbers.{tested_equal as equal_of}
use Rattle.agreement_core.specs.map_history.specs.declared.op.Op.{Op}
use Rattle.agreement_core.specs.map_history.specs.Replay.{Pairs}
use Rattle.agreement_core.specs.body_terms.specs.Update.{upd}
use Rattle.agreement_core.specs.body_terms.specs.Run.{written_once}
use Rattle.agreement_core.specs.body_terms.specs.Word.{version_of, held_word}
use Rattle.agreement_core.specs.body_terms.specs.Line.{is_event, is_commit}
use Rattle.agreement_core.specs.body_terms.specs.Shape.{IsStep}
use Rattle.agreement_core.specs.body_terms.specs.declared.step.Step.TheVariants.{Answer}
use Rattle.agreement_core.specs.body_terms.specs.declared.thunk.Thunk.{Thunk}
use Rattle.agreement_core.specs.body_terms.specs.declared.micro.Source.{Source}
use Rattle.agreement_core.specs.body_terms.specs.declared.micro.Micro.{Micro}
use Rattle.agreement_core.specs.body_terms.specs.declared.micro.Micro.TheVariants as micros
use Rattle.agreement_core.specs.table_words.specs.declared.layout.Layout.{Layout}
use Rattle.agreement_core.specs.table_words.specs.Limits.{IsWithinLimits}
use Rattle.agreement_core.specs.section_lines.specs.structure_laws.specs.Scene.{Status, Readings, with_cell, opened}
use Rattle.agreement_core.specs.section_lines.specs.structure_laws.specs.Meaning.{Meaning}
use Rattle.agreement_core.specs.section_lines.specs.structure_laws.specs.Cells.{cell_of}
use Rattle.agreement_core.specs.section_lines.specs.structure_laws.specs.Laws.{Laws}
use Rattle.agreement_core.specs.section_lines.specs.structure_laws.proofs.Changes.{upd_same, upd_other}
use Rattle.agreement_core.specs.section_lines.proofs.Sources.{of_answer}
use Rattle.agreement_core.specs.State.{Section, AgreementState}
use Rattle.agreement_core.proofs.Words.{version_held}
use Rattle.epoch_core.specs.State.{Counts}
use Rattle.read_answers.specs.completed_memory.specs.Moves.{StandsCompleted}
use Rattle.machine_scenes.specs.Shown.{Publications, States, scene_of, status_of, reader_of, section_with}
use Rattle.machine_scenes.specs.Steps.{Step as JointStep, Agreement, Epochs, Enter, Read, Leave, Publish, Fill, Make, LoadEpoch, Retire, Enabled, after, MayPublish, MayMake, MayRetire}
use Rattle.machine_scenes.specs.Kept.{IsKept}
use Rattle.machine_scenes.specs.Schedules.{first_states}
use Rattle.machine_scenes.proofs.Shown.{shown_unused, shown_some}
use Rattle.machine_scenes.proofs.Running.{own, event_open, within_shown, late_agreed}
use Rattle.machine_scenes.proofs.JointSteps.{hand_status}
use Rattle.machine_scenes.proofs.Publishing.{sections_publish}
use Rattle.machine_scenes.proofs.First.{status_first}
use Rattle.machine_scenes.proofs.Links.{true_false}
use Rattle.machine_history.specs.Memory.{passed_stamp, marks_of, pairs_after, MemoryStands, FirstMemoryStands, StepsKeepMemory, StampsAnswer, StampsApart, ClosedMemoryStands}
use Rattle.machine_history.proofs.Leaving.{some_none, Keep, completed_on}
use Rattle.machine_history.proofs.Standing.{whole}
use Rattle.machine_history.proofs.Runs.{marks_same, run_memory, retire_leads}
use Rattle.machine_history.proofs.Changing.{by_moves, by_memory, from_scene, still}
use Rattle.machine_history.proofs.Stamps.{at_stamp}
use Rattle.machine_history.proofs.AtStamp.{shown_at, open_here, stamp_settled, stamp_unstored}
use Rattle.machine_history.proofs.Events.{plain_memory, early_commit}

module _ (m : Meaning) (laws : Laws m) (layout : Layout) (limits : IsWithinLimits layout) where
  module _ (c : Counts) (j : States) (kept : IsKept m layout c j) (pairs : Pairs) (memory : MemoryStands m layout c j pairs) where
    abbrev a : AgreementState
    a = j.agreement

    abbrev p : Publications
    p = j.publications

    abbrev status : ℕ → Status
    status t = status_of c j.epochs.location t

    abbrev reader : ℕ → Option Readings
    reader i = reader_of j.epochs j.walk i

    same : (j' : States) → ((n : ℕ) → j'.agreement.shared.cells n ≡ a.shared.cells n) → ((e : ℕ) → (scene_of m c j').section e ≡ (scene_of m c j).section e)
        → ((e : ℕ) → marks_of j'.agreement e ≡ marks_of a e) → MemoryStands m layout c j' pairs
    same j' cells sections marks = still m laws layout limits c j kept pairs memory j' sections (λ e x here. marks e) cells

    publish_memory : (r d lock word request : ℕ) (code : ℕ → Micro) (slot : ℕ → ℕ) (op : Op) (thunk : Thunk)
        → MayPublish m layout c j r d lock word request code slot op thunk → MemoryStands m layout c (after m layout c j (Publish r d lock word request code slot op thunk)) pairs
    publish_memory r d lock word request code slot op thunk ok = record {
      cells = st.cells;
      completed = completed_on m layout (with_cell (scene_of m c j) lock (held_word d word)) (scene_of m c (after m layout c j (Publish r d lock word request code slot op thunk))) (marks_of a)
          (marks_of (after m layout c j (Publish r d lock word request code slot op thunk)).agreement) st.cells st.completed (λ n. refl) keep back;
      stands = st.stands;
    }
      where
        j' : States
        j' = after m layout c j (Publish r d lock word request code slot op thunk)

        new : Section
        new = record (a.section d) { lock = lock; word = word; request = request; code = code; slot = slot; log = λ k. 0; edge = 0 }

        st : StandsCompleted m layout (with_cell (scene_of m c j) lock (held_word d word)) (marks_of a) pairs
        st = (by_memory m laws layout limits c).lock (scene_of m c j) (marks_of a) pairs lock (held_word d word) (whole m layout c j kept pairs memory) ok.enabled.2.line.placed.outer_lock
            ((by_moves m laws layout limits c).lock (scene_of m c j) lock (held_word d word) ok.enabled.2.line.placed.outer_lock
            (let e = version_held d word ok.enabled.2.link in let f = ap version_of ok.enabled.1 in omega arith) kept.lawful)

        none : (scene_of m c j).section d ≡ None
        none = shown_unused m p d (a.used d) (a.section d) ok.enabled.0

        next : (e : ℕ) → (scene_of m c j').section e ≡ upd ((scene_of m c j).section) d (Some (opened op thunk (j.walk r))) e
        next e = ap (λ sections. sections e) (sections_publish m laws layout limits p j.epochs.epoch status reader a kept.agreement kept.thunks kept.lawful d lock word request code slot ok.enabled op thunk (j.walk r) r)

        marked : (e : ℕ) → e ≢ d → marks_of j'.agreement e ≡ marks_of a e
        marked e other = ap (λ x. passed_stamp (x.code) (x.edge)) (upd_other a.section d e (record (a.section d) { lock = lock; word = word; request = request; code = code; slot = slot; log = λ k. 0; edge = 0 }) other)

        fresh : (e : ℕ) → e ≡ d → marks_of j'.agreement e ≡ false
        fresh e is = ap (λ x. passed_stamp (x.code) (x.edge)) (upd_same a.section d e (record (a.section d) { lock = lock; word = word; request = request; code = code; slot = slot; log = λ k. 0; edge = 0 }) is)

        keep : Keep m layout (with_cell (scene_of m c j) lock (held_word d word)) (scene_of m c j') (marks_of a) (marks_of j'.agreement)
        keep e z n w here mark store = dite (ℕ_discrete e d)
            (λ is. absurd (some_none (sym here ∙ ap ((scene_of m c j).section) is ∙ none)))
            (λ other. (z, next e ∙ (upd_other ((scene_of m c j).section) d e (Some (opened op thunk (j.walk r))) other ∙ here), marked e other ∙ mark, store))

        back : Keep m layout (scene_of m c j') (with_cell (scene_of m c j) lock (held_word d word)) (marks_of j'.agreement) (marks_of a)
        back e z n w here mark store = dite (ℕ_discrete e d)
            (λ is. absurd (true_false mark (fresh e is)))
            (λ other. (z, sym (upd_other ((scene_of m c j).section) d e (Some (opened op thunk (j.walk r))) other) ∙ (sym (next e) ∙ here), sym (marked e other) ∙ mark, store))

    fill_memory : (r cell log : ℕ) (value : Source) (t word : ℕ) → Enabled m layout c j (Fill r cell log value t word) → MemoryStands m layout c (after m layout c j (Fill r cell log value t word)) pairs
    fill_memory r cell log value t word ok =
        let free = hand_status c j.epochs.location t ok.1.0 ok.1.1 in
        let before = ok.0.0 in
        from_scene m laws layout limits c (with_cell (scene_of m c j) (cell_of m t cell) word) (marks_of a) pairs
        ((by_memory m laws layout limits c).hand (scene_of m c j) (marks_of a) pairs t cell word (whole m layout c j kept pairs memory) free ok.2
        ((by_moves m laws layout limits c).hand (scene_of m c j) t cell word free ok.2 (let rises = ok.0.1.rises in omega arith) kept.lawful))
        (after m layout c j (Fill r cell log value t word)) (λ n. refl)
        (λ e. ap (λ sections. sections e) (within_shown m layout p a kept.agreement kept.thunks r before.running before.going (micros.PrivateStore cell log value) before.next refl
        (event_open m layout p a kept.agreement kept.thunks r before.running before.going (ap is_event before.next))))
        (λ e x here. marks_same m layout c j kept r before.running before.going ((a.section ((a.run r).descriptor)).log) (λ is. other (sym before.next ∙ is)) e)
      where
        other : micros.PrivateStore cell log value ≡ micros.StampExchange → ⊥
        other e = cc

    make_memory : (r log t : ℕ) (worn : Bool) → MayMake m layout c j r log t worn → MemoryStands m layout c (after m layout c j (Make r log t worn)) pairs
    make_memory r log t worn ok =
        let before = ok.enabled.0 in
        early_commit m laws layout limits c j kept pairs memory r (micros.MakeCommit log) log (suc t) before refl refl refl (λ e. cc)
        ((own m layout p a kept.agreement kept.thunks r before.running before.going).published.line.counted.make_log ((a.run r).at) log before.next)
        (after m layout c j (Make r log t worn)) (λ n. refl) (λ e. refl) (λ e. refl)

    retire_memory : (r log t : ℕ) → MayRetire m layout c j r log t → MemoryStands m layout c (after m layout c j (Retire r log t)) pairs
    retire_memory r log t ok =
        let before = ok.enabled in
        let s = a.section ((a.run r).descriptor) in
        run_memory m layout c j kept r before.running before.going (after m layout c j (Retire r log t)) (upd s.log log (written_once (s.log log) (suc t))) pairs (λ n. refl) (λ e. refl) (λ e. refl)
        (λ is. other (sym before.next ∙ is))
        (late_agreed m layout p a kept.agreement kept.thunks r before.running before.going log (suc t)
        ((own m layout p a kept.agreement kept.thunks r before.running before.going).published.line.counted.retire_log ((a.run r).at) t log before.next) (ap is_commit before.next))
        (retire_leads m layout c j kept r before.running before.going t log (written_once (s.log log) (suc t)) before.next) memory
      where
        other : micros.RetireCommit t log ≡ micros.StampExchange → ⊥
        other e = cc

    pub step_memory : (step : JointStep) → Enabled m layout c j step → MemoryStands m layout c (after m layout c j step) (pairs_after j step pairs)
    step_memory (Agreement v) ok = plain_memory m laws layout limits c j kept pairs memory v ok.0 ok.1
    step_memory (Epochs v) ok = same (after m layout c j (Epochs v)) (λ n. refl) (λ e. refl) (λ e. refl)
    step_memory (Enter r) ok = same (after m layout c j (Enter r)) (λ n. refl) (λ e. refl) (λ e. refl)
    step_memory (Read r place) ok = same (after m layout c j (Read r place)) (λ n. refl) (λ e. refl) (λ e. refl)
    step_memory (Leave r) ok = same (after m layout c j (Leave r)) (λ n. refl) (λ e. refl) (λ e. refl)
    step_memory (Publish r d lock word request code slot op thunk) ok = publish_memory r d lock word request code slot op thunk ok
    step_memory (Fill r cell log value t word) ok = fill_memory r cell log value t word ok
    step_memory (Make r log t worn) ok = make_memory r log t worn ok
    step_memory (LoadEpoch r log t) ok = same (after m layout c j (LoadEpoch r log t)) (λ n. refl) (λ e. refl) (λ e. refl)
    step_memory (Retire r log t) ok = retire_memory r log t ok

  pub steps_keep : StepsKeepMemory m layout
  steps_keep c nodes j step pairs ok kept memory = step_memory c j kept pairs memory step ok

  pub first_stands : FirstMemoryStands m layout
  first_stands c nodes location first p = from_scene m laws layout limits c (scene_of m c (first_states m location p)) (λ d. false) empty
      ((by_memory m laws layout limits c).first (scene_of m c (first_states m location p))
      (record { cells = λ n. refl; status = status_first m laws layout limits c nodes location first p; reader = λ r. refl; section = λ d. refl }))
      (first_states m location p) (λ n. refl) (λ d. refl) (λ d x here. absurd (some_none (sym here)))

  pub stamps_answer : StampsAnswer m layout
  stamps_answer c nodes j r pairs kept memory map before furthest i n is =
      let d = (j.agreement.run r).descriptor in
      let body = m.body (j.publications.thunk d) in
      let used = kept.agreement.running_used r before.running in
      let origin = of_answer body i (micros.ReplyExchange n) (sym ((kept.thunks d used).code i) ∙ is) refl in
      (by_memory m laws layout limits c).answers (scene_of m c j) (marks_of j.agreement) pairs d (section_with m j.publications d ((j.agreement.section d).log) ((j.agreement.section d).edge))
      (whole m layout c j kept pairs memory)
      (at_stamp m laws layout limits c j kept pairs memory r before.running before.going before.next (equal_of ((j.agreement.run r).at) ((j.agreement.section d).edge) furthest)) map
      origin.1.from.n n (subst (λ reply. IsStep body origin.1.from.n (Answer reply)) (sym (one n origin.0 origin.1.same)) origin.1.from.here)
    where
      one : (n k : ℕ) → micros.ReplyExchange n ≡ micros.ReplyExchange k → n ≡ k
      one n k e = cc

  pub stamps_apart : StampsApart m layout
  stamps_apart c nodes j d e kept map ne of_d of_e at_d at_e =
      ((laws.over layout limits).gives (scene_of m c j) kept.lawful.sound kept.lawful.kept).one_key map d e (shown_at m j d) (shown_at m j e)
      (open_here m c j d of_d) (open_here m c j e of_e) ne
      (stamp_settled m layout c j kept d of_d at_d) (stamp_settled m layout c j kept e of_e at_e)
      (stamp_unstored m layout c j kept d of_d at_d) (stamp_unstored m layout c j kept e of_e at_e)

  pub closed_stands : ClosedMemoryStands m layout
  closed_stands c nodes j pairs memory closed = subst (λ cells. m.stands layout cells pairs)
      (fun_ext (λ n. memory.completed.kept n (λ w b.
      let is = shown_some m j.publications b.descriptor (j.agreement.used b.descriptor) (j.agreement.section b.descriptor) b.section b.here in
      closed b.descriptor (record { used = is.used; undone = is.undone })))) memory.stands
