-- A step of a run leaves the remaining Stores of stamped sections, unless it is a Store, or the exchange of a stamp.
use Rattle.std.proofs.Common.{◌≡◌, ◌≢◌, ℕ, suc, ◌<◌, true, false, List, refl, sym, ap, ◌∙◌, inl, inr, arith}
use Rattle.std.specs.Prelude.{◌⊎◌, ◌||◌, Option, Some}
use mathlib.Core.Logic.{dite}
use native.Mathlib.Decide.{ℕ_discrete}
use Rattle.epoch_core.specs.small_lemmas.proofs.Numbers.{later_edge as late_edge}
use Rattle.agreement_core.specs.map_history.specs.Replay.{Pairs}
use Rattle.agreement_core.specs.body_terms.specs.Update.{upd}
use Rattle.agreement_core.specs.body_terms.specs.Line.{is_event}
use Rattle.agreement_core.specs.body_terms.specs.declared.step.Step.{Step}
use Rattle.agreement_core.specs.body_terms.specs.declared.step.Step.TheVariants.{Stamp, Retire, Answer}
use Rattle.agreement_core.specs.body_terms.specs.declared.micro.Micro.{Micro}
use Rattle.agreement_core.specs.body_terms.specs.declared.micro.Micro.TheVariants as micros
use Rattle.agreement_core.specs.table_words.specs.declared.layout.Layout.{Layout}
use Rattle.agreement_core.specs.section_lines.specs.structure_laws.specs.Scene as scenes
use Rattle.agreement_core.specs.section_lines.specs.structure_laws.specs.Meaning.{Meaning}
use Rattle.agreement_core.specs.section_lines.specs.structure_laws.proofs.Changes.{upd_same, upd_other}
use Rattle.agreement_core.specs.section_lines.proofs.Moves.{within_moves, stamp_moves, retire_moves, answer_moves}
use Rattle.agreement_core.specs.State.{Section, Run, AgreementState}
use Rattle.agreement_core.specs.Checks.{is_stamp_exchange, came}
use Rattle.agreement_core.proofs.Stepping.{lead_edge}
use Rattle.epoch_core.specs.State.{Counts}
use Rattle.read_answers.specs.completed_memory.specs.Pending.{Marks}
use Rattle.machine_scenes.specs.Shown.{Publications, States, rules_of, scene_of, section_with}
use Rattle.machine_scenes.specs.Kept.{IsKept}
use Rattle.machine_scenes.proofs.Running.{further, own, by_place, at_edge, event_open, here, late_shown, lead_shown}
use Rattle.machine_history.specs.Memory.{passed_stamp, marks_of, MemoryStands}
use Rattle.machine_history.proofs.Marks.{is_early, not_passed}
use Rattle.machine_history.proofs.Leaving.{completed_on, keep_same, Turns, turns_same, turns_passed, keep_on, keep_back}

no_exchange : (x : Micro) → x ≢ micros.StampExchange → is_stamp_exchange x ≡ false
no_exchange micros.StampExchange other = absurd (other refl)
no_exchange x other = grind arith

module _ (m : Meaning) (layout : Layout) (c : Counts) (j : States) (kept : IsKept m layout c j) (r : ℕ)
    (running : ((j.agreement.run r).running) ≡ true) (going : ((j.agreement.run r).ended) ≡ false) where
  abbrev a : AgreementState
  a = j.agreement

  abbrev p : Publications
  p = j.publications

  abbrev q : Run
  q = a.run r

  abbrev d : ℕ
  d = q.descriptor

  abbrev s : Section
  s = a.section d

  abbrev body : List Step
  body = m.body (p.thunk d)

  -- the section as far as this log and this edge say
  abbrev pub now : (ℕ → ℕ) → ℕ → scenes.Section
  now log edge = section_with m p d log edge

  -- the sections and their marks after the run has come one place further, and its section has this log
  abbrev pub sections_further : (ℕ → ℕ) → ℕ → Option scenes.Section
  sections_further log e = further m layout p a kept.agreement kept.thunks r running going log e

  abbrev pub stepped_section : (ℕ → ℕ) → ℕ → Section
  stepped_section log = upd a.section d (came (record s { log = log }) (suc q.at))

  abbrev pub marks_further : (ℕ → ℕ) → Marks
  marks_further log e = passed_stamp ((stepped_section log e).code) ((stepped_section log e).edge)

  pub by_edge : {A : Type 0} → (q.at < s.edge → A) → (q.at ≡ s.edge → A) → A
  by_edge = by_place m layout p a kept.agreement kept.thunks r running going

  pub there : s.done ≡ 0 → (scene_of m c j).section d ≡ Some (now s.log s.edge)
  there = here m layout p a kept.agreement kept.thunks r running going

  -- the mark of a section that has come one place further
  pub mark_of : (log : ℕ → ℕ) (edge : ℕ) → (came (record s { log = log }) (suc q.at)).edge ≡ edge → (e : ℕ) → e ≡ d → marks_further log e ≡ passed_stamp s.code edge
  mark_of log edge at e same = ap (λ x. passed_stamp (x.code) (x.edge)) (upd_same a.section d e (came (record s { log = log }) (suc q.at)) same) ∙ ap (passed_stamp s.code) at

  pub mark_other : (log : ℕ → ℕ) (e : ℕ) → e ≢ d → marks_further log e ≡ marks_of a e
  mark_other log e other = ap (λ x. passed_stamp (x.code) (x.edge)) (upd_other a.section d e (came (record s { log = log }) (suc q.at)) other)

  -- a step behind the edge leaves the marks
  pub mark_late : (log : ℕ → ℕ) → q.at < s.edge → (e : ℕ) → marks_further log e ≡ marks_of a e
  mark_late log lt e = dite (ℕ_discrete e d) (λ same. mark_of log s.edge (late_edge s.edge q.at lt) e same ∙ ap (marks_of a) (sym same)) (mark_other log e)

  -- a step other than the exchange leaves the marks
  pub marks_same : (log : ℕ → ℕ) → s.code q.at ≢ micros.StampExchange → (e : ℕ) → marks_further log e ≡ marks_of a e
  marks_same log other e = dite (ℕ_discrete e d)
      (λ same. by_edge (λ lt. mark_of log s.edge (late_edge s.edge q.at lt) e same)
      (λ at. mark_of log (suc s.edge) (lead_edge s.edge q.at at) e same
      ∙ ap (λ b. b || passed_stamp s.code s.edge) (no_exchange (s.code s.edge) (λ is. other (ap s.code at ∙ is))))
      ∙ ap (marks_of a) (sym same))
      (mark_other log e)

  -- what the step at the edge makes of its section: it isn't stamped, or its remaining Stores stay
  abbrev pub Leads : (ℕ → ℕ) → Type 0
  Leads log = q.at ≡ s.edge → (s.done ≡ 0) × ((marks_of a d ≡ false) ⊎ Turns m layout (now s.log s.edge) (now log (suc s.edge)))

  -- the completed memory after such a step
  pub run_memory : (j' : States) (log : ℕ → ℕ) (pairs : Pairs) → ((place : ℕ) → j'.agreement.shared.cells place ≡ a.shared.cells place)
      → ((e : ℕ) → (scene_of m c j').section e ≡ sections_further log e) → ((e : ℕ) → marks_of j'.agreement e ≡ marks_further log e)
      → s.code q.at ≢ micros.StampExchange → (q.at < s.edge → log ≡ s.log) → Leads log → MemoryStands m layout c j pairs → MemoryStands m layout c j' pairs
  run_memory j' log pairs cells shown marks other late lead memory = by_edge
      (λ lt. record {
        cells = memory.cells;
        completed = completed_on m layout (scene_of m c j) (scene_of m c j') (marks_of a) (marks_of j'.agreement) memory.cells memory.completed cells
            (keep_same m layout (scene_of m c j) (scene_of m c j') (marks_of a) (marks_of j'.agreement) (λ e. late_same lt e) (λ e x here. marked e))
            (keep_same m layout (scene_of m c j') (scene_of m c j) (marks_of j'.agreement) (marks_of a) (λ e. sym (late_same lt e)) (λ e x here. sym (marked e)));
        stands = memory.stands;
      })
      (λ at.
      let leads = lead at in
      let here = there leads.0 in
      let next : (e : ℕ) → (scene_of m c j').section e ≡ upd ((scene_of m c j).section) d (Some (now log (suc s.edge))) e = λ e. shown e
      ∙ ap (λ sections. sections e) (lead_shown m layout p a kept.agreement kept.thunks r running going log at leads.0 (now log (suc s.edge)) refl) in
      record {
        cells = memory.cells;
        completed = completed_on m layout (scene_of m c j) (scene_of m c j') (marks_of a) (marks_of j'.agreement) memory.cells memory.completed cells
            (keep_on m layout (scene_of m c j) (scene_of m c j') (marks_of a) (marks_of j'.agreement) d (now s.log s.edge) (now log (suc s.edge)) here next marked leads.1)
            (keep_back m layout (scene_of m c j) (scene_of m c j') (marks_of a) (marks_of j'.agreement) d (now s.log s.edge) (now log (suc s.edge)) here next marked leads.1);
        stands = memory.stands;
      })
    where
      late_same : q.at < s.edge → (e : ℕ) → (scene_of m c j').section e ≡ (scene_of m c j).section e
      late_same lt e = shown e ∙ ap (λ sections. sections e) (late_shown m layout p a kept.agreement kept.thunks r running going log (late lt) lt)

      marked : (e : ℕ) → marks_of j'.agreement e ≡ marks_of a e
      marked e = marks e ∙ marks_same log other e

  open_at : is_event (s.code q.at) ≡ true → q.at ≡ s.edge → s.done ≡ 0
  open_at = event_open m layout p a kept.agreement kept.thunks r running going

  -- the steps before the exchange of the stamp
  pub early_leads : (log : ℕ → ℕ) (x : Micro) → s.code q.at ≡ x → is_early x ≡ true → (q.at ≡ s.edge → s.done ≡ 0) → Leads log
  early_leads log x is early un at = (
    un at,
    inl (not_passed ((rules_of m layout).is_lock) layout.version_max s.lock s.code s.slot
        (own m layout p a kept.agreement kept.thunks r running going).published.line s.edge x (ap s.code (sym at) ∙ is) early),
  )

  -- the raise of the clock, the load of an epoch, the commit of a Retire, and the reply
  pub raise_leads : s.code q.at ≡ micros.ClockRaise → Leads s.log
  raise_leads is at =
      let moves = stamp_moves body (p.op d) (p.thunk d) (p.readings d) s.log s.edge (at_edge m layout p a kept.agreement kept.thunks r running going micros.ClockRaise is at) in
      (open_at (ap is_event is) at, inr (turns_passed m layout (now s.log s.edge) (now s.log (suc s.edge)) Stamp moves.0 (λ r v e. cc) moves.1))

  pub epoch_leads : (slot log : ℕ) → s.code q.at ≡ micros.EpochForRetire slot log → Leads s.log
  epoch_leads slot log is at = (
    open_at (ap is_event is) at,
    inr (turns_same m layout (now s.log s.edge) (now s.log (suc s.edge))
        (within_moves body (p.op d) (p.thunk d) (p.readings d) s.log s.edge (micros.EpochForRetire slot log)
        (at_edge m layout p a kept.agreement kept.thunks r running going (micros.EpochForRetire slot log) is at) refl)),
  )

  pub retire_leads : (slot log word : ℕ) → s.code q.at ≡ micros.RetireCommit slot log → Leads (upd s.log log word)
  retire_leads slot log word is at =
      let moves = retire_moves body (p.op d) (p.thunk d) (p.readings d) s.log s.edge slot log word
      (at_edge m layout p a kept.agreement kept.thunks r running going (micros.RetireCommit slot log) is at) in
      (open_at (ap is_event is) at, inr (turns_passed m layout (now s.log s.edge) (now (upd s.log log word) (suc s.edge)) (Retire slot) moves.0 (λ r v e. cc) moves.1))

  pub reply_leads : (reply : ℕ) → s.code q.at ≡ micros.ReplyExchange reply → Leads s.log
  reply_leads reply is at =
      let moves = answer_moves body (p.op d) (p.thunk d) (p.readings d) s.log s.edge reply (at_edge m layout p a kept.agreement kept.thunks r running going (micros.ReplyExchange reply) is at) in
      (open_at (ap is_event is) at, inr (turns_passed m layout (now s.log s.edge) (now s.log (suc s.edge)) (Answer reply) moves.0 (λ r v e. cc) moves.1))
