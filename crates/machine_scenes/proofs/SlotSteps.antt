-- A private store, the commit of a Make and that of a Retire lead from a lawful scene to a lawful scene.
use Rattle.std.proofs.Common.{◌≡◌, ℕ, suc, ◌+◌, ◌<◌, ◌≤◌, List, true, false, refl, sym, ap, subst, arith}
use Rattle.std.specs.Prelude.{Option, Some}
use Rattle.agreement_core.specs.body_terms.specs.Update.{upd}
use Rattle.agreement_core.specs.body_terms.specs.Run.{written_once}
use Rattle.agreement_core.specs.body_terms.specs.Word.{version_of}
use Rattle.agreement_core.specs.body_terms.specs.Line.{is_event, is_commit}
use Rattle.agreement_core.specs.body_terms.specs.declared.step.Step.{Step}
use Rattle.agreement_core.specs.body_terms.specs.declared.step.Step.TheVariants.{Make}
use Rattle.agreement_core.specs.body_terms.specs.declared.value.Init.{Init}
use Rattle.agreement_core.specs.body_terms.specs.declared.micro.Source.{Source}
use Rattle.agreement_core.specs.body_terms.specs.declared.micro.Micro.TheVariants as micros
use Rattle.agreement_core.specs.table_words.specs.declared.layout.Layout.{Layout}
use Rattle.agreement_core.specs.table_words.specs.Limits.{IsWithinLimits}
use Rattle.agreement_core.specs.section_lines.specs.structure_laws.specs.Scene.{Readings, Status, Free, Live, Retired}
use Rattle.agreement_core.specs.section_lines.specs.structure_laws.specs.Scene as scenes
use Rattle.agreement_core.specs.section_lines.specs.structure_laws.specs.Meaning.{Meaning}
use Rattle.agreement_core.specs.section_lines.specs.structure_laws.specs.Sections.{IsStep, Here}
use Rattle.agreement_core.specs.section_lines.specs.structure_laws.specs.Cells.{cell_of, Links}
use Rattle.agreement_core.specs.section_lines.specs.structure_laws.specs.Laws.{Laws}
use Rattle.agreement_core.specs.section_lines.specs.structure_laws.specs.Keeps.{IsPrepared}
use Rattle.agreement_core.specs.section_lines.specs.structure_laws.proofs.Moves.{moves}
use Rattle.agreement_core.specs.section_lines.proofs.Moves.{make_moves, retire_moves}
use Rattle.agreement_core.specs.State.{Section, Run, AgreementState}
use Rattle.agreement_core.specs.Sound.{IsSound}
use Rattle.machine_scenes.specs.Shown.{Publications, AreOfThunks, rules_of, section_with}
use Rattle.machine_scenes.proofs.Shown.{shown}
use Rattle.machine_scenes.proofs.Running.{own, at_edge, event_open, here, sections, further, late_shown, lead_shown, late_agreed, lead_agreed}
use Rattle.machine_scenes.proofs.RunSteps.{scene, Lawful, with_sections, within_lawful}

module _ (m : Meaning) (laws : Laws m) (layout : Layout) (limits : IsWithinLimits layout) (p : Publications)
    (epoch : ℕ) (status : ℕ → Status) (reader : ℕ → Option Readings) (w : AgreementState) (old : IsSound (rules_of m layout) w)
    (of_thunks : AreOfThunks m p w)
    (lawful : Lawful m laws layout limits p epoch status reader w.shared.cells (λ d. shown m p w.used w.section d))
    (r : ℕ) (running : (w.run r).running ≡ true) (going : (w.run r).ended ≡ false) where
  abbrev q : Run
  q = w.run r

  abbrev d : ℕ
  d = q.descriptor

  abbrev s : Section
  s = w.section d

  abbrev body : List Step
  body = m.body (p.thunk d)

  abbrev cells : ℕ → ℕ
  cells = w.shared.cells

  abbrev all : ℕ → Option scenes.Section
  all i = sections m layout p w old of_thunks r running going i

  abbrev after : (ℕ → ℕ) → ℕ → Option scenes.Section
  after log i = further m layout p w old of_thunks r running going log i

  abbrev pub at_now : scenes.Section
  at_now = section_with m p d s.log s.edge

  is_open : is_event (s.code q.at) ≡ true → q.at ≡ s.edge → s.done ≡ 0
  is_open = event_open m layout p w old of_thunks r running going

  there : s.done ≡ 0 → Here (scene m laws layout limits p epoch status reader cells all) d at_now
  there = here m layout p w old of_thunks r running going

  -- a private store in a slot of a hand
  pub private_store_lawful : (cell log t word : ℕ) (value : Source) → s.code q.at ≡ micros.PrivateStore cell log value → status t ≡ Free
      → cell < 5
      → version_of word ≡ suc (version_of (cells (cell_of m t cell)))
      → Lawful m laws layout limits p epoch status reader (upd cells (cell_of m t cell) word) (after s.log)
  private_store_lawful cell log t word value is free low rises =
      (moves m laws layout limits).hand (scene m laws layout limits p epoch status reader cells (after s.log)) t cell word free low
      (omega arith)
      (within_lawful m laws layout limits p epoch status reader w old of_thunks lawful r running going
      (micros.PrivateStore cell log value) is refl (is_open (ap is_event is)))

  -- a commit behind the edge
  late_commit : (log proposal : ℕ) → log ≡ s.slot q.at → is_commit (s.code q.at) ≡ true → q.at < s.edge
      → Lawful m laws layout limits p epoch status reader cells (after (upd s.log log (written_once (s.log log) proposal)))
  late_commit log proposal at commit lt = with_sections m laws layout limits p epoch status reader cells
      (after (upd s.log log (written_once (s.log log) proposal))) all
      (late_shown m layout p w old of_thunks r running going (upd s.log log (written_once (s.log log) proposal))
      (late_agreed m layout p w old of_thunks r running going log proposal at commit lt) lt) lawful

  pub late_make_lawful : (log proposal : ℕ) → s.code q.at ≡ micros.MakeCommit log → q.at < s.edge
      → Lawful m laws layout limits p epoch status reader cells (after (upd s.log log (written_once (s.log log) proposal)))
  late_make_lawful log proposal is lt = late_commit log proposal
      ((own m layout p w old of_thunks r running going).published.line.counted.make_log q.at log is) (ap is_commit is) lt

  pub late_retire_lawful : (log t : ℕ) → s.code q.at ≡ micros.RetireCommit t log → q.at < s.edge
      → Lawful m laws layout limits p epoch status reader cells (after (upd s.log log (written_once (s.log log) (suc t))))
  late_retire_lawful log t is lt = late_commit log (suc t)
      ((own m layout p w old of_thunks r running going).published.line.counted.retire_log q.at t log is) (ap is_commit is) lt

  -- a commit at the edge
  lead_commit : (status' : ℕ → Status) (log proposal : ℕ) → log ≡ s.slot q.at → q.at ≡ s.edge → s.done ≡ 0 → (x : scenes.Section)
      → section_with m p d (upd s.log log proposal) (suc s.edge) ≡ x
      → Lawful m laws layout limits p epoch status' reader cells (upd all d (Some x))
      → Lawful m laws layout limits p epoch status' reader cells (after (upd s.log log (written_once (s.log log) proposal)))
  lead_commit status' log proposal at edge un x e next =
      subst (λ n. Lawful m laws layout limits p epoch status' reader cells (after (upd s.log log n)))
      (sym (lead_agreed m layout p w old of_thunks r running going log proposal at edge))
      (with_sections m laws layout limits p epoch status' reader cells (after (upd s.log log proposal)) (upd all d (Some x))
      (lead_shown m layout p w old of_thunks r running going (upd s.log log proposal) edge un x e) next)

  -- the commit of a Make that wins, with a slot that is prepared for it
  pub lead_make_lawful : (log t : ℕ) → s.code q.at ≡ micros.MakeCommit log → q.at ≡ s.edge
      → ((init : Init) (into : ℕ) → IsStep m at_now at_now.at (Make init into)
      → IsPrepared m layout (scene m laws layout limits p epoch status reader cells all) at_now t init)
      → Lawful m laws layout limits p epoch (upd status t Live) reader cells (after (upd s.log log (written_once (s.log log) (suc t))))
  lead_make_lawful log t is at prepared =
      let un = is_open (ap is_event is) at in
      let make = make_moves body (p.op d) (p.thunk d) (p.readings d) s.log s.edge log (suc t)
      (at_edge m layout p w old of_thunks r running going (micros.MakeCommit log) is at) in
      lead_commit (upd status t Live) log (suc t)
      ((own m layout p w old of_thunks r running going).published.line.counted.make_log q.at log is) at un
      (scenes.passed_with at_now make.1 (suc t)) make.3
      ((moves m laws layout limits).make (scene m laws layout limits p epoch status reader cells all) d t make.1 at_now make.0
      (there un) make.2 (prepared make.0 make.1 make.2) lawful)

  -- the commit of a Retire that wins, with an epoch that is at most one behind, and in which or before which each retired slot that links
  -- the slot was retired
  pub lead_retire_lawful : (log t y : ℕ) → s.code q.at ≡ micros.RetireCommit t log → q.at ≡ s.edge → y ≤ epoch → epoch ≤ y + 1
      → ((u z i : ℕ) → i < 5 → status u ≡ Retired z
      → Links m (scene m laws layout limits p epoch status reader cells all) (cell_of m u i) t → z ≤ y)
      → Lawful m laws layout limits p epoch (upd status t (Retired y)) reader cells
      (after (upd s.log log (written_once (s.log log) (suc t))))
  lead_retire_lawful log t y is at past recent links =
      let un = is_open (ap is_event is) at in
      let retire = retire_moves body (p.op d) (p.thunk d) (p.readings d) s.log s.edge t log (suc t)
      (at_edge m layout p w old of_thunks r running going (micros.RetireCommit t log) is at) in
      lead_commit (upd status t (Retired y)) log (suc t)
      ((own m layout p w old of_thunks r running going).published.line.counted.retire_log q.at t log is) at un
      (scenes.passed at_now) retire.1
      ((moves m laws layout limits).retire (scene m laws layout limits p epoch status reader cells all) d t y at_now
      (there un) retire.0 past recent links lawful)
