-- How a step of a run shows in the scene: not at all behind the edge, and at the edge as its section's next place.
use Rattle.std.proofs.Common.{◌≡◌, ℕ, suc, ◌<◌, List, true, false, refl, sym, ap, ◌∙◌, subst, ⊎_elim, arith}
use Rattle.std.specs.Prelude.{Option, Some}
use Rattle.std.proofs.lemmas.Bool.{cases_lt}
use Rattle.epoch_core.specs.small_lemmas.proofs.Numbers.{later_edge as late_edge}
use Rattle.agreement_core.specs.body_terms.specs.Update.{upd}
use Rattle.agreement_core.specs.body_terms.specs.Run.{written_once}
use Rattle.agreement_core.specs.body_terms.specs.Line.{line, micro_at, is_event, is_commit}
use Rattle.agreement_core.specs.body_terms.specs.declared.step.Step.{Step}
use Rattle.agreement_core.specs.body_terms.specs.declared.micro.Micro.{Micro}
use Rattle.agreement_core.specs.table_words.specs.declared.layout.Layout.{Layout}
use Rattle.agreement_core.specs.section_lines.specs.structure_laws.specs.Scene as scenes
use Rattle.agreement_core.specs.section_lines.specs.structure_laws.specs.Meaning.{Meaning}
use Rattle.agreement_core.specs.section_lines.proofs.Moves.{is_within, within_moves}
use Rattle.agreement_core.specs.State.{CellRules, Section, Run, AgreementState}
use Rattle.agreement_core.specs.Checks.{passes, came}
use Rattle.agreement_core.specs.Sound.{IsSound, UsedIsSound}
use Rattle.agreement_core.specs.Runs.{RunIsSound}
use Rattle.agreement_core.proofs.Frame.{undone}
use Rattle.agreement_core.proofs.Lines.{event_goes, pass_goes, passes_same}
use Rattle.agreement_core.proofs.Stepping.{lead_edge, found_late}
use Rattle.machine_scenes.specs.Shown.{Publications, AreOfThunks, rules_of, section_with, section_of}
use Rattle.machine_scenes.proofs.Shown.{shown, shown_open, shown_change, shown_same, upd_found}

won : (found proposal : ℕ) → found ≡ 0 → written_once found proposal ≡ proposal
won found proposal e = grind arith

module _ (m : Meaning) (layout : Layout) (p : Publications) (w : AgreementState) (old : IsSound (rules_of m layout) w)
    (of_thunks : AreOfThunks m p w)
    (r : ℕ) (running : (w.run r).running ≡ true) (going : (w.run r).ended ≡ false) where
  abbrev c : CellRules
  c = rules_of m layout

  abbrev q : Run
  q = w.run r

  abbrev d : ℕ
  d = q.descriptor

  abbrev s : Section
  s = w.section d

  abbrev body : List Step
  body = m.body (p.thunk d)

  -- the section as far as this log and this edge say
  abbrev pub now : (ℕ → ℕ) → ℕ → scenes.Section
  now log edge = section_with m p d log edge

  abbrev pub sections : ℕ → Option scenes.Section
  sections i = shown m p w.used w.section i

  -- the sections after the run has come one place further, and its section has this log
  abbrev pub further : (ℕ → ℕ) → ℕ → Option scenes.Section
  further log i = shown m p w.used (upd w.section d (came (record s { log = log }) (suc q.at))) i

  pub used : w.used d ≡ true
  used = old.running_used r running

  pub own : UsedIsSound c w.shared (w.live d) (w.over d) d s
  own = old.sections d used

  pub run : RunIsSound c w.shared d s q
  run = old.runs r running

  -- behind the edge or at it
  pub by_place : {A : Type 0} → (q.at < s.edge → A) → (q.at ≡ s.edge → A) → A
  by_place late lead = ⊎_elim late (λ le. lead (let b = run.in_trail.behind in omega arith)) (cases_lt q.at s.edge)

  -- the step at the edge, in the body's line
  pub at_edge : (x : Micro) → s.code q.at ≡ x → q.at ≡ s.edge → micro_at (line body) s.edge ≡ x
  at_edge x is at = sym ((of_thunks d used).code s.edge) ∙ (ap s.code (sym at) ∙ is)

  -- a section of which a run goes on at the edge is open
  pub event_open : is_event (s.code q.at) ≡ true → q.at ≡ s.edge → s.done ≡ 0
  event_open event at = undone c d s own.section.in_log
      (event_goes c d s.log (s.code s.edge) (ap (λ n. is_event (s.code n)) (sym at) ∙ event))

  -- a check that passes passes by the log
  pub pass_agreed : passes c d q.trail (s.code q.at) ≡ true → passes c d s.log (s.code q.at) ≡ true
  pass_agreed pass = sym (passes_same c s.lock s.code s.slot own.published.line d q.at q.trail s.log
      (λ k low. run.in_trail.agreed k (let e = run.in_trail.counted in omega arith))) ∙ pass

  pub pass_open : passes c d q.trail (s.code q.at) ≡ true → q.at ≡ s.edge → s.done ≡ 0
  pass_open pass at = undone c d s own.section.in_log
      (pass_goes c d s.log (s.code s.edge) (subst (λ n. passes c d s.log (s.code n) ≡ true) at (pass_agreed pass)))

  -- the open section is shown
  pub here : s.done ≡ 0 → sections d ≡ Some (now s.log s.edge)
  here un = shown_open m p d (w.used d) s used un

  pub late_shown : (log : ℕ → ℕ) → log ≡ s.log → q.at < s.edge → ◌≡◌ {A = ℕ → Option scenes.Section} (further log) sections
  late_shown log same lt = shown_same m p w.used w.section d (came (record s { log = log }) (suc q.at))
      (ap (λ e. section_of m p d (w.used d) (record s { log = log; edge = e })) (late_edge s.edge q.at lt)
      ∙ ap (λ l. section_of m p d (w.used d) (record s { log = l })) same)

  pub lead_shown : (log : ℕ → ℕ) → q.at ≡ s.edge → s.done ≡ 0 → (x : scenes.Section) → now log (suc s.edge) ≡ x
      → ◌≡◌ {A = ℕ → Option scenes.Section} (further log) (upd sections d (Some x))
  lead_shown log at un x e = shown_change m p w.used w.section d (came (record s { log = log }) (suc q.at))
      ∙ ap (upd sections d) (ap (λ e. section_of m p d (w.used d) (record s { log = log; edge = e })) (lead_edge s.edge q.at at)
      ∙ (shown_open m p d (w.used d) (record s { log = log; edge = suc s.edge }) used un ∙ ap Some e))

  -- at the edge, where the step isn't the last one of its body's step
  pub same_shown : (log : ℕ → ℕ) → q.at ≡ s.edge → s.done ≡ 0 → now log (suc s.edge) ≡ now s.log s.edge
      → ◌≡◌ {A = ℕ → Option scenes.Section} (further log) sections
  same_shown log at un e = lead_shown log at un (now s.log s.edge) e ∙ upd_found sections d (Some (now s.log s.edge)) (sym (here un))

  -- a step within a step of the body
  pub within_shown : (x : Micro) → s.code q.at ≡ x → is_within x ≡ true → (q.at ≡ s.edge → s.done ≡ 0)
      → ◌≡◌ {A = ℕ → Option scenes.Section} (further s.log) sections
  within_shown x is within un = by_place (late_shown s.log refl)
      (λ at. same_shown s.log at (un at) (within_moves body (p.op d) (p.thunk d) (p.readings d) s.log s.edge x (at_edge x is at) within))

  -- a commit behind the edge finds the agreed word
  pub late_agreed : (log proposal : ℕ) → log ≡ s.slot q.at → is_commit (s.code q.at) ≡ true → q.at < s.edge
      → upd s.log log (written_once (s.log log) proposal) ≡ s.log
  late_agreed log proposal at commit lt = upd_found s.log log (written_once (s.log log) proposal)
      (found_late c w old r running going log proposal at commit lt)

  -- a commit at the edge writes its proposal
  pub lead_agreed : (log proposal : ℕ) → log ≡ s.slot q.at → q.at ≡ s.edge → written_once (s.log log) proposal ≡ proposal
  lead_agreed log proposal at edge = won (s.log log) proposal
      (own.section.in_log.empty log (let e : log ≡ s.slot s.edge = at ∙ ap s.slot edge in omega arith))
