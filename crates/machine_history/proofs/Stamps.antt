-- The exchange of a stamp, and a Store.
use Rattle.std.proofs.Common.{◌≡◌, ℕ, suc, ◌<◌, true, false, cond, List, refl, sym, ap, ◌∙◌, subst, inl, inr, ⊎_elim, arith}
use Rattle.std.specs.Prelude.{◌⊎◌, ◌==◌, ◌||◌, Option}
use Rattle.std.proofs.lemmas.Bool.{cases_lt}
use Rattle.std.proofs.lemmas.Bool.Decides.{nat_tests}
use mathlib.Core.Logic.{dite}
use native.Mathlib.Decide.{ℕ_discrete}
use Rattle.agreement_core.specs.map_history.specs.Replay.{Pairs, map_after}
use Rattle.agreement_core.specs.body_terms.specs.Update.{upd}
use Rattle.agreement_core.specs.body_terms.specs.Word.{next_word}
use Rattle.agreement_core.specs.body_terms.specs.Line.{line, micro_at, is_event}
use Rattle.agreement_core.specs.body_terms.specs.Shape.{IsStep}
use Rattle.agreement_core.specs.body_terms.specs.declared.step.Step.{Step}
use Rattle.agreement_core.specs.body_terms.specs.declared.step.Step.TheVariants.{Stamp}
use Rattle.agreement_core.specs.body_terms.specs.declared.micro.Source.{Source}
use Rattle.agreement_core.specs.body_terms.specs.declared.micro.Micro.{Micro}
use Rattle.agreement_core.specs.body_terms.specs.declared.micro.Micro.TheVariants as micros
use Rattle.agreement_core.specs.table_words.specs.declared.layout.Layout.{Layout}
use Rattle.agreement_core.specs.table_words.specs.Limits.{IsWithinLimits}
use Rattle.agreement_core.specs.section_lines.specs.structure_laws.specs.Scene.{Status, Readings, with_cell, passes}
use Rattle.agreement_core.specs.section_lines.specs.structure_laws.specs.Scene as scenes
use Rattle.agreement_core.specs.section_lines.specs.structure_laws.specs.Meaning.{Meaning}
use Rattle.agreement_core.specs.section_lines.specs.structure_laws.specs.Sections.{value_in}
use Rattle.agreement_core.specs.section_lines.specs.structure_laws.specs.Laws.{Laws}
use Rattle.agreement_core.specs.section_lines.specs.structure_laws.proofs.Changes.{upd_same, upd_other}
use Rattle.agreement_core.specs.section_lines.specs.Line.{phase}
use Rattle.agreement_core.specs.section_lines.specs.Progress.{passed_steps}
use Rattle.agreement_core.specs.section_lines.proofs.Progress.{passed_at}
use Rattle.agreement_core.specs.section_lines.proofs.Steps.{owner, part}
use Rattle.agreement_core.specs.section_lines.proofs.Sources.{of_stamp}
use Rattle.agreement_core.specs.State.{Section, Run, AgreementState}
use Rattle.agreement_core.specs.Checks.{is_stamp_exchange}
use Rattle.agreement_core.specs.Events as agreement
use Rattle.agreement_core.proofs.Stepping.{lead_edge}
use Rattle.epoch_core.specs.State.{Counts}
use Rattle.read_answers.specs.completed_memory.specs.Moves.{IsAtStamp}
use Rattle.machine_scenes.specs.Shown.{Publications, States, rules_of, scene_of, status_of, reader_of, section_with}
use Rattle.machine_scenes.specs.Kept.{IsKept}
use Rattle.machine_scenes.proofs.Running.{own, at_edge, event_open, late_shown, lead_shown, within_shown}
use Rattle.machine_scenes.proofs.RunSteps.{late_store, store_at, store_word}
use Rattle.machine_history.specs.Memory.{passed_stamp, marks_of, MemoryStands}
use Rattle.machine_history.proofs.Marks.{passed_behind, not_passed}
use Rattle.machine_history.proofs.Standing.{whole}
use Rattle.machine_history.proofs.Runs.{by_edge, there, marks_further, mark_of, mark_other, mark_late, marks_same, sections_further}
use Rattle.machine_history.proofs.Changing.{by_memory, from_scene, still}

-- the Stamp at whose atomic steps a section stands
pub stamp_here : (body : List Step) (i : ℕ) (x : Micro) → micro_at (line body) i ≡ x → (x ≡ micros.ClockLoad) ⊎ ((x ≡ micros.StampExchange) ⊎ (x ≡ micros.ClockRaise)) → IsStep body (passed_steps body i) Stamp
stamp_here body i x is kind = ⊎_elim (λ e. at micros.ClockLoad (is ∙ e) refl) (⊎_elim (λ e. at micros.StampExchange (is ∙ e) refl) (λ e. at micros.ClockRaise (is ∙ e) refl)) kind
  where
    at : (x : Micro) → micro_at (line body) i ≡ x → owner x ≡ 5 → IsStep body (passed_steps body i) Stamp
    at x is own = let f = (of_stamp body i x is own).from in
        subst (λ n. IsStep body n Stamp) (sym (ap (passed_steps body) f.place ∙ passed_at body f.n (part x) Stamp f.here f.within)) f.here

module _ (m : Meaning) (laws : Laws m) (layout : Layout) (limits : IsWithinLimits layout) (c : Counts) (j : States) (kept : IsKept m layout c j)
    (pairs : Pairs) (memory : MemoryStands m layout c j pairs) (r : ℕ) (running : (j.agreement.run r).running ≡ true) (going : (j.agreement.run r).ended ≡ false) where
  abbrev a : AgreementState
  a = j.agreement

  abbrev p : Publications
  p = j.publications

  abbrev q : Run
  q = a.run r

  abbrev d : ℕ
  d = q.descriptor

  abbrev s : Section
  s = a.section d

  abbrev body : List Step
  body = m.body (p.thunk d)

  abbrev x : scenes.Section
  x = section_with m p d s.log s.edge

  open_at : is_event (s.code q.at) ≡ true → q.at ≡ s.edge → s.done ≡ 0
  open_at = event_open m layout p a kept.agreement kept.thunks r running going

  -- a section whose run is the first at the exchange of its stamp stands at its Stamp, and isn't stamped
  pub at_stamp : s.code q.at ≡ micros.StampExchange → q.at ≡ s.edge → IsAtStamp m (scene_of m c j) (marks_of a) d x
  at_stamp is at = record {
    here = there m layout c j kept r running going (open_at (ap is_event is) at);
    step = stamp_here body s.edge micros.StampExchange (at_edge m layout p a kept.agreement kept.thunks r running going micros.StampExchange is at) (inr (inl refl));
    unmarked = not_passed ((rules_of m layout).is_lock) layout.version_max s.lock s.code s.slot
        (own m layout p a kept.agreement kept.thunks r running going).published.line s.edge micros.StampExchange (ap s.code (sym at) ∙ is) refl;
  }

  pub stamp_memory : s.code q.at ≡ micros.StampExchange
      → MemoryStands m layout c (record j { agreement = agreement.after a (agreement.StampExchange r) }) (cond (q.at == s.edge) (map_after pairs (p.op d)) pairs)
  stamp_memory is = by_edge m layout c j kept r running going
      (λ lt. subst (λ b. MemoryStands m layout c j' (cond b (map_after pairs (p.op d)) pairs)) (sym (differ q.at s.edge lt))
      (still m laws layout limits c j kept pairs memory j' same_sections (λ e y here. late_marks lt e) (λ place. refl)))
      (λ at. subst (λ b. MemoryStands m layout c j' (cond b (map_after pairs (p.op d)) pairs)) (sym (equal q.at s.edge at))
      (from_scene m laws layout limits c (scene_of m c j) (upd (marks_of a) d true) (map_after pairs (p.op d))
      ((by_memory m laws layout limits c).stamps (scene_of m c j) (marks_of a) pairs d x (whole m layout c j kept pairs memory) (at_stamp is at))
      j' (λ place. refl) same_sections (λ e y here. lead_marks at e)))
    where
      j' : States
      j' = record j { agreement = agreement.after (j.agreement) (agreement.StampExchange r) }

      differ : (a b : ℕ) → a < b → (a == b) ≡ false
      differ a b lt = grind (arith, nat_tests)

      equal : (a b : ℕ) → a ≡ b → (a == b) ≡ true
      equal a b same = grind (arith, nat_tests)

      same_sections : (e : ℕ) → sections_further m layout c j kept r running going s.log e ≡ (scene_of m c j).section e
      same_sections e = ap (λ sections. sections e) (within_shown m layout p a kept.agreement kept.thunks r running going micros.StampExchange is refl (open_at (ap is_event is)))

      late_marks : q.at < s.edge → (e : ℕ) → marks_further m layout c j kept r running going s.log e ≡ marks_of a e
      late_marks lt e = mark_late m layout c j kept r running going s.log lt e

      lead_marks : q.at ≡ s.edge → (e : ℕ) → marks_further m layout c j kept r running going s.log e ≡ upd (marks_of a) d true e
      lead_marks at e = dite (ℕ_discrete e d)
          (λ same. mark_of m layout c j kept r running going s.log (suc s.edge) (lead_edge s.edge q.at at) e same
          ∙ ap (λ x. is_stamp_exchange x || passed_stamp s.code s.edge) (ap s.code (sym at) ∙ is) ∙ sym (upd_same (marks_of a) d e true same))
          (λ other. mark_other m layout c j kept r running going s.log e other ∙ sym (upd_other (marks_of a) d e true other))

  -- where a Store comes next, the section is stamped
  stored_mark : (place log : ℕ) (value : Source) → s.code q.at ≡ micros.ExchangeCell place log value → q.at ≡ s.edge → marks_of a d ≡ true
  stored_mark place log value is at =
      let line = (own m layout p a kept.agreement kept.thunks r running going).published.line in
      ⊎_elim (λ lt. passed_behind s.code s.edge line.stamped.stamp lt line.stamped.stamps)
      (λ le.
      let phases = line.in_phases.phases s.edge line.stamped.stamp le in
      let here = ap phase (ap s.code (sym at) ∙ is) in let there = ap phase line.stamped.stamps in absurd (omega arith))
      (cases_lt line.stamped.stamp s.edge)

  pub store_memory : (place log : ℕ) (value : Source) → s.code q.at ≡ micros.ExchangeCell place log value
      → MemoryStands m layout c (record j { agreement = agreement.after a (agreement.ExchangeCell r place log value) }) pairs
  store_memory place log value is = by_edge m layout c j kept r running going
      (λ lt. still m laws layout limits c j kept pairs memory j' (λ e. ap (λ sections. sections e) (late_shown m layout p a kept.agreement kept.thunks r running going s.log refl lt))
      (λ e y here. marked e) (λ n. ap (λ cells. cells n) (late_store m laws layout limits p j.epochs.epoch status reader a kept.agreement kept.thunks kept.lawful r running going place log value is lt)))
      (λ at.
      let un = open_at (ap is_event is) at in
      let store = store_at m laws layout limits p j.epochs.epoch status reader a kept.agreement kept.thunks kept.lawful r running going place log value is at un in
      let word = next_word (x.reg store.reg) (value_in x.reg store.value) in
      from_scene m laws layout limits c (with_cell (passes (scene_of m c j) d x) place word) (marks_of a) pairs
      ((by_memory m laws layout limits c).store (scene_of m c j) (marks_of a) pairs d store.load place store.reg x store.value (whole m layout c j kept pairs memory)
      (there m layout c j kept r running going un) (stored_mark place log value is at) store.here store.loads)
      j' (λ n. ap (λ word. upd a.shared.cells place word n) (store_word m laws layout limits p j.epochs.epoch status reader a kept.agreement kept.thunks kept.lawful r running going place log value is at un))
      (λ e. ap (λ sections. sections e) (lead_shown m layout p a kept.agreement kept.thunks r running going s.log at un (scenes.passed x) store.next)) (λ e y here. marked e))
    where
      status : ℕ → Status
      status t = status_of c j.epochs.location t

      reader : ℕ → Option Readings
      reader r = reader_of j.epochs j.walk r

      j' : States
      j' = record j { agreement = agreement.after (j.agreement) (agreement.ExchangeCell r place log value) }

      marked : (e : ℕ) → marks_further m layout c j kept r running going s.log e ≡ marks_of a e
      marked e = marks_same m layout c j kept r running going s.log (λ stamp. other (sym is ∙ stamp)) e
        where
          other : micros.ExchangeCell place log value ≡ micros.StampExchange → ⊥
          other e = cc
