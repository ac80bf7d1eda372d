-- A section that the worker has just published, as the first in its entry.
use Rattle.std.specs.Prelude.{true, false, slice_get}
use Rattle.std.proofs.Common.{◌≡◌, ◌≢◌, ℕ, List, refl, sym, ap, ◌∙◌, subst, inl, Some}
use Rattle.machine_states.specs.map_history.specs.declared.op.Request.{Request}
use Rattle.machine_states.specs.body_terms.specs.Line.{line, micro_at}
use Rattle.machine_states.specs.body_terms.specs.declared.step.Step.TheVariants.{Load, Want}
use Rattle.machine_states.specs.body_terms.specs.declared.micro.Micro.{Micro}
use Rattle.machine_states.specs.body_terms.specs.declared.micro.Micro.TheVariants as micros
use Rattle.machine_states.specs.body_terms.specs.declared.thunk.Thunk.{Thunk}
use Rattle.agreement_core.specs.section_lines.specs.Line.{IsLine}
use Rattle.agreement_core.specs.section_lines.proofs.Sources.{of_take}
use Rattle.agreement_core.specs.section_lines.proofs.Wants.{wanted_at}
use Rattle.machine_states.specs.table_words.specs.declared.layout.Layout.{Layout}
use Rattle.machine_states.specs.table_words.specs.declared.spot.Spot.TheVariants as spots
use Rattle.machine_states.specs.structure_laws.specs.Meaning.{Meaning}
use Rattle.machine_states.specs.structure_laws.specs.Shape.{HasStep, Shaped}
use Rattle.machine_states.specs.structure_laws.specs.Planner.{PlannerLawsOver}
use Rattle.machine_states.specs.structure_laws.specs.Scene as scenes
use Rattle.machine_states.specs.runner_parts.specs.State.{RunState}
use Rattle.agreement_core.specs.State.{AgreementState, Section}
use Rattle.agreement_core.proofs.Lines.{hold_inner}
use Rattle.machine_states.specs.Sight.{Sight}
use Rattle.resource_bounds.specs.machine_epochs.specs.Slots.{thunk_in}
use Rattle.resource_bounds.specs.machine_scenes.specs.Shown.{rules_of, section_with, section_of}
use Rattle.resource_bounds.specs.machine_scenes.proofs.Shown.{shown_open}
use Rattle.runner_facts.specs.machine_facts.specs.machine_invariant.specs.Whole.{IsWhole}
use Rattle.resource_bounds.specs.reached_histories.specs.Laws.{HasHistory}
use Rattle.machine_states.specs.body_terms.specs.block_words.specs.Blocks.{log_in}
use Rattle.one_worker.proofs.State.{not_both, in_line, code_is}
use Rattle.one_worker.proofs.Goes.{Goes}

module _ (m : Meaning) (l : Layout) (rs : List Request) (per_pair : ℕ) (over : PlannerLawsOver m l per_pair) (s : Sight) (after : HasHistory m l rs s)
    (d : ℕ) (t : Thunk) (used : after.beside.agreement.used d ≡ true) (thunk_is : thunk_in s.word d ≡ t)
    (undone : s.word (spots.DoneWord d) ≡ 0) (empty : (k : ℕ) → log_in s.word d k ≡ 0)
    (publisher : after.beside.publications.runner d ≡ 0)
    (no_run : (r : ℕ) (q : RunState) → (s.part r).run ≡ Some q → q.descriptor ≡ d → ⊥)
    (cell_stands : (i place word : ℕ) → slice_get (s.part 0).reads.walk i ≡ Some (place, word) → place ≢ t.lock → m.is_lock place ≡ false → s.word (spots.Cell place) ≡ word)
    (lock_stands : (i place word w : ℕ) → slice_get (s.part 0).reads.walk i ≡ Some (place, word) → place ≢ t.lock → (j : ℕ) → micro_at (line (m.body t)) j ≡ micros.NestedHold place w
    → s.word (spots.Cell place) ≡ word) where
  whole : IsWhole m l after.beside s
  whole = after.whole

  abbrev a : AgreementState
  a = after.beside.agreement

  abbrev x : Section
  x = a.section d

  undone_section : x.done ≡ 0
  undone_section = (whole.sections.sections d).done ∙ undone

  abbrev shown : scenes.Section
  shown = section_with m after.beside.publications d x.log x.edge

  open_one : section_of m after.beside.publications d (a.used d) x ≡ Some shown
  open_one = shown_open m after.beside.publications d (a.used d) x used undone_section

  thunk : after.beside.publications.thunk d ≡ t
  thunk = whole.tied.thunk d used ∙ thunk_is

  shaped : Shaped m l shown.readings t
  shaped = subst (λ (u : Thunk). Shaped m l shown.readings u) thunk (whole.kept.shaped d used)

  -- what the section goes by, the worker has read
  walked : (i place word : ℕ) → slice_get shown.readings i ≡ Some (place, word) → slice_get (s.part 0).reads.walk i ≡ Some (place, word)
  walked i place word e = subst (λ r. slice_get (s.part r).reads.walk i ≡ Some (place, word)) publisher
      ((whole.kept.publishers d shown open_one).read i place word e)

  line_is : IsLine m.is_lock l.version_max x.lock x.code x.slot
  line_is = in_line m l rs s after d t used thunk_is

  in_section : (i : ℕ) (micro : Micro) → micro_at (line (m.body t)) i ≡ micro → x.code i ≡ micro
  in_section = code_is m l rs s after d t used thunk_is

  lock_is : x.lock ≡ t.lock
  lock_is = (whole.sections.thunks d used).lock ∙ ap (λ (u : Thunk). u.lock) thunk_is

  want_stands : (i p k w : ℕ) → micro_at (line (m.body t)) i ≡ micros.CheckWord p k w → s.word (spots.Cell p) ≡ w
  want_stands i p k w e =
      let fits = whole.kept.lawful.sound.fits d shown open_one in
      let allowed = whole.kept.lawful.sound.allowed d shown open_one in
      let wants = wanted_at (m.body t) shaped.shape i p k w e in
      let read = over.want_read shown.readings shown.op shown.thunk allowed fits wants.load wants.want p wants.register w
      (subst (λ (u : Thunk). HasStep m u wants.load (Load p wants.register)) (sym thunk) wants.loads)
      (subst (λ (u : Thunk). HasStep m u wants.want (Want wants.register w)) (sym thunk) wants.wants) in
      let unlocked = shaped.load_unlocked wants.load p wants.register wants.loads in
      cell_stands read.0 p w (walked read.0 p w read.1)
      (λ same. not_both (m.is_lock p) (ap m.is_lock same ∙ shaped.outer_lock) unlocked) unlocked

  take_stands : (i p w : ℕ) → micro_at (line (m.body t)) i ≡ micros.NestedHold p w → s.word (spots.Cell p) ≡ w
  take_stands i p w e =
      let o = of_take (m.body t) i (micros.NestedHold p w) e refl in
      let place : p ≡ o.0 = let same = o.2.same in cc in
      let word : w ≡ o.1 = let same = o.2.same in cc in
      let read = shaped.take_read o.2.from.n o.0 o.1 o.2.from.here in
      let inner = hold_inner (rules_of m l) x.lock x.code x.slot line_is i p w (in_section i _ e) in
      let here : slice_get (s.part 0).reads.walk read.0 ≡ Some (p, w) =
      subst (λ n. slice_get (s.part 0).reads.walk read.0 ≡ Some (n, w)) (sym place)
      (subst (λ n. slice_get (s.part 0).reads.walk read.0 ≡ Some (o.0, n)) (sym word) (walked read.0 o.0 o.1 read.1)) in
      lock_stands read.0 p w w here (λ same. inner (same ∙ sym lock_is)) i e

  pub published : Goes m s d t
  published = record {
    wants = λ z i p k w e. inl (want_stands i p k w e);
    takes = λ z i p w e. inl (take_stands i p w e);
    loads = λ r q p k w is of all at next none. absurd (no_run r q is of);
    wanted = λ i p k w e some. absurd (some (empty k));
    free = λ i p k w e some. absurd (some (empty k));
    held = λ i p k w e some. absurd (some (empty k));
  }
