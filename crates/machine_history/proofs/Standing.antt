-- What joint states say of their scene: which sections are stamped, and that there are only so many.
use Rattle.std.proofs.Common.{◌≡◌, ℕ, Bool, true, false, List, refl, sym, ◌∙◌, subst, ⊎_elim, arith}
use Rattle.std.specs.Prelude.{◌^◌, None}
use Rattle.std.proofs.lemmas.Bool.{cases_lt}
use Rattle.agreement_core.specs.map_history.specs.Replay.{Pairs}
use Rattle.agreement_core.specs.body_terms.specs.declared.step.Step.{Step}
use Rattle.agreement_core.specs.section_lines.specs.Progress.{passed_steps}
use Rattle.agreement_core.specs.table_words.specs.declared.layout.Layout.{Layout}
use Rattle.agreement_core.specs.section_lines.specs.structure_laws.specs.Scene.{Section}
use Rattle.agreement_core.specs.section_lines.specs.structure_laws.specs.Meaning.{Meaning}
use Rattle.agreement_core.specs.section_lines.specs.structure_laws.specs.Sections.{Here, Unstamped}
use Rattle.agreement_core.specs.State.{AgreementState}
use Rattle.epoch_core.specs.State.{Counts}
use Rattle.read_answers.specs.completed_memory.specs.Pending.{HasCome, AreMarked, AreBelow}
use Rattle.read_answers.specs.completed_memory.specs.Moves.{StandsCompleted}
use Rattle.machine_scenes.specs.Shown.{Publications, States, scene_of, sections_of}
use Rattle.machine_scenes.specs.Kept.{IsKept}
use Rattle.machine_scenes.proofs.Shown.{IsShown, shown_some, shown_unused}
use Rattle.machine_scenes.proofs.Links.{true_false}
use Rattle.machine_history.specs.Memory.{marks_of, MemoryStands}
use Rattle.machine_history.proofs.Marks.{passed_at, passed_behind, come_stamp, passed_stamp_step}

-- a bound on descriptors
pub limit : ℕ
limit = 2 ^ 32

module _ (m : Meaning) (layout : Layout) (c : Counts) (j : States) (kept : IsKept m layout c j) where
  abbrev a : AgreementState
  a = j.agreement

  abbrev p : Publications
  p = j.publications

  abbrev body : ℕ → List Step
  body d = m.body (p.thunk d)

  pub is_shown : (d : ℕ) (x : Section) → Here (scene_of m c j) d x → IsShown m p d (a.used d) (a.section d) x
  is_shown d x here = shown_some m p d (a.used d) (a.section d) x here

  come : (d : ℕ) (x : Section) → Here (scene_of m c j) d x → marks_of a d ≡ true → HasCome m x
  come d x here mark =
      let is = is_shown d x here in
      let at = passed_at ((a.section d).code) ((a.section d).edge) mark in
      let there = come_stamp (body d) ((a.section d).edge) at.0 at.1 (sym ((kept.thunks d is.used).code at.0) ∙ at.2) in
      subst (HasCome m) (sym is.same) there

  before : (d : ℕ) (x : Section) → Here (scene_of m c j) d x → marks_of a d ≡ false → Unstamped m x
  before d x here unmarked =
      let is = is_shown d x here in
      subst (Unstamped m) (sym is.same) (λ n stamp. ⊎_elim (λ past.
      let at = passed_stamp_step (body d) ((a.section d).edge) n stamp past in
      absurd (true_false (passed_behind ((a.section d).code) ((a.section d).edge) at.0 at.1 ((kept.thunks d is.used).code at.0 ∙ at.2)) unmarked))
      (λ le. le) (cases_lt n (passed_steps (body d) ((a.section d).edge))))

  pub are_marked : AreMarked m (scene_of m c j) (marks_of a)
  are_marked = record { come = come; before = before }

  pub are_below : AreBelow m limit (scene_of m c j)
  unfolding limit
  are_below d le = by_use (a.used d) refl
    where
      by_use : (b : Bool) → a.used d ≡ b → sections_of m p a d ≡ None
      by_use true is = let link = (kept.agreement.sections d is).published.link in absurd (omega arith)
      by_use false is = shown_unused m p d (a.used d) (a.section d) is

  pub whole : (pairs : Pairs) → MemoryStands m layout c j pairs → StandsCompleted m layout (scene_of m c j) (marks_of a) pairs
  whole pairs memory = record {
    lawful = kept.lawful;
    marked = are_marked;
    count = limit;
    below = are_below;
    cells = memory.cells;
    completed = memory.completed;
    stands = memory.stands;
  }
