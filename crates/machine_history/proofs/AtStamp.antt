-- Open sections whose furthest runs stand at the atomic steps of the stamp: they are settled and have stored nothing.
use Rattle.std.proofs.Common.{◌≡◌, ℕ, ◌≤◌, true, refl, sym, ⊎_elim, inl, inr, arith}
use Rattle.std.specs.Prelude.{◌⊎◌}
use Rattle.agreement_core.specs.body_terms.specs.Shape.{phase, IsStep}
use Rattle.agreement_core.specs.body_terms.specs.declared.step.Step.TheVariants.{Stamp, Store}
use Rattle.agreement_core.specs.body_terms.specs.declared.micro.Micro.{Micro}
use Rattle.agreement_core.specs.body_terms.specs.declared.micro.Micro.TheVariants as micros
use Rattle.agreement_core.specs.table_words.specs.declared.layout.Layout.{Layout}
use Rattle.agreement_core.specs.section_lines.specs.structure_laws.specs.Scene as scenes
use Rattle.agreement_core.specs.section_lines.specs.structure_laws.specs.Meaning.{Meaning}
use Rattle.agreement_core.specs.section_lines.specs.structure_laws.specs.Sections.{Here, Settled, Unstored}
use Rattle.agreement_core.specs.section_lines.specs.Progress.{passed_steps}
use Rattle.agreement_core.specs.State.{Section, IsOpen}
use Rattle.epoch_core.specs.State.{Counts}
use Rattle.read_answers.specs.completed_memory.proofs.Stores.{compare_places, come_settled}
use Rattle.machine_scenes.specs.Shown.{States, scene_of, section_with}
use Rattle.machine_scenes.specs.Kept.{IsKept}
use Rattle.machine_scenes.proofs.Shown.{shown_open}
use Rattle.machine_history.specs.Memory.{is_of_stamp}
use Rattle.machine_history.proofs.Stamps.{stamp_here}

stamp_kind : (x : Micro) → is_of_stamp x ≡ true → (x ≡ micros.ClockLoad) ⊎ ((x ≡ micros.StampExchange) ⊎ (x ≡ micros.ClockRaise))
stamp_kind micros.ClockLoad is = inl refl
stamp_kind micros.StampExchange is = inr (inl refl)
stamp_kind micros.ClockRaise is = inr (inr refl)
stamp_kind x is = absurd (cc)

-- the section of a descriptor as its scene shows it
abbrev pub shown_at : Meaning → States → ℕ → scenes.Section
shown_at m j d = section_with m j.publications d ((j.agreement.section d).log) ((j.agreement.section d).edge)

pub open_here : (m : Meaning) (c : Counts) (j : States) (d : ℕ) → IsOpen j.agreement d → Here (scene_of m c j) d (shown_at m j d)
open_here m c j d is = shown_open m j.publications d (j.agreement.used d) (j.agreement.section d) is.used is.undone

module _ (m : Meaning) (layout : Layout) (c : Counts) (j : States) (kept : IsKept m layout c j) (d : ℕ) (is : IsOpen j.agreement d)
    (at : is_of_stamp ((j.agreement.section d).code ((j.agreement.section d).edge)) ≡ true) where
  abbrev s : Section
  s = j.agreement.section d

  abbrev passed : ℕ
  passed = passed_steps (m.body (j.publications.thunk d)) s.edge

  stamp : IsStep (m.body (j.publications.thunk d)) passed Stamp
  stamp = stamp_here (m.body (j.publications.thunk d)) s.edge (s.code s.edge) (sym ((kept.thunks d is.used).code s.edge))
      (stamp_kind (s.code s.edge) at)

  pub stamp_settled : Settled m (shown_at m j d)
  stamp_settled = come_settled m layout (shown_at m j d) (kept.lawful.shaped d (shown_at m j d) (open_here m c j d is))
      (passed, omega arith, stamp)

  pub stamp_unstored : Unstored m (shown_at m j d)
  stamp_unstored k r v store = ⊎_elim
      (λ lt.
      let shaped = kept.lawful.shaped d (shown_at m j d) (open_here m c j d is) in
      let phases : phase (Store r v) ≤ phase Stamp = shaped.shape.phases k passed (Store r v) Stamp lt store stamp in
      absurd (omega arith))
      (λ le. omega arith)
      (compare_places k passed)
