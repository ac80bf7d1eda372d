-- Each step of the joined states keeps their invariant.
use Rattle.std.proofs.Common.{◌≡◌, suc, ◌<◌, refl, subst, ℕ, true, sym, ◌∙◌, ⊎_elim}
use Rattle.std.proofs.lemmas.Bool.{cases_eq}
use Rattle.agreement_core.specs.map_history.specs.declared.op.Op.{Op}
use Rattle.agreement_core.specs.body_terms.specs.Update.{upd}
use Rattle.agreement_core.specs.body_terms.specs.declared.micro.Micro.{Micro}
use Rattle.agreement_core.specs.body_terms.specs.declared.thunk.Thunk.{Thunk}
use Rattle.agreement_core.specs.table_words.specs.declared.layout.Layout.{Layout}
use Rattle.agreement_core.specs.table_words.specs.Limits.{IsWithinLimits}
use Rattle.agreement_core.specs.section_lines.specs.structure_laws.specs.Meaning.{Meaning}
use Rattle.agreement_core.specs.section_lines.specs.structure_laws.specs.Cells.{cell_of, slots}
use Rattle.agreement_core.specs.section_lines.specs.structure_laws.specs.Laws.{Laws}
use Rattle.agreement_core.specs.section_lines.specs.structure_laws.specs.Shape.{Shaped}
use Rattle.agreement_core.specs.section_lines.specs.structure_laws.proofs.Changes.{upd_same, upd_other}
use Rattle.agreement_core.specs.Events as agreement
use Rattle.epoch_core.specs.State.{Counts}
use Rattle.machine_scenes.specs.Shown.{States, rules_of, scene_of}
use Rattle.machine_scenes.specs.Steps.{Step, Agreement, Publish, Fill, Make, Retire, Enabled, after, MayPublish}
use Rattle.machine_scenes.specs.Kept.{RetiresNodes, IsKept}
use Rattle.machine_scenes.proofs.JointSteps.{step_lawful}
use Rattle.machine_scenes.proofs.Keeping.{agreement_after, epochs_after, thunks_after, met_after, publishers_after}
use Rattle.machine_scenes.proofs.Fixed.{was_fixed}
use Rattle.machine_scenes.proofs.Readers.{entered_reads}
use Rattle.machine_scenes.proofs.Standing.{was_used}
use Rattle.machine_scenes.proofs.Passing.{event_retires, commit_retires, publish_retires}
use Rattle.machine_scenes.proofs.Retiring.{plain_unpublished, plain_unretired, retires_after}

module _ (m : Meaning) (laws : Laws m) (layout : Layout) (limits : IsWithinLimits layout) (c : Counts)
    (nodes : c.nodes ≡ slots m layout) where
  -- what a published section has retired is a node slot
  retires_nodes : (j : States) → IsKept m layout c j → (step : Step) → Enabled m layout c j step
      → RetiresNodes c.nodes (after m layout c j step).agreement
  retires_nodes j kept (Agreement v) ok = event_retires (rules_of m layout) j.agreement kept.agreement c.nodes kept.nodes v
      (plain_unpublished v ok.0) (plain_unretired v ok.0) ok.1
  retires_nodes j kept (Publish r d lock word request code slot op thunk) ok = publish_retires
      (rules_of m layout) j.agreement kept.agreement c.nodes kept.nodes d lock word request code slot
  retires_nodes j kept (Fill r cell log value t word) ok =
      event_retires (rules_of m layout) j.agreement kept.agreement c.nodes kept.nodes
      (agreement.PrivateStore r cell log value (cell_of m t cell) word) refl refl ok.0
  retires_nodes j kept (Make r log t worn) ok = event_retires (rules_of m layout) j.agreement kept.agreement c.nodes kept.nodes
      (agreement.MakeCommit r log (suc t)) refl refl ok.enabled
  retires_nodes j kept (Retire r log t) ok = commit_retires (rules_of m layout) j.agreement kept.agreement c.nodes kept.nodes r t log
      (subst (λ n. n < c.nodes) ok.slot (kept.epochs.retire_node r ok.loaded)) ok.enabled
  retires_nodes j kept step ok = kept.nodes

  abbrev AreShaped : States → Type 0
  AreShaped j = (d : ℕ) → j.agreement.used d ≡ true → Shaped m layout (j.publications.readings d) (j.publications.thunk d)

  -- the thunk of a published section has the shape
  shaped_new : (j : States) → IsKept m layout c j → (r d lock word request : ℕ) (code : ℕ → Micro) (slot : ℕ → ℕ) (op : Op) (thunk : Thunk)
      → MayPublish m layout c j r d lock word request code slot op thunk
      → AreShaped (after m layout c j (Publish r d lock word request code slot op thunk))
  shaped_new j kept r d lock word request code slot op thunk ok i used = ⊎_elim
      (λ same. subst (λ t. Shaped m layout (upd j.publications.readings d (j.walk r) i) t)
      (sym (upd_same j.publications.thunk d i thunk same))
      (subst (λ list. Shaped m layout list thunk) (sym (upd_same j.publications.readings d i (j.walk r) same))
      ((laws.over layout limits).shape (scene_of m c j) kept.lawful.sound kept.lawful.kept r (j.walk r) op thunk
      (entered_reads (j.epochs.stage r) (j.walk r) ok.entered) ok.allowed ok.fits)))
      (λ ne. subst (λ t. Shaped m layout (upd j.publications.readings d (j.walk r) i) t) (sym (upd_other j.publications.thunk d i thunk ne))
      (subst (λ list. Shaped m layout list (j.publications.thunk i)) (sym (upd_other j.publications.readings d i (j.walk r) ne))
      (kept.shaped i (sym (upd_other j.agreement.used d i true ne) ∙ used))))
      (cases_eq i d)

  shaped_after : (j : States) → IsKept m layout c j → (step : Step) → Enabled m layout c j step → AreShaped (after m layout c j step)
  shaped_after j kept (Agreement v) ok = λ d used. kept.shaped d
      (was_used (rules_of m layout) j.agreement v (plain_unpublished v ok.0) d used)
  shaped_after j kept (Publish r d lock word request code slot op thunk) ok = shaped_new j kept r d lock word request code slot op thunk ok
  shaped_after j kept step ok = kept.shaped

  pub step_kept : (j : States) (step : Step) → Enabled m layout c j step → IsKept m layout c j → IsKept m layout c (after m layout c j step)
  step_kept j step ok kept = record {
    agreement = agreement_after m laws layout limits c nodes j kept step ok;
    epochs = epochs_after m laws layout limits c nodes j kept step ok;
    thunks = thunks_after m laws layout limits c nodes j kept step ok;
    lawful = step_lawful m laws layout limits c nodes j kept step ok;
    met = met_after m laws layout limits c nodes j kept step ok;
    publishers = publishers_after m laws layout limits c nodes j kept step ok;
    retires = retires_after m laws layout limits c nodes j kept step ok;
    shaped = shaped_after j kept step ok;
    nodes = retires_nodes j kept step ok;
    fixed = λ t is. kept.fixed t (was_fixed m layout c j step t is);
  }
