-- A runner's look stands in the scene of the joint states, so it answers what the map answers.
use Rattle.std.proofs.Common.{◌≡◌, ℕ, suc, sym, ap, ◌∙◌, subst, arith}
use Rattle.std.specs.Prelude.{Some}
use Rattle.agreement_core.specs.map_history.specs.declared.op.Op.{Op}
use Rattle.agreement_core.specs.body_terms.specs.Word.{value_of}
use Rattle.agreement_core.specs.body_terms.specs.declared.thunk.Thunk.{Thunk}
use Rattle.agreement_core.specs.table_words.specs.declared.layout.Layout.{Layout}
use Rattle.agreement_core.specs.table_words.specs.Limits.{IsWithinLimits}
use Rattle.agreement_core.specs.section_lines.specs.structure_laws.specs.Meaning.{Meaning}
use Rattle.agreement_core.specs.section_lines.specs.structure_laws.specs.Sections.{Unheld}
use Rattle.agreement_core.specs.section_lines.specs.structure_laws.specs.Laws.{Laws}
use Rattle.agreement_core.proofs.Words.{free_value}
use Rattle.epoch_core.specs.State.{Counts}
use Rattle.read_answers.specs.Looks.{ReadsStand, LookStands}
use Rattle.read_answers.proofs.Answering.{looks_answer}
use Rattle.read_answers.specs.Answers as answers
use Rattle.machine_scenes.specs.Shown.{States, scene_of}
use Rattle.machine_scenes.specs.Kept.{IsKept}
use Rattle.machine_scenes.proofs.Readers.{entered_reads}
use Rattle.machine_scenes.proofs.Takes.{holder_named}
use Rattle.machine_history.specs.Memory.{marks_of, HasLooked, LooksAnswer, LooksLeave, LooksApart}
use Rattle.machine_history.proofs.Standing.{limit, are_below, whole}
use Rattle.machine_history.proofs.AtStamp.{shown_at, open_here, stamp_settled, stamp_unstored}

module _ (m : Meaning) (laws : Laws m) (layout : Layout) (limits : IsWithinLimits layout) where
  by_answers : answers.LooksAnswer m layout
  by_answers = looks_answer m laws layout limits

  module _ (c : Counts) (j : States) (kept : IsKept m layout c j) (r : ℕ) (op : Op) (thunk : Thunk) (look : HasLooked m layout j r op thunk) where
    -- a lock that is free is held by no open section
    unheld : Unheld m (scene_of m c j) thunk.lock
    unheld d x here holds =
        let named = holder_named m layout j.publications j.agreement kept.agreement kept.thunks d thunk.lock x here holds in
        let free = ap value_of look.here ∙ free_value thunk.word look.look.free in
        absurd (let none : suc d ≡ 0 = sym named ∙ free in omega arith)

    stands : LookStands m layout (scene_of m c j) r op thunk
    stands = record {
      planned = look.planned;
      found = look.found;
      reader = entered_reads (j.epochs.stage r) (j.walk r) look.entered ∙ ap Some look.walk;
      look = look.look;
      here = look.here;
      unheld = unheld;
      stand = subst (ReadsStand m j.agreement.shared.cells) look.walk look.stand;
    }

  pub looks_answer_map : LooksAnswer m layout
  looks_answer_map c nodes j r pairs op thunk kept memory map look = by_answers.answers (scene_of m c j) (marks_of j.agreement) pairs r op thunk
      (whole m layout c j kept pairs memory) (stands c j kept r op thunk look) map

  pub looks_leave : LooksLeave m layout
  looks_leave c nodes j r pairs op thunk kept memory map look = by_answers.leaves_map (scene_of m c j) (marks_of j.agreement) pairs r op thunk
      (whole m layout c j kept pairs memory) (stands c j kept r op thunk look) map

  pub looks_apart : LooksApart m layout
  looks_apart c nodes j r d op thunk kept map look is at = by_answers.alone (scene_of m c j) limit r op thunk kept.lawful
      (are_below m layout c j kept) (stands c j kept r op thunk look) map d (shown_at m j d) (open_here m c j d is)
      (stamp_settled m layout c j kept d is at) (stamp_unstored m layout c j kept d is at)
