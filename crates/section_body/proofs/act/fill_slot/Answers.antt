use Rattle.std.proofs.Common.{ℕ, ◌∙◌, sym}
use Rattle.std.proofs.Math.ListN.{get_or-map}
use Rattle.body_terms.specs.Line.{registers_before, source_of}
use Rattle.body_terms.specs.Run.{source_value}
use Rattle.body_terms.specs.declared.value.Value.{Value}
use Rattle.body_terms.specs.declared.value.Value.TheVariants.{Const}
use Rattle.section_body.proofs.FillLemmas.{filled_next}
use Rattle.section_body.proofs.act.fill_slot.Goals as goal

pub loop-cell-preserved : goal.loop-cell-preserved
loop-cell-preserved c =
    let number : Value → ℕ = λ value. source_value c.args.trail.now.words (source_of (registers_before c.args.steps.now c.args.n) value) in
    filled_next c.args.memory.now c.loop-cell.memory c.fill.new.self c.args.slot c.loop-cell.cell c.value_at-value.result _ c.loop-cell.invariant
    (c.value_at-value.ensures ∙ sym (get_or-map number c.args.init.cells c.loop-cell.cell (Const 0))) c.fill.ensures
