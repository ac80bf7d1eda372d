use Rattle.std.proofs.Common.{List, ℕ, subst, take}
use Rattle.std.proofs.lemmas.List.{take_rest}
use Rattle.report_check.specs.Parts.{IsLineAtFront, IsReportLine}
use Rattle.report_check.proofs.Splits.{gone_more}
use Rattle.report_check.proofs.parts.split_report.Goals as goal

pub loop-at-preserved : goal.loop-at-preserved
loop-at-preserved c =
    let bytes = c.args.bytes.now in
    let at = c.loop-at.at in
    let rest = take_rest bytes at in
    let end = c.first_line-end.result.0 in
    let front = subst (λ (l : List ℕ). IsLineAtFront l end c.first_line-end.result.1) rest c.first_line-end.ensures in
    gone_more bytes at end c.first_line-end.result.1 c.loop-at-test.true c.loop-at.invariant front
    (subst (λ (l : List ℕ). IsReportLine (take end l) → ⊥) rest (c.is_report.ensures.no c.if-is_report.false))
