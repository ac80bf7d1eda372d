use Rattle.std.proofs.Common.{refl, arith, subst, sym}
use Rattle.report_check.specs.declared.verdict.Verdict.{Verdict}
use Rattle.report_check.specs.Verdicts.{Judges}
use Rattle.report_check.proofs.Exact.{legal_answered, only_legal}
use Rattle.report_check.proofs.check.check_lines.Goals as goal

pub returns-in-Ok-clause-legal : goal.returns-in-Ok-clause-legal
returns-in-Ok-clause-legal c =
    legal_answered c.check_form.result c.args.traces c.args.requests.now c.args.report.now (omega (arith, c.ranges.traces.fits)) c.requires.few c.requires.rising c.requires.below c.check_form.ensures.judged

pub returns-in-Err-clause-legal : goal.returns-in-Err-clause-legal
returns-in-Err-clause-legal c = λ report.
    only_legal c.args.traces c.args.requests.now c.args.report.now (omega (arith, c.ranges.traces.fits)) c.requires.few c.requires.rising c.requires.below report c.fails.result
    (subst (λ (v : Verdict). Judges v c.args.traces c.args.requests.now c.args.report.now) (sym c.fails.ensures) (record { number = c.in-Err.number; first = rw c.in-Err.is at c.in_ok-form.ensures.bad; is = refl }))
