use Rattle.std.proofs.Common.{inl, refl, drop, take}
use Rattle.report_check.proofs.Wholes.{refused_answer}
use Rattle.report_check.proofs.whole.check_parts.Goals as goal

pub returns-in_err-traces-clause-answer : goal.returns-in_err-traces-clause-answer
returns-in_err-traces-clause-answer c =
    let input = c.args.input.now in
    refused_answer input (take c.args.begin input) c.requires.within
    (inl (drop c.args.end input, record { begin = c.args.begin; end = c.args.end; parted = c.requires.parted; text_is = refl; report_is = refl }))
    c.from_residual.result c.in_err-traces.field-0.0 c.in_err-traces.ensures.answer c.from_residual.ensures.0 c.from_residual.ensures.1
