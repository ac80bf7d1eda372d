use Rattle.std.proofs.Common.{◌++◌, ap, ◌∙◌, arith}
use Rattle.report_check.proofs.Numerals.{decimal_numeral}
use Rattle.report_check.proofs.Sayings.{number_decimal, number_once}
use Rattle.report_check.proofs.line.read_value.Goals as goal

pub returns-in_err-value-clause-none : goal.returns-in_err-value-clause-none
returns-in_err-value-clause-none c = rw c.from_residual.ensures (λ value small is. c.in_err-value.ensures.none value (number_decimal c.args.word.now c.args.text.now value small is))

pub returns-then-value-clause-some : goal.returns-then-value-clause-some
returns-then-value-clause-some c =
    let says = c.in_ok-value.ensures.some in
    says.is ∙ ap (λ d. c.args.word.now ++ d) (decimal_numeral says.digits c.in_ok-value.value says.numeral c.if-value.true)

pub returns-else-value-clause-none : goal.returns-else-value-clause-none
returns-else-value-clause-none c = λ value small is.
    let same = number_once c.args.word.now c.args.text.now c.in_ok-value.value value c.in_ok-value.ensures.some (number_decimal c.args.word.now c.args.text.now value small is) in
    omega (arith, same, small, c.if-value.false)
