use Rattle.std.proofs.Common.{◌≡◌, ◌++◌, codes, ap, sym, ◌∙◌, arith}
use Rattle.std.specs.Prelude.{decimal}
use Rattle.small_lemmas.proofs.Numbers.{equal_tested, tested_equal}
use Rattle.small_lemmas.proofs.Bools.{not_both}
use Rattle.report_check.proofs.Numerals.{decimal_numeral}
use Rattle.report_check.proofs.Sayings.{number_decimal, number_once}
use Rattle.report_check.proofs.line.is_trace.Goals as goal

pub returns-in-Some-clause-yes : goal.returns-in-Some-clause-yes
returns-in-Some-clause-yes c = λ is.
    let says = c.in-Some.ensures.some in
    let same : c.in-Some.number ≡ c.args.trace = tested_equal c.in-Some.number c.from.result is ∙ c.from.ensures in
    says.is ∙ ap (λ d. codes "trace " ++ d) (decimal_numeral says.digits c.in-Some.number says.numeral (omega (arith, same, c.ranges.trace)) ∙ ap decimal same)

pub returns-in-Some-clause-no : goal.returns-in-Some-clause-no
returns-in-Some-clause-no c = λ other is.
    let same = number_once (codes "trace ") c.args.line.now c.in-Some.number c.args.trace c.in-Some.ensures.some (number_decimal (codes "trace ") c.args.line.now c.args.trace (omega (arith, c.ranges.trace)) is) in
    not_both (equal_tested c.in-Some.number c.from.result (same ∙ sym c.from.ensures)) other

pub returns-in-None-clause-no : goal.returns-in-None-clause-no
returns-in-None-clause-no c = λ none is. c.in-None.ensures.none c.args.trace (number_decimal (codes "trace ") c.args.line.now c.args.trace (omega (arith, c.ranges.trace)) is)
