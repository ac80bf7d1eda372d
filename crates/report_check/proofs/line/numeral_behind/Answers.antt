use Rattle.std.proofs.Common.{List, ℕ, subst, sym, ◌∙◌}
use Rattle.std.proofs.lemmas.List.{append_cancel_left}
use Rattle.report_check.specs.Lines.{IsNumeral}
use Rattle.report_check.proofs.line.numeral_behind.Goals as goal

pub returns-in_err-digits-clause-none : goal.returns-in_err-digits-clause-none
returns-in_err-digits-clause-none c = rw c.from_residual.ensures (λ value says. c.in_err-digits.ensures.none says.digits says.is)

pub returns-in_err-value-clause-none : goal.returns-in_err-value-clause-none
returns-in_err-value-clause-none c = rw c.from_residual-in_err-value.ensures (λ value says.
    let same = append_cancel_left c.args.word.now says.digits c.in_ok-digits.digits.now (sym says.is ∙ c.in_ok-digits.ensures.some) in
    c.in_err-value.ensures.none value (subst (λ (d : List ℕ). IsNumeral d value) same says.numeral))

pub returns-clause-some : goal.returns-clause-some
returns-clause-some c = record { digits = c.in_ok-digits.digits.now; numeral = c.in_ok-value.ensures.some; is = c.in_ok-digits.ensures.some }
