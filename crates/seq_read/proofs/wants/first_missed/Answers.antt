use Rattle.std.proofs.Common.{◌≡◌, ◌∙◌, [], ◌∷◌, sym, ap, true, false}
use Rattle.seq_read.specs.Wants.{is_missed}
use Rattle.seq_read.proofs.Finding.{none_any, missed_there}
use Rattle.seq_read.proofs.wants.first_missed.Goals as goal

pub returns-in-None-clause-none : goal.returns-in-None-clause-none
returns-in-None-clause-none c = λ e. none_any (is_missed (c.args.cell.now ∷ [])) c.args.steps.now (sym c.find_missed.ensures ∙ c.in-None.is)

pub returns-in-Some-clause-none : goal.returns-in-Some-clause-none
returns-in-Some-clause-none c = λ e.
    let h = missed_there c.args.steps.now (c.args.cell.now ∷ []) c.in-Some.at c.index-steps-at.result (sym c.find_missed.ensures ∙ c.in-Some.is) in
    let clash : true ≡ false = sym h ∙ (ap (is_missed (c.args.cell.now ∷ [])) (sym c.index-steps-at.is) ∙ c.missed_by.ensures.none e) in absurd (cc)
