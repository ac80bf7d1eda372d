use Rattle.std.proofs.Common.{◌++◌, ◌∷◌, List, ℕ, ap, subst, sym, take, ◌∙◌}
use Rattle.report_check.specs.Lines.{IsNumeral}
use Rattle.report_check.proofs.Sayings.{no_space_found, space_at, spaced}
use Rattle.report_check.proofs.line.read_served.Goals as goal

pub returns-in_err-end-clause-none : goal.returns-in_err-end-clause-none
returns-in_err-end-clause-none c = rw c.from_residual.ensures (λ answer says. no_space_found answer c.args.line.now says (sym c.find_space.ensures ∙ c.in_err-end.was))

pub returns-in_err-rank-clause-none : goal.returns-in_err-rank-clause-none
returns-in_err-rank-clause-none c = rw c.from_residual-in_err-rank.ensures (λ answer says.
    let at = space_at answer c.args.line.now c.in_ok-end.end says (sym c.find_space.ensures ∙ c.in_ok-end.was) in
    c.in_err-rank.ensures.none answer.rank (subst (λ (d : List ℕ). IsNumeral d answer.rank) (sym at.digits_are) says.rank))

pub returns-in_err-reply-clause-none : goal.returns-in_err-reply-clause-none
returns-in_err-reply-clause-none c = rw c.from_residual-in_err-reply.ensures (λ answer says.
    let at = space_at answer c.args.line.now c.in_ok-end.end says (sym c.find_space.ensures ∙ c.in_ok-end.was) in
    c.in_err-reply.ensures.none answer.reply says.reply at.text_is)

pub returns-clause-some : goal.returns-clause-some
returns-clause-some c = record {
  digits = take c.in_ok-end.end c.args.line.now;
  rank = c.in_ok-rank.ensures.some;
  reply = c.in_ok-reply.ensures.some.1;
  is = spaced c.args.line.now c.in_ok-end.end (sym c.find_space.ensures ∙ c.in_ok-end.was) ∙ ap (λ l. take c.in_ok-end.end c.args.line.now ++ 32 ∷ l) c.in_ok-reply.ensures.some.0;
}
