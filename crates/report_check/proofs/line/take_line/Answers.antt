use Rattle.std.proofs.Common.{◌+◌, ◌++◌, ◌∷◌, take, sym, ap, ◌∙◌}
use Rattle.std.proofs.lemmas.List.{take_rest}
use Rattle.trace_reader.proofs.Pieces.{front_line, one_line, parted}
use Rattle.report_check.proofs.line.take_line.Goals as goal

pub returns-in_err-end-clause-none : goal.returns-in_err-end-clause-none
returns-in_err-end-clause-none c = rw c.from_residual.ensures (one_line c.args.bytes.now (sym c.find_feed.ensures ∙ c.in_err-end.was))

pub returns-clause-some : goal.returns-clause-some
returns-clause-some c =
    let bytes = c.args.bytes.now in
    let end = c.in_ok-end.end in
    let found = sym c.find_feed.ensures ∙ c.in_ok-end.was in
    record {
      one = front_line bytes end found;
      cut = sym (parted bytes end found) ∙ ap (λ l. take end bytes ++ 10 ∷ l) (sym (take_rest bytes (end + 1)));
    }
