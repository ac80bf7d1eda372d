use Rattle.std.proofs.Common.{◌≢◌, length, arith, sym, ◌∙◌}
use Rattle.std.proofs.lemmas.Bool.{eqb-true, eqb-false}
use Rattle.trace_reader.proofs.Results.{OnOk-from, IfErr-from}
use Rattle.trace_reader.proofs.Texts.{ends_clean, ends_with_line, last_line_refused}
use Rattle.trace_reader.proofs.reader.Reader.end_last_line.Goals as goal

pub returns-then-is_empty-clause-ok : goal.returns-then-is_empty-clause-ok
returns-then-is_empty-clause-ok c =
    ends_clean c.args.self.now (omega (arith, c.args.self.now.line.ok.0, eqb-true _ _ (sym c.is_empty.ensures ∙ c.if-is_empty.true))) c.args.self.now.few_bytes

pub returns-clause-ok : goal.returns-clause-ok
returns-clause-ok c =
    let begun : length c.args.self.now.line.items ≢ 0 = λ none. eqb-false _ _ (sym c.is_empty.ensures ∙ c.if-is_empty.false) (omega (arith, none, c.args.self.now.line.ok.0)) in
    OnOk-from _ _ _ _ c.end_line.result c.end_line.ensures.ok c.end_line.ensures.cleared c.end_line.ensures.bytes
    (λ behind cleared bytes. ends_with_line c.args.self.now c.end_line.new.self begun c.args.self.now.few_bytes behind)

pub returns-clause-err : goal.returns-clause-err
returns-clause-err c =
    let begun : length c.args.self.now.line.items ≢ 0 = λ none. eqb-false _ _ (sym c.is_empty.ensures ∙ c.if-is_empty.false) (omega (arith, none, c.args.self.now.line.ok.0)) in
    IfErr-from _ _ c.end_line.result c.end_line.ensures.err (λ e refused. last_line_refused c.args.self.now begun c.args.self.now.few_bytes e refused)
