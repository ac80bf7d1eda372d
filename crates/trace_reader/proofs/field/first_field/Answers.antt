use Rattle.std.proofs.Common.{◌∙◌, sym, rules}
use Rattle.trace_reader.proofs.Words.{fields_in-none, first_field}
use Rattle.trace_reader.proofs.field.first_field.Goals as goal

pub returns-in_default-clause-none : goal.returns-in_default-clause-none
returns-in_default-clause-none c = fields_in-none c.args.line.now c.find_word.result c.find_word.ensures c.in_default.is

pub returns-clause-some : goal.returns-clause-some
returns-clause-some c = (first_field c.args.line.now c.in-Some.start c.unwrap_or-end.result (sym c.find_word.ensures ∙ c.in-Some.is) (search rules)).fields

pub returns-clause-begun : goal.returns-clause-begun
returns-clause-begun c = (first_field c.args.line.now c.in-Some.start c.unwrap_or-end.result (sym c.find_word.ensures ∙ c.in-Some.is) (search rules)).begun
