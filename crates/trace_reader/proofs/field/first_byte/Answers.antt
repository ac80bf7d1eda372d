use Rattle.std.proofs.Common.{◌∙◌, sym}
use Rattle.trace_reader.proofs.Words.{fields_in-none, comment_found}
use Rattle.trace_reader.proofs.field.first_byte.Goals as goal

pub returns-in_default-clause-none : goal.returns-in_default-clause-none
returns-in_default-clause-none c = fields_in-none c.args.line.now c.find_word.result c.find_word.ensures c.in_default.is

pub returns-clause-some : goal.returns-clause-some
returns-clause-some c = sym (comment_found c.args.line.now c.in-Some.start (sym c.find_word.ensures ∙ c.in-Some.is))
