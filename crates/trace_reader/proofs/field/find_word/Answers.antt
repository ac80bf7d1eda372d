use Rattle.std.proofs.Common.{◌∙◌, sym}
use Rattle.trace_reader.proofs.Words.{no_word_past, word_past}
use Rattle.trace_reader.proofs.field.find_word.Goals as goal

pub returns-in-Some : goal.returns-in-Some
returns-in-Some c =
    word_past c.args.line.now c.blank_runs-skipped.result c.in-Some.start c.blank_runs-skipped.ensures.within c.blank_runs-skipped.ensures.blank (sym c.find_letter.ensures ∙ c.in-Some.is)

pub returns-in-None : goal.returns-in-None
returns-in-None c = no_word_past c.args.line.now c.blank_runs-skipped.result c.blank_runs-skipped.ensures.within c.blank_runs-skipped.ensures.blank (sym c.find_letter.ensures ∙ c.in-None.is)
