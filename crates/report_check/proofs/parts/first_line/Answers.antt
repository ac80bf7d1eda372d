use Rattle.std.proofs.Common.{◌∙◌, sym}
use Rattle.report_check.proofs.Splits.{front_found, front_none}
use Rattle.report_check.proofs.parts.first_line.Goals as goal

pub returns-in-Some : goal.returns-in-Some
returns-in-Some c = front_found c.args.bytes.now c.in-Some.end (sym c.find_feed.ensures ∙ c.in-Some.is)

pub returns-in-None : goal.returns-in-None
returns-in-None c = front_none c.args.bytes.now c.requires (sym c.find_feed.ensures ∙ c.in-None.is)
