use Rattle.list_laws.proofs.Line.{marking_keeps}
use Rattle.list_laws.proofs.laws.marks_keep_the_line.Goals as goal

pub returns : goal.returns
returns c n linked p a line is = marking_keeps n linked line p a is
