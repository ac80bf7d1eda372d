use Rattle.list_laws.proofs.Line.{insertion_keeps}
use Rattle.list_laws.proofs.laws.insertions_keep_the_line.Goals as goal

pub returns : goal.returns
returns c n linked p t f line is = insertion_keeps n linked line p t f is
