use Rattle.list_laws.proofs.Line.{removal_keeps}
use Rattle.list_laws.proofs.laws.removals_keep_the_line.Goals as goal

pub returns : goal.returns
returns c n linked p a t line is = removal_keeps n linked line p a t is
