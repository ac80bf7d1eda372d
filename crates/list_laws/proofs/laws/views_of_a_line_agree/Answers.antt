use Rattle.list_laws.proofs.Line.{views_agree}
use Rattle.list_laws.proofs.laws.views_of_a_line_agree.Goals as goal

pub returns : goal.returns
returns c n linked linked' line line' = views_agree n linked linked' line line'
