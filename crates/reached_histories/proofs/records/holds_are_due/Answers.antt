use Rattle.reached_histories.proofs.Supplying.{holds_due}
use Rattle.reached_histories.proofs.records.holds_are_due.Goals as goal

pub returns : goal.returns
returns g c = λ layout requests. holds_due (g.S.Structure.meaning c.args.structure.now) layout requests
