use Rattle.reached_histories.proofs.Supplying.{operations_asked}
use Rattle.reached_histories.proofs.records.operations_are_asked.Goals as goal

pub returns : goal.returns
returns g c = λ layout requests. operations_asked (g.S.Structure.meaning c.args.structure.now) layout requests
