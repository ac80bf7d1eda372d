use Rattle.reached_histories.proofs.Supplying.{frees_over}
use Rattle.reached_histories.proofs.records.frees_are_over.Goals as goal

pub returns : goal.returns
returns g c = λ layout requests. frees_over (g.S.Structure.meaning c.args.structure.now) layout requests
