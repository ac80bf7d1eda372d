use Rattle.reached_histories.proofs.Publishing.{publications_may_come}
use Rattle.reached_histories.proofs.records.publications_may_come.Goals as goal

pub returns : goal.returns
returns g c = λ layout requests. publications_may_come (g.S.Structure.meaning c.args.structure.now) layout requests
