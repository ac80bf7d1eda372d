use Rattle.reached_histories.proofs.Keeping.{publications_kept}
use Rattle.reached_histories.proofs.records.publications_are_kept.Goals as goal

pub returns : goal.returns
returns g c = λ layout requests. publications_kept (g.S.Structure.meaning c.args.structure.now) layout requests
