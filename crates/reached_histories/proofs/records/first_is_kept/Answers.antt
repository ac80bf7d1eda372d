use Rattle.reached_histories.proofs.First.{first_kept}
use Rattle.reached_histories.proofs.records.first_is_kept.Goals as goal

pub returns : goal.returns
returns g c = λ layout requests. first_kept (g.S.Structure.meaning c.args.structure.now) layout requests
