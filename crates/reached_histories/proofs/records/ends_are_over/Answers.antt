use Rattle.reached_histories.proofs.Ending.{ends_over}
use Rattle.reached_histories.proofs.records.ends_are_over.Goals as goal

pub returns : goal.returns
returns g c = λ layout. ends_over (g.S.Structure.meaning c.args.structure.now) layout
