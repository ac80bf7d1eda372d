use Rattle.reached_histories.proofs.Ending.{answered_learned}
use Rattle.reached_histories.proofs.records.answered_are_learned.Goals as goal

pub returns : goal.returns
returns g c = λ layout. answered_learned (g.S.Structure.meaning c.args.structure.now) layout
