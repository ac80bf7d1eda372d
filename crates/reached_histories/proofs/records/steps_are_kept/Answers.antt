use Rattle.reached_histories.proofs.Keeping.{steps_kept, ends_are_own}
use Rattle.reached_histories.proofs.records.steps_are_kept.Goals as goal

pub returns-clause-steps : goal.returns-clause-steps
returns-clause-steps g c = λ layout requests. steps_kept (g.S.Structure.meaning c.args.structure.now) layout requests

pub returns-clause-ends : goal.returns-clause-ends
returns-clause-ends g c = λ layout requests. ends_are_own (g.S.Structure.meaning c.args.structure.now) layout requests
