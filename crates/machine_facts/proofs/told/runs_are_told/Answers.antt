use Rattle.machine_facts.proofs.ToldReached.{reached_told}
use Rattle.machine_facts.proofs.ToldSteps.{first_told, steps_tell}
use Rattle.machine_facts.proofs.told.runs_are_told.Goals as goal

pub returns-clause-first : goal.returns-clause-first
returns-clause-first g c = λ layout requests. first_told (g.S.Structure.meaning c.args.structure.now) layout requests

pub returns-clause-steps : goal.returns-clause-steps
returns-clause-steps g c = λ layout requests. steps_tell (g.S.Structure.meaning c.args.structure.now) layout requests

pub returns-clause-reached : goal.returns-clause-reached
returns-clause-reached g c = λ layout requests.
    let met = g.met.S.Structure g.world.𝓛 g.world.𝓜 g.world.𝓡 ((λ s allowed. allowed), (λ patient. patient), (λ alone. alone), (λ cuts. cuts)) in
    reached_told (g.S.Structure.meaning c.args.structure.now) (met.laws c.args.structure.now) layout requests
