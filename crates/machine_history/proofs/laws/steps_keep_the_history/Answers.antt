use Rattle.machine_history.proofs.Joining.{first_joined, steps_keep, schedules_keep}
use Rattle.machine_history.proofs.laws.steps_keep_the_history.Goals as goal

pub returns-clause-first : goal.returns-clause-first
returns-clause-first g c = λ layout limits.
    let met = g.met.S.Structure g.world.𝓛 g.world.𝓜 g.world.𝓡 ((λ s allowed. allowed), (λ patient. patient), (λ alone. alone), (λ cuts. cuts)) in
    first_joined (g.S.Structure.meaning c.args.structure.now) (met.laws c.args.structure.now) layout limits

pub returns-clause-steps : goal.returns-clause-steps
returns-clause-steps g c = λ layout limits.
    let met = g.met.S.Structure g.world.𝓛 g.world.𝓜 g.world.𝓡 ((λ s allowed. allowed), (λ patient. patient), (λ alone. alone), (λ cuts. cuts)) in
    steps_keep (g.S.Structure.meaning c.args.structure.now) (met.laws c.args.structure.now) layout limits

pub returns-clause-all : goal.returns-clause-all
returns-clause-all g c = λ layout limits.
    let met = g.met.S.Structure g.world.𝓛 g.world.𝓜 g.world.𝓡 ((λ s allowed. allowed), (λ patient. patient), (λ alone. alone), (λ cuts. cuts)) in
    schedules_keep (g.S.Structure.meaning c.args.structure.now) (met.laws c.args.structure.now) layout limits
