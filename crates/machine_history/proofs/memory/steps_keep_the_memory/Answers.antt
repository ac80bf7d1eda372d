use Rattle.machine_history.proofs.Steps.{first_stands, steps_keep, closed_stands}
use Rattle.machine_history.proofs.memory.steps_keep_the_memory.Goals as goal

pub returns-clause-first : goal.returns-clause-first
returns-clause-first g c = λ layout limits.
    let met = g.met.S.Structure g.world.𝓛 g.world.𝓜 g.world.𝓡 ((λ s allowed. allowed), (λ patient. patient), (λ alone. alone), (λ cuts. cuts)) in
    first_stands (g.S.Structure.meaning c.args.structure.now) (met.laws c.args.structure.now) layout limits

pub returns-clause-steps : goal.returns-clause-steps
returns-clause-steps g c = λ layout limits.
    let met = g.met.S.Structure g.world.𝓛 g.world.𝓜 g.world.𝓡 ((λ s allowed. allowed), (λ patient. patient), (λ alone. alone), (λ cuts. cuts)) in
    steps_keep (g.S.Structure.meaning c.args.structure.now) (met.laws c.args.structure.now) layout limits

pub returns-clause-closed : goal.returns-clause-closed
returns-clause-closed g c = λ layout limits.
    let met = g.met.S.Structure g.world.𝓛 g.world.𝓜 g.world.𝓡 ((λ s allowed. allowed), (λ patient. patient), (λ alone. alone), (λ cuts. cuts)) in
    closed_stands (g.S.Structure.meaning c.args.structure.now) (met.laws c.args.structure.now) layout limits
