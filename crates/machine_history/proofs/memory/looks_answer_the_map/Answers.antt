use Rattle.machine_history.proofs.Looks.{looks_answer_map, looks_leave, looks_apart}
use Rattle.machine_history.proofs.memory.looks_answer_the_map.Goals as goal

pub returns-clause-answers : goal.returns-clause-answers
returns-clause-answers g c = λ layout limits.
    let met = g.met.S.Structure g.world.𝓛 g.world.𝓜 g.world.𝓡 ((λ s allowed. allowed), (λ patient. patient), (λ alone. alone), (λ cuts. cuts)) in
    looks_answer_map (g.S.Structure.meaning c.args.structure.now) (met.laws c.args.structure.now) layout limits

pub returns-clause-leaves : goal.returns-clause-leaves
returns-clause-leaves g c = λ layout limits.
    let met = g.met.S.Structure g.world.𝓛 g.world.𝓜 g.world.𝓡 ((λ s allowed. allowed), (λ patient. patient), (λ alone. alone), (λ cuts. cuts)) in
    looks_leave (g.S.Structure.meaning c.args.structure.now) (met.laws c.args.structure.now) layout limits

pub returns-clause-apart : goal.returns-clause-apart
returns-clause-apart g c = λ layout limits.
    let met = g.met.S.Structure g.world.𝓛 g.world.𝓜 g.world.𝓡 ((λ s allowed. allowed), (λ patient. patient), (λ alone. alone), (λ cuts. cuts)) in
    looks_apart (g.S.Structure.meaning c.args.structure.now) (met.laws c.args.structure.now) layout limits
