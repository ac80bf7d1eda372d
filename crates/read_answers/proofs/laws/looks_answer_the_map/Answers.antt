use Rattle.read_answers.proofs.Answering.{looks_answer}
use Rattle.read_answers.proofs.laws.looks_answer_the_map.Goals as goal

pub returns : goal.returns
returns g c = λ layout limits.
    let met = g.met.S.Structure g.world.𝓛 g.world.𝓜 g.world.𝓡 ((λ s allowed. allowed), (λ patient. patient), (λ alone. alone), (λ cuts. cuts)) in
    looks_answer (g.S.Structure.meaning c.args.structure.now) (met.laws c.args.structure.now) layout limits
