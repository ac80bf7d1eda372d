use Rattle.still_reads.proofs.Steps.{walks_begin, walks_after}
use Rattle.still_reads.proofs.laws.readings_stand.Goals as goal

pub returns-clause-first : goal.returns-clause-first
returns-clause-first g c = λ location p. walks_begin (g.S.Structure.meaning c.args.structure.now) location p

pub returns-clause-steps : goal.returns-clause-steps
returns-clause-steps g c = λ layout limits counts nodes j step kept ok stands.
    let met = g.met.S.Structure g.world.𝓛 g.world.𝓜 g.world.𝓡 ((λ s allowed. allowed), (λ patient. patient), (λ alone. alone), (λ cuts. cuts)) in
    let m = g.S.Structure.meaning c.args.structure.now in let laws = met.laws c.args.structure.now in
    walks_after m laws layout limits counts j kept stands step ok
