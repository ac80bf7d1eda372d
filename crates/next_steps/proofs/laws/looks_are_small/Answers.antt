use Rattle.next_steps.proofs.Clock.{reached_looks, reached_stamps}
use Rattle.next_steps.proofs.laws.looks_are_small.Goals as goal

pub returns-clause-small : goal.returns-clause-small
returns-clause-small g c = λ layout requests w limits allowed reached.
    let met = g.met.S.Structure g.world.𝓛 g.world.𝓜 g.world.𝓡 ((λ s allowed. allowed), (λ patient. patient), (λ alone. alone), (λ cuts. cuts)) in
    reached_looks (g.S.Structure.meaning c.args.structure.now) (met.laws c.args.structure.now) layout limits requests allowed w reached

pub returns-clause-stamps : goal.returns-clause-stamps
returns-clause-stamps g c = λ layout requests w limits allowed reached.
    let met = g.met.S.Structure g.world.𝓛 g.world.𝓜 g.world.𝓡 ((λ s allowed. allowed), (λ patient. patient), (λ alone. alone), (λ cuts. cuts)) in
    reached_stamps (g.S.Structure.meaning c.args.structure.now) (met.laws c.args.structure.now) layout limits requests allowed w reached
