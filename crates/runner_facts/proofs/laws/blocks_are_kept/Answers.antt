use Rattle.runner_facts.proofs.Blocks.{reached_blocks, reached_enough}
use Rattle.runner_facts.proofs.laws.blocks_are_kept.Goals as goal

pub returns-clause-kept : goal.returns-clause-kept
returns-clause-kept g c = λ layout requests w limits allowed reached.
    let met = g.met.S.Structure g.world.𝓛 g.world.𝓜 g.world.𝓡 ((λ s allowed. allowed), (λ patient. patient), (λ alone. alone), (λ cuts. cuts)) in
    reached_blocks (g.S.Structure.meaning c.args.structure.now) (met.laws c.args.structure.now) layout limits requests allowed w reached

pub returns-clause-enough : goal.returns-clause-enough
returns-clause-enough g c = λ layout requests w limits allowed reached.
    let met = g.met.S.Structure g.world.𝓛 g.world.𝓜 g.world.𝓡 ((λ s allowed. allowed), (λ patient. patient), (λ alone. alone), (λ cuts. cuts)) in
    reached_enough (g.S.Structure.meaning c.args.structure.now) (met.laws c.args.structure.now) layout limits requests allowed w reached
