use Rattle.keeper_facts.proofs.Telling.{locks_tell}
use Rattle.keeper_facts.proofs.laws.what_the_keeper_saw_tells.Goals as goal

pub returns : goal.returns
returns g c = λ layout requests w limits allowed reached.
    let met = g.met.S.Structure g.world.𝓛 g.world.𝓜 g.world.𝓡 ((λ s allowed. allowed), (λ patient. patient), (λ alone. alone), (λ cuts. cuts)) in
    locks_tell (g.S.Structure.meaning c.args.structure.now) (met.laws c.args.structure.now) layout limits requests allowed
    (λ v there. c.joined_workers_are_gone.ensures layout requests v limits allowed there)
    (λ v there. c.what_the_keeper_left_stands.ensures layout requests v limits allowed there) w reached
