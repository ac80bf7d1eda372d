use Rattle.machine_facts.proofs.Got.{reached_got_held}
use Rattle.machine_facts.proofs.laws.got_locks_are_held.Goals as goal

pub returns : goal.returns
returns g c =
    let met = g.met.S.Structure g.world.𝓛 g.world.𝓜 g.world.𝓡 ((λ s allowed. allowed), (λ patient. patient), (λ alone. alone), (λ cuts. cuts)) in
    λ layout requests. reached_got_held (g.S.Structure.meaning c.args.structure.now) (met.laws c.args.structure.now) layout requests
