use Rattle.machine_facts.proofs.Watched.{seen_locks_stand}
use Rattle.machine_facts.proofs.laws.seen_locks_stand.Goals as goal

pub returns : goal.returns
returns g c =
    let met = g.met.S.Structure g.world.𝓛 g.world.𝓜 g.world.𝓡 ((λ s allowed. allowed), (λ patient. patient), (λ alone. alone), (λ cuts. cuts)) in
    λ layout requests. seen_locks_stand (g.S.Structure.meaning c.args.structure.now) (met.laws c.args.structure.now) layout requests
