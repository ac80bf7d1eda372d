use Rattle.machine_invariant.proofs.Along.{exact_along, exact_begins}
use Rattle.machine_invariant.proofs.laws.histories_say_what_happened.Goals as goal

pub returns-clause-begin : goal.returns-clause-begin
returns-clause-begin g c = λ layout requests limits.
    let met = g.met.S.Structure g.world.𝓛 g.world.𝓜 g.world.𝓡 ((λ s allowed. allowed), (λ patient. patient), (λ alone. alone), (λ cuts. cuts)) in
    exact_begins (g.S.Structure.meaning c.args.structure.now) layout (met.laws c.args.structure.now).first limits requests

pub returns-clause-stay : goal.returns-clause-stay
returns-clause-stay g c = λ layout requests. exact_along (g.S.Structure.meaning c.args.structure.now) layout requests
