use Rattle.next_steps.proofs.Enabled.{reached_enabled}
use Rattle.next_steps.proofs.GoingOn.{reached_goes_on}
use Rattle.next_steps.proofs.laws.next_steps_are_enabled.Goals as goal

pub returns-clause-enabled : goal.returns-clause-enabled
returns-clause-enabled g c = λ layout requests w limits allowed reached.
    let met = g.met.S.Structure g.world.𝓛 g.world.𝓜 g.world.𝓡 ((λ s allowed. allowed), (λ patient. patient), (λ alone. alone), (λ cuts. cuts)) in
    reached_enabled (g.S.Structure.meaning c.args.structure.now) (met.laws c.args.structure.now) layout limits requests allowed w reached

pub returns-clause-goes_on : goal.returns-clause-goes_on
returns-clause-goes_on g c = λ layout requests w limits allowed reached.
    let met = g.met.S.Structure g.world.𝓛 g.world.𝓜 g.world.𝓡 ((λ s allowed. allowed), (λ patient. patient), (λ alone. alone), (λ cuts. cuts)) in
    reached_goes_on (g.S.Structure.meaning c.args.structure.now) (met.laws c.args.structure.now) layout limits requests allowed w reached
