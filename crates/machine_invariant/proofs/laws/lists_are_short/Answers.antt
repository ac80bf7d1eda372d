use Rattle.machine_invariant.proofs.After.{short_after}
use Rattle.machine_invariant.proofs.Lengths.{lists_short, whole_short}
use Rattle.machine_invariant.proofs.laws.lists_are_short.Goals as goal

pub returns-clause-standing : goal.returns-clause-standing
returns-clause-standing g c = λ layout location state stand. lists_short (g.S.Structure.meaning c.args.structure.now) layout location state stand

pub returns-clause-whole : goal.returns-clause-whole
returns-clause-whole g c = λ layout b s whole. whole_short (g.S.Structure.meaning c.args.structure.now) layout b s whole

pub returns-clause-reached : goal.returns-clause-reached
returns-clause-reached g c = λ layout requests events w limits allowed after.
    let met = g.met.S.Structure g.world.𝓛 g.world.𝓜 g.world.𝓡 ((λ s allowed. allowed), (λ patient. patient), (λ alone. alone), (λ cuts. cuts)) in
    short_after (g.S.Structure.meaning c.args.structure.now) (met.laws c.args.structure.now) layout requests events w limits allowed after
