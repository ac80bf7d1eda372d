use Rattle.next_steps.proofs.Links.{one_link}
use Rattle.next_steps.proofs.Stages.{in_table, may_open, then_opened, may_step, may_link, then_linked, commits_behind, then_stepped}
use Rattle.next_steps.proofs.laws.runs_may_be_followed.Goals as goal

pub returns-clause-opening : goal.returns-clause-opening
returns-clause-opening g c = λ layout requests limits allowed r p q is low.
    let met = g.met.S.Structure g.world.𝓛 g.world.𝓜 g.world.𝓡 ((λ s allowed. allowed), (λ patient. patient), (λ alone. alone), (λ cuts. cuts)) in
    may_open (g.S.Structure.meaning c.args.structure.now) (met.laws c.args.structure.now) layout limits requests allowed r p q is low

pub returns-clause-opened : goal.returns-clause-opened
returns-clause-opened g c = λ layout requests. then_opened (g.S.Structure.meaning c.args.structure.now) layout requests

pub returns-clause-step : goal.returns-clause-step
returns-clause-step g c = λ layout requests limits allowed r p q micro is all ahead near has.
    let met = g.met.S.Structure g.world.𝓛 g.world.𝓜 g.world.𝓡 ((λ s allowed. allowed), (λ patient. patient), (λ alone. alone), (λ cuts. cuts)) in
    may_step (g.S.Structure.meaning c.args.structure.now) (met.laws c.args.structure.now) layout limits requests allowed r p q is all micro ahead near has

pub returns-clause-link : goal.returns-clause-link
returns-clause-link g c = λ layout requests limits allowed r p q micro is all ahead needs some.
    let met = g.met.S.Structure g.world.𝓛 g.world.𝓜 g.world.𝓡 ((λ s allowed. allowed), (λ patient. patient), (λ alone. alone), (λ cuts. cuts)) in
    may_link (g.S.Structure.meaning c.args.structure.now) (met.laws c.args.structure.now) layout limits requests allowed r p q is all micro ahead needs some

pub returns-clause-enough : goal.returns-clause-enough
returns-clause-enough g c = λ layout requests limits allowed.
    let met = g.met.S.Structure g.world.𝓛 g.world.𝓜 g.world.𝓡 ((λ s allowed. allowed), (λ patient. patient), (λ alone. alone), (λ cuts. cuts)) in
    one_link (g.S.Structure.meaning c.args.structure.now) (met.laws c.args.structure.now) layout limits requests allowed

pub returns-clause-linked : goal.returns-clause-linked
returns-clause-linked g c = λ layout requests limits allowed.
    let met = g.met.S.Structure g.world.𝓛 g.world.𝓜 g.world.𝓡 ((λ s allowed. allowed), (λ patient. patient), (λ alone. alone), (λ cuts. cuts)) in
    then_linked (g.S.Structure.meaning c.args.structure.now) (met.laws c.args.structure.now) layout limits requests allowed

pub returns-clause-commits : goal.returns-clause-commits
returns-clause-commits g c = λ layout requests limits allowed r k p q micro is all ahead commits.
    let met = g.met.S.Structure g.world.𝓛 g.world.𝓜 g.world.𝓡 ((λ s allowed. allowed), (λ patient. patient), (λ alone. alone), (λ cuts. cuts)) in
    commits_behind (g.S.Structure.meaning c.args.structure.now) (met.laws c.args.structure.now) layout limits requests allowed r p q is all micro ahead k commits

pub returns-clause-behind : goal.returns-clause-behind
returns-clause-behind g c = λ layout requests limits allowed.
    let met = g.met.S.Structure g.world.𝓛 g.world.𝓜 g.world.𝓡 ((λ s allowed. allowed), (λ patient. patient), (λ alone. alone), (λ cuts. cuts)) in
    then_stepped (g.S.Structure.meaning c.args.structure.now) (met.laws c.args.structure.now) layout limits requests allowed

pub returns-clause-known : goal.returns-clause-known
returns-clause-known g c = λ layout requests limits allowed r p q is.
    let met = g.met.S.Structure g.world.𝓛 g.world.𝓜 g.world.𝓡 ((λ s allowed. allowed), (λ patient. patient), (λ alone. alone), (λ cuts. cuts)) in
    in_table (g.S.Structure.meaning c.args.structure.now) (met.laws c.args.structure.now) layout limits requests allowed r p q is
