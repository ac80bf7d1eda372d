use Rattle.machine_scenes.proofs.First.{first_kept, schedules_kept}
use Rattle.machine_scenes.proofs.laws.schedules_keep_a_lawful_scene.Goals as goal

pub returns-clause-first : goal.returns-clause-first
returns-clause-first g c = λ layout limits counts nodes location first p.
    let met = g.met.S.Structure g.world.𝓛 g.world.𝓜 g.world.𝓡 ((λ s allowed. allowed), (λ patient. patient), (λ alone. alone), (λ cuts. cuts)) in
    first_kept (g.S.Structure.meaning c.args.structure.now) (met.laws c.args.structure.now) layout limits counts nodes location first p

pub returns-clause-all : goal.returns-clause-all
returns-clause-all g c = λ layout limits counts nodes location first p steps ok.
    let met = g.met.S.Structure g.world.𝓛 g.world.𝓜 g.world.𝓡 ((λ s allowed. allowed), (λ patient. patient), (λ alone. alone), (λ cuts. cuts)) in
    schedules_kept (g.S.Structure.meaning c.args.structure.now) (met.laws c.args.structure.now) layout limits counts nodes location first p steps ok
