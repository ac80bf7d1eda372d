use Rattle.machine_scenes.proofs.Kept.{step_kept}
use Rattle.machine_scenes.proofs.laws.steps_keep_a_lawful_scene.Goals as goal

pub returns : goal.returns
returns g c = λ layout limits counts nodes j step ok kept.
    let met = g.met.S.Structure g.world.𝓛 g.world.𝓜 g.world.𝓡 ((λ s allowed. allowed), (λ patient. patient), (λ alone. alone), (λ cuts. cuts)) in
    step_kept (g.S.Structure.meaning c.args.structure.now) (met.laws c.args.structure.now) layout limits counts nodes j step ok kept
