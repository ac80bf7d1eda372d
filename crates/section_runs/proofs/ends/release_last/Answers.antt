use Rattle.std.proofs.Common.{refl}
use Rattle.section_runs.proofs.Ending.{may_release, has_released}
use Rattle.section_runs.proofs.ends.release_last.Goals as goal

pub release-runner-requires-clause-next : goal.release-runner-requires-clause-next
release-runner-requires-clause-next g c κs within =
    let met = g.met.S.Structure g.world.𝓛 g.world.𝓜 g.world.𝓡 ((λ s allowed. allowed), (λ patient. patient), (λ alone. alone), (λ cuts. cuts)) in
    let m = g.S.Structure.meaning c.args.table.now.structure in
    let laws = met.laws c.args.table.now.structure in
    let t = c.args.table.now in
    let limits = c.requires.own.limits _ refl in
    let allowed = c.requires.own.allowed _ refl in
    let r = c.args.runner in
    may_release m laws t limits allowed r c.requires.own c.args.taken c.requires.next c.args.lock c.args.word c.requires.lock c.requires.word

pub returns-clause-released : goal.returns-clause-released
returns-clause-released g c =
    let met = g.met.S.Structure g.world.𝓛 g.world.𝓜 g.world.𝓡 ((λ s allowed. allowed), (λ patient. patient), (λ alone. alone), (λ cuts. cuts)) in
    let m = g.S.Structure.meaning c.args.table.now.structure in
    let laws = met.laws c.args.table.now.structure in
    let t = c.args.table.now in
    let limits = c.requires.own.limits _ refl in
    let allowed = c.requires.own.allowed _ refl in
    let r = c.args.runner in
    has_released m laws t limits allowed r c.requires.own c.args.taken c.requires.next _ _ c.release-runner.ensures.event.event
