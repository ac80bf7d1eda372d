use Rattle.std.proofs.Common.{arith, refl}
use Rattle.idem_alloc.specs.commit_log.proofs.Running.{ran_one}
use Rattle.idem_alloc.specs.commit_log.proofs.Halting.{through_by, halted_by, asked_if}
use Rattle.section_runs.proofs.Ending.{may_finish, finishes, finished}
use Rattle.section_runs.proofs.ends.finish.Goals as goal

pub set_done-runner-requires-clause-next : goal.set_done-runner-requires-clause-next
set_done-runner-requires-clause-next g c κs within =
    let met = g.met.S.Structure g.world.𝓛 g.world.𝓜 g.world.𝓡 ((λ s allowed. allowed), (λ patient. patient), (λ alone. alone), (λ cuts. cuts)) in
    let m = g.S.Structure.meaning c.args.table.now.structure in
    let laws = met.laws c.args.table.now.structure in
    let t = c.args.table.now in
    let limits = c.requires.own.limits _ refl in
    let allowed = c.requires.own.allowed _ refl in
    let r = c.args.runner in
    may_finish m laws t limits allowed r c.requires.own c.args.taken c.requires.over.0 c.requires.over.1

pub returns-clause-ending : goal.returns-clause-ending
returns-clause-ending g c =
    let met = g.met.S.Structure g.world.𝓛 g.world.𝓜 g.world.𝓡 ((λ s allowed. allowed), (λ patient. patient), (λ alone. alone), (λ cuts. cuts)) in
    let m = g.S.Structure.meaning c.args.table.now.structure in
    let laws = met.laws c.args.table.now.structure in
    let t = c.args.table.now in
    let limits = c.requires.own.limits _ refl in
    let allowed = c.requires.own.allowed _ refl in
    let r = c.args.runner in
    λ _. (finished m laws t limits allowed r c.requires.own c.args.taken c.requires.over.0 c.requires.over.1 _ _ (finishes m laws t limits allowed r c.requires.own c.args.taken c.requires.over.0 c.requires.over.1 _ _ c.set_done-runner.ensures.event.event)).0

pub returns-clause-same : goal.returns-clause-same
returns-clause-same g c =
    let met = g.met.S.Structure g.world.𝓛 g.world.𝓜 g.world.𝓡 ((λ s allowed. allowed), (λ patient. patient), (λ alone. alone), (λ cuts. cuts)) in
    let m = g.S.Structure.meaning c.args.table.now.structure in
    let laws = met.laws c.args.table.now.structure in
    let t = c.args.table.now in
    let limits = c.requires.own.limits _ refl in
    let allowed = c.requires.own.allowed _ refl in
    let r = c.args.runner in
    λ _. (finished m laws t limits allowed r c.requires.own c.args.taken c.requires.over.0 c.requires.over.1 _ _ (finishes m laws t limits allowed r c.requires.own c.args.taken c.requires.over.0 c.requires.over.1 _ _ c.set_done-runner.ensures.event.event)).1

pub returns-clause-through : goal.returns-clause-through
returns-clause-through g c =
    let met = g.met.S.Structure g.world.𝓛 g.world.𝓜 g.world.𝓡 ((λ s allowed. allowed), (λ patient. patient), (λ alone. alone), (λ cuts. cuts)) in
    let m = g.S.Structure.meaning c.args.table.now.structure in
    let laws = met.laws c.args.table.now.structure in
    let t = c.args.table.now in
    let limits = c.requires.own.limits _ refl in
    let allowed = c.requires.own.allowed _ refl in
    let r = c.args.runner in
    λ going. through_by m 1 1 _ _ _ _ _ _ _ _ (omega arith) (ran_one m _ _ _ _ _ (finishes m laws t limits allowed r c.requires.own c.args.taken c.requires.over.0 c.requires.over.1 _ _ c.set_done-runner.ensures.event.event)) (asked_if going c.passes-going.ensures)

pub returns-clause-halted : goal.returns-clause-halted
returns-clause-halted g c =
    let met = g.met.S.Structure g.world.𝓛 g.world.𝓜 g.world.𝓡 ((λ s allowed. allowed), (λ patient. patient), (λ alone. alone), (λ cuts. cuts)) in
    let m = g.S.Structure.meaning c.args.table.now.structure in
    let laws = met.laws c.args.table.now.structure in
    let t = c.args.table.now in
    let limits = c.requires.own.limits _ refl in
    let allowed = c.requires.own.allowed _ refl in
    let r = c.args.runner in
    λ halted. halted_by m 1 1 _ _ _ _ _ _ _ _ (omega arith) (omega arith) (ran_one m _ _ _ _ _ (finishes m laws t limits allowed r c.requires.own c.args.taken c.requires.over.0 c.requires.over.1 _ _ c.set_done-runner.ensures.event.event)) (asked_if halted c.passes-going.ensures)
