use Rattle.std.proofs.Common.{sym, subst, ◌∙◌}
use Rattle.lock_tests.specs.Workers.{MayRun, MayRunFor}
use Rattle.lock_tests.proofs.Offering.{may_run, may_run_for, same_section}
use Rattle.lock_tests.proofs.Planned.{may_publish, planned_nodes, planned_blocks, planned_hand, told}
use Rattle.lock_tests.proofs.courses.plan_and_publish.Goals as goal

pub publish-runner-requires-clause-publishable : goal.publish-runner-requires-clause-publishable
publish-runner-requires-clause-publishable g c κs within =
    let m = g.S.Structure.meaning c.args.table.now.structure in let planning = g.S.Planner.planning c.args.table.now.structure in
    may_publish m c.args.runner c.enter-runner.result c.enter-runner.ensures.enters planning c.args.request.now c.plan-runner.result.0 c.in-Thunk.thunk _ _ _ _ _ _
    (told g.S.Structure.meaning g.S.Planner.planning c.structure.result.now c.args.table.now.structure c.structure.ensures c.args.request.now c.plan-runner.result.1 c.in-Thunk.thunk c.in-Thunk.is _ _ _ _ _ _ _ _ c.plan-runner.ensures.plans)
    c.requires.due (c.enter-runner.ensures.own.layout ∙ sym c.requires.own.layout) (c.enter-runner.ensures.own.requests ∙ sym c.requires.own.requests)

pub returns-in-Ok-clause-published : goal.returns-in-Ok-clause-published
returns-in-Ok-clause-published g c = λ section same.
    let m = g.S.Structure.meaning c.args.table.now.structure in let planning = g.S.Planner.planning c.args.table.now.structure in
    let so = told g.S.Structure.meaning g.S.Planner.planning c.structure.result.now c.args.table.now.structure c.structure.ensures c.args.request.now c.plan-runner.result.1 c.in-Thunk.thunk c.in-Thunk.is _ _ _ _ _ _ _ _ c.plan-runner.ensures.plans in
    subst (λ s. MayRun m s c.publish-runner.result.0) (same_section c.in-Ok.section section same)
    (may_run m c.plan-runner.result.0 c.publish-runner.result.0 c.in-Thunk.thunk c.publish-runner.result.1 c.publish-runner.ensures.publishes
    (may_publish m c.args.runner c.enter-runner.result c.enter-runner.ensures.enters planning c.args.request.now c.plan-runner.result.0 c.in-Thunk.thunk _ _ _ _ _ _ so
    c.requires.due (c.enter-runner.ensures.own.layout ∙ sym c.requires.own.layout) (c.enter-runner.ensures.own.requests ∙ sym c.requires.own.requests))
    (planned_nodes m c.args.runner c.enter-runner.result c.enter-runner.ensures.enters planning c.args.request.now c.plan-runner.result.0 _ _ _ _ _ _ _ so c.requires.due)
    (planned_blocks m c.args.runner c.enter-runner.result c.enter-runner.ensures.enters planning c.args.request.now c.plan-runner.result.0 _ _ _ _ _ _ _ so c.requires.due)
    (planned_hand m c.args.runner c.enter-runner.result c.enter-runner.ensures.enters planning c.args.request.now c.plan-runner.result.0 _ _ _ _ _ _ _ so c.requires.due)
    c.in-Ok.section c.in-Ok.is)

pub returns-in-Ok-clause-asked : goal.returns-in-Ok-clause-asked
returns-in-Ok-clause-asked g c = λ section same.
    let m = g.S.Structure.meaning c.args.table.now.structure in let planning = g.S.Planner.planning c.args.table.now.structure in
    let so = told g.S.Structure.meaning g.S.Planner.planning c.structure.result.now c.args.table.now.structure c.structure.ensures c.args.request.now c.plan-runner.result.1 c.in-Thunk.thunk c.in-Thunk.is _ _ _ _ _ _ _ _ c.plan-runner.ensures.plans in
    subst (λ s. MayRunFor m c.args.request.now.number s c.publish-runner.result.0) (same_section c.in-Ok.section section same)
    (may_run_for m c.plan-runner.result.0 c.publish-runner.result.0 c.in-Thunk.thunk c.publish-runner.result.1 c.publish-runner.ensures.publishes
    (may_publish m c.args.runner c.enter-runner.result c.enter-runner.ensures.enters planning c.args.request.now c.plan-runner.result.0 c.in-Thunk.thunk _ _ _ _ _ _ so
    c.requires.due (c.enter-runner.ensures.own.layout ∙ sym c.requires.own.layout) (c.enter-runner.ensures.own.requests ∙ sym c.requires.own.requests))
    (planned_nodes m c.args.runner c.enter-runner.result c.enter-runner.ensures.enters planning c.args.request.now c.plan-runner.result.0 _ _ _ _ _ _ _ so c.requires.due)
    (planned_blocks m c.args.runner c.enter-runner.result c.enter-runner.ensures.enters planning c.args.request.now c.plan-runner.result.0 _ _ _ _ _ _ _ so c.requires.due)
    (planned_hand m c.args.runner c.enter-runner.result c.enter-runner.ensures.enters planning c.args.request.now c.plan-runner.result.0 _ _ _ _ _ _ _ so c.requires.due)
    c.in-Ok.section c.in-Ok.is c.args.request.now.number so.answers.request)
