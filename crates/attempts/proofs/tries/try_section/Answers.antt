use Rattle.std.proofs.Common.{Ok, Err, length, refl, sym, ◌∙◌, subst}
use Rattle.caller_facts.specs.try_lock.specs.Publishes.{Publishes}
use Rattle.caller_facts.specs.Counted.{IsSeen}
use Rattle.attempts.specs.Rests.{MayLeave, HasTurned}
use Rattle.attempts.proofs.Courses.{may_publish, refused_go}
use Rattle.attempts.proofs.LettingGo.{may_go}
use Rattle.attempts.proofs.Trying.{tried_of}
use Rattle.attempts.proofs.Wholly.{lost_may_leave, lost_rests, tried_rests}
use Rattle.attempts.proofs.tries.try_section.Goals as goal

pub publish-runner-requires-clause-publishable : goal.publish-runner-requires-clause-publishable
publish-runner-requires-clause-publishable g c κs within =
    let e = c.requires.planned in
    may_publish (g.S.Structure.meaning c.args.table.now.structure) (g.S.Planner.planning c.args.table.now.structure) c.args.request.now e.0 e.1 c.args.thunk.now c.args.runner e.2

pub run_own-requires-clause-tried : goal.run_own-requires-clause-tried
run_own-requires-clause-tried g c κs within =
    let e = c.requires.planned in (
      e.0,
      c.args.thunk.now,
      tried_of (g.S.Structure.meaning c.args.table.now.structure) (g.S.Planner.planning c.args.table.now.structure) c.args.request.now e.0 e.1 c.args.thunk.now c.args.runner e.2 (Ok c.in-Ok.section) c.publish-runner.result.0
          (subst (λ a. Publishes (g.S.Structure.meaning c.args.table.now.structure) c.args.thunk.now a c.args.runner c.publish-runner.result.0) c.in-Ok.is c.publish-runner.ensures.publishes) (c.publish-runner.ensures.own.layout ∙ sym c.requires.own.layout) (c.publish-runner.ensures.own.requests ∙ sym c.requires.own.requests),
    )

pub guard-runner-requires-clause-next : goal.guard-runner-requires-clause-next
guard-runner-requires-clause-next g c κs within =
    let e = c.requires.planned in
    let publishes = subst (λ a. Publishes (g.S.Structure.meaning c.args.table.now.structure) c.args.thunk.now a c.args.runner c.publish-runner.result.0) c.in-Err.is c.publish-runner.ensures.publishes in
    may_go (g.S.Structure.meaning c.args.table.now.structure) c.publish-runner.result.0 (refused_go (g.S.Structure.meaning c.args.table.now.structure) (g.S.Planner.planning c.args.table.now.structure) c.args.request.now e.0 c.args.thunk.now c.in-Err.refused c.publish-runner.result.0
    (tried_of (g.S.Structure.meaning c.args.table.now.structure) (g.S.Planner.planning c.args.table.now.structure) c.args.request.now e.0 e.1 c.args.thunk.now c.args.runner e.2 (Err c.in-Err.refused) c.publish-runner.result.0 publishes
    (c.publish-runner.ensures.own.layout ∙ sym c.requires.own.layout) (c.publish-runner.ensures.own.requests ∙ sym c.requires.own.requests)))

pub turn_away-requires-clause-next : goal.turn_away-requires-clause-next
turn_away-requires-clause-next g c κs within =
    let met = g.met.S.Structure g.world.𝓛 g.world.𝓜 g.world.𝓡 ((λ s allowed. allowed), (λ patient. patient), (λ alone. alone), (λ cuts. cuts)) in
    let e = c.requires.planned in
    let publishes = subst (λ a. Publishes (g.S.Structure.meaning c.args.table.now.structure) c.args.thunk.now a c.args.runner c.publish-runner.result.0) c.in-Err.is c.publish-runner.ensures.publishes in
    subst (λ a. MayLeave (g.S.Structure.meaning c.args.table.now.structure) a c.guard-runner.result) (sym c.lock_refused.ensures)
    (lost_may_leave (g.S.Structure.meaning c.args.table.now.structure) (met.laws c.args.table.now.structure) c.args.table.now (c.requires.own.limits _ refl) (c.requires.own.allowed _ refl) (g.S.Planner.planning c.args.table.now.structure) c.args.request.now c.args.thunk.now c.in-Err.refused e.0 c.args.runner c.publish-runner.result.0 c.guard-runner.result c.publish-runner.ensures.own c.guard-runner.ensures.own e.1 e.2 publishes (c.publish-runner.ensures.own.layout ∙ sym c.requires.own.layout) (c.publish-runner.ensures.own.requests ∙ sym c.requires.own.requests) (record { found = 0; event = c.guard-runner.ensures.event 0 }))

pub returns-in-Ok-clause-rests : goal.returns-in-Ok-clause-rests
returns-in-Ok-clause-rests g c =
    λ old readings planned.
    let publishes = subst (λ a. Publishes (g.S.Structure.meaning c.args.table.now.structure) c.args.thunk.now a c.args.runner c.publish-runner.result.0) c.in-Ok.is c.publish-runner.ensures.publishes in
    tried_rests (g.S.Structure.meaning c.args.table.now.structure) (g.S.Planner.planning c.args.table.now.structure) c.args.request.now c.args.thunk.now c.in-Ok.section (length readings) old c.args.runner c.publish-runner.result.0 c.run_own.result.0 c.run_own.result.1 publishes (c.publish-runner.ensures.own.layout ∙ sym c.requires.own.layout) (c.publish-runner.ensures.own.requests ∙ sym c.requires.own.requests) (IsSeen g.G.Gate.halts g.G.Gate.asks) _ _ _ _ _ _
    (c.run_own.ensures.rests old c.args.thunk.now (tried_of (g.S.Structure.meaning c.args.table.now.structure) (g.S.Planner.planning c.args.table.now.structure) c.args.request.now old readings c.args.thunk.now c.args.runner planned (Ok c.in-Ok.section) c.publish-runner.result.0 publishes (c.publish-runner.ensures.own.layout ∙ sym c.requires.own.layout) (c.publish-runner.ensures.own.requests ∙ sym c.requires.own.requests)))

pub returns-in-Err-clause-rests : goal.returns-in-Err-clause-rests
returns-in-Err-clause-rests g c =
    let met = g.met.S.Structure g.world.𝓛 g.world.𝓜 g.world.𝓡 ((λ s allowed. allowed), (λ patient. patient), (λ alone. alone), (λ cuts. cuts)) in
    λ old readings planned.
    let publishes = subst (λ a. Publishes (g.S.Structure.meaning c.args.table.now.structure) c.args.thunk.now a c.args.runner c.publish-runner.result.0) c.in-Err.is c.publish-runner.ensures.publishes in
    lost_rests (g.S.Structure.meaning c.args.table.now.structure) (met.laws c.args.table.now.structure) c.args.table.now (c.requires.own.limits _ refl) (c.requires.own.allowed _ refl) (g.S.Planner.planning c.args.table.now.structure) c.args.request.now c.args.thunk.now c.in-Err.refused old c.args.runner c.publish-runner.result.0 c.guard-runner.result c.publish-runner.ensures.own c.guard-runner.ensures.own readings planned publishes (c.publish-runner.ensures.own.layout ∙ sym c.requires.own.layout) (c.publish-runner.ensures.own.requests ∙ sym c.requires.own.requests) (record { found = 0; event = c.guard-runner.ensures.event 0 })
    c.turn_away.result.1 c.turn_away.result.0 c.turn_away.ensures.own (IsSeen g.G.Gate.halts g.G.Gate.asks) _ _ _ _ _ _ (c.args.gate.now, refl, refl)
    (subst (λ a. HasTurned (g.S.Structure.meaning c.args.table.now.structure) a c.turn_away.result.1 c.guard-runner.result c.turn_away.result.0 (g.G.Gate.halts c.args.gate.now) (g.G.Gate.halts c.turn_away.new.gate) (g.G.Gate.asks c.args.gate.now) (g.G.Gate.asks c.turn_away.new.gate) c.args.steps.now.count c.turn_away.new.steps.count) c.lock_refused.ensures c.turn_away.ensures.turned)
