use Rattle.std.proofs.Common.{refl, sym, ap, subst}
use Rattle.caller_facts.specs.try_lock.specs.Plans.{HasPlanned as PlanIs, is_halted}
use Rattle.caller_facts.specs.Counted.{IsSeen}
use Rattle.attempts.specs.Course.{HasPlanned}
use Rattle.attempts.specs.Rests.{MayLeave, HasTurned}
use Rattle.attempts.proofs.Refusing.{refuses_by}
use Rattle.attempts.proofs.Wholly.{course, thunk_rests, plan_halted, plan_may_leave, refused_rests}
use Rattle.attempts.proofs.attempting.plan_and_try.Goals as goal

pub try_section-requires-clause-planned : goal.try_section-requires-clause-planned
try_section-requires-clause-planned g c κs within =
    let met = g.met.S.Structure g.world.𝓛 g.world.𝓜 g.world.𝓡 ((λ s allowed. allowed), (λ patient. patient), (λ alone. alone), (λ cuts. cuts)) in
    let e = c.requires.entered in
    let is = (subst (λ s. PlanIs (g.S.Structure.meaning s) (g.S.Planner.planning s) c.args.request.now c.plan-runner.result.1 c.args.runner c.plan-runner.result.0 (g.G.Gate.halts c.args.gate.now) (g.G.Gate.halts c.plan-runner.new.gate) (g.G.Gate.asks c.args.gate.now) (g.G.Gate.asks c.plan-runner.new.gate) c.args.steps.now.count c.plan-runner.new.steps.count) c.structure.ensures c.plan-runner.ensures.plans) in (
      e.0,
      is.readings,
      subst (λ a. HasPlanned (g.S.Structure.meaning c.args.table.now.structure) (g.S.Planner.planning c.args.table.now.structure) c.args.request.now is.readings a e.0 c.plan-runner.result.0) c.in-Thunk.is
          (course (g.S.Structure.meaning c.args.table.now.structure) (met.laws c.args.table.now.structure) c.args.table.now (c.requires.own.limits _ refl) (c.requires.own.allowed _ refl) (g.S.Planner.planning c.args.table.now.structure) c.args.request.now c.plan-runner.result.1 e.0 c.args.runner c.plan-runner.result.0 c.requires.own c.plan-runner.ensures.own e.1 _ _ _ _ _ _ is),
    )

pub turn_away-requires-clause-next : goal.turn_away-requires-clause-next
turn_away-requires-clause-next g c κs within =
    let met = g.met.S.Structure g.world.𝓛 g.world.𝓜 g.world.𝓡 ((λ s allowed. allowed), (λ patient. patient), (λ alone. alone), (λ cuts. cuts)) in
    let e = c.requires.entered in
    let is = (subst (λ s. PlanIs (g.S.Structure.meaning s) (g.S.Planner.planning s) c.args.request.now c.plan-runner.result.1 c.args.runner c.plan-runner.result.0 (g.G.Gate.halts c.args.gate.now) (g.G.Gate.halts c.plan-runner.new.gate) (g.G.Gate.asks c.args.gate.now) (g.G.Gate.asks c.plan-runner.new.gate) c.args.steps.now.count c.plan-runner.new.steps.count) c.structure.ensures c.plan-runner.ensures.plans) in
    subst (λ a. MayLeave (g.S.Structure.meaning c.args.table.now.structure) a c.plan-runner.result.0) (sym c.plan_refused.ensures)
    (plan_may_leave (g.S.Structure.meaning c.args.table.now.structure) (met.laws c.args.table.now.structure) c.args.table.now (c.requires.own.limits _ refl) (c.requires.own.allowed _ refl) (g.S.Planner.planning c.args.table.now.structure) c.args.request.now c.plan-runner.result.1 e.0 c.args.runner c.plan-runner.result.0 c.requires.own c.plan-runner.ensures.own e.1 _ _ _ _ _ _ is
    (refuses_by c.plan-runner.result.1 c.in_default.not-Thunk c.in_default.not-Halted))

pub returns-in-Thunk-clause-rests : goal.returns-in-Thunk-clause-rests
returns-in-Thunk-clause-rests g c =
    let met = g.met.S.Structure g.world.𝓛 g.world.𝓜 g.world.𝓡 ((λ s allowed. allowed), (λ patient. patient), (λ alone. alone), (λ cuts. cuts)) in
    λ old enters.
    let is = (subst (λ s. PlanIs (g.S.Structure.meaning s) (g.S.Planner.planning s) c.args.request.now c.plan-runner.result.1 c.args.runner c.plan-runner.result.0 (g.G.Gate.halts c.args.gate.now) (g.G.Gate.halts c.plan-runner.new.gate) (g.G.Gate.asks c.args.gate.now) (g.G.Gate.asks c.plan-runner.new.gate) c.args.steps.now.count c.plan-runner.new.steps.count) c.structure.ensures c.plan-runner.ensures.plans) in
    thunk_rests (g.S.Structure.meaning c.args.table.now.structure) (met.laws c.args.table.now.structure) c.args.table.now (c.requires.own.limits _ refl) (c.requires.own.allowed _ refl) (g.S.Planner.planning c.args.table.now.structure) c.args.request.now c.plan-runner.result.1 old c.args.runner c.plan-runner.result.0 c.requires.own c.plan-runner.ensures.own enters _ _ _ _ _ _ is
    c.try_section.result.1 c.try_section.result.0 (IsSeen g.G.Gate.halts g.G.Gate.asks) _ _ _ (ap (λ a. is_halted a) c.in-Thunk.is)
    (c.try_section.ensures.rests old is.readings (subst (λ a. HasPlanned (g.S.Structure.meaning c.args.table.now.structure) (g.S.Planner.planning c.args.table.now.structure) c.args.request.now is.readings a old c.plan-runner.result.0) c.in-Thunk.is
    (course (g.S.Structure.meaning c.args.table.now.structure) (met.laws c.args.table.now.structure) c.args.table.now (c.requires.own.limits _ refl) (c.requires.own.allowed _ refl) (g.S.Planner.planning c.args.table.now.structure) c.args.request.now c.plan-runner.result.1 old c.args.runner c.plan-runner.result.0 c.requires.own c.plan-runner.ensures.own enters _ _ _ _ _ _ is)))

pub returns-in-Halted-clause-rests : goal.returns-in-Halted-clause-rests
returns-in-Halted-clause-rests g c =
    let met = g.met.S.Structure g.world.𝓛 g.world.𝓜 g.world.𝓡 ((λ s allowed. allowed), (λ patient. patient), (λ alone. alone), (λ cuts. cuts)) in
    λ old enters.
    let is = (subst (λ s. PlanIs (g.S.Structure.meaning s) (g.S.Planner.planning s) c.args.request.now c.plan-runner.result.1 c.args.runner c.plan-runner.result.0 (g.G.Gate.halts c.args.gate.now) (g.G.Gate.halts c.plan-runner.new.gate) (g.G.Gate.asks c.args.gate.now) (g.G.Gate.asks c.plan-runner.new.gate) c.args.steps.now.count c.plan-runner.new.steps.count) c.structure.ensures c.plan-runner.ensures.plans) in
    plan_halted (g.S.Structure.meaning c.args.table.now.structure) (met.laws c.args.table.now.structure) c.args.table.now (c.requires.own.limits _ refl) (c.requires.own.allowed _ refl) (g.S.Planner.planning c.args.table.now.structure) c.args.request.now c.plan-runner.result.1 old c.args.runner c.plan-runner.result.0 c.requires.own c.plan-runner.ensures.own enters _ _ _ _ _ _ is c.in-Halted.is (IsSeen g.G.Gate.halts g.G.Gate.asks) (c.args.gate.now, refl, refl)

pub returns-in_default : goal.returns-in_default
returns-in_default g c =
    let met = g.met.S.Structure g.world.𝓛 g.world.𝓜 g.world.𝓡 ((λ s allowed. allowed), (λ patient. patient), (λ alone. alone), (λ cuts. cuts)) in
    let is = (subst (λ s. PlanIs (g.S.Structure.meaning s) (g.S.Planner.planning s) c.args.request.now c.plan-runner.result.1 c.args.runner c.plan-runner.result.0 (g.G.Gate.halts c.args.gate.now) (g.G.Gate.halts c.plan-runner.new.gate) (g.G.Gate.asks c.args.gate.now) (g.G.Gate.asks c.plan-runner.new.gate) c.args.steps.now.count c.plan-runner.new.steps.count) c.structure.ensures c.plan-runner.ensures.plans) in
    record {
      own = c.turn_away.ensures.own;
      rests = λ old enters. refused_rests (g.S.Structure.meaning c.args.table.now.structure) (met.laws c.args.table.now.structure) c.args.table.now (c.requires.own.limits _ refl) (c.requires.own.allowed _ refl) (g.S.Planner.planning c.args.table.now.structure) c.args.request.now c.plan-runner.result.1 old c.args.runner c.plan-runner.result.0 c.requires.own c.plan-runner.ensures.own enters _ _ _ _ _ _ is
          (refuses_by c.plan-runner.result.1 c.in_default.not-Thunk c.in_default.not-Halted) c.turn_away.result.1 c.turn_away.result.0 c.turn_away.ensures.own (IsSeen g.G.Gate.halts g.G.Gate.asks) _ _ _ (c.plan-runner.new.gate, refl, refl)
          (subst (λ a. HasTurned (g.S.Structure.meaning c.args.table.now.structure) a c.turn_away.result.1 c.plan-runner.result.0 c.turn_away.result.0 (g.G.Gate.halts c.plan-runner.new.gate) (g.G.Gate.halts c.turn_away.new.gate)
          (g.G.Gate.asks c.plan-runner.new.gate) (g.G.Gate.asks c.turn_away.new.gate) c.plan-runner.new.steps.count c.turn_away.new.steps.count) c.plan_refused.ensures c.turn_away.ensures.turned);
    }
