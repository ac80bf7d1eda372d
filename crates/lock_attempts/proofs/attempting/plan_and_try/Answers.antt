use Rattle.std.proofs.Common.{refl, sym, ap, ◌∙◌, subst}
use Rattle.std.specs.Prelude.{slice_get}
use Rattle.attempts.specs.try_lock.specs.Plans.{is_halted}
use Rattle.attempts.specs.lock_walks.specs.Own.{own_thunk}
use Rattle.attempts.specs.Attempts.{is_refusal}
use Rattle.attempts.specs.caller_facts.specs.Counted.{IsSeen}
use Rattle.attempts.specs.Course.{HasPlanned}
use Rattle.attempts.specs.Rests.{MayLeave, HasTurned}
use Rattle.attempts.specs.caller_facts.proofs.Shapes.{allowed_at}
use Rattle.attempts.proofs.Refusing.{refuses_by, refusal_of_plan}
use Rattle.attempts.proofs.Wholly.{course, plan_halted, plan_may_leave, refused_rests}
use Rattle.lock_attempts.proofs.Concluded.{undone}
use Rattle.lock_attempts.proofs.Along.{asked_for, section_planned}
use Rattle.lock_attempts.proofs.attempting.plan_and_try.Goals as goal

pub plan_by-runner-requires-clause-allowed : goal.plan_by-runner-requires-clause-allowed
plan_by-runner-requires-clause-allowed g c κs within =
    let e = c.requires.entered in
    allowed_at c.args.table.now.requests c.args.request.now.number c.args.request.now
    (ap (λ rs. slice_get rs c.args.request.now.number) (sym c.requires.own.requests ∙ e.1.still.requests) ∙ e.1.may.there) (c.requires.own.allowed _ refl).each

pub try_section-requires-clause-planned : goal.try_section-requires-clause-planned
try_section-requires-clause-planned g c κs within =
    let met = g.met.S.Structure g.world.𝓛 g.world.𝓜 g.world.𝓡 ((λ s allowed. allowed), (λ patient. patient), (λ alone. alone), (λ cuts. cuts)) in
    let e = c.requires.entered in
    let is = c.plan_by-runner.ensures.plans in (
      (g.W.Walker.way.planning c.args.walk),
      c.args.request.now,
      e.0,
      is.readings,
      subst (λ a. HasPlanned (g.S.Structure.meaning c.args.table.now.structure) (g.W.Walker.way.planning c.args.walk) c.args.request.now is.readings a e.0 c.plan_by-runner.result.0) c.in-Thunk.is (course (g.S.Structure.meaning c.args.table.now.structure) (met.laws c.args.table.now.structure) c.args.table.now (c.requires.own.limits _ refl) (c.requires.own.allowed _ refl) (g.W.Walker.way.planning c.args.walk) c.args.request.now c.plan_by-runner.result.1 e.0 c.args.runner c.plan_by-runner.result.0 c.requires.own c.plan_by-runner.ensures.own e.1 _ _ _ _ _ _ c.plan_by-runner.ensures.plans),
    )

pub turn_away-runner-requires-clause-refusal : goal.turn_away-runner-requires-clause-refusal
turn_away-runner-requires-clause-refusal g c κs within =
    ap is_refusal c.plan_refused.ensures ∙ refusal_of_plan c.plan_by-runner.result.1 (refuses_by c.plan_by-runner.result.1 c.in_default.not-Thunk c.in_default.not-Halted)

pub turn_away-runner-requires-clause-next : goal.turn_away-runner-requires-clause-next
turn_away-runner-requires-clause-next g c κs within =
    let met = g.met.S.Structure g.world.𝓛 g.world.𝓜 g.world.𝓡 ((λ s allowed. allowed), (λ patient. patient), (λ alone. alone), (λ cuts. cuts)) in
    let e = c.requires.entered in
    subst (λ a. MayLeave (g.S.Structure.meaning c.args.table.now.structure) a c.plan_by-runner.result.0) (sym c.plan_refused.ensures)
    (plan_may_leave (g.S.Structure.meaning c.args.table.now.structure) (met.laws c.args.table.now.structure) c.args.table.now (c.requires.own.limits _ refl) (c.requires.own.allowed _ refl) (g.W.Walker.way.planning c.args.walk) c.args.request.now c.plan_by-runner.result.1 e.0 c.args.runner c.plan_by-runner.result.0 c.requires.own c.plan_by-runner.ensures.own e.1 _ _ _ _ _ _ c.plan_by-runner.ensures.plans (refuses_by c.plan_by-runner.result.1 c.in_default.not-Thunk c.in_default.not-Halted))

pub returns-in-Thunk-clause-rests : goal.returns-in-Thunk-clause-rests
returns-in-Thunk-clause-rests g c =
    let met = g.met.S.Structure g.world.𝓛 g.world.𝓜 g.world.𝓡 ((λ s allowed. allowed), (λ patient. patient), (λ alone. alone), (λ cuts. cuts)) in
    λ old enters.
    let is = c.plan_by-runner.ensures.plans in
    let planned = course (g.S.Structure.meaning c.args.table.now.structure) (met.laws c.args.table.now.structure) c.args.table.now (c.requires.own.limits _ refl) (c.requires.own.allowed _ refl) (g.W.Walker.way.planning c.args.walk) c.args.request.now c.plan_by-runner.result.1 old c.args.runner c.plan_by-runner.result.0 c.requires.own c.plan_by-runner.ensures.own enters _ _ _ _ _ _ c.plan_by-runner.ensures.plans in
    section_planned (g.S.Structure.meaning c.args.table.now.structure) (met.laws c.args.table.now.structure) c.args.table.now (c.requires.own.limits _ refl) (c.requires.own.allowed _ refl) (g.W.Walker.way.planning c.args.walk) c.args.request.now (own_thunk g.W.Walker.way c.args.walk c.args.request.now.number) c.plan_by-runner.result.1 old c.args.runner c.plan_by-runner.result.0 c.requires.own c.plan_by-runner.ensures.own enters _ _ _ _ _ _ c.plan_by-runner.ensures.plans c.try_section.result.1 c.try_section.result.0 (IsSeen g.G.Gate.halts g.G.Gate.asks) _ _ _ (ap (λ a. is_halted a) c.in-Thunk.is)
    (c.try_section.ensures.rests (g.W.Walker.way.planning c.args.walk) c.args.request.now (own_thunk g.W.Walker.way c.args.walk c.args.request.now.number) old is.readings
    (subst (λ a. HasPlanned (g.S.Structure.meaning c.args.table.now.structure) (g.W.Walker.way.planning c.args.walk) c.args.request.now is.readings a old c.plan_by-runner.result.0) c.in-Thunk.is planned)
    (asked_for (g.S.Structure.meaning c.args.table.now.structure) g.W.Walker.way c.args.walk c.args.request.now old c.plan_by-runner.result.0 is.readings c.plan_by-runner.result.1 planned c.plan_by-runner.ensures.own_thunk c.in-Thunk.thunk c.in-Thunk.is))

pub returns-in-Halted-clause-rests : goal.returns-in-Halted-clause-rests
returns-in-Halted-clause-rests g c =
    let met = g.met.S.Structure g.world.𝓛 g.world.𝓜 g.world.𝓡 ((λ s allowed. allowed), (λ patient. patient), (λ alone. alone), (λ cuts. cuts)) in
    λ old enters. (refl, plan_halted (g.S.Structure.meaning c.args.table.now.structure) (met.laws c.args.table.now.structure) c.args.table.now (c.requires.own.limits _ refl) (c.requires.own.allowed _ refl) (g.W.Walker.way.planning c.args.walk) c.args.request.now c.plan_by-runner.result.1 old c.args.runner c.plan_by-runner.result.0 c.requires.own c.plan_by-runner.ensures.own enters _ _ _ _ _ _ c.plan_by-runner.ensures.plans c.in-Halted.is (IsSeen g.G.Gate.halts g.G.Gate.asks) (c.args.gate.now, refl, refl))

pub returns-in_default-clause-rests : goal.returns-in_default-clause-rests
returns-in_default-clause-rests g c =
    let met = g.met.S.Structure g.world.𝓛 g.world.𝓜 g.world.𝓡 ((λ s allowed. allowed), (λ patient. patient), (λ alone. alone), (λ cuts. cuts)) in
    let refuses = refuses_by c.plan_by-runner.result.1 c.in_default.not-Thunk c.in_default.not-Halted in
    let turned = (subst (λ a. HasTurned (g.S.Structure.meaning c.args.table.now.structure) a c.turn_away-runner.result.1 c.plan_by-runner.result.0 c.turn_away-runner.result.0 (g.G.Gate.halts c.plan_by-runner.new.gate) (g.G.Gate.halts c.turn_away-runner.new.gate) (g.G.Gate.asks c.plan_by-runner.new.gate) (g.G.Gate.asks c.turn_away-runner.new.gate) c.plan_by-runner.new.steps.count c.turn_away-runner.new.steps.count) c.plan_refused.ensures c.turn_away-runner.ensures.turned) in
    λ old enters. (
      undone c.turn_away-runner.result.1 _ turned.same (refusal_of_plan c.plan_by-runner.result.1 refuses),
      refused_rests (g.S.Structure.meaning c.args.table.now.structure) (met.laws c.args.table.now.structure) c.args.table.now (c.requires.own.limits _ refl) (c.requires.own.allowed _ refl) (g.W.Walker.way.planning c.args.walk) c.args.request.now c.plan_by-runner.result.1 old c.args.runner c.plan_by-runner.result.0 c.requires.own c.plan_by-runner.ensures.own enters _ _ _ _ _ _ c.plan_by-runner.ensures.plans refuses c.turn_away-runner.result.1 c.turn_away-runner.result.0 c.turn_away-runner.ensures.own (IsSeen g.G.Gate.halts g.G.Gate.asks) _ _ _ (c.plan_by-runner.new.gate, refl, refl) turned,
    )
