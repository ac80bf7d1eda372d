use Rattle.std.proofs.Common.{refl, subst}
use Rattle.attempts.specs.Attempts.{most_of_run}
use Rattle.caller_facts.specs.Counted.{IsCounted, IsSeen}
use Rattle.attempts.proofs.Courses.{may_run}
use Rattle.attempts.proofs.Trying.{halted_published}
use Rattle.attempts.proofs.Cutting.{cut_rests, ended, ended_rests}
use Rattle.attempts.proofs.runs.run_own.Goals as goal

pub returns-then-not-goes_on-clause-rests : goal.returns-then-not-goes_on-clause-rests
returns-then-not-goes_on-clause-rests g c =
    λ old thunk tried. halted_published (g.S.Structure.meaning c.args.table.now.structure) (g.S.Planner.planning c.args.table.now.structure) c.args.request.now old thunk c.args.section c.args.runner tried (IsSeen g.G.Gate.halts g.G.Gate.asks) _ _ _ _ _ (c.args.gate.now, refl, refl)
    (subst (λ b. IsCounted 0 1 b (g.G.Gate.halts c.args.gate.now) (g.G.Gate.halts c.goes_on.new.gate) (g.G.Gate.asks c.args.gate.now) (g.G.Gate.asks c.goes_on.new.gate) c.args.steps.now.count c.args.steps.now.count)
    c.if-not-goes_on.true (c.goes_on.ensures c.args.steps.now.count))
    most_of_run

pub run_section-runner-requires-clause-next : goal.run_section-runner-requires-clause-next
run_section-runner-requires-clause-next g c κs within =
    let e = c.requires.tried in
    (e.1, may_run (g.S.Structure.meaning c.args.table.now.structure) (g.S.Planner.planning c.args.table.now.structure) c.args.request.now e.0 e.1 c.args.section c.args.runner e.2)

pub conclude-requires-clause-ended : goal.conclude-requires-clause-ended
conclude-requires-clause-ended g c κs within =
    let met = g.met.S.Structure g.world.𝓛 g.world.𝓜 g.world.𝓡 ((λ s allowed. allowed), (λ patient. patient), (λ alone. alone), (λ cuts. cuts)) in
    let e = c.requires.tried in
    let ends = c.run_section-runner.ensures.done e.1 c.in-Done.outcome c.in-Done.field-1 (may_run (g.S.Structure.meaning c.args.table.now.structure) (g.S.Planner.planning c.args.table.now.structure) c.args.request.now e.0 e.1 c.args.section c.args.runner e.2) c.in-Done.is in
    (e.0, e.1, c.in-Done.field-1, ended (g.S.Structure.meaning c.args.table.now.structure) (met.laws c.args.table.now.structure) c.args.table.now (c.requires.own.limits _ refl) (c.requires.own.allowed _ refl) (g.S.Planner.planning c.args.table.now.structure) c.args.request.now c.args.section e.1 e.0 c.args.runner c.requires.own e.2 c.in-Done.outcome c.in-Done.field-1 c.run_section-runner.result.0 c.run_section-runner.ensures.own ends.0 ends.1)

pub returns-in-Done-clause-rests : goal.returns-in-Done-clause-rests
returns-in-Done-clause-rests g c =
    let met = g.met.S.Structure g.world.𝓛 g.world.𝓜 g.world.𝓡 ((λ s allowed. allowed), (λ patient. patient), (λ alone. alone), (λ cuts. cuts)) in
    λ old thunk tried.
    let ends = c.run_section-runner.ensures.done thunk c.in-Done.outcome c.in-Done.field-1 (may_run (g.S.Structure.meaning c.args.table.now.structure) (g.S.Planner.planning c.args.table.now.structure) c.args.request.now old thunk c.args.section c.args.runner tried) c.in-Done.is in
    let course = ended (g.S.Structure.meaning c.args.table.now.structure) (met.laws c.args.table.now.structure) c.args.table.now (c.requires.own.limits _ refl) (c.requires.own.allowed _ refl) (g.S.Planner.planning c.args.table.now.structure) c.args.request.now c.args.section thunk old c.args.runner c.requires.own tried c.in-Done.outcome c.in-Done.field-1 c.run_section-runner.result.0 c.run_section-runner.ensures.own ends.0 ends.1 in
    ended_rests (g.S.Structure.meaning c.args.table.now.structure) (met.laws c.args.table.now.structure) c.args.table.now (c.requires.own.limits _ refl) (c.requires.own.allowed _ refl) (g.S.Planner.planning c.args.table.now.structure) c.args.request.now c.args.section thunk old c.args.runner c.requires.own tried c.in-Done.outcome c.in-Done.field-1 c.run_section-runner.result.0 c.run_section-runner.ensures.own ends.0 ends.1
    c.conclude.result.1 c.conclude.result.0 c.conclude.ensures.own (IsSeen g.G.Gate.halts g.G.Gate.asks) _ _ _ _ _ _ _ _ _ _ _
    (subst (λ b. IsCounted 0 1 b (g.G.Gate.halts c.args.gate.now) (g.G.Gate.halts c.goes_on.new.gate) (g.G.Gate.asks c.args.gate.now) (g.G.Gate.asks c.goes_on.new.gate) c.args.steps.now.count c.args.steps.now.count)
    c.if-not-goes_on.false (c.goes_on.ensures c.args.steps.now.count))
    ends.2 (c.conclude.ensures.rests old thunk c.in-Done.field-1 course)

pub returns-in-Halted-clause-rests : goal.returns-in-Halted-clause-rests
returns-in-Halted-clause-rests g c =
    let met = g.met.S.Structure g.world.𝓛 g.world.𝓜 g.world.𝓡 ((λ s allowed. allowed), (λ patient. patient), (λ alone. alone), (λ cuts. cuts)) in
    λ old thunk tried.
    let cut = c.run_section-runner.ensures.halted c.in-Halted.is in
    cut_rests (g.S.Structure.meaning c.args.table.now.structure) (met.laws c.args.table.now.structure) c.args.table.now (c.requires.own.limits _ refl) (c.requires.own.allowed _ refl) (g.S.Planner.planning c.args.table.now.structure) c.args.request.now c.args.section thunk old c.args.runner c.requires.own tried c.run_section-runner.result.0 c.run_section-runner.ensures.own cut.0 cut.1 (IsSeen g.G.Gate.halts g.G.Gate.asks) _ _ _ _ _ _ _ _ (c.goes_on.new.gate, refl, refl)
    (subst (λ b. IsCounted 0 1 b (g.G.Gate.halts c.args.gate.now) (g.G.Gate.halts c.goes_on.new.gate) (g.G.Gate.asks c.args.gate.now) (g.G.Gate.asks c.goes_on.new.gate) c.args.steps.now.count c.args.steps.now.count)
    c.if-not-goes_on.false (c.goes_on.ensures c.args.steps.now.count))
    cut.2
