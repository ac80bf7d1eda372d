use Rattle.std.proofs.Common.{refl, subst}
use Rattle.attempts.specs.Attempts.{most_of_run}
use Rattle.attempts.specs.caller_facts.specs.Counted.{IsCounted, IsSeen}
use Rattle.attempts.proofs.Courses.{may_run}
use Rattle.attempts.proofs.Trying.{halted_published}
use Rattle.attempts.proofs.Cutting.{cut_rests, ended}
use Rattle.lock_attempts.proofs.Along.{section_run}
use Rattle.lock_attempts.proofs.runs.run_own.Goals as goal

pub returns-then-not-goes_on-clause-rests : goal.returns-then-not-goes_on-clause-rests
returns-then-not-goes_on-clause-rests g c =
    λ planning request own old thunk tried is_own. (
      refl,
      halted_published (g.S.Structure.meaning c.args.table.now.structure) planning request old thunk c.args.section c.args.runner tried (IsSeen g.G.Gate.halts g.G.Gate.asks) _ _ _ _ _ (c.args.gate.now, refl, refl)
          (subst (λ b. IsCounted 0 1 b (g.G.Gate.halts c.args.gate.now) (g.G.Gate.halts c.goes_on.new.gate) (g.G.Gate.asks c.args.gate.now) (g.G.Gate.asks c.goes_on.new.gate) c.args.steps.now.count c.args.steps.now.count) c.if-not-goes_on.true (c.goes_on.ensures c.args.steps.now.count))
          most_of_run,
    )

pub run_section-runner-requires-clause-next : goal.run_section-runner-requires-clause-next
run_section-runner-requires-clause-next g c κs within =
    let e = c.requires.tried in
    (e.3, (may_run (g.S.Structure.meaning c.args.table.now.structure) e.0 e.1 e.2 e.3 c.args.section c.args.runner e.4))

pub conclude-requires-clause-ended : goal.conclude-requires-clause-ended
conclude-requires-clause-ended g c κs within =
    let met = g.met.S.Structure g.world.𝓛 g.world.𝓜 g.world.𝓡 ((λ s allowed. allowed), (λ patient. patient), (λ alone. alone), (λ cuts. cuts)) in
    let e = c.requires.tried in
    let ends = c.run_section-runner.ensures.done e.3 c.in-Done.outcome c.in-Done.field-1 (may_run (g.S.Structure.meaning c.args.table.now.structure) e.0 e.1 e.2 e.3 c.args.section c.args.runner e.4) c.in-Done.is in
    (e.0, e.1, e.2, e.3, c.in-Done.field-1, ended (g.S.Structure.meaning c.args.table.now.structure) (met.laws c.args.table.now.structure) c.args.table.now (c.requires.own.limits _ refl) (c.requires.own.allowed _ refl) e.0 e.1 c.args.section e.3 e.2 c.args.runner c.requires.own e.4 c.in-Done.outcome c.in-Done.field-1 c.run_section-runner.result.0 c.run_section-runner.ensures.own ends.0 ends.1)

pub returns-in-Done-clause-rests : goal.returns-in-Done-clause-rests
returns-in-Done-clause-rests g c =
    let met = g.met.S.Structure g.world.𝓛 g.world.𝓜 g.world.𝓡 ((λ s allowed. allowed), (λ patient. patient), (λ alone. alone), (λ cuts. cuts)) in
    let asked = (subst (λ b. IsCounted 0 1 b (g.G.Gate.halts c.args.gate.now) (g.G.Gate.halts c.goes_on.new.gate) (g.G.Gate.asks c.args.gate.now) (g.G.Gate.asks c.goes_on.new.gate) c.args.steps.now.count c.args.steps.now.count) c.if-not-goes_on.false (c.goes_on.ensures c.args.steps.now.count)) in
    λ planning request own old thunk tried is_own.
    let ends = c.run_section-runner.ensures.done thunk c.in-Done.outcome c.in-Done.field-1 (may_run (g.S.Structure.meaning c.args.table.now.structure) planning request old thunk c.args.section c.args.runner tried) c.in-Done.is in
    let course = ended (g.S.Structure.meaning c.args.table.now.structure) (met.laws c.args.table.now.structure) c.args.table.now (c.requires.own.limits _ refl) (c.requires.own.allowed _ refl) planning request c.args.section thunk old c.args.runner c.requires.own tried c.in-Done.outcome c.in-Done.field-1 c.run_section-runner.result.0 c.run_section-runner.ensures.own ends.0 ends.1 in
    section_run (g.S.Structure.meaning c.args.table.now.structure) (met.laws c.args.table.now.structure) c.args.table.now (c.requires.own.limits _ refl) (c.requires.own.allowed _ refl) planning request own c.args.section thunk old c.args.runner c.requires.own tried c.in-Done.outcome c.in-Done.field-1 c.run_section-runner.result.0 c.run_section-runner.ensures.own ends.0 ends.1
    c.conclude.result.1 c.conclude.result.0 c.conclude.ensures.own (IsSeen g.G.Gate.halts g.G.Gate.asks) _ _ _ _ _ _ _ _ _ _ _ asked ends.2
    (c.conclude.ensures.rests planning request own old thunk c.in-Done.field-1 course is_own)

pub returns-in-Halted-clause-rests : goal.returns-in-Halted-clause-rests
returns-in-Halted-clause-rests g c =
    let met = g.met.S.Structure g.world.𝓛 g.world.𝓜 g.world.𝓡 ((λ s allowed. allowed), (λ patient. patient), (λ alone. alone), (λ cuts. cuts)) in
    let asked = (subst (λ b. IsCounted 0 1 b (g.G.Gate.halts c.args.gate.now) (g.G.Gate.halts c.goes_on.new.gate) (g.G.Gate.asks c.args.gate.now) (g.G.Gate.asks c.goes_on.new.gate) c.args.steps.now.count c.args.steps.now.count) c.if-not-goes_on.false (c.goes_on.ensures c.args.steps.now.count)) in
    λ planning request own old thunk tried is_own.
    let cut = c.run_section-runner.ensures.halted c.in-Halted.is in (
      refl,
      cut_rests (g.S.Structure.meaning c.args.table.now.structure) (met.laws c.args.table.now.structure) c.args.table.now (c.requires.own.limits _ refl) (c.requires.own.allowed _ refl) planning request c.args.section thunk old c.args.runner c.requires.own tried c.run_section-runner.result.0 c.run_section-runner.ensures.own cut.0 cut.1 (IsSeen g.G.Gate.halts g.G.Gate.asks) _ _ _ _ _ _ _ _ (c.goes_on.new.gate, refl, refl)
          asked cut.2,
    )
