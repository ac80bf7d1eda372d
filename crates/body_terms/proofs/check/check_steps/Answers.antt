use Rattle.std.proofs.Common.{◌∙◌, sym, refl, below_more}
use Rattle.body_terms.proofs.LineLemmas.{read_step}
use Rattle.body_terms.proofs.ShapeLemmas.{fault_here, first_fault, faulty, fault_past, shaped_without}
use Rattle.body_terms.proofs.check.check_steps.Goals as goal

pub returns-in-Some-clause-ok : goal.returns-in-Some-clause-ok
returns-in-Some-clause-ok c =
    let steps = c.args.steps.now in
    let here = read_step steps c.loop-at.at c.index-steps-at.result c.loop-at-test.true c.index-steps-at.is in
    faulty steps c.loop-at.at c.in-Some.fault c.loop-at.auto.at-end (fault_here steps c.loop-at.at c.index-steps-at.result here ∙ (sym c.step_fault.ensures ∙ c.in-Some.is))

pub returns-in-Some-clause-first : goal.returns-in-Some-clause-first
returns-in-Some-clause-first c =
    let steps = c.args.steps.now in
    let here = read_step steps c.loop-at.at c.index-steps-at.result c.loop-at-test.true c.index-steps-at.is in
    first_fault steps c.loop-at.at c.in-Some.fault c.if-steps-gt32.false c.loop-at.auto.at-end (fault_here steps c.loop-at.at c.index-steps-at.result here ∙ (sym c.step_fault.ensures ∙ c.in-Some.is)) c.loop-at.invariant

pub loop-at-preserved : goal.loop-at-preserved
loop-at-preserved c =
    let steps = c.args.steps.now in
    let here = read_step steps c.loop-at.at c.index-steps-at.result c.loop-at-test.true c.index-steps-at.is in
    below_more _ _ c.loop-at.invariant (fault_here steps c.loop-at.at c.index-steps-at.result here ∙ (sym c.step_fault.ensures ∙ c.in_default.is))

pub returns-in-Some-end_fault-clause-ok : goal.returns-in-Some-end_fault-clause-ok
returns-in-Some-end_fault-clause-ok c =
    faulty c.args.steps.now c.loop-at.at c.in-Some-end_fault.fault c.loop-at.auto.at-end (fault_past c.args.steps.now c.loop-at.at c.loop-at-test.false ∙ (sym c.end_fault.ensures ∙ c.in-Some-end_fault.is))

pub returns-in-Some-end_fault-clause-first : goal.returns-in-Some-end_fault-clause-first
returns-in-Some-end_fault-clause-first c =
    first_fault c.args.steps.now c.loop-at.at c.in-Some-end_fault.fault c.if-steps-gt32.false c.loop-at.auto.at-end (fault_past c.args.steps.now c.loop-at.at c.loop-at-test.false ∙ (sym c.end_fault.ensures ∙ c.in-Some-end_fault.is)) c.loop-at.invariant

pub returns-in-None-clause-ok : goal.returns-in-None-clause-ok
returns-in-None-clause-ok c =
    (λ _. shaped_without c.args.steps.now c.loop-at.at c.if-steps-gt32.false c.loop-at-test.false c.loop-at.invariant (sym c.end_fault.ensures ∙ c.in-None.is), λ _. refl)
