use Rattle.std.proofs.Common.{◌≤◌, List, length, sym, ap, subst, ◌∙◌, arith}
use Rattle.std.specs.Prelude.{◌&&◌, is_none}
use Rattle.runner_steps.specs.body_terms.specs.Line.{line, is_check}
use Rattle.runner_steps.specs.body_terms.specs.Run.{leaves}
use Rattle.runner_steps.specs.body_terms.specs.declared.micro.Micro.{Micro}
use Rattle.runner_steps.specs.body_terms.specs.declared.step.Step.{Step}
use Rattle.runner_steps.specs.Sections.{setting_of}
use Rattle.runner_asks.proofs.Lines.{settled_on, settled_here, settled_past, line_le}
use Rattle.runner_asks.proofs.section.settled.Goals as goal

pub returns-then-not-passes : goal.returns-then-not-passes
returns-then-not-passes c =
    let s = setting_of c.args.layout c.args.descriptor in
    let fails = ap (λ (m : Micro). is_check m && is_none (leaves s c.args.trail.now m)) (sym c.micro_at.ensures) ∙ (sym c.passes.ensures ∙ c.if-not-passes.true) in
    sym (sym c.loop-at.invariant ∙ settled_here s c.args.trail.now (line c.args.body.now) c.loop-at.at fails)

pub loop-at-preserved : goal.loop-at-preserved
loop-at-preserved c =
    let s = setting_of c.args.layout c.args.descriptor in
    let passes = ap (λ (m : Micro). is_check m && is_none (leaves s c.args.trail.now m)) (sym c.micro_at.ensures) ∙ (sym c.passes.ensures ∙ c.if-not-passes.false) in
    settled_on s c.args.trail.now (line c.args.body.now) c.loop-at.at passes ∙ c.loop-at.invariant

pub returns : goal.returns
returns c =
    let few : length c.body.inside.steps.items ≤ 40 = subst (λ (xs : List Step). length xs ≤ 40) c.as_slice-steps.ensures.value c.as_slice-steps.ensures.fits in
    let few' : length c.args.body.now ≤ 40 = subst (λ (xs : List Step). length xs ≤ 40) c.body.view_is few in
    let short = line_le c.args.body.now few' in
    let past = c.loop-at-test.false in
    sym (sym c.loop-at.invariant ∙ settled_past (setting_of c.args.layout c.args.descriptor) c.args.trail.now (line c.args.body.now) c.loop-at.at (omega arith))
