use Rattle.idem_cell.specs.machine_states.specs.body_terms.specs.declared.step.Step.{Step}
use Rattle.std.proofs.Common.{◌≡◌, ◌+◌, ◌≤◌, List, length, arith, ap, sym, subst, ◌∙◌, true, refl}
use Rattle.std.specs.Prelude.{count_by, sum_by}
use Rattle.idem_cell.specs.machine_states.specs.body_terms.specs.Cost.{step_cost}
use Rattle.idem_cell.specs.machine_states.specs.body_terms.specs.Shape.{IsShaped, is_take}
use Rattle.idem_cell.specs.machine_states.specs.body_terms.specs.Trail.{Agreed}
use Rattle.idem_cell.specs.machine_states.specs.body_terms.specs.declared.outcome.Outcome.{Outcome}
use Rattle.idem_cell.specs.machine_states.specs.body_terms.specs.declared.thunk.Thunk.{Thunk}
use Rattle.idem_cell.specs.machine_states.specs.runner_steps.specs.Sections.{thunk_of}
use Rattle.idem_alloc.specs.commit_log.proofs.Asked.{asked_more}
use Rattle.section_runs.specs.Reached.{run_of}
use Rattle.section_runs.specs.Bodies.{body_links, body_of}
use Rattle.section_runs.specs.Ended.{EndsSo, rest_of}
use Rattle.section_runs.proofs.Going.{shaped}
use Rattle.idem_alloc.specs.commit_log.proofs.Halting.{halted_then, halted_few}
use Rattle.section_runs.proofs.Walking.{body_same}
use Rattle.section_runs.proofs.Ended.{ends_so}
use Rattle.section_runs.proofs.Openeds.{opened_body, opened_thunk, opened_descriptor, opened_trail, opened_before, few_makes, all_few, done_going, halted_going, same_end}
use Rattle.section_runs.proofs.runs.run_steps.Goals as goal

pub walk-runner-requires-clause-body : goal.walk-runner-requires-clause-body
walk-runner-requires-clause-body g c κs within =
    let m = g.S.Structure.meaning c.args.table.now.structure in
    let r = c.args.runner in
    let body = m.body c.args.thunk.now in
    let same : body_of m r ≡ body = opened_body m c.args.descriptor c.args.thunk.now c.args.trail.now.late r c.requires.opened in
    let is_body : c.args.line.now ≡ body = c.requires.line in
    is_body ∙ sym same

pub walk-runner-requires-clause-shaped : goal.walk-runner-requires-clause-shaped
walk-runner-requires-clause-shaped g c κs within =
    let met = g.met.S.Structure g.world.𝓛 g.world.𝓜 g.world.𝓡 ((λ s allowed. allowed), (λ patient. patient), (λ alone. alone), (λ cuts. cuts)) in
    let m = g.S.Structure.meaning c.args.table.now.structure in
    let laws = met.laws c.args.table.now.structure in
    let t = c.args.table.now in
    let limits = c.requires.own.limits _ refl in
    let allowed = c.requires.own.allowed _ refl in
    let r = c.args.runner in
    let body = m.body c.args.thunk.now in
    let same : body_of m r ≡ body = opened_body m c.args.descriptor c.args.thunk.now c.args.trail.now.late r c.requires.opened in
    let is_body : c.args.line.now ≡ body = c.requires.line in
    let whole : IsShaped (body_of m r) = shaped m laws t limits allowed r c.requires.own (run_of r) c.requires.opened.inside in
    subst IsShaped (same ∙ sym is_body) whole

pub walk-runner-requires-clause-before : goal.walk-runner-requires-clause-before
walk-runner-requires-clause-before g c κs within =
    let met = g.met.S.Structure g.world.𝓛 g.world.𝓜 g.world.𝓡 ((λ s allowed. allowed), (λ patient. patient), (λ alone. alone), (λ cuts. cuts)) in
    let m = g.S.Structure.meaning c.args.table.now.structure in
    let laws = met.laws c.args.table.now.structure in
    let t = c.args.table.now in
    let limits = c.requires.own.limits _ refl in
    let allowed = c.requires.own.allowed _ refl in
    let r = c.args.runner in
    let whole : IsShaped (body_of m r) = shaped m laws t limits allowed r c.requires.own (run_of r) c.requires.opened.inside in
    opened_before m c.args.descriptor c.args.thunk.now c.args.trail.now.late r c.requires.opened c.requires.blocks whole

pub walk-runner-requires-clause-section : goal.walk-runner-requires-clause-section
walk-runner-requires-clause-section g c κs within =
    let m = g.S.Structure.meaning c.args.table.now.structure in
    let r = c.args.runner in
    opened_descriptor m c.args.descriptor c.args.thunk.now c.args.trail.now.late r c.requires.opened

pub walk-runner-requires-clause-trail : goal.walk-runner-requires-clause-trail
walk-runner-requires-clause-trail g c κs within =
    let m = g.S.Structure.meaning c.args.table.now.structure in
    let r = c.args.runner in
    c.requires.empty ∙ sym (opened_trail m c.args.descriptor c.args.thunk.now c.args.trail.now.late r c.requires.opened)

pub walk-runner-requires-clause-reserve : goal.walk-runner-requires-clause-reserve
walk-runner-requires-clause-reserve g c κs within =
    let met = g.met.S.Structure g.world.𝓛 g.world.𝓜 g.world.𝓡 ((λ s allowed. allowed), (λ patient. patient), (λ alone. alone), (λ cuts. cuts)) in
    let m = g.S.Structure.meaning c.args.table.now.structure in
    let laws = met.laws c.args.table.now.structure in
    let t = c.args.table.now in
    let limits = c.requires.own.limits _ refl in
    let allowed = c.requires.own.allowed _ refl in
    let r = c.args.runner in
    let body = m.body c.args.thunk.now in
    let same : body_of m r ≡ body = opened_body m c.args.descriptor c.args.thunk.now c.args.trail.now.late r c.requires.opened in
    let is_body : c.args.line.now ≡ body = c.requires.line in
    let whole : IsShaped (body_of m r) = shaped m laws t limits allowed r c.requires.own (run_of r) c.requires.opened.inside in
    few_makes c.args.line.now (length r.part.nodes.free) (subst IsShaped (same ∙ sym is_body) whole) c.requires.reserve

pub end-runner-requires-clause-body : goal.end-runner-requires-clause-body
end-runner-requires-clause-body g c κs within =
    let m = g.S.Structure.meaning c.args.table.now.structure in
    let r = c.args.runner in
    let body = m.body c.args.thunk.now in
    let same : body_of m r ≡ body = opened_body m c.args.descriptor c.args.thunk.now c.args.trail.now.late r c.requires.opened in
    let is_body : c.args.line.now ≡ body = c.requires.line in
    let walked = c.walk-runner.ensures.over c.in-Over.taken c.in-Over.outcome c.in-Over.is in
    let r2 = c.walk-runner.result.0 in
    is_body ∙ (sym same ∙ sym (body_same m r r2 walked.same))

pub end-runner-requires-clause-within : goal.end-runner-requires-clause-within
end-runner-requires-clause-within g c κs within =
    let m = g.S.Structure.meaning c.args.table.now.structure in
    let r = c.args.runner in
    let body = m.body c.args.thunk.now in
    let same : body_of m r ≡ body = opened_body m c.args.descriptor c.args.thunk.now c.args.trail.now.late r c.requires.opened in
    let is_body : c.args.line.now ≡ body = c.requires.line in
    let walked = c.walk-runner.ensures.over c.in-Over.taken c.in-Over.outcome c.in-Over.is in
    let e = ap length (is_body ∙ sym same) in let w = walked.within in omega (arith, e, w)

pub end-runner-requires-clause-lock : goal.end-runner-requires-clause-lock
end-runner-requires-clause-lock g c κs within =
    let m = g.S.Structure.meaning c.args.table.now.structure in
    let r = c.args.runner in
    let walked = c.walk-runner.ensures.over c.in-Over.taken c.in-Over.outcome c.in-Over.is in
    ap (λ (x : Thunk). x.lock) (sym (ap thunk_of walked.same.opened ∙ opened_thunk m c.args.descriptor c.args.thunk.now c.args.trail.now.late r c.requires.opened))

pub end-runner-requires-clause-word : goal.end-runner-requires-clause-word
end-runner-requires-clause-word g c κs within =
    let m = g.S.Structure.meaning c.args.table.now.structure in
    let r = c.args.runner in
    let walked = c.walk-runner.ensures.over c.in-Over.taken c.in-Over.outcome c.in-Over.is in
    ap (λ (x : Thunk). x.word) (sym (ap thunk_of walked.same.opened ∙ opened_thunk m c.args.descriptor c.args.thunk.now c.args.trail.now.late r c.requires.opened))

pub end-runner-requires-clause-over : goal.end-runner-requires-clause-over
end-runner-requires-clause-over g c κs within =
    let walked = c.walk-runner.ensures.over c.in-Over.taken c.in-Over.outcome c.in-Over.is in
    (c.in-Over.outcome, walked.over)

pub returns-in-Over-clause-done : goal.returns-in-Over-clause-done
returns-in-Over-clause-done g c =
    let met = g.met.S.Structure g.world.𝓛 g.world.𝓜 g.world.𝓡 ((λ s allowed. allowed), (λ patient. patient), (λ alone. alone), (λ cuts. cuts)) in
    let m = g.S.Structure.meaning c.args.table.now.structure in
    let laws = met.laws c.args.table.now.structure in
    let t = c.args.table.now in
    let limits = c.requires.own.limits _ refl in
    let allowed = c.requires.own.allowed _ refl in
    let r = c.args.runner in
    let body = m.body c.args.thunk.now in
    let is_body : c.args.line.now ≡ body = c.requires.line in
    let walked = c.walk-runner.ensures.over c.in-Over.taken c.in-Over.outcome c.in-Over.is in
    let r2 = c.walk-runner.result.0 in
    λ before o trail hop e.
    let going = done_going c.end-runner.result.1 c.ended.result o trail c.ended.ensures.halted e in
    let same_as = same_end c.ended.result c.in-Over.outcome o _ trail (c.ended.ensures.done going) e in
    let went = c.walk-runner.ensures.through (λ e. let z = sym c.in-Over.is ∙ e in cc) in
    let last = c.end-runner.ensures.ended going in
    let some : went.made ≤ sum_by step_cost body + body_links body = subst (λ (xs : List Step). went.made ≤ sum_by step_cost xs + body_links xs) is_body went.few in
    let rest : last.ended.count ≤ 1 + count_by is_take body = subst (λ (xs : List Step). last.ended.count ≤ 1 + count_by is_take xs) is_body last.few in
    let few = all_few body went.made last.ended.count some rest in
    let ends = ends_so m laws t limits allowed r r2 c.end-runner.result.0 c.requires.own c.args.descriptor c.args.thunk.now c.args.trail.now.late c.requires.opened c.in-Over.taken c.in-Over.outcome walked went.made went.ran last.ended
    before hop _ (c.walk-runner.ensures.trail (λ e. let z = sym c.in-Over.is ∙ e in cc)) c.walk-runner.ensures.late few in (
      went.made + (last.ended.count + 1),
      subst (λ (x : Agreed). EndsSo m c.args.descriptor c.args.thunk.now o x (13 + (went.made + (last.ended.count + 1))) before c.end-runner.result.0) same_as.1
          (subst (λ (x : Outcome). EndsSo m c.args.descriptor c.args.thunk.now x c.walk-runner.new.trail (13 + (went.made + (last.ended.count + 1))) before c.end-runner.result.0) same_as.0 ends),
      asked_more went.made (last.ended.count + 1) true _ _ _ _ _ _ _ _ _ went.asked last.asked,
    )

pub returns-in-Over-clause-halted : goal.returns-in-Over-clause-halted
returns-in-Over-clause-halted g c =
    let m = g.S.Structure.meaning c.args.table.now.structure in
    let body = m.body c.args.thunk.now in
    let is_body : c.args.line.now ≡ body = c.requires.line in
    λ e.
    let halted = halted_going c.end-runner.result.1 c.ended.result _ _ c.ended.ensures.done e in
    halted_then m (sum_by step_cost c.args.line.now + body_links c.args.line.now) (2 + count_by is_take c.args.line.now) (rest_of body) _ _ _ _ _ _ _ _ _ _ _ _
    (c.walk-runner.ensures.through (λ e. let z = sym c.in-Over.is ∙ e in cc)) (c.end-runner.ensures.halted halted)
    (subst (λ (xs : List Step). sum_by step_cost c.args.line.now + body_links c.args.line.now + (2 + count_by is_take c.args.line.now) ≤ rest_of xs) is_body (omega arith))

pub returns-in-Stopped-clause-halted : goal.returns-in-Stopped-clause-halted
returns-in-Stopped-clause-halted g c =
    let m = g.S.Structure.meaning c.args.table.now.structure in
    let body = m.body c.args.thunk.now in
    let is_body : c.args.line.now ≡ body = c.requires.line in
    λ _. halted_few m (sum_by step_cost c.args.line.now + body_links c.args.line.now) (rest_of body) _ _ _ _ _ _ _ _
    (subst (λ (xs : List Step). sum_by step_cost c.args.line.now + body_links c.args.line.now ≤ rest_of xs) is_body (omega arith)) (c.walk-runner.ensures.halted c.in-Stopped.is)
