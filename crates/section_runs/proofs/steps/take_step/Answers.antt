use Rattle.std.proofs.Common.{◌++◌, length, arith, ap, sym, ◌∙◌, refl}
use Rattle.idem_cell.specs.machine_states.specs.body_terms.specs.declared.step.Step.TheVariants as kinds
use Rattle.section_runs.specs.Reached.{run_of}
use Rattle.section_runs.proofs.Going.{log_room}
use Rattle.section_runs.proofs.Through.{some_of, none_of}
use Rattle.section_runs.proofs.Using.{on_ok, left_some}
use Rattle.section_runs.proofs.Taking.{may_take, take_goes, take_leaves, take_trail}
use Rattle.section_runs.specs.Takes.{words_of}
use Rattle.section_runs.proofs.steps.take_step.Goals as goal

pub take_gated-runner-requires-clause-next : goal.take_gated-runner-requires-clause-next
take_gated-runner-requires-clause-next g c κs within =
    let m = g.S.Structure.meaning c.args.table.now.structure in
    let r = c.args.runner in
    (run_of r, may_take m r c.args.place c.args.word c.requires.next)

pub agree_on-requires : goal.agree_on-requires
agree_on-requires g c =
    let met = g.met.S.Structure g.world.𝓛 g.world.𝓜 g.world.𝓡 ((λ s allowed. allowed), (λ patient. patient), (λ alone. alone), (λ cuts. cuts)) in
    let m = g.S.Structure.meaning c.args.table.now.structure in
    let laws = met.laws c.args.table.now.structure in
    let t = c.args.table.now in
    let limits = c.requires.own.limits _ refl in
    let allowed = c.requires.own.allowed _ refl in
    let r = c.args.runner in
    let room = log_room m laws t limits allowed r c.requires.own (kinds.Take c.args.place c.args.word) c.requires.next in
    let e = ap length c.requires.trail in omega (arith, room, e)

pub returns-in-Some-clause-goes : goal.returns-in-Some-clause-goes
returns-in-Some-clause-goes g c =
    let m = g.S.Structure.meaning c.args.table.now.structure in
    let r = c.args.runner in
    λ on. take_goes m r c.args.place c.args.word c.requires.next _ _ (some_of _ _ _ c.in-Some.is c.take_gated-runner.ensures.taken (run_of r) c.requires.next.before.running) (on_ok c.args.place _ (sym c.taken.ensures ∙ on))

pub returns-in-Some-clause-leaves : goal.returns-in-Some-clause-leaves
returns-in-Some-clause-leaves g c =
    let m = g.S.Structure.meaning c.args.table.now.structure in
    let r = c.args.runner in
    λ o left. take_leaves m r c.args.place c.args.word c.requires.next _ _ (some_of _ _ _ c.in-Some.is c.take_gated-runner.ensures.taken (run_of r) c.requires.next.before.running) o (left_some c.args.place _ o (sym c.taken.ensures ∙ left))

pub returns-in-Some-clause-trail : goal.returns-in-Some-clause-trail
returns-in-Some-clause-trail g c =
    let m = g.S.Structure.meaning c.args.table.now.structure in
    let r = c.args.runner in
    λ _. c.agree_on.ensures.words ∙ (ap (λ xs. xs ++ words_of c.in-Some.end) c.requires.trail ∙ take_trail m r c.args.place c.args.word c.requires.next _ _ (some_of _ _ _ c.in-Some.is c.take_gated-runner.ensures.taken (run_of r) c.requires.next.before.running))

pub returns-in-Some-clause-through : goal.returns-in-Some-clause-through
returns-in-Some-clause-through g c =
    let r = c.args.runner in
    λ _. some_of _ _ _ c.in-Some.is c.take_gated-runner.ensures.through (run_of r) c.requires.next.before.running

pub returns-in-None-clause-halted : goal.returns-in-None-clause-halted
returns-in-None-clause-halted g c =
    let r = c.args.runner in
    λ _. none_of _ _ c.in-None.is c.take_gated-runner.ensures.halted (run_of r) c.requires.next.before.running
