use Rattle.std.proofs.Common.{length, arith, ap, refl}
use Rattle.idem_cell.specs.machine_states.specs.body_terms.specs.declared.step.Step.TheVariants as kinds
use Rattle.section_runs.specs.Reached.{run_of}
use Rattle.section_runs.proofs.Going.{log_room}
use Rattle.section_runs.proofs.Through.{some_of, none_of}
use Rattle.section_runs.proofs.Cases.{may_load, load_goes}
use Rattle.section_runs.proofs.steps.load_step.Goals as goal

pub load_gated-runner-requires-clause-next : goal.load_gated-runner-requires-clause-next
load_gated-runner-requires-clause-next g c κs within =
    let m = g.S.Structure.meaning c.args.table.now.structure in
    let r = c.args.runner in
    (run_of r, may_load m r c.args.place c.requires.next.0 c.requires.next.1)

pub agree-requires : goal.agree-requires
agree-requires g c =
    let met = g.met.S.Structure g.world.𝓛 g.world.𝓜 g.world.𝓡 ((λ s allowed. allowed), (λ patient. patient), (λ alone. alone), (λ cuts. cuts)) in
    let m = g.S.Structure.meaning c.args.table.now.structure in
    let laws = met.laws c.args.table.now.structure in
    let t = c.args.table.now in
    let limits = c.requires.own.limits _ refl in
    let allowed = c.requires.own.allowed _ refl in
    let r = c.args.runner in
    let room = log_room m laws t limits allowed r c.requires.own (kinds.Load c.args.place c.requires.next.0) c.requires.next.1 in
    let e = ap length c.requires.trail in omega (arith, room, e)

pub returns-in-Some-clause-goes : goal.returns-in-Some-clause-goes
returns-in-Some-clause-goes g c =
    let m = g.S.Structure.meaning c.args.table.now.structure in
    let r = c.args.runner in
    λ _ into. load_goes m r c.args.place into _ _ (some_of _ _ _ c.in-Some.is c.load_gated-runner.ensures.loaded (run_of r) c.requires.next.1.before.running)

pub returns-in-Some-clause-through : goal.returns-in-Some-clause-through
returns-in-Some-clause-through g c =
    let r = c.args.runner in
    λ _. some_of _ _ _ c.in-Some.is c.load_gated-runner.ensures.through (run_of r) c.requires.next.1.before.running

pub returns-in-None-clause-halted : goal.returns-in-None-clause-halted
returns-in-None-clause-halted g c =
    let r = c.args.runner in
    λ _. none_of _ _ c.in-None.is c.load_gated-runner.ensures.halted (run_of r) c.requires.next.1.before.running
