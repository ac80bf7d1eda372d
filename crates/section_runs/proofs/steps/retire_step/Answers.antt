use Rattle.std.proofs.Common.{length, arith, ap, refl}
use Rattle.idem_cell.specs.machine_states.specs.body_terms.specs.declared.step.Step.TheVariants as kinds
use Rattle.section_runs.specs.Reached.{run_of}
use Rattle.section_runs.proofs.Going.{log_room}
use Rattle.section_runs.proofs.Cases.{may_retire, retire_goes}
use Rattle.section_runs.proofs.steps.retire_step.Goals as goal

pub retire_gated-runner-requires-clause-next : goal.retire_gated-runner-requires-clause-next
retire_gated-runner-requires-clause-next g c κs within =
    let m = g.S.Structure.meaning c.args.table.now.structure in
    let r = c.args.runner in
    (run_of r, may_retire m r c.args.slot c.requires.next)

pub agree-requires : goal.agree-requires
agree-requires g c =
    let met = g.met.S.Structure g.world.𝓛 g.world.𝓜 g.world.𝓡 ((λ s allowed. allowed), (λ patient. patient), (λ alone. alone), (λ cuts. cuts)) in
    let m = g.S.Structure.meaning c.args.table.now.structure in
    let laws = met.laws c.args.table.now.structure in
    let t = c.args.table.now in
    let limits = c.requires.own.limits _ refl in
    let allowed = c.requires.own.allowed _ refl in
    let r = c.args.runner in
    let room = log_room m laws t limits allowed r c.requires.own (kinds.Retire c.args.slot) c.requires.next in
    let e = ap length c.requires.trail in omega (arith, room, e)

pub returns-clause-goes : goal.returns-clause-goes
returns-clause-goes g c =
    let m = g.S.Structure.meaning c.args.table.now.structure in
    let r = c.args.runner in
    λ going. retire_goes m r c.args.slot _ (c.retire_gated-runner.ensures.retired going (run_of r) c.requires.next.before.running)

pub returns-clause-through : goal.returns-clause-through
returns-clause-through g c =
    let r = c.args.runner in
    λ going. c.retire_gated-runner.ensures.through going (run_of r) c.requires.next.before.running

pub returns-clause-halted : goal.returns-clause-halted
returns-clause-halted g c =
    let r = c.args.runner in
    λ halted. c.retire_gated-runner.ensures.halted halted (run_of r) c.requires.next.before.running
