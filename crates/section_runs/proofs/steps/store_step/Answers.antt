use Rattle.std.proofs.Common.{length, arith, ap, sym, subst, ◌∙◌, refl}
use Rattle.idem_cell.specs.machine_states.specs.body_terms.specs.declared.step.Step.TheVariants as kinds
use Rattle.section_runs.specs.Reached.{run_of}
use Rattle.std.specs.Prelude.{slice_index}
use Rattle.idem_cell.specs.machine_states.specs.body_terms.specs.Line.{registers_before, source_of}
use Rattle.idem_cell.specs.machine_states.specs.body_terms.specs.Run.{source_value}
use Rattle.idem_cell.specs.machine_states.specs.body_terms.specs.Act.{IsLogged}
use Rattle.idem_alloc.specs.commit_log.proofs.Running.{ran_one}
use Rattle.idem_alloc.specs.commit_log.proofs.Halting.{through_by, halted_by, asked_if}
use Rattle.section_runs.specs.Bodies.{body_of}
use Rattle.section_runs.proofs.Going.{shaped}
use Rattle.section_runs.proofs.Using.{used_at}
use Rattle.section_runs.proofs.Cases.{may_store, store_goes}
use Rattle.section_runs.proofs.steps.store_step.Goals as goal

pub bounds-kept-reg : goal.bounds-kept-reg
bounds-kept-reg g c =
    let met = g.met.S.Structure g.world.𝓛 g.world.𝓜 g.world.𝓡 ((λ s allowed. allowed), (λ patient. patient), (λ alone. alone), (λ cuts. cuts)) in
    let m = g.S.Structure.meaning c.args.table.now.structure in
    let laws = met.laws c.args.table.now.structure in
    let t = c.args.table.now in
    let limits = c.requires.own.limits _ refl in
    let allowed = c.requires.own.allowed _ refl in
    let r = c.args.runner in
    let body = body_of m r in
    let used = used_at body (shaped m laws t limits allowed r c.requires.own (run_of r) c.requires.next.may.before.running) c.requires.next.may.n (kinds.Store c.args.reg c.args.value) 0 c.requires.next.may.here in
    let s = used.small in omega (arith, s)

pub bounds-kept-reg-2 : goal.bounds-kept-reg-2
bounds-kept-reg-2 g c =
    let met = g.met.S.Structure g.world.𝓛 g.world.𝓜 g.world.𝓡 ((λ s allowed. allowed), (λ patient. patient), (λ alone. alone), (λ cuts. cuts)) in
    let m = g.S.Structure.meaning c.args.table.now.structure in
    let laws = met.laws c.args.table.now.structure in
    let t = c.args.table.now in
    let limits = c.requires.own.limits _ refl in
    let allowed = c.requires.own.allowed _ refl in
    let r = c.args.runner in
    let body = body_of m r in
    let used = used_at body (shaped m laws t limits allowed r c.requires.own (run_of r) c.requires.next.may.before.running) c.requires.next.may.n (kinds.Store c.args.reg c.args.value) 0 c.requires.next.may.here in
    let s = used.small in omega (arith, s)

pub word-old-requires : goal.word-old-requires
word-old-requires g c =
    let met = g.met.S.Structure g.world.𝓛 g.world.𝓜 g.world.𝓡 ((λ s allowed. allowed), (λ patient. patient), (λ alone. alone), (λ cuts. cuts)) in
    let m = g.S.Structure.meaning c.args.table.now.structure in
    let laws = met.laws c.args.table.now.structure in
    let t = c.args.table.now in
    let limits = c.requires.own.limits _ refl in
    let allowed = c.requires.own.allowed _ refl in
    let r = c.args.runner in
    let body = body_of m r in
    let used = used_at body (shaped m laws t limits allowed r c.requires.own (run_of r) c.requires.next.may.before.running) c.requires.next.may.n (kinds.Store c.args.reg c.args.value) 0 c.requires.next.may.here in
    let at = c.requires.next.registers.log c.args.reg used.small in
    let count = ap length c.requires.trail ∙ c.requires.next.may.before.count in
    let low = used.logged in omega (arith, at, count, low)

pub value_in-number-requires : goal.value_in-number-requires
value_in-number-requires g c =
    let met = g.met.S.Structure g.world.𝓛 g.world.𝓜 g.world.𝓡 ((λ s allowed. allowed), (λ patient. patient), (λ alone. alone), (λ cuts. cuts)) in
    let m = g.S.Structure.meaning c.args.table.now.structure in
    let laws = met.laws c.args.table.now.structure in
    let t = c.args.table.now in
    let limits = c.requires.own.limits _ refl in
    let allowed = c.requires.own.allowed _ refl in
    let r = c.args.runner in
    let body = body_of m r in
    let used = used_at body (shaped m laws t limits allowed r c.requires.own (run_of r) c.requires.next.may.before.running) c.requires.next.may.n (kinds.Store c.args.reg c.args.value) 1 c.requires.next.may.here in
    (registers_before body c.requires.next.may.n, c.requires.next.registers, subst (λ k. IsLogged (registers_before body c.requires.next.may.n) k c.args.value) (sym (ap length c.requires.trail ∙ c.requires.next.may.before.count)) used.logged, used.small)

pub store-runner-requires-clause-next : goal.store-runner-requires-clause-next
store-runner-requires-clause-next g c κs within =
    let met = g.met.S.Structure g.world.𝓛 g.world.𝓜 g.world.𝓡 ((λ s allowed. allowed), (λ patient. patient), (λ alone. alone), (λ cuts. cuts)) in
    let m = g.S.Structure.meaning c.args.table.now.structure in
    let laws = met.laws c.args.table.now.structure in
    let t = c.args.table.now in
    let limits = c.requires.own.limits _ refl in
    let allowed = c.requires.own.allowed _ refl in
    let r = c.args.runner in
    let body = body_of m r in
    let used = used_at body (shaped m laws t limits allowed r c.requires.own (run_of r) c.requires.next.may.before.running) c.requires.next.may.n (kinds.Store c.args.reg c.args.value) 0 c.requires.next.may.here in
    let g0 = registers_before body c.requires.next.may.n in (
      run_of r,
      may_store m r c.args.reg c.args.value c.requires.next.may _ _ _ (c.requires.next.registers.place c.args.reg used.small)
          (c.word-old.ensures ∙ ((λ i. slice_index (c.requires.trail i) (c.requires.next.registers.log c.args.reg used.small i))))
          (c.value_in-number.ensures g0 c.requires.next.registers ∙ ap (λ xs. source_value xs (source_of g0 c.args.value)) c.requires.trail),
    )

pub returns-clause-goes : goal.returns-clause-goes
returns-clause-goes g c =
    let m = g.S.Structure.meaning c.args.table.now.structure in
    let r = c.args.runner in
    λ going. store_goes m r c.args.reg c.args.value _ _ _ _ (c.store-runner.ensures.stored (run_of r) c.requires.next.may.before.running)

pub returns-clause-through : goal.returns-clause-through
returns-clause-through g c =
    let m = g.S.Structure.meaning c.args.table.now.structure in
    let r = c.args.runner in
    let has = c.store-runner.ensures.stored (run_of r) c.requires.next.may.before.running in
    λ going. through_by m 1 1 _ _ _ _ _ _ _ _ (omega arith) (ran_one m _ _ _ _ _ has.step) (asked_if going c.passes-going.ensures)

pub returns-clause-halted : goal.returns-clause-halted
returns-clause-halted g c =
    let m = g.S.Structure.meaning c.args.table.now.structure in
    let r = c.args.runner in
    let has = c.store-runner.ensures.stored (run_of r) c.requires.next.may.before.running in
    λ halted. halted_by m 1 1 _ _ _ _ _ _ _ _ (omega arith) (omega arith) (ran_one m _ _ _ _ _ has.step) (asked_if halted c.passes-going.ensures)
