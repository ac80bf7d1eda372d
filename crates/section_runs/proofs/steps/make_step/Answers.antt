use Rattle.std.proofs.Common.{length, arith, ap, sym, subst, ◌∙◌, refl}
use Rattle.idem_cell.specs.machine_states.specs.body_terms.specs.declared.step.Step.TheVariants as kinds
use Rattle.section_runs.specs.Reached.{run_of}
use Rattle.section_runs.proofs.Going.{log_room}
use Rattle.section_runs.proofs.Through.{some_of, none_of}
use Rattle.idem_cell.specs.machine_states.specs.body_terms.specs.declared.value.Value.TheVariants.{Const}
use Rattle.std.specs.Prelude.{slice_index_or}
use Rattle.idem_cell.specs.machine_states.specs.body_terms.specs.Line.{registers_before, source_of}
use Rattle.idem_cell.specs.machine_states.specs.body_terms.specs.Run.{source_value}
use Rattle.idem_cell.specs.machine_states.specs.body_terms.specs.Act.{IsLogged}
use Rattle.section_runs.specs.Bodies.{body_of}
use Rattle.section_runs.proofs.Going.{shaped}
use Rattle.section_runs.proofs.Using.{used_at, five}
use Rattle.idem_cell.specs.machine_states.specs.table_words.specs.Limits.{IsWithinLimits}
use Rattle.nested_lock.specs.machine_facts.specs.machine_invariant.specs.After.{AreAllowed}
use Rattle.section_runs.proofs.Cases.{may_make, make_goes, lists_once}
use Rattle.section_runs.proofs.steps.make_step.Goals as goal

pub value_in-requires : goal.value_in-requires
value_in-requires g c =
    let met = g.met.S.Structure g.world.𝓛 g.world.𝓜 g.world.𝓡 ((λ s allowed. allowed), (λ patient. patient), (λ alone. alone), (λ cuts. cuts)) in
    let m = g.S.Structure.meaning c.args.table.now.structure in
    let laws = met.laws c.args.table.now.structure in
    let t = c.args.table.now in
    let limits = c.requires.own.limits _ refl in
    let allowed = c.requires.own.allowed _ refl in
    let r = c.args.runner in
    let body = body_of m r in
    let used = used_at body (shaped m laws t limits allowed r c.requires.own (run_of r) c.requires.next.1.may.before.running) c.requires.next.1.may.n (kinds.Make c.args.init c.requires.next.0) 0 c.requires.next.1.may.here in
    (registers_before body c.requires.next.1.may.n, c.requires.next.1.registers, subst (λ k. IsLogged (registers_before body c.requires.next.1.may.n) k (slice_index_or c.args.init.cells 0 (Const 0))) (sym (ap length c.requires.trail ∙ c.requires.next.1.may.before.count)) used.logged, used.small)

pub value_in-requires-2 : goal.value_in-requires-2
value_in-requires-2 g c =
    let met = g.met.S.Structure g.world.𝓛 g.world.𝓜 g.world.𝓡 ((λ s allowed. allowed), (λ patient. patient), (λ alone. alone), (λ cuts. cuts)) in
    let m = g.S.Structure.meaning c.args.table.now.structure in
    let laws = met.laws c.args.table.now.structure in
    let t = c.args.table.now in
    let limits = c.requires.own.limits _ refl in
    let allowed = c.requires.own.allowed _ refl in
    let r = c.args.runner in
    let body = body_of m r in
    let used = used_at body (shaped m laws t limits allowed r c.requires.own (run_of r) c.requires.next.1.may.before.running) c.requires.next.1.may.n (kinds.Make c.args.init c.requires.next.0) 1 c.requires.next.1.may.here in
    (registers_before body c.requires.next.1.may.n, c.requires.next.1.registers, subst (λ k. IsLogged (registers_before body c.requires.next.1.may.n) k (slice_index_or c.args.init.cells 1 (Const 0))) (sym (ap length c.requires.trail ∙ c.requires.next.1.may.before.count)) used.logged, used.small)

pub value_in-requires-3 : goal.value_in-requires-3
value_in-requires-3 g c =
    let met = g.met.S.Structure g.world.𝓛 g.world.𝓜 g.world.𝓡 ((λ s allowed. allowed), (λ patient. patient), (λ alone. alone), (λ cuts. cuts)) in
    let m = g.S.Structure.meaning c.args.table.now.structure in
    let laws = met.laws c.args.table.now.structure in
    let t = c.args.table.now in
    let limits = c.requires.own.limits _ refl in
    let allowed = c.requires.own.allowed _ refl in
    let r = c.args.runner in
    let body = body_of m r in
    let used = used_at body (shaped m laws t limits allowed r c.requires.own (run_of r) c.requires.next.1.may.before.running) c.requires.next.1.may.n (kinds.Make c.args.init c.requires.next.0) 2 c.requires.next.1.may.here in
    (registers_before body c.requires.next.1.may.n, c.requires.next.1.registers, subst (λ k. IsLogged (registers_before body c.requires.next.1.may.n) k (slice_index_or c.args.init.cells 2 (Const 0))) (sym (ap length c.requires.trail ∙ c.requires.next.1.may.before.count)) used.logged, used.small)

pub value_in-requires-4 : goal.value_in-requires-4
value_in-requires-4 g c =
    let met = g.met.S.Structure g.world.𝓛 g.world.𝓜 g.world.𝓡 ((λ s allowed. allowed), (λ patient. patient), (λ alone. alone), (λ cuts. cuts)) in
    let m = g.S.Structure.meaning c.args.table.now.structure in
    let laws = met.laws c.args.table.now.structure in
    let t = c.args.table.now in
    let limits = c.requires.own.limits _ refl in
    let allowed = c.requires.own.allowed _ refl in
    let r = c.args.runner in
    let body = body_of m r in
    let used = used_at body (shaped m laws t limits allowed r c.requires.own (run_of r) c.requires.next.1.may.before.running) c.requires.next.1.may.n (kinds.Make c.args.init c.requires.next.0) 3 c.requires.next.1.may.here in
    (registers_before body c.requires.next.1.may.n, c.requires.next.1.registers, subst (λ k. IsLogged (registers_before body c.requires.next.1.may.n) k (slice_index_or c.args.init.cells 3 (Const 0))) (sym (ap length c.requires.trail ∙ c.requires.next.1.may.before.count)) used.logged, used.small)

pub value_in-requires-5 : goal.value_in-requires-5
value_in-requires-5 g c =
    let met = g.met.S.Structure g.world.𝓛 g.world.𝓜 g.world.𝓡 ((λ s allowed. allowed), (λ patient. patient), (λ alone. alone), (λ cuts. cuts)) in
    let m = g.S.Structure.meaning c.args.table.now.structure in
    let laws = met.laws c.args.table.now.structure in
    let t = c.args.table.now in
    let limits = c.requires.own.limits _ refl in
    let allowed = c.requires.own.allowed _ refl in
    let r = c.args.runner in
    let body = body_of m r in
    let used = used_at body (shaped m laws t limits allowed r c.requires.own (run_of r) c.requires.next.1.may.before.running) c.requires.next.1.may.n (kinds.Make c.args.init c.requires.next.0) 4 c.requires.next.1.may.here in
    (registers_before body c.requires.next.1.may.n, c.requires.next.1.registers, subst (λ k. IsLogged (registers_before body c.requires.next.1.may.n) k (slice_index_or c.args.init.cells 4 (Const 0))) (sym (ap length c.requires.trail ∙ c.requires.next.1.may.before.count)) used.logged, used.small)

pub make_gated-runner-requires-clause-next : goal.make_gated-runner-requires-clause-next
make_gated-runner-requires-clause-next g c κs within =
    let m = g.S.Structure.meaning c.args.table.now.structure in
    let r = c.args.runner in
    let g0 = registers_before (body_of m r) c.requires.next.1.may.n in (
      run_of r,
      may_make m r c.args.init c.requires.next.0 c.requires.next.1.may _ c.requires.reserve
          (five (λ cell. source_value (run_of r).trail (source_of g0 (slice_index_or c.args.init.cells cell (Const 0)))) _ _ _ _ _
          (c.value_in.ensures g0 c.requires.next.1.registers ∙ ap (λ xs. source_value xs (source_of g0 (slice_index_or c.args.init.cells 0 (Const 0)))) c.requires.trail)
          (c.value_in-2.ensures g0 c.requires.next.1.registers ∙ ap (λ xs. source_value xs (source_of g0 (slice_index_or c.args.init.cells 1 (Const 0)))) c.requires.trail)
          (c.value_in-3.ensures g0 c.requires.next.1.registers ∙ ap (λ xs. source_value xs (source_of g0 (slice_index_or c.args.init.cells 2 (Const 0)))) c.requires.trail)
          (c.value_in-4.ensures g0 c.requires.next.1.registers ∙ ap (λ xs. source_value xs (source_of g0 (slice_index_or c.args.init.cells 3 (Const 0)))) c.requires.trail)
          (c.value_in-5.ensures g0 c.requires.next.1.registers ∙ ap (λ xs. source_value xs (source_of g0 (slice_index_or c.args.init.cells 4 (Const 0)))) c.requires.trail)),
    )

pub agree-requires : goal.agree-requires
agree-requires g c =
    let met = g.met.S.Structure g.world.𝓛 g.world.𝓜 g.world.𝓡 ((λ s allowed. allowed), (λ patient. patient), (λ alone. alone), (λ cuts. cuts)) in
    let m = g.S.Structure.meaning c.args.table.now.structure in
    let laws = met.laws c.args.table.now.structure in
    let t = c.args.table.now in
    let limits = c.requires.own.limits _ refl in
    let allowed = c.requires.own.allowed _ refl in
    let r = c.args.runner in
    let room = log_room m laws t limits allowed r c.requires.own (kinds.Make c.args.init c.requires.next.0) c.requires.next.1.may in
    let e = ap length c.requires.trail in omega (arith, room, e)

pub returns-in-Some-clause-goes : goal.returns-in-Some-clause-goes
returns-in-Some-clause-goes g c =
    let met = g.met.S.Structure g.world.𝓛 g.world.𝓜 g.world.𝓡 ((λ s allowed. allowed), (λ patient. patient), (λ alone. alone), (λ cuts. cuts)) in
    let m = g.S.Structure.meaning c.args.table.now.structure in
    let laws = met.laws c.args.table.now.structure in
    let limits = c.requires.own.limits _ refl in
    let allowed = c.requires.own.allowed _ refl in
    let r = c.args.runner in
    λ _ into.
    let has = some_of _ _ _ c.in-Some.is c.make_gated-runner.ensures.made (run_of r) c.requires.next.1.may.before.running in
    make_goes m r c.args.init into _ _ has
    (lists_once m laws r (subst IsWithinLimits (sym c.requires.own.layout) limits) (subst AreAllowed (sym c.requires.own.requests) allowed) (run_of r) c.requires.next.1.may.before.running has.slot)

pub returns-in-Some-clause-through : goal.returns-in-Some-clause-through
returns-in-Some-clause-through g c =
    let r = c.args.runner in
    λ _. some_of _ _ _ c.in-Some.is c.make_gated-runner.ensures.through (run_of r) c.requires.next.1.may.before.running

pub returns-in-None-clause-halted : goal.returns-in-None-clause-halted
returns-in-None-clause-halted g c =
    let r = c.args.runner in
    λ _. none_of _ _ c.in-None.is c.make_gated-runner.ensures.halted (run_of r) c.requires.next.1.may.before.running
