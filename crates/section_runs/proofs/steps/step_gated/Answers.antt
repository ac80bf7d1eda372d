use Rattle.std.proofs.Common.{◌+◌, length, arith, ap, sym, refl, subst, ◌∙◌, None, Some, cond}
use Rattle.std.specs.Prelude.{◌==◌, slice_index}
use Rattle.idem_cell.specs.machine_states.specs.body_terms.specs.Act.{IsLogged}
use Rattle.idem_cell.specs.machine_states.specs.body_terms.specs.Line.{registers_before}
use Rattle.idem_cell.specs.machine_states.specs.body_terms.specs.Word.{version_of}
use Rattle.idem_cell.specs.machine_states.specs.body_terms.specs.declared.outcome.Outcome.TheVariants.{Stale, Spent}
use Rattle.idem_cell.specs.machine_states.specs.body_terms.specs.declared.value.Value.TheVariants.{Of}
use Rattle.idem_cell.specs.machine_states.specs.body_terms.specs.Shape.{is_make}
use Rattle.idem_cell.specs.machine_states.specs.table_words.specs.declared.layout.Layout.{Layout}
use Rattle.idem_cell.specs.machine_states.specs.body_terms.specs.declared.step.Step.{Step}
use Rattle.idem_cell.specs.machine_states.specs.body_terms.specs.declared.step.Step.TheVariants as kinds
use Rattle.idem_alloc.specs.commit_log.specs.Links.{links_cost}
use Rattle.idem_alloc.specs.commit_log.proofs.Halting.{through_few, halted_few}
use Rattle.section_runs.specs.Reached.{run_of}
use Rattle.section_runs.specs.Bodies.{body_of}
use Rattle.section_runs.specs.declared.passed.Passed.TheVariants.{On, Left}
use Rattle.section_runs.proofs.Going.{shaped}
use Rattle.section_runs.proofs.Using.{used_at}
use Rattle.section_runs.proofs.Wents.{as_step, went_by, went_all, went_tested, want_left, fresh_left, want_busy, fresh_busy}
use Rattle.section_runs.proofs.Noting.{none_noted}
use Rattle.section_runs.proofs.steps.step_gated.Goals as goal

pub load_step-runner-requires-clause-next : goal.load_step-runner-requires-clause-next
load_step-runner-requires-clause-next g c κs within =
    let m = g.S.Structure.meaning c.args.table.now.structure in
    let r = c.args.runner in
    (_, (as_step m c.args.n c.args.step.now _ c.args.kept.now r c.in-Load.is c.requires.next).may)

pub returns-in-Load-clause-went : goal.returns-in-Load-clause-went
returns-in-Load-clause-went g c =
    let m = g.S.Structure.meaning c.args.table.now.structure in
    let r = c.args.runner in
    went_by m c.args.n c.args.step.now _ c.args.kept.now c.in-Load.is r _ c.requires.next _ _ _ _ _ _ _ _ _ c.load_step-runner.result.1 c.passed.ensures
    (λ on. c.load_step-runner.ensures.goes on _) c.load_step-runner.ensures.trail c.load_step-runner.ensures.late c.load_step-runner.ensures.through c.load_step-runner.ensures.halted

pub take_step-requires-clause-next : goal.take_step-requires-clause-next
take_step-requires-clause-next g c κs within =
    let m = g.S.Structure.meaning c.args.table.now.structure in
    let r = c.args.runner in
    (as_step m c.args.n c.args.step.now _ c.args.kept.now r c.in-Take.is c.requires.next).may

pub returns-in-Take-clause-went : goal.returns-in-Take-clause-went
returns-in-Take-clause-went g c =
    let m = g.S.Structure.meaning c.args.table.now.structure in
    let r = c.args.runner in
    went_all m c.args.n c.args.step.now _ c.args.kept.now c.in-Take.is r _ c.requires.next _ _ _ _ _ _ _ _ _
    c.take_step.ensures.goes c.take_step.ensures.leaves refl c.take_step.ensures.trail c.take_step.ensures.late c.take_step.ensures.through c.take_step.ensures.halted

pub make_step-runner-requires-clause-next : goal.make_step-runner-requires-clause-next
make_step-runner-requires-clause-next g c κs within =
    let m = g.S.Structure.meaning c.args.table.now.structure in
    let r = c.args.runner in
    (_, (as_step m c.args.n c.args.step.now _ c.args.kept.now r c.in-Make.is c.requires.next))

pub make_step-runner-requires-clause-reserve : goal.make_step-runner-requires-clause-reserve
make_step-runner-requires-clause-reserve g c κs within =
    c.requires.reserve (ap is_make c.in-Make.is)

pub returns-in-Make-clause-went : goal.returns-in-Make-clause-went
returns-in-Make-clause-went g c =
    let m = g.S.Structure.meaning c.args.table.now.structure in
    let r = c.args.runner in
    went_by m c.args.n c.args.step.now _ c.args.kept.now c.in-Make.is r _ c.requires.next _ _ _ _ _ _ _ _ _ c.make_step-runner.result.1 c.passed-in-Make.ensures
    (λ on. c.make_step-runner.ensures.goes on _) c.make_step-runner.ensures.trail c.make_step-runner.ensures.late c.make_step-runner.ensures.through c.make_step-runner.ensures.halted

pub stamp_step-runner-requires-clause-next : goal.stamp_step-runner-requires-clause-next
stamp_step-runner-requires-clause-next g c κs within =
    let m = g.S.Structure.meaning c.args.table.now.structure in
    let r = c.args.runner in
    (as_step m c.args.n c.args.step.now _ c.args.kept.now r c.in-Stamp.is c.requires.next).may

pub returns-in-Stamp-clause-went : goal.returns-in-Stamp-clause-went
returns-in-Stamp-clause-went g c =
    let m = g.S.Structure.meaning c.args.table.now.structure in
    let r = c.args.runner in
    went_by m c.args.n c.args.step.now _ c.args.kept.now c.in-Stamp.is r _ c.requires.next _ _ _ _ _ _ _ _ _ c.stamp_step-runner.result.1 c.passed-in-Stamp.ensures
    c.stamp_step-runner.ensures.goes (λ on. c.requires.trail ∙ sym (c.stamp_step-runner.ensures.trail on)) refl (λ on. through_few m 3 (3 + links_cost 0 (run_of r)) _ _ _ _ _ _ _ _ (omega arith) (c.stamp_step-runner.ensures.through on)) (λ off. halted_few m 3 (3 + links_cost 0 (run_of r)) _ _ _ _ _ _ _ _ (omega arith) (c.stamp_step-runner.ensures.halted off))

pub store_step-runner-requires-clause-next : goal.store_step-runner-requires-clause-next
store_step-runner-requires-clause-next g c κs within =
    let m = g.S.Structure.meaning c.args.table.now.structure in
    let r = c.args.runner in
    (as_step m c.args.n c.args.step.now _ c.args.kept.now r c.in-Store.is c.requires.next)

pub returns-in-Store-clause-went : goal.returns-in-Store-clause-went
returns-in-Store-clause-went g c =
    let m = g.S.Structure.meaning c.args.table.now.structure in
    let r = c.args.runner in
    went_by m c.args.n c.args.step.now _ c.args.kept.now c.in-Store.is r _ c.requires.next _ _ _ _ _ _ _ _ _ c.store_step-runner.result.1 c.passed-in-Store.ensures
    c.store_step-runner.ensures.goes c.store_step-runner.ensures.trail refl (λ on. through_few m 1 (1 + links_cost 0 (run_of r)) _ _ _ _ _ _ _ _ (omega arith) (c.store_step-runner.ensures.through on)) (λ off. halted_few m 1 (1 + links_cost 0 (run_of r)) _ _ _ _ _ _ _ _ (omega arith) (c.store_step-runner.ensures.halted off))

pub retire_step-runner-requires-clause-next : goal.retire_step-runner-requires-clause-next
retire_step-runner-requires-clause-next g c κs within =
    let m = g.S.Structure.meaning c.args.table.now.structure in
    let r = c.args.runner in
    (as_step m c.args.n c.args.step.now _ c.args.kept.now r c.in-Retire.is c.requires.next).may

pub returns-in-Retire-clause-went : goal.returns-in-Retire-clause-went
returns-in-Retire-clause-went g c =
    let m = g.S.Structure.meaning c.args.table.now.structure in
    let r = c.args.runner in
    went_by m c.args.n c.args.step.now _ c.args.kept.now c.in-Retire.is r _ c.requires.next _ _ _ _ _ _ _ _ _ c.retire_step-runner.result.1 c.passed-in-Retire.ensures
    c.retire_step-runner.ensures.goes c.retire_step-runner.ensures.trail c.retire_step-runner.ensures.late c.retire_step-runner.ensures.through c.retire_step-runner.ensures.halted

pub answer_step-runner-requires-clause-next : goal.answer_step-runner-requires-clause-next
answer_step-runner-requires-clause-next g c κs within =
    let m = g.S.Structure.meaning c.args.table.now.structure in
    let r = c.args.runner in
    (as_step m c.args.n c.args.step.now _ c.args.kept.now r c.in-Answer.is c.requires.next).may

pub returns-in-Answer-clause-went : goal.returns-in-Answer-clause-went
returns-in-Answer-clause-went g c =
    let m = g.S.Structure.meaning c.args.table.now.structure in
    let r = c.args.runner in
    went_by m c.args.n c.args.step.now _ c.args.kept.now c.in-Answer.is r _ c.requires.next _ _ _ _ _ _ _ _ _ c.answer_step-runner.result.1 c.passed-in-Answer.ensures
    c.answer_step-runner.ensures.goes (λ on. c.requires.trail ∙ sym (c.answer_step-runner.ensures.trail on)) refl (λ on. through_few m 1 (1 + links_cost 0 (run_of r)) _ _ _ _ _ _ _ _ (omega arith) (c.answer_step-runner.ensures.through on)) (λ off. halted_few m 1 (1 + links_cost 0 (run_of r)) _ _ _ _ _ _ _ _ (omega arith) (c.answer_step-runner.ensures.halted off))

pub wanted-requires : goal.wanted-requires
wanted-requires g c =
    let met = g.met.S.Structure g.world.𝓛 g.world.𝓜 g.world.𝓡 ((λ s allowed. allowed), (λ patient. patient), (λ alone. alone), (λ cuts. cuts)) in
    let m = g.S.Structure.meaning c.args.table.now.structure in
    let laws = met.laws c.args.table.now.structure in
    let t = c.args.table.now in
    let limits = c.requires.own.limits _ refl in
    let allowed = c.requires.own.allowed _ refl in
    let r = c.args.runner in
    let body = body_of m r in
    let g0 = registers_before body c.args.n in
    let used = used_at body (shaped m laws t limits allowed r c.requires.own (run_of r) c.requires.next.before.running) c.args.n (kinds.Want c.in-Want.reg c.in-Want.word) 0 (c.requires.next.here ∙ ap (λ (x : Step). Some x) c.in-Want.is) in
    (g0, c.requires.next.registers, subst (λ k. IsLogged g0 k (Of c.in-Want.reg)) (sym (ap length c.requires.trail ∙ c.requires.next.before.count)) used.logged, used.small)

pub returns-in-Want-clause-went : goal.returns-in-Want-clause-went
returns-in-Want-clause-went g c =
    let m = g.S.Structure.meaning c.args.table.now.structure in
    let r = c.args.runner in
    let body = body_of m r in
    let g0 = registers_before body c.args.n in
    let read = slice_index (run_of r).trail (g0.log c.in-Want.reg) in
    went_tested m c.args.n c.args.step.now (kinds.Want c.in-Want.reg c.in-Want.word) c.args.kept.now c.in-Want.is r c.requires.next refl refl
    (cond (read == c.in-Want.word) None (Some (Stale (g0.place c.in-Want.reg) c.in-Want.word read))) refl _ _ _ _ _
    (c.wanted.ensures g0 c.requires.next.registers ∙ (ap (λ xs. let k = slice_index xs (g0.log c.in-Want.reg) in cond (k == c.in-Want.word) On (Left (Stale (g0.place c.in-Want.reg) c.in-Want.word k))) c.requires.trail
    ∙ want_left (g0.place c.in-Want.reg) c.in-Want.word read))
    (want_busy (g0.place c.in-Want.reg) c.in-Want.word read) c.requires.trail refl

pub tested-requires : goal.tested-requires
tested-requires g c =
    let met = g.met.S.Structure g.world.𝓛 g.world.𝓜 g.world.𝓡 ((λ s allowed. allowed), (λ patient. patient), (λ alone. alone), (λ cuts. cuts)) in
    let m = g.S.Structure.meaning c.args.table.now.structure in
    let laws = met.laws c.args.table.now.structure in
    let t = c.args.table.now in
    let limits = c.requires.own.limits _ refl in
    let allowed = c.requires.own.allowed _ refl in
    let r = c.args.runner in
    let body = body_of m r in
    let g0 = registers_before body c.args.n in
    let used = used_at body (shaped m laws t limits allowed r c.requires.own (run_of r) c.requires.next.before.running) c.args.n (kinds.Fresh c.in-Fresh.reg) 0 (c.requires.next.here ∙ ap (λ (x : Step). Some x) c.in-Fresh.is) in
    (g0, c.requires.next.registers, subst (λ k. IsLogged g0 k (Of c.in-Fresh.reg)) (sym (ap length c.requires.trail ∙ c.requires.next.before.count)) used.logged, used.small)

pub returns-in-Fresh-clause-went : goal.returns-in-Fresh-clause-went
returns-in-Fresh-clause-went g c =
    let m = g.S.Structure.meaning c.args.table.now.structure in
    let r = c.args.runner in
    let body = body_of m r in
    let g0 = registers_before body c.args.n in
    let read = slice_index (run_of r).trail (g0.log c.in-Fresh.reg) in
    let vm = ap (λ (l : Layout). l.version_max) (c.layout.ensures ∙ sym c.requires.own.layout) in
    went_tested m c.args.n c.args.step.now (kinds.Fresh c.in-Fresh.reg) c.args.kept.now c.in-Fresh.is r c.requires.next refl refl
    (cond (version_of read == r.layout.version_max) (Some (Spent (g0.place c.in-Fresh.reg) read)) None) refl _ _ _ _ _
    (c.tested.ensures g0 c.requires.next.registers ∙ ((λ i. let k = slice_index (c.requires.trail i) (g0.log c.in-Fresh.reg) in cond (version_of k == vm i) (Left (Spent (g0.place c.in-Fresh.reg) k)) On)
    ∙ fresh_left (g0.place c.in-Fresh.reg) read r.layout.version_max))
    (fresh_busy (g0.place c.in-Fresh.reg) read r.layout.version_max) c.requires.trail refl

pub returns-in-Want-clause-kept : goal.returns-in-Want-clause-kept
returns-in-Want-clause-kept g c = λ g0 are _. none_noted c.args.kept.now g0 c.args.step.now (kinds.Want c.in-Want.reg c.in-Want.word) c.in-Want.is refl are

pub returns-in-Fresh-clause-kept : goal.returns-in-Fresh-clause-kept
returns-in-Fresh-clause-kept g c = λ g0 are _. none_noted c.args.kept.now g0 c.args.step.now (kinds.Fresh c.in-Fresh.reg) c.in-Fresh.is refl are

pub returns-in-Take-clause-kept : goal.returns-in-Take-clause-kept
returns-in-Take-clause-kept g c = λ g0 are _. none_noted c.args.kept.now g0 c.args.step.now (kinds.Take c.in-Take.place c.in-Take.word) c.in-Take.is refl are

pub returns-in-Stamp-clause-kept : goal.returns-in-Stamp-clause-kept
returns-in-Stamp-clause-kept g c = λ g0 are _. none_noted c.args.kept.now g0 c.args.step.now kinds.Stamp c.in-Stamp.is refl are

pub returns-in-Store-clause-kept : goal.returns-in-Store-clause-kept
returns-in-Store-clause-kept g c = λ g0 are _. none_noted c.args.kept.now g0 c.args.step.now (kinds.Store c.in-Store.reg c.in-Store.value) c.in-Store.is refl are

pub returns-in-Retire-clause-kept : goal.returns-in-Retire-clause-kept
returns-in-Retire-clause-kept g c = λ g0 are _. none_noted c.args.kept.now g0 c.args.step.now (kinds.Retire c.in-Retire.slot) c.in-Retire.is refl are

pub returns-in-Answer-clause-kept : goal.returns-in-Answer-clause-kept
returns-in-Answer-clause-kept g c = λ g0 are _. none_noted c.args.kept.now g0 c.args.step.now (kinds.Answer c.in-Answer.reply) c.in-Answer.is refl are

pub note-requires : goal.note-requires
note-requires g c = record { within = c.requires.within }

pub returns-in-Load-clause-kept : goal.returns-in-Load-clause-kept
returns-in-Load-clause-kept g c = λ g0 are count. c.note.ensures g0 are (c.count_of-count.ensures ∙ count)

pub note-requires-in-Make : goal.note-requires-in-Make
note-requires-in-Make g c = record { within = c.requires.within }

pub returns-in-Make-clause-kept : goal.returns-in-Make-clause-kept
returns-in-Make-clause-kept g c = λ g0 are count. c.note-in-Make.ensures g0 are (c.count_of-count-in-Make.ensures ∙ count)
