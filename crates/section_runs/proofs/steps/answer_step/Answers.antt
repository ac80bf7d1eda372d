use Rattle.std.proofs.Common.{arith, refl}
use Rattle.idem_alloc.specs.commit_log.proofs.Running.{ran_one}
use Rattle.idem_alloc.specs.commit_log.proofs.Halting.{through_by, halted_by, asked_if}
use Rattle.section_runs.proofs.Stamping.{may_answer, answers, answer_goes, answer_trail}
use Rattle.section_runs.proofs.steps.answer_step.Goals as goal

pub reply_exchange-runner-requires-clause-next : goal.reply_exchange-runner-requires-clause-next
reply_exchange-runner-requires-clause-next g c κs within =
    let met = g.met.S.Structure g.world.𝓛 g.world.𝓜 g.world.𝓡 ((λ s allowed. allowed), (λ patient. patient), (λ alone. alone), (λ cuts. cuts)) in
    let m = g.S.Structure.meaning c.args.table.now.structure in
    let laws = met.laws c.args.table.now.structure in
    let t = c.args.table.now in
    let limits = c.requires.own.limits _ refl in
    let allowed = c.requires.own.allowed _ refl in
    let r = c.args.runner in
    may_answer m laws t limits allowed r c.requires.own c.args.reply c.requires.next

pub returns-clause-goes : goal.returns-clause-goes
returns-clause-goes g c =
    let met = g.met.S.Structure g.world.𝓛 g.world.𝓜 g.world.𝓡 ((λ s allowed. allowed), (λ patient. patient), (λ alone. alone), (λ cuts. cuts)) in
    let m = g.S.Structure.meaning c.args.table.now.structure in
    let laws = met.laws c.args.table.now.structure in
    let t = c.args.table.now in
    let limits = c.requires.own.limits _ refl in
    let allowed = c.requires.own.allowed _ refl in
    let r = c.args.runner in
    λ going. answer_goes m laws t limits allowed r c.requires.own c.args.reply c.requires.next _ _
    (answers m laws t limits allowed r c.requires.own c.args.reply c.requires.next _ _ c.reply_exchange-runner.ensures.event.event)

pub returns-clause-trail : goal.returns-clause-trail
returns-clause-trail g c =
    let met = g.met.S.Structure g.world.𝓛 g.world.𝓜 g.world.𝓡 ((λ s allowed. allowed), (λ patient. patient), (λ alone. alone), (λ cuts. cuts)) in
    let m = g.S.Structure.meaning c.args.table.now.structure in
    let laws = met.laws c.args.table.now.structure in
    let t = c.args.table.now in
    let limits = c.requires.own.limits _ refl in
    let allowed = c.requires.own.allowed _ refl in
    let r = c.args.runner in
    λ going. answer_trail m laws t limits allowed r c.requires.own c.args.reply c.requires.next _ _
    (answers m laws t limits allowed r c.requires.own c.args.reply c.requires.next _ _ c.reply_exchange-runner.ensures.event.event)

pub returns-clause-through : goal.returns-clause-through
returns-clause-through g c =
    let met = g.met.S.Structure g.world.𝓛 g.world.𝓜 g.world.𝓡 ((λ s allowed. allowed), (λ patient. patient), (λ alone. alone), (λ cuts. cuts)) in
    let m = g.S.Structure.meaning c.args.table.now.structure in
    let laws = met.laws c.args.table.now.structure in
    let t = c.args.table.now in
    let limits = c.requires.own.limits _ refl in
    let allowed = c.requires.own.allowed _ refl in
    let r = c.args.runner in
    λ going. through_by m 1 1 _ _ _ _ _ _ _ _ (omega arith)
    (ran_one m _ _ _ _ _ (answers m laws t limits allowed r c.requires.own c.args.reply c.requires.next _ _ c.reply_exchange-runner.ensures.event.event))
    (asked_if going c.passes-going.ensures)

pub returns-clause-halted : goal.returns-clause-halted
returns-clause-halted g c =
    let met = g.met.S.Structure g.world.𝓛 g.world.𝓜 g.world.𝓡 ((λ s allowed. allowed), (λ patient. patient), (λ alone. alone), (λ cuts. cuts)) in
    let m = g.S.Structure.meaning c.args.table.now.structure in
    let laws = met.laws c.args.table.now.structure in
    let t = c.args.table.now in
    let limits = c.requires.own.limits _ refl in
    let allowed = c.requires.own.allowed _ refl in
    let r = c.args.runner in
    λ halted. halted_by m 1 1 _ _ _ _ _ _ _ _ (omega arith) (omega arith)
    (ran_one m _ _ _ _ _ (answers m laws t limits allowed r c.requires.own c.args.reply c.requires.next _ _ c.reply_exchange-runner.ensures.event.event))
    (asked_if halted c.passes-going.ensures)
