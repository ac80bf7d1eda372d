use Rattle.std.proofs.Common.{◌∙◌}
use Rattle.speed.proofs.Whole.{cut_number, may_go, may_leave, gone_number, then_next}
use Rattle.speed.proofs.sections.requests.run_own.Goals as goal

pub run_section-worker-requires-clause-next : goal.run_section-worker-requires-clause-next
run_section-worker-requires-clause-next c κs = (c.requires.next.thunk, c.requires.next.may)

pub guard-worker-requires-clause-next : goal.guard-worker-requires-clause-next
guard-worker-requires-clause-next c κs =
    let next = c.requires.next in
    let done = c.run_section-worker.ensures.done next.thunk c.in-Done.outcome c.in-Done._trail next.may c.in-Done.is in
    may_go c.args.request c.args.section c.in-Done.outcome c.in-Done._trail done.0 c.args.worker c.run_section-worker.result.0 next done.1

pub exit-worker-requires-clause-entered : goal.exit-worker-requires-clause-entered
exit-worker-requires-clause-entered c κs =
    let next = c.requires.next in
    let done = c.run_section-worker.ensures.done next.thunk c.in-Done.outcome c.in-Done._trail next.may c.in-Done.is in
    may_leave c.args.request c.args.section c.in-Done.outcome c.in-Done._trail done.0 c.args.worker c.run_section-worker.result.0 next done.1 0 c.guard-worker.result
    (c.guard-worker.ensures.event 0)

pub returns-in-Done-clause-number : goal.returns-in-Done-clause-number
returns-in-Done-clause-number c =
    let next = c.requires.next in
    let done = c.run_section-worker.ensures.done next.thunk c.in-Done.outcome c.in-Done._trail next.may c.in-Done.is in
    c.exit-worker.ensures.exits.keeps.number ∙ gone_number c.args.request c.args.section c.in-Done.outcome c.in-Done._trail done.0 c.args.worker c.run_section-worker.result.0 next done.1
    0 c.guard-worker.result (c.guard-worker.ensures.event 0)

pub returns-in-Done-clause-before : goal.returns-in-Done-clause-before
returns-in-Done-clause-before c =
    let next = c.requires.next in
    let done = c.run_section-worker.ensures.done next.thunk c.in-Done.outcome c.in-Done._trail next.may c.in-Done.is in
    then_next c.args.request c.args.section c.in-Done.outcome c.in-Done._trail done.0 c.args.worker c.run_section-worker.result.0 next done.1 0 c.guard-worker.result
    (c.guard-worker.ensures.event 0) c.exit-worker.result c.exit-worker.ensures.exits

pub returns-in-Halted-clause-number : goal.returns-in-Halted-clause-number
returns-in-Halted-clause-number c =
    let cut = c.run_section-worker.ensures.halted c.in-Halted.is in
    cut_number c.args.section.descriptor cut.0 c.args.worker c.run_section-worker.result.0 cut.1 ∙ c.requires.next.number
