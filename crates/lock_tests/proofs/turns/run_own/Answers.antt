use Rattle.std.proofs.Common.{ap, subst, ◌∙◌}
use Rattle.hash_table.specs.try_lock.specs.section_runs.specs.Opened.{Learns}
use Rattle.machine_states.specs.runner_parts.specs.Tests.{is_answered}
use Rattle.lock_attempts.specs.attempts.proofs.LettingGo.{may_go}
use Rattle.lock_tests.proofs.Turning.{cut_number, ended_go, ended_leave, left_keeps, left_tidy}
use Rattle.lock_tests.proofs.Serving.{learns_others}
use Rattle.lock_tests.proofs.turns.run_own.Goals as goal

pub run_section-runner-requires-clause-next : goal.run_section-runner-requires-clause-next
run_section-runner-requires-clause-next g c κs within = (c.requires.next.thunk, c.requires.next.may)

pub guard-runner-requires-clause-next : goal.guard-runner-requires-clause-next
guard-runner-requires-clause-next g c κs within =
    let m = g.S.Structure.meaning c.args.table.now.structure in let next = c.requires.next in
    let done = c.run_section-runner.ensures.done next.thunk c.in-Done.outcome c.in-Done.trail next.may c.in-Done.is in
    may_go m c.run_section-runner.result.0 (ended_go m c.args.section next.thunk c.in-Done.outcome c.in-Done.trail done.0 c.args.runner c.run_section-runner.result.0 next.may done.1)

pub exit-runner-requires-clause-entered : goal.exit-runner-requires-clause-entered
exit-runner-requires-clause-entered g c κs within =
    let m = g.S.Structure.meaning c.args.table.now.structure in let next = c.requires.next in
    let done = c.run_section-runner.ensures.done next.thunk c.in-Done.outcome c.in-Done.trail next.may c.in-Done.is in
    ended_leave m c.args.section next.thunk c.in-Done.outcome c.in-Done.trail done.0 c.args.runner c.run_section-runner.result.0 next.may done.1
    c.guard-runner.result (record { found = 0; event = c.guard-runner.ensures.event 0 })

pub returns-in-Done-clause-number : goal.returns-in-Done-clause-number
returns-in-Done-clause-number g c =
    let m = g.S.Structure.meaning c.args.table.now.structure in let next = c.requires.next in
    let done = c.run_section-runner.ensures.done next.thunk c.in-Done.outcome c.in-Done.trail next.may c.in-Done.is in
    (left_keeps m c.args.section next.thunk c.in-Done.outcome c.in-Done.trail done.0 c.args.runner c.run_section-runner.result.0 next.may done.1
    c.guard-runner.result (record { found = 0; event = c.guard-runner.ensures.event 0 }) c.exit-runner.result c.exit-runner.ensures.exits).number ∙ done.1.number

pub returns-in-Done-clause-tidy : goal.returns-in-Done-clause-tidy
returns-in-Done-clause-tidy g c = λ outcome trail same.
    let m = g.S.Structure.meaning c.args.table.now.structure in let next = c.requires.next in
    let done = c.run_section-runner.ensures.done next.thunk c.in-Done.outcome c.in-Done.trail next.may c.in-Done.is in
    left_tidy m c.args.section next.thunk c.in-Done.outcome c.in-Done.trail done.0 c.args.runner c.run_section-runner.result.0 next.may done.1
    c.guard-runner.result (record { found = 0; event = c.guard-runner.ensures.event 0 }) c.exit-runner.result c.exit-runner.ensures.exits next.hand

pub returns-in-Halted-clause-number : goal.returns-in-Halted-clause-number
returns-in-Halted-clause-number g c =
    let m = g.S.Structure.meaning c.args.table.now.structure in
    let cut = c.run_section-runner.ensures.halted c.in-Halted.is in
    cut_number m c.args.section.descriptor cut.0 c.args.runner c.run_section-runner.result.0 cut.1

pub returns-in-Done-clause-learns : goal.returns-in-Done-clause-learns
returns-in-Done-clause-learns g c = λ outcome trail same number may k ne.
    let m = g.S.Structure.meaning c.args.table.now.structure in
    let done = c.run_section-runner.ensures.done may.run.thunk c.in-Done.outcome c.in-Done.trail may.run.may c.in-Done.is in
    ap (λ xs. is_answered xs k) (left_keeps m c.args.section may.run.thunk c.in-Done.outcome c.in-Done.trail done.0 c.args.runner c.run_section-runner.result.0 may.run.may done.1
    c.guard-runner.result (record { found = 0; event = c.guard-runner.ensures.event 0 }) c.exit-runner.result c.exit-runner.ensures.exits).known
    ∙ learns_others number c.args.runner.part.records.known c.run_section-runner.result.0.part.records.known
    (subst (λ n. Learns n c.args.runner.part.records.known c.run_section-runner.result.0.part.records.known) may.request done.1.learns) k ne
