use Rattle.std.proofs.Common.{◌+◌, Bool, sym, subst}
use Rattle.idem_alloc.specs.commit_log.specs.version_words.specs.RunnerState.{RunnerState}
use Rattle.section_runs.specs.Opened.{HasOpened}
use Rattle.section_runs.specs.Ended.{EndsSo}
use Rattle.section_runs.proofs.runs.run_opened.Goals as goal

-- the runner is the same without its room, and with it again
pub returns-clause-done : goal.returns-clause-done
returns-clause-done g c =
    let m = g.S.Structure.meaning c.args.table.now.structure in
    λ before o trail hop e.
    let without = subst (λ (r : RunnerState g.row.S.Denot). HasOpened m c.args.descriptor c.args.thunk.now c.args.late before r) (sym c.take_room.ensures) hop in
    let opened = subst (λ (late : Bool). HasOpened m c.args.descriptor c.args.thunk.now late before c.take_room.new.self) (sym c.restart.ensures.late) without in
    let ends = c.run_steps-runner.ensures.done before o trail opened e in (
      ends.0,
      subst (λ (r : RunnerState g.row.S.Denot). EndsSo m c.args.descriptor c.args.thunk.now o trail (13 + ends.0) before r) (sym c.keep_room.ensures) ends.1,
      ends.2,
    )
