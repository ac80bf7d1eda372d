use Rattle.std.proofs.Common.{sym, subst, length}
use Rattle.caller_facts.specs.version_words.specs.RunnerState.{RunnerState}
use Rattle.caller_facts.specs.try_lock.specs.declared.planned.Planned.TheVariants as plans
use Rattle.caller_facts.specs.Counted.{IsSeen}
use Rattle.seq_read.specs.Course.{read_of, HasPlanned}
use Rattle.seq_read.specs.Parts.{Rests}
use Rattle.seq_read.proofs.reading.look_written.Goals as goal

-- the runner is the same without its room, and with it again
pub look_anew-requires-clause-planned : goal.look_anew-requires-clause-planned
look_anew-requires-clause-planned g c κs within =
    let e = c.requires.planned in (
      e.0,
      e.1,
      subst (λ (r : RunnerState g.row.S.Denot). HasPlanned (g.S.Structure.meaning c.args.table.now.structure) (g.S.Planner.planning c.args.table.now.structure) c.args.request.now e.0 (plans.Thunk c.args.thunk.now) e.1 r) (sym c.take_room.ensures) e.2,
    )

pub returns-in_default-clause-rests : goal.returns-in_default-clause-rests
returns-in_default-clause-rests g c = λ readings old is.
    c.look_anew.ensures.rests readings old
    (subst (λ (r : RunnerState g.row.S.Denot). HasPlanned (g.S.Structure.meaning c.args.table.now.structure) (g.S.Planner.planning c.args.table.now.structure) c.args.request.now readings (plans.Thunk c.args.thunk.now) old r) (sym c.take_room.ensures) is)

pub look_asked-runner-requires-clause-planned : goal.look_asked-runner-requires-clause-planned
look_asked-runner-requires-clause-planned g c κs within =
    let e = c.requires.planned in (
      e.0,
      e.1,
      subst (λ (r : RunnerState g.row.S.Denot). HasPlanned (g.S.Structure.meaning c.args.table.now.structure) (g.S.Planner.planning c.args.table.now.structure) c.args.request.now e.0 (plans.Thunk c.args.thunk.now) e.1 r) (sym c.take_room.ensures) e.2,
    )

pub returns-clause-rests : goal.returns-clause-rests
returns-clause-rests g c = λ readings old is.
    subst (λ (r : RunnerState g.row.S.Denot). Rests (g.S.Structure.meaning c.args.table.now.structure) (g.S.Planner.planning c.args.table.now.structure) c.args.request.now (length readings) (read_of c.look_asked-runner.result.1) old r (IsSeen g.G.Gate.halts g.G.Gate.asks)
    (g.G.Gate.halts c.args.gate.now) (g.G.Gate.halts c.look_asked-runner.new.gate) (g.G.Gate.asks c.args.gate.now) (g.G.Gate.asks c.look_asked-runner.new.gate) c.args.steps.now.count c.look_asked-runner.new.steps.count) (sym c.keep_room.ensures)
    (c.look_asked-runner.ensures.rests readings old
    (subst (λ (r : RunnerState g.row.S.Denot). HasPlanned (g.S.Structure.meaning c.args.table.now.structure) (g.S.Planner.planning c.args.table.now.structure) c.args.request.now readings (plans.Thunk c.args.thunk.now) old r) (sym c.take_room.ensures) is))
