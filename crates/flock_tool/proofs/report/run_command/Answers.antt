use Rattle.std.proofs.Common.{refl, ap, ◌∙◌}
use Rattle.command_line.specs.declared.options.RunOptions.{RunOptions}
use Rattle.flock_tool.proofs.Ends.{read_fault}
use Rattle.flock_tool.proofs.Giving.{not_ok}
use Rattle.flock_tool.proofs.Running.{run_lacks, run_refused, run_reported}
use Rattle.flock_tool.proofs.Owned.{none_own, reported_own}
use Rattle.flock_tool.proofs.OneKeyed.{have_one_key}
use Rattle.flock_tool.proofs.report.run_command.Goals as goal

pub returns-in-Err-clause-ends : goal.returns-in-Err-clause-ends
returns-in-Err-clause-ends g c =
    run_refused c.args.options _ _ _ _ _ c.in-Err.stop c.in-Err.ensures.refused c.refuse.ensures.status c.refuse.ensures.none c.refuse.ensures.told
    (record { returned = refl; halts = refl; asks = refl; plans = refl; planned = refl }) c.in-Err.ensures.must c.in-Err.ensures.read

pub returns-in-Err-clause-reads : goal.returns-in-Err-clause-reads
returns-in-Err-clause-reads g c = λ not_eight. c.in-Err.ensures.reads (read_fault c.in-Err.stop c.refuse.result.0 c.refuse.ensures.status not_eight)

pub returns-in_default-clause-ends : goal.returns-in_default-clause-ends
returns-in_default-clause-ends g c =
    run_lacks c.args.options _ _ _ _ _ c.refuse-in_default.ensures.status c.refuse-in_default.ensures.none c.refuse-in_default.ensures.told
    (λ none. not_ok _ c.run_plan.result c.in_default.not-Ok c.run_plan.ensures.unplanned (ap (λ (o : RunOptions). o.halts) c.in-Ok.ensures.planned.given ∙ none))

pub returns-clause-ends : goal.returns-clause-ends
returns-clause-ends g c =
    run_reported c.args.options _ _ _ _ _ c.in-Ok.plan c.in-Ok-run_plan.ran c.in-Ok.ensures.planned c.in-Ok-run_plan.ensures.ran c.in-Ok.ensures.must c.report.ensures.reported

pub run_plan-requires-clause-one_key : goal.run_plan-requires-clause-one_key
run_plan-requires-clause-one_key g c κs within = have_one_key c.in-Ok.plan.traces c.in-Ok.ensures.planned.format

pub returns-in-Err-clause-gates : goal.returns-in-Err-clause-gates
returns-in-Err-clause-gates g c = none_own _ _ c.refuse.result _ _ _ c.refuse.ensures.none

pub returns-in_default-clause-gates : goal.returns-in_default-clause-gates
returns-in_default-clause-gates g c = none_own _ _ c.refuse-in_default.result _ _ _ c.refuse-in_default.ensures.none

pub returns-clause-gates : goal.returns-clause-gates
returns-clause-gates g c =
    reported_own _ _ _ _ c.in-Ok.plan c.args.options c.in-Ok.ensures.planned.given c.in-Ok-run_plan.ran c.in-Ok-run_plan.ensures.gates _ _ _ _ c.report.ensures.reported
