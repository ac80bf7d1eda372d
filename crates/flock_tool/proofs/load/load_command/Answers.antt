use Rattle.std.proofs.Common.{refl, ap, ◌∙◌, arith}
use Rattle.command_line.specs.declared.options.RunOptions.{RunOptions}
use Rattle.flock_tool.specs.declared.status.Stop.TheVariants.{Text}
use Rattle.command_line.specs.trace_reader.specs.declared.traces.TraceError.TheVariants.{Memory}
use Rattle.flock_tool.proofs.Ends.{not_both}
use Rattle.flock_tool.proofs.Giving.{not_ok}
use Rattle.flock_tool.proofs.Loading.{load_loaded, load_refused}
use Rattle.flock_tool.proofs.Owned.{loaded_own, none_own}
use Rattle.flock_tool.proofs.OneKeyed.{generated_have_one_key}
use Rattle.flock_tool.proofs.load.load_command.Goals as goal

pub returns-in-Err-clause-runs : goal.returns-in-Err-clause-runs
returns-in-Err-clause-runs g c =
    load_refused c.args.load _ _ _ _ c.in-Err.stop c.in-Err.ensures.refused c.refuse.ensures.status c.refuse.ensures.none c.refuse.ensures.told
    (record { same = refl; steady = refl }) (λ _. record { returned = refl; halts = refl; asks = refl; plans = refl; planned = refl }) (λ _. refl)

pub returns-in_default-clause-runs : goal.returns-in_default-clause-runs
returns-in_default-clause-runs g c =
    load_refused c.args.load _ _ _ _ (Text Memory) tt c.refuse-in_default.ensures.status c.refuse-in_default.ensures.none c.refuse-in_default.ensures.told
    (record { same = refl; steady = refl }) (λ four. absurd (omega (arith, four, c.refuse-in_default.ensures.status)))
    (λ none. not_ok _ c.run_plan.result c.in_default.not-Ok c.run_plan.ensures.unplanned (ap (λ (o : RunOptions). o.halts) c.in-Ok.ensures.planned.given ∙ none))

pub returns-clause-runs : goal.returns-clause-runs
returns-clause-runs g c =
    load_loaded c.args.load _ _ _ _ c.in-Ok.plan c.in-Ok-run_plan.ran c.in-Ok.ensures.planned c.requires.apart c.in-Ok-run_plan.ensures.ran
    (λ much. not_both _ _ (c.in-Ok.ensures.must much)) c.report_load.ensures

pub run_plan-requires-clause-one_key : goal.run_plan-requires-clause-one_key
run_plan-requires-clause-one_key g c κs within = λ _. generated_have_one_key c.in-Ok.plan.traces.requests c.in-Ok.ensures.planned.format

pub run_plan-requires-clause-served : goal.run_plan-requires-clause-served
run_plan-requires-clause-served g c κs within = λ is_for. absurd (omega (arith, is_for.0, c.in-Ok.ensures.planned.header))

pub returns-in-Err-clause-gates : goal.returns-in-Err-clause-gates
returns-in-Err-clause-gates g c = none_own _ _ c.refuse.result _ _ _ c.refuse.ensures.none

pub returns-in_default-clause-gates : goal.returns-in_default-clause-gates
returns-in_default-clause-gates g c = none_own _ _ c.refuse-in_default.result _ _ _ c.refuse-in_default.ensures.none

pub returns-clause-gates : goal.returns-clause-gates
returns-clause-gates g c =
    loaded_own _ _ _ _ c.in-Ok.plan c.args.load.run c.in-Ok.ensures.planned.given c.in-Ok-run_plan.ran c.in-Ok-run_plan.ensures.gates _ _ _ c.report_load.ensures
