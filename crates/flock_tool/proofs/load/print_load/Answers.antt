use Rattle.std.proofs.Common.{length, refl, sym, ap, ◌∙◌}
use Rattle.flock_tool.proofs.Counting.{loaded_other, loaded_part, loaded_whole}
use Rattle.flock_tool.proofs.load.print_load.Goals as goal

pub returns-then-not-is_whole : goal.returns-then-not-is_whole
returns-then-not-is_whole g c =
    loaded_other c.args.ran (length c.args.plan.now.traces.requests) c.args.counted.now c.finish_of_run-finish.result c.finish_of_run-finish.ensures c.requires.counted (ap length (sym c.requires.requests))
    c.requires.limits c.requires.allowed _ c.requires.served c.status_of_finish.result _ _ (sym c.is_whole.ensures ∙ c.if-not-is_whole.true) c.status_of_finish.ensures (record { same = refl; steady = refl })
    c.tell_finish.ensures

pub returns-in-Ok : goal.returns-in-Ok
returns-in-Ok g c =
    loaded_whole c.args.ran c.len-requests.result c.args.counted.now c.finish_of_run-finish.result c.finish_of_run-finish.ensures c.requires.counted (c.len-requests.ensures ∙ ap length (sym c.requires.requests))
    c.requires.limits c.requires.allowed _ c.requires.served _ _ (sym c.is_whole.ensures ∙ c.if-not-is_whole.false) c.in-Ok.ensures.printed c.in-Ok.ensures.steady
    (record { same = refl; steady = refl })

pub returns-in-Err : goal.returns-in-Err
returns-in-Err g c =
    loaded_part c.args.ran c.len-requests.result c.args.counted.now c.finish_of_run-finish.result c.finish_of_run-finish.ensures c.requires.counted (c.len-requests.ensures ∙ ap length (sym c.requires.requests))
    c.requires.limits c.requires.allowed _ c.requires.served c.status_of.result _ _ c.status_of.ensures (sym c.is_whole.ensures ∙ c.if-not-is_whole.false) c.in-Err.ensures.in_part c.in-Err.ensures.cause c.tell.ensures
