use Rattle.std.proofs.Common.{refl, ap, ◌∙◌, subst}
use Rattle.flock_tool.specs.End.{stop_line, stop_status}
use Rattle.flock_tool.specs.Streams.{Told, stream}
use Rattle.flock_tool.specs.declared.status.Stop.{Stop}
use Rattle.flock_tool.proofs.Ends.{error_is, not_both}
use Rattle.flock_tool.proofs.GenPrinting.{gen_done, gen_stopped, in_range}
use Rattle.flock_tool.proofs.generation.gen_command.Goals as goal

pub print_generated-requires : goal.print_generated-requires
print_generated-requires g c = in_range c.args.plan.now c.requires

pub returns-in-Ok : goal.returns-in-Ok
returns-in-Ok g c =
    gen_done c.args.plan.now _ _ c.in-Ok.ensures.done c.in-Ok.ensures.read c.in-Ok.ensures.steady (record { same = refl; steady = refl })
    (λ much. not_both _ _ (c.in-Ok.ensures.limit much))

pub returns-in-Err : goal.returns-in-Err
returns-in-Err g c =
    gen_stopped c.args.plan.now c.in-Err.error c.status_of.result _ _ c.in-Err.ensures.stops (c.status_of.ensures ∙ ap stop_status c.stop_of_print-stop.ensures)
    (subst (λ (s : Stop). Told (stop_line s) (stream (g.F.Sink.held c.args.faults.now) (g.F.Sink.held c.tell.new.faults) (g.F.Sink.faults c.args.faults.now) (g.F.Sink.faults c.tell.new.faults)))
    c.stop_of_print-stop.ensures c.tell.ensures)
    (λ much. error_is _ _ (c.in-Err.ensures.limit much))
