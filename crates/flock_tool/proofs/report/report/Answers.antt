use Rattle.std.proofs.Common.{inl, subst, IfErr}
use Rattle.flock_tool.specs.Runs.{words_in, meaning_of, StopsReport}
use Rattle.flock_tool.specs.Streams.{stream}
use Rattle.flock_tool.proofs.Reporting.{ended_part, ended_whole}
use Rattle.flock_tool.proofs.report.report.Goals as goal

pub returns-in-Ok : goal.returns-in-Ok
returns-in-Ok g c = record {
  reported = inl (
      ended_whole c.args.ran c.args.plan.now.traces.count _ c.in-Ok.unserved c.tell_run-status.result _ _ c.run_is_allowed.ensures.limits c.run_is_allowed.ensures.requests
      c.requires.served c.tell_run-status.ensures.status c.in-Ok.ensures.prints c.tell_run-status.ensures.told c.in-Ok.ensures.steady
      );
}

pub returns-in-Err-WriteFault : goal.returns-in-Err-WriteFault
returns-in-Err-WriteFault g c =
    let sink = stream (g.K.Sink.held c.args.sink.now) (g.K.Sink.held c.print_run-printed.new.sink) (g.K.Sink.faults c.args.sink.now) (g.K.Sink.faults c.print_run-printed.new.sink) in
    let stops = subst (λ printed. IfErr printed (λ stop. StopsReport (meaning_of c.args.ran) (words_in c.args.ran) c.args.plan.now.traces.count stop sink))
    c.in-Err-WriteFault.is c.print_run-printed.ensures.stops in
    let fault = subst (λ stop. StopsReport (meaning_of c.args.ran) (words_in c.args.ran) c.args.plan.now.traces.count stop sink) (rw c.in-Err-WriteFault.is at c.in-Err-WriteFault.field-0-is) stops in record {
      reported = inl (ended_part c.args.ran c.args.plan.now.traces.count _ c.status_of.result _ _ c.run_is_allowed.ensures.limits c.run_is_allowed.ensures.requests
          c.requires.served c.status_of.ensures fault c.tell.ensures);
    }
