use Rattle.std.proofs.Common.{Err, ap, refl}
use Rattle.flock_tool.proofs.CheckPrinting.{check_judged, check_unchecked, ok_err}
use Rattle.flock_tool.proofs.Ends.{error_is}
use Rattle.flock_tool.proofs.checking.check_command.Goals as goal

pub returns-in-Ok : goal.returns-in-Ok
returns-in-Ok g c =
    check_judged c.in-Ok.verdict c.print_verdict.result _ _ _ c.in-Ok.ensures.answer c.in-Ok.ensures.exact (c.in-Ok.ensures.steady (λ is. ok_err _ _ is))
    c.print_verdict.ensures.status c.print_verdict.ensures.said

pub returns-in-Err : goal.returns-in-Err
returns-in-Err g c =
    check_unchecked c.in-Err.error c.status_of_unchecked.result _ _ _ c.status_of_unchecked.ensures c.tell_unchecked.ensures (record { same = refl; steady = refl })
    c.in-Err.ensures.answer c.in-Err.ensures.exact (λ is. c.in-Err.ensures.fault (ap Err is)) (λ is. c.in-Err.ensures.first (ap Err is)) (λ other. c.in-Err.ensures.steady (λ is. other (error_is _ _ is)))
