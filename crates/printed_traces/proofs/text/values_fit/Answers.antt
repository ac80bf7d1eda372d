use Rattle.map_history.specs.declared.op.Op.TheVariants.{Get}
use Rattle.printed_traces.proofs.Texts.{value_more}
use Rattle.printed_traces.proofs.text.values_fit.Goals as goal

pub loop-request-preserved : goal.loop-request-preserved
loop-request-preserved c =
    value_more c.args.requests.now c.loop-request.request-index c.loop-request-test.true c.loop-request.invariant (record { trace = 0; number = 0; op = Get 0 }) c.value_fits.ensures
