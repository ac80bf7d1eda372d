use Rattle.machine_states.specs.map_history.specs.declared.op.Op.TheVariants.{Get}
use Rattle.version_words.proofs.Bounds.{one_more}
use Rattle.version_words.proofs.seats.values_fit.Goals as goal

pub loop-request-preserved : goal.loop-request-preserved
loop-request-preserved c = one_more c.args.requests.now c.loop-request.request-index c.loop-request-test.true c.loop-request.invariant (record { trace = 0; number = 0; op = Get 0 }) c.value_fits.ensures
