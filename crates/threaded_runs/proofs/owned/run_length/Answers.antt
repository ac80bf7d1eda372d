use Rattle.std.proofs.Common.{◌≡◌, arith}
use Rattle.std.proofs.lemmas.List.Elements.{All-more}
use Rattle.machine_states.specs.map_history.specs.declared.op.Op.TheVariants.{Get}
use Rattle.machine_states.specs.map_history.specs.declared.op.Request.{Request}
use Rattle.threaded_runs.proofs.owned.run_length.Goals as goal

pub loop-len-preserved : goal.loop-len-preserved
loop-len-preserved c = record {
  within = omega arith;
  same = All-more (λ (request : Request). request.trace ≡ c.args.trace) c.args.requests.now c.loop-len.len (record { trace = 0; number = 0; op = Get 0 })
      c.loop-len-test.true c.loop-len.invariant.same c.if-requests-len.true;
}
