use Rattle.std.proofs.Common.{Some, refl}
use Rattle.trace_reader.proofs.Written.{request_at}
use Rattle.trace_reader.proofs.plain.plain_request.Goals as goal

pub returns : goal.returns
returns c = request_at (Some c.args.format) c.args.bytes.now c.in_ok-op.op c.in_ok-op.rest.now _ c.in_ok-op.ensures refl
