use Rattle.std.specs.Prelude.{◌==◌}
use Rattle.trace_reader.proofs.Pieces.{first_is}
use Rattle.report_check.proofs.parts.find_feed.Goals as goal

pub returns : goal.returns
returns c = first_is (λ byte. byte == 10) c.args.bytes.now _ c.memchr.ensures
