use Rattle.trace_reader.proofs.Printing.{printed_read}
use Rattle.trace_reader.proofs.printed.printed_text_is_read.Goals as goal

pub returns : goal.returns
returns c = printed_read
