use Rattle.trace_reader.proofs.Exact.{exact_told}
use Rattle.trace_reader.proofs.read.read_traces.Goals as goal

pub returns-clause-exact : goal.returns-clause-exact
returns-clause-exact g c = λ steady. exact_told _ c.read_pieces.result c.read_pieces.ensures.answer (λ is. steady (c.read_pieces.ensures.fault is))
