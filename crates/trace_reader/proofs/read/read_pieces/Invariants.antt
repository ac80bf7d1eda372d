use Rattle.std.proofs.Common.{◌≡◌, ◌-◌, ℕ, List}
use Rattle.trace_reader.specs.Source.{Moves}
use Rattle.trace_reader.specs.Reader.{StandsAt}
use Rattle.trace_reader.proofs.read.read_pieces.Given as goal

abbrev pub invariant-loop-reader : goal.invariant-loop-reader
invariant-loop-reader g l = record {
  read : (text : List ℕ) × (StandsAt l.reader text × Moves (g.R.Source.left l.fn.source) text (g.R.Source.left l.source));
  steady : g.R.Source.faults l.source ≡ g.R.Source.faults l.fn.source;
}

abbrev pub decreases-loop-reader : goal.decreases-loop-reader
decreases-loop-reader g l = 4194305 - l.reader.bytes
