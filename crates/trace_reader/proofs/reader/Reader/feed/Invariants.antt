use Rattle.std.proofs.Common.{◌≡◌, ◌+◌, ◌++◌, ℕ, List, length}
use Rattle.trace_reader.specs.Reader.{StandsAt}
use Rattle.trace_reader.proofs.reader.Reader.feed.Given as goal

abbrev pub invariant-loop-end : goal.invariant-loop-end
invariant-loop-end l = record {
  read : (front : List ℕ) × ((front ++ l.rest ≡ l.piece)
      × (((text : List ℕ) → StandsAt l.fn.self text → StandsAt l.self (text ++ front)) × (l.self.bytes ≡ l.fn.self.bytes + length front)));
}

abbrev pub decreases-loop-end : goal.decreases-loop-end
decreases-loop-end l = length l.rest
