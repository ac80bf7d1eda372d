use Rattle.std.proofs.Common.{List}
use Rattle.caller_facts.specs.version_words.specs.TableState.{IsOf}
use Rattle.seq_read.specs.Parts.{HasCells}
use Rattle.seq_read.specs.Wants.{IsTested}
use Rattle.seq_read.specs.declared.cells.Loaded.{Loaded}
use Rattle.seq_read.proofs.cells.load_written.Given as goal

abbrev pub invariant-loop-n : goal.invariant-loop-n
invariant-loop-n g l = record {
  own : IsOf l.table l.runner;
  cells : (xs : List Loaded) × IsTested l.body xs l.missed
      × HasCells (g.S.Structure.meaning l.table.structure) l.body l.n xs l.fn.runner l.runner
      (g.G.Gate.halts l.fn.gate) (g.G.Gate.halts l.gate) (g.G.Gate.asks l.fn.gate) (g.G.Gate.asks l.gate) l.fn.steps.count l.steps.count;
}
