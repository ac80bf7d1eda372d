use Rattle.std.specs.Prelude.{◌≡◌, true, take}
use Rattle.idem_alloc.specs.commit_log.specs.version_words.specs.TableState.{IsOf}
use Rattle.idem_alloc.specs.commit_log.specs.Asked.{IsAsked}
use Rattle.section_runs.specs.Opened.{IsOpening}
use Rattle.section_runs.proofs.opens.load_words.Given as goal

abbrev pub invariant-loop-index : goal.invariant-loop-index
invariant-loop-index g l = record {
  own : IsOf l.table l.runner;
  opening : IsOpening (g.S.Structure.meaning l.table.structure) l.index l.descriptor (take l.index l.words) l.fn.runner l.runner;
  uncounted : l.steps.count ≡ l.fn.steps.count;
  asked : IsAsked l.index true (g.G.Gate.halts l.fn.gate) (g.G.Gate.halts l.gate) (g.G.Gate.asks l.fn.gate) (g.G.Gate.asks l.gate) 0 l.made.count;
}
