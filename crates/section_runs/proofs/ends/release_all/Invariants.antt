use Rattle.std.specs.Prelude.{take, count_by}
use Rattle.idem_cell.specs.machine_states.specs.body_terms.specs.Shape.{is_take}
use Rattle.idem_alloc.specs.commit_log.specs.version_words.specs.TableState.{IsOf}
use Rattle.idem_alloc.specs.commit_log.specs.Halted.{IsThrough}
use Rattle.section_runs.specs.Ends.{IsEnding, EndsOn}
use Rattle.section_runs.proofs.ends.release_all.Given as goal

abbrev pub invariant-loop-n : goal.invariant-loop-n
invariant-loop-n g l = record {
  own : IsOf l.table l.runner;
  ending : IsEnding (g.S.Structure.meaning l.table.structure) l.taken l.n l.runner;
  same : EndsOn (g.S.Structure.meaning l.table.structure) l.fn.runner l.runner;
  through : IsThrough (g.S.Structure.meaning l.table.structure) (count_by is_take (take l.n l.body)) l.fn.runner l.runner (g.G.Gate.halts l.fn.gate) (g.G.Gate.halts l.gate) (g.G.Gate.asks l.fn.gate) (g.G.Gate.asks l.gate) l.fn.steps.count l.steps.count;
}
