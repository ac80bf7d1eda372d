use Rattle.std.proofs.Common.{◌≡◌}
use Rattle.std.specs.Prelude.{map}
use Rattle.body_terms.specs.Line.{registers_before, source_of}
use Rattle.body_terms.specs.Run.{source_value}
use Rattle.body_terms.specs.Act.{filled}
use Rattle.section_body.proofs.act.fill_slot.Given as goal

abbrev pub invariant-loop-cell : goal.invariant-loop-cell
invariant-loop-cell l =
    let values = map (λ value. source_value l.trail.words (source_of (registers_before l.steps l.n) value)) l.init.cells in
    l.memory ≡ record l.initial.memory { cells = filled l.initial.memory.fixed_cells l.slot values l.initial.memory.cells l.cell }
