use Rattle.std.proofs.Common.{sym, subst}
use Rattle.key_cells.specs.Keyed.{keyed}
use Rattle.lock_walks.specs.Way.{Leads}
use Rattle.fixed_walks.specs.Keys.{key_course}
use Rattle.fixed_walks.specs.Walk.{fixed_way}
use Rattle.fixed_walks.proofs.KeySuits.{key_suits}
use Rattle.fixed_walks.proofs.Leading.{leads}
use Rattle.fixed_walks.proofs.keys.key_walk.Goals as goal

pub returns-clause-leads : goal.returns-clause-leads
returns-clause-leads g c =
    let met = g.met.C.KeyCells in
    let cells = c.args.cells in
    subst (λ walk. Leads (fixed_way (λ (x : g.row.C.Denot). key_course (g.C.KeyCells.keyed x))) (keyed (g.C.KeyCells.keyed cells)) c.args.layout walk) (sym c.new.ensures)
    (leads (λ (x : g.row.C.Denot). key_course (g.C.KeyCells.keyed x)) (keyed (g.C.KeyCells.keyed cells)) c.args.layout _ c.args.op
    (key_suits (g.C.KeyCells.keyed cells) (met.lawful cells) c.args.layout c.args.op c.requires.served))
