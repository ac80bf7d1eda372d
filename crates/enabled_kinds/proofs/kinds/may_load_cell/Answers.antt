use Rattle.std.specs.Prelude.{◌||◌}
use Rattle.std.proofs.Common.{Bool, sym, subst}
use Rattle.enabled_kinds.specs.May.{Tells}
use Rattle.enabled_kinds.proofs.Tells.{cell_tells}
use Rattle.enabled_kinds.proofs.kinds.may_load_cell.Goals as goal

pub returns : goal.returns
returns g c =
    let outside = c.may_walk-outside.result in
    subst (λ (b : Bool). Tells (g.S.Structure.meaning c.args.structure.now) c.args.layout c.args.requests.now c.args.runner c.args.part.now 9 (b || outside)) (sym c.may-inside.ensures)
    (cell_tells (g.S.Structure.meaning c.args.structure.now) c.args.layout c.args.requests.now c.args.runner c.args.part.now outside c.may_walk-outside.ensures.found c.may_walk-outside.ensures.missed)
