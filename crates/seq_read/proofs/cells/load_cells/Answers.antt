use Rattle.std.proofs.Common.{subst}
use Rattle.seq_read.specs.Parts.{MayLoad}
use Rattle.seq_read.specs.View.{steps_in}
use Rattle.seq_read.proofs.cells.load_cells.Goals as goal

pub load_written-requires-clause-may : goal.load_written-requires-clause-may
load_written-requires-clause-may g c κs within =
    let e = c.requires.may in (
      e.0,
      e.1,
      e.2,
      e.3,
      e.4,
      subst (λ b. MayLoad (g.S.Structure.meaning c.args.table.now.structure) e.0 e.1 (steps_in b) e.2 e.3 e.4 c.args.runner) c.in-Written.is e.5,
    )

pub load_glanced-requires-clause-may : goal.load_glanced-requires-clause-may
load_glanced-requires-clause-may g c κs within =
    let e = c.requires.may in (
      e.0,
      e.1,
      e.2,
      e.3,
      e.4,
      subst (λ b. MayLoad (g.S.Structure.meaning c.args.table.now.structure) e.0 e.1 (steps_in b) e.2 e.3 e.4 c.args.runner) c.in-Glanced.is e.5,
    )
