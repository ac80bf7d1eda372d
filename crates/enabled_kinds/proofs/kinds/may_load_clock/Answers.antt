use Rattle.std.specs.Prelude.{◌||◌}
use Rattle.std.proofs.Common.{Bool, sym, subst}
use Rattle.enabled_kinds.specs.May.{Tells}
use Rattle.enabled_kinds.proofs.Tells.{clock_tells}
use Rattle.enabled_kinds.proofs.kinds.may_load_clock.Goals as goal

pub returns : goal.returns
returns g c =
    subst (λ (b : Bool). Tells (g.S.Structure.meaning c.args.structure.now) c.args.layout c.args.requests.now c.args.runner c.args.part.now 21 b) (λ i. sym c.may-inside.ensures i || sym c.may-outside.ensures i)
    (clock_tells (g.S.Structure.meaning c.args.structure.now) c.args.layout c.args.requests.now c.args.runner c.args.part.now)
