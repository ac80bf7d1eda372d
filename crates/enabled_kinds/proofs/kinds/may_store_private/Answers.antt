use Rattle.std.specs.Prelude.{◌||◌}
use Rattle.std.proofs.Common.{Bool, sym, ap, subst, ◌∙◌, Option}
use Rattle.machine_states.specs.runner_parts.specs.declared.event.EventKind.{EventKind}
use Rattle.enabled_kinds.specs.May.{Tells, is_enabled_if}
use Rattle.enabled_kinds.proofs.Private.{store_tells}
use Rattle.enabled_kinds.proofs.kinds.may_store_private.Goals as goal

pub returns : goal.returns
returns g c =
    let inside = c.may_if-inside.ensures ∙ ap (λ (k : Option EventKind). is_enabled_if (g.S.Structure.meaning c.args.structure.now) c.args.layout c.args.requests.now c.args.runner c.args.part.now k) c.made_store-made.ensures in
    subst (λ (b : Bool). Tells (g.S.Structure.meaning c.args.structure.now) c.args.layout c.args.requests.now c.args.runner c.args.part.now 12 b) (λ i. sym c.may_prepare-descriptor.ensures i || (sym c.may_empty-block.ensures i || sym inside i))
    (store_tells (g.S.Structure.meaning c.args.structure.now) c.args.layout c.args.requests.now c.args.runner c.args.part.now)
