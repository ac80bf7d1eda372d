use Rattle.std.specs.Prelude.{◌||◌}
use Rattle.std.proofs.Common.{◌≡◌, Bool, sym, ap, subst, ◌∙◌, Option}
use Rattle.machine_states.specs.runner_parts.specs.declared.event.EventKind.{EventKind}
use Rattle.enabled_kinds.specs.May.{Tells, is_enabled_if}
use Rattle.enabled_kinds.specs.Tried.{made_load}
use Rattle.enabled_kinds.proofs.Private.{load_tells}
use Rattle.enabled_kinds.proofs.kinds.may_load_private.Goals as goal

pub returns : goal.returns
returns g c =
    let m = g.S.Structure.meaning c.args.structure.now in
    let p = c.args.part.now in
    let inside : c.may_if-inside.result ≡ is_enabled_if (g.S.Structure.meaning c.args.structure.now) c.args.layout c.args.requests.now c.args.runner c.args.part.now (made_load m p.nodes.free p.run) =
    c.may_if-inside.ensures ∙ ap (λ (k : Option EventKind). is_enabled_if (g.S.Structure.meaning c.args.structure.now) c.args.layout c.args.requests.now c.args.runner c.args.part.now k) c.made_load-made.ensures in
    subst (λ (b : Bool). Tells (g.S.Structure.meaning c.args.structure.now) c.args.layout c.args.requests.now c.args.runner c.args.part.now 11 b) (λ i. sym c.may_look_free-free.ensures i || (sym c.may_look_hand-hand.ensures i || (sym c.may_reread-descriptor.ensures i || (sym c.may_reread_block-block.ensures i || sym inside i))))
    (load_tells (g.S.Structure.meaning c.args.structure.now) c.args.layout c.args.requests.now c.args.runner c.args.part.now)
