use Rattle.std.proofs.Common.{sym, ap, ◌∙◌}
use Rattle.runner_steps.specs.runner_parts.specs.declared.event.EventKind.{EventKind}
use Rattle.runner_steps.specs.Asks.{outside_ask}
use Rattle.runner_asks.proofs.enabled.outside_ask.Goals as goal

pub returns-in-Hold : goal.returns-in-Hold
returns-in-Hold g c =
    c.hold_ask.ensures ∙ ap (λ (k : EventKind). outside_ask (g.S.Structure.meaning c.args.structure.now) c.args.layout c.args.requests.now c.args.runner k c.args.part.now) (sym c.in-Hold.is)

pub returns-in-ReadPlan : goal.returns-in-ReadPlan
returns-in-ReadPlan g c =
    c.read_plan_ask.ensures ∙ ap (λ (k : EventKind). outside_ask (g.S.Structure.meaning c.args.structure.now) c.args.layout c.args.requests.now c.args.runner k c.args.part.now) (sym c.in-ReadPlan.is)
