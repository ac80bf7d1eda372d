use Rattle.std.proofs.Common.{◌∙◌, sym}
use Rattle.lock_walks.proofs.Planning.{tells_here, cut, refused, refused_owns, whole, whole_owns}
use Rattle.lock_walks.proofs.plans.plan_by.Goals as goal

pub returns-then-not-going-clause-plans : goal.returns-then-not-going-clause-plans
returns-then-not-going-clause-plans g c =
    cut (g.S.Structure.meaning c.args.table.now.structure) g.W.Walker.way c.args.table.now c.args.walker c.requires.leads c.args.runner c.requires.own c.args.request.now c.requires.op _ _ _ _ _ _ _ _ _ _ _
    c.lead-runner.ensures.led c.if-not-going.true

pub returns-then-is_refused-clause-plans : goal.returns-then-is_refused-clause-plans
returns-then-is_refused-clause-plans g c =
    refused (g.S.Structure.meaning c.args.table.now.structure) g.W.Walker.way c.args.table.now c.args.walker c.requires.leads c.args.runner c.requires.own c.args.request.now c.requires.op _ _ _ _ _ _ _ _ _ _ _
    c.lead-runner.ensures.led c.if-not-going.false (sym c.is_refused.ensures ∙ c.if-is_refused.true) c.refusal-refused.result
    (tells_here g.S.Structure.meaning (g.W.Walker.way.planning c.lead-runner.new.walker) (g.W.Walker.way.op c.args.walker) c.lead-runner.result.1 c.lead-runner.result.2 c.refusal-refused.result
    c.structure.result.now c.args.table.now.structure c.structure.ensures c.layout.result c.args.table.now.layout c.layout.ensures
    (c.refusal-refused.ensures (g.W.Walker.way.op c.args.walker)))

pub returns-clause-plans : goal.returns-clause-plans
returns-clause-plans g c =
    whole (g.S.Structure.meaning c.args.table.now.structure) g.W.Walker.way c.args.table.now c.args.walker c.requires.leads c.args.runner c.requires.own c.args.request.now c.requires.op _ _ _ _ _ _ _ _ _ _ _
    c.lead-runner.ensures.led c.if-not-going.false (sym c.is_refused.ensures ∙ c.if-is_refused.false) c.thunk.result c.thunk.ensures

pub returns-then-is_refused-clause-own_thunk : goal.returns-then-is_refused-clause-own_thunk
returns-then-is_refused-clause-own_thunk g c =
    refused_owns (g.S.Structure.meaning c.args.table.now.structure) g.W.Walker.way c.args.table.now c.args.walker c.requires.leads c.args.runner c.requires.own c.args.request.now c.requires.op _ _ _ _ _ _ _ _ _ _ _
    c.lead-runner.ensures.led c.if-not-going.false (sym c.is_refused.ensures ∙ c.if-is_refused.true) c.refusal-refused.result
    (tells_here g.S.Structure.meaning (g.W.Walker.way.planning c.lead-runner.new.walker) (g.W.Walker.way.op c.args.walker) c.lead-runner.result.1 c.lead-runner.result.2 c.refusal-refused.result
    c.structure.result.now c.args.table.now.structure c.structure.ensures c.layout.result c.args.table.now.layout c.layout.ensures
    (c.refusal-refused.ensures (g.W.Walker.way.op c.args.walker)))
    c.lead-runner.result.0.part.reads.walk

pub returns-clause-own_thunk : goal.returns-clause-own_thunk
returns-clause-own_thunk g c =
    whole_owns (g.S.Structure.meaning c.args.table.now.structure) g.W.Walker.way c.args.table.now c.args.walker c.requires.leads c.args.runner c.requires.own c.args.request.now c.requires.op _ _ _ _ _ _ _ _ _ _ _
    c.lead-runner.ensures.led c.requires.entered c.thunk.result c.thunk.ensures
