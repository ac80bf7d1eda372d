use Rattle.std.proofs.Common.{sym, subst}
use Rattle.seq_read.specs.caller_facts.specs.Counted.{IsSeen}
use Rattle.free_serving.specs.Freely.{ServesAll}
use Rattle.free_serving.proofs.Plain.{plain_serving}
use Rattle.free_serving.proofs.serves_freely.serve_freely.Goals as goal

pub returns-else-reads_free-clause-serves : goal.returns-else-reads_free-clause-serves
returns-else-reads_free-clause-serves g c =
    let m = g.S.Structure.meaning c.args.table.now.structure in
    let planning = g.S.Planner.planning c.args.table.now.structure in
    subst (λ b. ServesAll m planning c.args.retry_short b c.args.requests.now c.serve.result.1 c.args.runner c.serve.result.0 (IsSeen g.G.Gate.halts g.G.Gate.asks) (g.G.Gate.halts c.args.gate.now) (g.G.Gate.asks c.args.gate.now) (g.G.Gate.asks c.serve.new.gate) c.args.steps.now.count c.serve.new.steps.count)
    (sym c.if-reads_free.false)
    (plain_serving m planning c.args.retry_short c.args.requests.now c.args.runner c.serve.result.0 c.serve.result.1 (IsSeen g.G.Gate.halts g.G.Gate.asks) _ _ _ _ _ c.serve.ensures.serves)
