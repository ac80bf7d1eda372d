use Rattle.std.proofs.Common.{◌≡◌, sym, ◌∙◌}
use Rattle.runner_steps.specs.Reads.{is_fit, only_reads, has_come}
use Rattle.runner_asks.proofs.Loads.{both_hold}
use Rattle.runner_asks.proofs.reads.may_reply.Goals as goal

pub returns : goal.returns
returns g c =
    let known : c.part.inside.records.known ≡ c.args.part.now.records.known = cc in
    let walk : c.part.inside.reads.walk ≡ c.args.part.now.reads.walk = cc in
    c.is_read.ensures
    ∙ ((λ i. is_fit (g.S.Structure.meaning c.args.structure.now) c.args.layout c.args.requests.now c.args.runner c.args.look.now (known i) (walk i))
    ∙ sym (both_hold (only_reads c.args.part.now) (has_come c.args.part.now c.args.look.now) _
    (sym c.only_reads.ensures ∙ c.if-not-only_reads.false)
    (sym c.has_come.ensures ∙ c.if-not-has_come.false)))
