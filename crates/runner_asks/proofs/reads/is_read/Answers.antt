use Rattle.std.proofs.Common.{◌≡◌, ◌∙◌}
use Rattle.runner_steps.specs.Reads.{is_fit}
use Rattle.runner_asks.proofs.reads.is_read.Goals as goal

pub returns : goal.returns
returns g c =
    let known : c.deref.result.now ≡ c.args.records.now.known = cc in
    let walk : c.deref-2.result.now ≡ c.args.reads.now.walk = cc in
    c.is_fit.ensures
    ∙ (λ i. is_fit (g.S.Structure.meaning c.args.structure.now) c.args.layout c.args.requests.now c.args.runner c.args.look.now (known i) (walk i))
