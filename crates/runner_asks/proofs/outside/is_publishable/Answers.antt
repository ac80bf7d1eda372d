use Rattle.std.proofs.Common.{◌≡◌, sym, ◌∙◌}
use Rattle.std.specs.Prelude.{not, is_none}
use Rattle.runner_steps.specs.runner_parts.specs.Tests.{is_walking, is_between, is_open}
use Rattle.runner_steps.specs.Outside.{is_due}
use Rattle.runner_asks.proofs.Loads.{three_hold}
use Rattle.runner_asks.proofs.outside.is_publishable.Goals as goal

pub returns : goal.returns
returns g c =
    let p = c.args.part.now in
    let known : c.part.inside.records.known ≡ c.args.part.now.records.known = cc in
    let walk : c.part.inside.reads.walk ≡ c.args.part.now.reads.walk = cc in
    let cells : c.part.inside.reads.cells ≡ c.args.part.now.reads.cells = cc in
    c.is_due.ensures
    ∙ ((λ i. is_due (g.S.Structure.meaning c.args.structure.now) c.args.layout c.args.requests.now c.args.runner (known i) (walk i) c.args.thunk.now)
    ∙ sym (three_hold (is_walking p.stage p.run) (is_none p.published) (not (is_between p.reads.look)) (is_open c.args.layout p.reads.cells c.args.thunk.now) _
    (sym c.may_begin.ensures ∙ c.if-not-may_begin.false)
    ((λ i. is_open c.args.layout (sym cells i) c.args.thunk.now) ∙ (sym c.is_read_open.ensures ∙ c.if-not-is_read_open.false))))
