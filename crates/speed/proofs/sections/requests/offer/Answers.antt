use Rattle.std.proofs.Common.{ap, sym, ◌∙◌, refl, arith}
use Rattle.speed.proofs.Whole.{may_publish, may_run}
use Rattle.speed.proofs.sections.requests.offer.Goals as goal

pub publish-worker-requires-clause-publishable : goal.publish-worker-requires-clause-publishable
publish-worker-requires-clause-publishable c κs =
    let low = c.if-version-layout.false in let version = c.version.ensures in let most = ap (λ l. l.version_max) c.layout.ensures in let some = (c.requires.own.limits _ refl).some_versions in
    may_publish c.args.table.now c.args.worker (record { form = 101; request = c.args.request; lock = 0; word = c.args.word; operands = _ }) c.requires.own c.requires.scene c.args.request c.requires.few c.requires.read refl refl
    (sym c.value.ensures ∙ c.if-value-ne0.false) (omega (arith, low, version, most, some))

pub returns-in-Ok-clause-published : goal.returns-in-Ok-clause-published
returns-in-Ok-clause-published c =
    let low = c.if-version-layout.false in let version = c.version.ensures in let most = ap (λ l. l.version_max) c.layout.ensures in let some = (c.requires.own.limits _ refl).some_versions in
    may_run c.args.worker c.publish-worker.result.0 _ c.publish-worker.result.1 c.args.request c.requires.read refl c.publish-worker.ensures.publishes
    (may_publish c.args.table.now c.args.worker (record { form = 101; request = c.args.request; lock = 0; word = c.args.word; operands = _ }) c.requires.own c.requires.scene c.args.request c.requires.few c.requires.read refl refl
    (sym c.value.ensures ∙ c.if-value-ne0.false) (omega (arith, low, version, most, some)))
    c.in-Ok.section c.in-Ok.is
