use Rattle.std.proofs.Common.{ap, sym, subst, ◌∙◌, refl, arith}
use Rattle.machine_states.specs.structure_laws.specs.Tray.{tray}
use Rattle.lock_tests.specs.Workers.{MayRun}
use Rattle.lock_tests.proofs.Offering.{may_publish, may_run, same_section}
use Rattle.lock_tests.proofs.scenes.offer.Goals as goal

pub publish-runner-requires-clause-publishable : goal.publish-runner-requires-clause-publishable
publish-runner-requires-clause-publishable c κs =
    let low = c.if-version-layout.false in let version = c.version.ensures in let most = ap (λ l. l.version_max) c.layout.ensures in let some = (c.requires.own.limits _ refl).some_versions in
    may_publish c.args.table.now c.args.runner (record { form = c.args.form; request = c.number.result; lock = 0; word = c.args.word; operands = _ }) c.requires.own c.requires.scene c.requires.worker c.requires.read c.number.ensures refl
    (sym c.value.ensures ∙ c.if-value-ne0.false) (omega (arith, low, version, most, some))

pub returns-in-Ok-clause-published : goal.returns-in-Ok-clause-published
returns-in-Ok-clause-published c = λ section same.
    let low = c.if-version-layout.false in let version = c.version.ensures in let most = ap (λ l. l.version_max) c.layout.ensures in let some = (c.requires.own.limits _ refl).some_versions in
    subst (λ s. MayRun tray s c.publish-runner.result.0) (same_section c.in-Ok.section section same)
    (may_run tray c.args.runner c.publish-runner.result.0 _ c.publish-runner.result.1 c.publish-runner.ensures.publishes
    (may_publish c.args.table.now c.args.runner (record { form = c.args.form; request = c.number.result; lock = 0; word = c.args.word; operands = _ }) c.requires.own c.requires.scene c.requires.worker c.requires.read c.number.ensures refl
    (sym c.value.ensures ∙ c.if-value-ne0.false) (omega (arith, low, version, most, some)))
    c.requires.read.reserve.nodes c.requires.read.reserve.blocks c.requires.read.hand c.in-Ok.section c.in-Ok.is)
