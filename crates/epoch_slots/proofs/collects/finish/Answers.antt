use Rattle.std.proofs.Common.{◌∙◌, ap, sym, subst, arith, None}
use Rattle.machine_states.specs.table_words.specs.declared.layout.Layout.{Layout}
use Rattle.machine_states.specs.epoch_core.specs.declared.stage.Stage.TheVariants as stages
use Rattle.version_words.specs.Stages.{IsAt}
use Rattle.epoch_slots.specs.Collects.{EndsScan}
use Rattle.epoch_slots.proofs.Scanning.{may_scan, may_go_on, ends_with, ends_without}
use Rattle.epoch_slots.proofs.collects.finish.Goals as goal

pub scan_one-runner-requires-clause-next : goal.scan_one-runner-requires-clause-next
scan_one-runner-requires-clause-next g c κs within =
    let last = ap (λ (l : Layout). l.runners) c.layout.ensures in
    let at = subst (λ n. IsAt c.args.runner (stages.Scanning c.args.epoch n c.args.clear) None) (sym last) c.requires.at in
    may_scan _ _ c.args.runner _ c.requires.own _ _ _ at (omega (arith, last))

pub advance-requires-clause-next : goal.advance-requires-clause-next
advance-requires-clause-next g c κs within =
    let last = ap (λ (l : Layout). l.runners) c.layout.ensures in
    let at = subst (λ n. IsAt c.args.runner (stages.Scanning c.args.epoch n c.args.clear) None) (sym last) c.requires.at in
    may_go_on _ _ c.args.runner _ c.requires.own _ _ _ _ _ c.scan_one-runner.ensures.event at last (sym c.may_advance.ensures ∙ c.if-may_advance.true)

pub returns-then-may_advance-clause-ends : goal.returns-then-may_advance-clause-ends
returns-then-may_advance-clause-ends g c =
    let last = ap (λ (l : Layout). l.runners) c.layout.ensures in
    let at = subst (λ n. IsAt c.args.runner (stages.Scanning c.args.epoch n c.args.clear) None) (sym last) c.requires.at in
    subst (λ n. EndsScan (g.S.Structure.meaning c.args.table.now.structure) n c.args.epoch c.args.clear c.args.runner c.advance.result.0) last
    (ends_with _ _ c.args.runner _ c.requires.own _ _ _ _ _ c.scan_one-runner.ensures.event at last (sym c.may_advance.ensures ∙ c.if-may_advance.true) _ _ c.advance.ensures.event)

pub returns-else-may_advance-clause-ends : goal.returns-else-may_advance-clause-ends
returns-else-may_advance-clause-ends g c =
    let last = ap (λ (l : Layout). l.runners) c.layout.ensures in
    let at = subst (λ n. IsAt c.args.runner (stages.Scanning c.args.epoch n c.args.clear) None) (sym last) c.requires.at in
    subst (λ n. EndsScan (g.S.Structure.meaning c.args.table.now.structure) n c.args.epoch c.args.clear c.args.runner c.scan_one-runner.result.0) last
    (ends_without _ _ c.args.runner _ c.requires.own _ _ _ _ _ c.scan_one-runner.ensures.event at last (sym c.may_advance.ensures ∙ c.if-may_advance.false))
