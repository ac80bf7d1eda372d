use Rattle.std.proofs.Common.{◌≡◌, ℕ, ◌+◌, Bool, None, sym, subst, ◌∙◌, ap, arith}
use Rattle.machine_states.specs.table_words.specs.declared.layout.Layout.{Layout}
use Rattle.machine_states.specs.epoch_core.specs.declared.stage.Stage.TheVariants.{Scanning}
use Rattle.version_words.specs.Stages.{IsAt}
use Rattle.version_words.proofs.Stages.{may_scan_epoch, then_scanning, same_number}
use Rattle.table_steps.proofs.Scans.{may_scan, scans_on}
use Rattle.table_steps.proofs.walks.collect.Goals as goal

pub scan_epoch-scanning-requires-clause-next : goal.scan_epoch-scanning-requires-clause-next
scan_epoch-scanning-requires-clause-next c κs = may_scan_epoch _ _ _ c.requires.at

pub scan_one-scanned-requires-clause-next : goal.scan_one-scanned-requires-clause-next
scan_one-scanned-requires-clause-next c κs = let inv = c.loop-next.invariant in
    may_scan _ _ _ inv.own _ _ _ inv.at (let a = c.loop-next-test.true in let b = c.layout-last.ensures in let e = ap (λ (l : Layout). l.runners) b in omega (arith, a, e))

pub loop-next-init : goal.loop-next-init
loop-next-init c = record {
  own = c.scan_epoch-scanning.ensures.own;
  at = then_scanning _ _ _ _ _ c.scan_epoch-scanning.ensures.event c.requires.at;
  number = same_number _ _ _ _ _ c.scan_epoch-scanning.ensures.event;
}

pub loop-next-preserved : goal.loop-next-preserved
loop-next-preserved c = let inv = c.loop-next.invariant in let b = ap (λ (l : Layout). l.runners) c.layout-last.ensures in record {
  own = c.scan_one-scanned.ensures.own;
  at = subst (λ (still : Bool). IsAt c.scan_one-scanned.result.0 (Scanning c.scan_epoch-scanning.result.1 (c.loop-next.next + 1) still) None) (sym c.is_still_clear-clear.ensures)
      (scans_on _ _ _ inv.own _ _ _ inv.at _ _ c.scan_one-scanned.ensures.event (let a = c.loop-next-test.true in omega (arith, a, b)));
  number = same_number _ _ _ _ _ c.scan_one-scanned.ensures.event ∙ inv.number;
}

pub finish-requires : goal.finish-requires
finish-requires c = let inv = c.loop-next.invariant in let b = ap (λ (l : Layout). l.runners) c.layout-last.ensures in record {
  own = inv.own;
  last = b;
  at = subst (λ (n : ℕ). IsAt c.loop-next.runner (Scanning c.scan_epoch-scanning.result.1 n c.loop-next.clear) None) (let a = c.loop-next-test.false in let d = c.loop-next.auto.next-end in let e : c.loop-next.next ≡ c.layout-last.result.runners = omega (arith, a, d) in e) inv.at;
}
