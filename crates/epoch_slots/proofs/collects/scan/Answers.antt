use Rattle.std.proofs.Common.{◌+◌, Bool, sym, subst, ap, arith}
use Rattle.machine_states.specs.table_words.specs.declared.layout.Layout.{Layout}
use Rattle.version_words.proofs.Stages.{may_scan_epoch}
use Rattle.epoch_slots.specs.Collects.{HasScanned}
use Rattle.epoch_slots.proofs.Scanning.{may_scan, has_begun, has_scanned_more}
use Rattle.epoch_slots.proofs.collects.scan.Goals as goal

pub scan_epoch-scanning-requires-clause-next : goal.scan_epoch-scanning-requires-clause-next
scan_epoch-scanning-requires-clause-next g c κs within = may_scan_epoch _ _ _ c.requires.idle

pub scan_one-scanned-requires-clause-next : goal.scan_one-scanned-requires-clause-next
scan_one-scanned-requires-clause-next g c κs within = let inv = c.loop-next.invariant in
    may_scan _ _ c.args.runner _ inv.own _ _ _ inv.scanned.at (let a = c.loop-next-test.true in let e = ap (λ (l : Layout). l.runners) c.layout-next-end.ensures in omega (arith, a, e))

pub loop-next-init : goal.loop-next-init
loop-next-init g c = record {
  own = c.scan_epoch-scanning.ensures.own;
  scanned = has_begun _ _ _ _ c.scan_epoch-scanning.ensures.event c.requires.idle;
}

pub loop-next-preserved : goal.loop-next-preserved
loop-next-preserved g c = let inv = c.loop-next.invariant in record {
  own = c.scan_one-scanned.ensures.own;
  scanned = subst (λ (still : Bool). HasScanned (g.S.Structure.meaning c.args.table.now.structure) (c.loop-next.next + 1) c.scan_epoch-scanning.result.1 still c.args.runner c.scan_one-scanned.result.0) (sym c.is_still_clear-clear.ensures)
      (has_scanned_more _ _ _ _ inv.own _ _ _ _ _ c.scan_one-scanned.ensures.event inv.scanned (let a = c.loop-next-test.true in let e = ap (λ (l : Layout). l.runners) c.layout-next-end.ensures in omega (arith, a, e)));
}
