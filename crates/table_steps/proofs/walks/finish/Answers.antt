use Rattle.std.proofs.Common.{sym, ◌∙◌, arith}
use Rattle.version_words.proofs.Stages.{same_number}
use Rattle.table_steps.proofs.Scans.{may_scan, may_go_on, goes_on, scans_over}
use Rattle.table_steps.proofs.walks.finish.Goals as goal

pub scan_one-runner-requires-clause-next : goal.scan_one-runner-requires-clause-next
scan_one-runner-requires-clause-next c κs = may_scan _ _ _ c.requires.own _ _ _ c.requires.at (let last = c.requires.last in omega (arith, last))

pub advance-requires-clause-next : goal.advance-requires-clause-next
advance-requires-clause-next c κs = may_go_on _ _ _ c.requires.own _ _ _ c.requires.at _ _ c.scan_one-runner.ensures.event c.requires.last (sym c.may_advance.ensures ∙ c.if-may_advance.true)

pub returns-then-may_advance : goal.returns-then-may_advance
returns-then-may_advance c = let tried = c.advance.ensures.event in record {
  own = c.advance.ensures.own;
  at = goes_on _ _ _ c.requires.own _ _ _ c.requires.at _ _ c.scan_one-runner.ensures.event c.requires.last (sym c.may_advance.ensures ∙ c.if-may_advance.true) _ _ tried.event;
  number = same_number _ _ _ _ _ tried.event ∙ same_number _ _ _ _ _ c.scan_one-runner.ensures.event;
}

pub returns-else-may_advance : goal.returns-else-may_advance
returns-else-may_advance c = record {
  own = c.scan_one-runner.ensures.own;
  at = scans_over _ _ _ c.requires.own _ _ _ c.requires.at _ _ c.scan_one-runner.ensures.event c.requires.last (sym c.may_advance.ensures ∙ c.if-may_advance.false);
  number = same_number _ _ _ _ _ c.scan_one-runner.ensures.event;
}
