use Rattle.epoch_slots.proofs.Looking.{may_look, looks_on}
use Rattle.epoch_slots.proofs.hand.look_at.Goals as goal

pub private_load-looked-requires-clause-next : goal.private_load-looked-requires-clause-next
private_load-looked-requires-clause-next g c κs within =
    may_look _ _ _ _ _ c.loop-cell.invariant.looked c.loop-cell-test.true c.requires.in_hand c.requires.tests c.requires.within

pub loop-cell-preserved : goal.loop-cell-preserved
loop-cell-preserved g c = record {
  own = c.private_load-looked.ensures.own;
  looked = looks_on _ _ _ _ _ c.loop-cell.invariant.looked c.loop-cell-test.true c.requires.in_hand c.requires.tests c.requires.within _ _ c.private_load-looked.ensures.event;
}
