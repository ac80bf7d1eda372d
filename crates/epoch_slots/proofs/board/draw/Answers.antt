use Rattle.std.proofs.Common.{List, ℕ, ◌<◌, length, subst, inr, arith}
use Rattle.epoch_slots.proofs.Boarding.{draw_begins, draw_more}
use Rattle.epoch_slots.proofs.Losing.{ends_drawn}
use Rattle.epoch_slots.proofs.board.draw.Goals as goal

pub loop-word-init : goal.loop-word-init
loop-word-init g c = record { own = c.requires.own; drawn = draw_begins _ _ _ c.requires.ready }

pub loop-word-preserved : goal.loop-word-preserved
loop-word-preserved g c = let inv = c.loop-word.invariant in record {
  own = c.draw_one-runner.ensures.own;
  drawn = draw_more _ _ _ _ _ _ inv.drawn (subst (λ (xs : List ℕ). length xs < c.args.n) c.free_nodes.ensures.list c.if-free_nodes-n.false) c.draw_one-runner.ensures.one;
}

pub returns-clause-drawn : goal.returns-clause-drawn
returns-clause-drawn g c =
    let low = c.loop-word.auto.word-end in let high = c.loop-word-test.false in
    ends_drawn _ _ _ _ _ c.loop-word.invariant.drawn (inr (omega (arith, low, high)))
