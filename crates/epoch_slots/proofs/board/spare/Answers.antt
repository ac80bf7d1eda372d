use Rattle.std.proofs.Common.{length, ap, arith}
use Rattle.machine_states.specs.table_words.specs.declared.layout.Layout.{Layout}
use Rattle.epoch_slots.proofs.Boarding.{spare_begins, spare_more}
use Rattle.epoch_slots.proofs.board.spare.Goals as goal

pub loop-word-init : goal.loop-word-init
loop-word-init g c = record { own = c.requires.own; spared = spare_begins _ _ c.requires.ready }

pub loop-word-preserved : goal.loop-word-preserved
loop-word-preserved g c =
    let inv = c.loop-word.invariant in
    let here = ap (λ (l : Layout). l.nodes) inv.own.layout in let told = ap (λ (l : Layout). l.nodes) c.layout.ensures in
    let count = ap length c.free_nodes.ensures.list in let many = c.if-free_nodes-layout.false in record {
      own = c.spare_one-runner.ensures.own;
      spared = spare_more _ _ _ _ _ inv.spared (omega (arith, here, told, count, many)) c.spare_one-runner.ensures.one;
    }
