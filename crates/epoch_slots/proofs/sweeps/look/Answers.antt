use Rattle.std.proofs.Common.{ap, arith}
use Rattle.machine_states.specs.table_words.specs.declared.layout.Layout.{Layout}
use Rattle.epoch_slots.proofs.Sweeping.{look_begins, may_look, looked_more}
use Rattle.epoch_slots.proofs.sweeps.look.Goals as goal

pub load_guard-looked-requires-clause-next : goal.load_guard-looked-requires-clause-next
load_guard-looked-requires-clause-next g c κs within = let inv = c.loop-guard.invariant in
    may_look _ _ c.args.runner _ inv.own _ inv.looked (let a = c.loop-guard-test.true in let e = ap (λ (l : Layout). l.runners) c.layout-guard-end.ensures in omega (arith, a, e))

pub loop-guard-init : goal.loop-guard-init
loop-guard-init g c = record { own = c.requires.own; looked = look_begins _ _ c.requires.ready }

pub loop-guard-preserved : goal.loop-guard-preserved
loop-guard-preserved g c = let inv = c.loop-guard.invariant in record {
  own = c.load_guard-looked.ensures.own;
  looked = looked_more _ _ _ _ inv.own _ inv.looked _ _ c.load_guard-looked.ensures.event (let a = c.loop-guard-test.true in let e = ap (λ (l : Layout). l.runners) c.layout-guard-end.ensures in omega (arith, a, e));
}
