use Rattle.std.proofs.Common.{sym, subst, ap, refl}
use Rattle.machine_states.specs.table_words.specs.declared.layout.Layout.{Layout}
use Rattle.machine_states.specs.table_words.specs.Limits.{IsWithinLimits}
use Rattle.version_words.specs.machine_invariant.specs.After.{AreAllowed}
use Rattle.epoch_slots.proofs.Collecting.{hand_is_own, has_collected}
use Rattle.epoch_slots.proofs.collects.collect.Goals as goal

pub look_back-requires-clause-hand : goal.look_back-requires-clause-hand
look_back-requires-clause-hand g c κs within =
    let met = g.met.S.Structure g.world.𝓛 g.world.𝓜 g.world.𝓡 ((λ s allowed. allowed), (λ patient. patient), (λ alone. alone), (λ cuts. cuts)) in
    let own = c.finish-runner.ensures.own in
    hand_is_own (g.S.Structure.meaning c.args.table.now.structure) (met.laws c.args.table.now.structure) _
    (subst IsWithinLimits (sym own.layout) (c.requires.own.limits _ refl)) (subst AreAllowed (sym own.requests) (c.requires.own.allowed _ refl)) c.finish-runner.ensures.ends.shown

pub returns-clause-collects : goal.returns-clause-collects
returns-clause-collects g c =
    has_collected _ _ _ _ _ _ _ _ (ap (λ (l : Layout). l.runners) c.requires.own.layout) c.requires.tidy c.scan-runner.ensures.scanned c.finish-runner.ensures.ends c.look_back.ensures.back
