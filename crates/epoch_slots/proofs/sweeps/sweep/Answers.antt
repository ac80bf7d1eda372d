use Rattle.std.proofs.Common.{ap, sym, subst, arith}
use Rattle.machine_states.specs.table_words.specs.declared.layout.Layout.{Layout}
use Rattle.epoch_slots.specs.Sweeps.{HasLooked}
use Rattle.epoch_slots.proofs.Sweeping.{may_look, swept}
use Rattle.epoch_slots.proofs.sweeps.sweep.Goals as goal

pub load_guard-runner-requires-clause-next : goal.load_guard-runner-requires-clause-next
load_guard-runner-requires-clause-next g c κs within =
    let last = ap (λ (l : Layout). l.runners) c.layout.ensures in
    let looked = subst (λ n. HasLooked (g.S.Structure.meaning c.args.table.now.structure) n c.args.runner c.look-runner.result) (sym last) c.look-runner.ensures.looked in
    may_look _ _ _ _ c.look-runner.ensures.own _ looked (omega (arith, last))

pub returns-clause-swept : goal.returns-clause-swept
returns-clause-swept g c =
    let last = ap (λ (l : Layout). l.runners) c.layout.ensures in
    let looked = subst (λ n. HasLooked (g.S.Structure.meaning c.args.table.now.structure) n c.args.runner c.look-runner.result) (sym last) c.look-runner.ensures.looked in
    let met = g.met.S.Structure g.world.𝓛 g.world.𝓜 g.world.𝓡 ((λ s allowed. allowed), (λ patient. patient), (λ alone. alone), (λ cuts. cuts)) in
    swept _ _ _ _ c.look-runner.ensures.own _ looked _ _ c.load_guard-runner.ensures.event (met.laws c.args.table.now.structure) c.requires.ready last
