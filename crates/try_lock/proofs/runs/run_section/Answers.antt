use Rattle.std.proofs.Common.{refl, sym, subst}
use Rattle.machine_states.specs.table_words.specs.Limits.{IsWithinLimits}
use Rattle.section_runs.specs.machine_facts.specs.machine_invariant.specs.After.{AreAllowed}
use Rattle.try_lock.proofs.Helping.{own_begins, own_ends}
use Rattle.try_lock.proofs.runs.run_section.Goals as goal

pub run-requires-clause-next : goal.run-requires-clause-next
run-requires-clause-next g c κs within = own_begins (g.S.Structure.meaning c.args.table.now.structure) c.args.runner c.requires.next.0 c.args.section.now c.requires.next.1

pub returns-clause-done : goal.returns-clause-done
returns-clause-done g c = λ t o trail may e.
    let met = g.met.S.Structure g.world.𝓛 g.world.𝓜 g.world.𝓡 ((λ s allowed. allowed), (λ patient. patient), (λ alone. alone), (λ cuts. cuts)) in
    let ends = c.run.ensures.done o trail e in (
      ends.1,
      own_ends (g.S.Structure.meaning c.args.table.now.structure) (met.laws c.args.table.now.structure) c.args.section.now.descriptor ends.0 o trail ends.1 c.args.runner c.run.result.0
          (subst IsWithinLimits (sym c.requires.own.layout) (c.requires.own.limits _ refl)) (subst AreAllowed (sym c.requires.own.requests) (c.requires.own.allowed _ refl)) ends.2
          t c.args.section.now refl may.section,
      ends.3,
    )

pub run-requires-clause-reserve : goal.run-requires-clause-reserve
run-requires-clause-reserve g c κs within = c.requires.next.1.reserve

pub run-requires-clause-blocks : goal.run-requires-clause-blocks
run-requires-clause-blocks g c κs within = c.requires.next.1.blocks
