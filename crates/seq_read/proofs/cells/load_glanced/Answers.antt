use Rattle.std.proofs.Common.{◌∙◌, ◌∷◌, [], sym, subst, refl}
use Rattle.machine_states.specs.table_words.specs.Limits.{IsWithinLimits}
use Rattle.caller_facts.specs.version_words.specs.machine_invariant.specs.After.{AreAllowed}
use Rattle.caller_facts.specs.section_runs.specs.commit_log.specs.Asked.{IsAsked}
use Rattle.caller_facts.specs.lock_walks.specs.Glances.{glanced}
use Rattle.caller_facts.specs.Counted.{IsSeen}
use Rattle.seq_read.proofs.Testing.{untested}
use Rattle.seq_read.proofs.Glancing.{first_wanted, second_wanted, first_asked, first_cut, first_all, second_asked, second_all}
use Rattle.seq_read.proofs.cells.load_glanced.Goals as goal

pub load_cell-runner-requires-clause-next : goal.load_cell-runner-requires-clause-next
load_cell-runner-requires-clause-next g c κs within =
    let met = g.met.S.Structure g.world.𝓛 g.world.𝓜 g.world.𝓡 ((λ s allowed. allowed), (λ patient. patient), (λ alone. alone), (λ cuts. cuts)) in
    let m = g.S.Structure.meaning c.args.table.now.structure in
    let e = c.requires.may in
    let limits = subst IsWithinLimits (sym c.requires.own.layout ∙ e.5.plans.reading.still.layout) (c.requires.own.limits _ refl) in
    let allowed = subst AreAllowed (sym c.requires.own.requests ∙ e.5.plans.reading.still.requests) (c.requires.own.allowed _ refl) in
    first_asked m (met.laws c.args.table.now.structure) e.0 e.1 e.4 limits allowed c.args.glance.now e.2 e.3 c.args.runner e.5
    (g.G.Gate.halts c.args.gate.now) (g.G.Gate.asks c.args.gate.now) c.args.steps.now.count

pub returns-then-not-passes-clause-loaded : goal.returns-then-not-passes-clause-loaded
returns-then-not-passes-clause-loaded g c =
    let met = g.met.S.Structure g.world.𝓛 g.world.𝓜 g.world.𝓡 ((λ s allowed. allowed), (λ patient. patient), (λ alone. alone), (λ cuts. cuts)) in
    let m = g.S.Structure.meaning c.args.table.now.structure in
    let e = c.requires.may in
    let limits = subst IsWithinLimits (sym c.requires.own.layout ∙ e.5.plans.reading.still.layout) (c.requires.own.limits _ refl) in
    let allowed = subst AreAllowed (sym c.requires.own.requests ∙ e.5.plans.reading.still.requests) (c.requires.own.allowed _ refl) in (
      record { place = c.args.glance.now.first.place; into = 0; word = c.load_cell-runner.result.1 } ∷ [],
      c.missed_behind-missed.ensures (glanced c.args.glance.now) 0 [] (first_wanted c.args.glance.now) (untested (glanced c.args.glance.now)),
      first_cut m (met.laws c.args.table.now.structure) e.0 e.1 e.4 limits allowed c.args.glance.now e.2 e.3 c.args.runner e.5
          (g.G.Gate.halts c.args.gate.now) (g.G.Gate.asks c.args.gate.now) c.args.steps.now.count
          c.load_cell-runner.result.0 c.load_cell-runner.result.1 c.load_cell-runner.ensures.event
          (g.G.Gate.halts c.passes.new.gate) (g.G.Gate.asks c.passes.new.gate) c.passes.new.steps.count
          (IsSeen g.G.Gate.halts g.G.Gate.asks) (c.args.gate.now, refl, refl)
          (subst (λ b. IsAsked 1 b (g.G.Gate.halts c.args.gate.now) (g.G.Gate.halts c.passes.new.gate) (g.G.Gate.asks c.args.gate.now) (g.G.Gate.asks c.passes.new.gate) c.args.steps.now.count c.passes.new.steps.count) c.if-not-passes.true c.passes.ensures),
    )

pub returns-in_default-clause-loaded : goal.returns-in_default-clause-loaded
returns-in_default-clause-loaded g c =
    let met = g.met.S.Structure g.world.𝓛 g.world.𝓜 g.world.𝓡 ((λ s allowed. allowed), (λ patient. patient), (λ alone. alone), (λ cuts. cuts)) in
    let m = g.S.Structure.meaning c.args.table.now.structure in
    let e = c.requires.may in
    let limits = subst IsWithinLimits (sym c.requires.own.layout ∙ e.5.plans.reading.still.layout) (c.requires.own.limits _ refl) in
    let allowed = subst AreAllowed (sym c.requires.own.requests ∙ e.5.plans.reading.still.requests) (c.requires.own.allowed _ refl) in (
      record { place = c.args.glance.now.first.place; into = 0; word = c.load_cell-runner.result.1 } ∷ [],
      c.missed_behind-missed.ensures (glanced c.args.glance.now) 0 [] (first_wanted c.args.glance.now) (untested (glanced c.args.glance.now)),
      first_all m (met.laws c.args.table.now.structure) e.0 e.1 e.4 limits allowed c.args.glance.now e.2 e.3 c.args.runner e.5
          (g.G.Gate.halts c.args.gate.now) (g.G.Gate.asks c.args.gate.now) c.args.steps.now.count
          c.load_cell-runner.result.0 c.load_cell-runner.result.1 c.load_cell-runner.ensures.event
          (g.G.Gate.halts c.passes.new.gate) (g.G.Gate.asks c.passes.new.gate) c.passes.new.steps.count
          (subst (λ b. IsAsked 1 b (g.G.Gate.halts c.args.gate.now) (g.G.Gate.halts c.passes.new.gate) (g.G.Gate.asks c.args.gate.now) (g.G.Gate.asks c.passes.new.gate) c.args.steps.now.count c.passes.new.steps.count) c.if-not-passes.false c.passes.ensures)
          c.in_default.is (IsSeen g.G.Gate.halts g.G.Gate.asks),
    )

pub load_cell-runner-requires-2-clause-next : goal.load_cell-runner-requires-2-clause-next
load_cell-runner-requires-2-clause-next g c κs within =
    let met = g.met.S.Structure g.world.𝓛 g.world.𝓜 g.world.𝓡 ((λ s allowed. allowed), (λ patient. patient), (λ alone. alone), (λ cuts. cuts)) in
    let m = g.S.Structure.meaning c.args.table.now.structure in
    let e = c.requires.may in
    let limits = subst IsWithinLimits (sym c.requires.own.layout ∙ e.5.plans.reading.still.layout) (c.requires.own.limits _ refl) in
    let allowed = subst AreAllowed (sym c.requires.own.requests ∙ e.5.plans.reading.still.requests) (c.requires.own.allowed _ refl) in
    second_asked m (met.laws c.args.table.now.structure) e.0 e.1 e.4 limits allowed c.args.glance.now e.2 e.3 c.args.runner e.5
    (g.G.Gate.halts c.args.gate.now) (g.G.Gate.asks c.args.gate.now) c.args.steps.now.count
    c.load_cell-runner.result.0 c.load_cell-runner.result.1 c.load_cell-runner.ensures.event
    (g.G.Gate.halts c.passes.new.gate) (g.G.Gate.asks c.passes.new.gate) c.passes.new.steps.count
    (subst (λ b. IsAsked 1 b (g.G.Gate.halts c.args.gate.now) (g.G.Gate.halts c.passes.new.gate) (g.G.Gate.asks c.args.gate.now) (g.G.Gate.asks c.passes.new.gate) c.args.steps.now.count c.passes.new.steps.count) c.if-not-passes.false c.passes.ensures)
    c.in-Some.second c.in-Some.is

pub returns-clause-loaded : goal.returns-clause-loaded
returns-clause-loaded g c =
    let met = g.met.S.Structure g.world.𝓛 g.world.𝓜 g.world.𝓡 ((λ s allowed. allowed), (λ patient. patient), (λ alone. alone), (λ cuts. cuts)) in
    let m = g.S.Structure.meaning c.args.table.now.structure in
    let e = c.requires.may in
    let limits = subst IsWithinLimits (sym c.requires.own.layout ∙ e.5.plans.reading.still.layout) (c.requires.own.limits _ refl) in
    let allowed = subst AreAllowed (sym c.requires.own.requests ∙ e.5.plans.reading.still.requests) (c.requires.own.allowed _ refl) in (
      record { place = c.args.glance.now.first.place; into = 0; word = c.load_cell-runner.result.1 }
          ∷ record { place = c.in-Some.second.place; into = 1; word = c.load_cell-runner-2.result.1 } ∷ [],
      c.missed_behind-missed-2.ensures (glanced c.args.glance.now) 1 (record { place = c.args.glance.now.first.place; into = 0; word = c.load_cell-runner.result.1 } ∷ [])
          (second_wanted c.args.glance.now c.in-Some.second c.in-Some.is)
          (c.missed_behind-missed.ensures (glanced c.args.glance.now) 0 [] (first_wanted c.args.glance.now) (untested (glanced c.args.glance.now))),
      second_all m (met.laws c.args.table.now.structure) e.0 e.1 e.4 limits allowed c.args.glance.now e.2 e.3 c.args.runner e.5
          (g.G.Gate.halts c.args.gate.now) (g.G.Gate.asks c.args.gate.now) c.args.steps.now.count
          c.load_cell-runner.result.0 c.load_cell-runner.result.1 c.load_cell-runner.ensures.event
          (g.G.Gate.halts c.passes.new.gate) (g.G.Gate.asks c.passes.new.gate) c.passes.new.steps.count
          (subst (λ b. IsAsked 1 b (g.G.Gate.halts c.args.gate.now) (g.G.Gate.halts c.passes.new.gate) (g.G.Gate.asks c.args.gate.now) (g.G.Gate.asks c.passes.new.gate) c.args.steps.now.count c.passes.new.steps.count) c.if-not-passes.false c.passes.ensures)
          c.in-Some.second c.in-Some.is
          c.load_cell-runner-2.result.0 c.load_cell-runner-2.result.1 c.load_cell-runner-2.ensures.event
          (g.G.Gate.halts c.passes-going.new.gate) (g.G.Gate.asks c.passes-going.new.gate) c.passes-going.new.steps.count
          (IsSeen g.G.Gate.halts g.G.Gate.asks) (c.passes.new.gate, refl, refl) c.passes-going.result c.passes-going.ensures,
    )
