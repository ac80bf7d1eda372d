use Rattle.std.proofs.Common.{◌∙◌, ◌∷◌, ◌++◌, [], sym, ap, subst, refl, arith, Some}
use Rattle.machine_states.specs.table_words.specs.Limits.{IsWithinLimits}
use Rattle.machine_states.specs.body_terms.proofs.LineLemmas.{read_step}
use Rattle.caller_facts.specs.version_words.specs.machine_invariant.specs.After.{AreAllowed}
use Rattle.caller_facts.specs.section_runs.specs.commit_log.specs.Asked.{IsAsked}
use Rattle.caller_facts.specs.Counted.{IsSeen}
use Rattle.seq_read.proofs.Loading.{cell_asked, next_cells, cut_cells, same_cells, all_cells}
use Rattle.caller_facts.specs.section_runs.specs.commit_log.proofs.Asked.{asked_none}
use Rattle.seq_read.proofs.Testing.{untested}
use Rattle.caller_facts.specs.lock_walks.proofs.Walking.{walked_none}
use Rattle.seq_read.proofs.cells.load_written.Goals as goal
use Rattle.seq_read.proofs.cells.load_written.Goals.{in-Load+else-not-passes, in_default}

pub loop-n-init : goal.loop-n-init
loop-n-init g c = record {
  own = c.requires.own;
  cells = (
    [],
    untested c.args.body.now,
    record {
      cells = refl;
      loads = walked_none (g.S.Structure.meaning c.args.table.now.structure) c.args.runner;
      reached = c.requires.may.5.plans.reached;
      asked = asked_none _ _ _;
    },
  );
}

pub load_cell-at-requires-clause-next : goal.load_cell-at-requires-clause-next
load_cell-at-requires-clause-next g c κs within =
    let met = g.met.S.Structure g.world.𝓛 g.world.𝓜 g.world.𝓡 ((λ s allowed. allowed), (λ patient. patient), (λ alone. alone), (λ cuts. cuts)) in
    let m = g.S.Structure.meaning c.args.table.now.structure in
    let e = c.requires.may in
    let limits = subst IsWithinLimits (sym c.requires.own.layout ∙ e.5.plans.reading.still.layout) (c.requires.own.limits _ refl) in
    let allowed = subst AreAllowed (sym c.requires.own.requests ∙ e.5.plans.reading.still.requests) (c.requires.own.allowed _ refl) in
    cell_asked m (met.laws c.args.table.now.structure) e.0 e.1 e.4 limits allowed c.args.body.now e.2 e.3 c.args.runner e.5 c.loop-n.n c.loop-n.invariant.cells.0 c.loop-n.runner _ _ _ _ _ _ c.loop-n.invariant.cells.2 c.in-Load.place c.in-Load.into (read_step c.args.body.now c.loop-n.n c.index-body-n.result c.loop-n-test.true c.index-body-n.is ∙ ap Some c.in-Load.is)

pub returns-then-not-passes-clause-loaded : goal.returns-then-not-passes-clause-loaded
returns-then-not-passes-clause-loaded g c =
    let met = g.met.S.Structure g.world.𝓛 g.world.𝓜 g.world.𝓡 ((λ s allowed. allowed), (λ patient. patient), (λ alone. alone), (λ cuts. cuts)) in
    let m = g.S.Structure.meaning c.args.table.now.structure in
    let e = c.requires.may in
    let limits = subst IsWithinLimits (sym c.requires.own.layout ∙ e.5.plans.reading.still.layout) (c.requires.own.limits _ refl) in
    let allowed = subst AreAllowed (sym c.requires.own.requests ∙ e.5.plans.reading.still.requests) (c.requires.own.allowed _ refl) in (
      c.loop-n.invariant.cells.0 ++ record { place = c.in-Load.place; into = c.in-Load.into; word = c.bits.result } ∷ [],
      c.missed_with-missed.ensures c.loop-n.invariant.cells.0 c.loop-n.invariant.cells.1,
      cut_cells m (met.laws c.args.table.now.structure) e.0 e.1 e.4 limits allowed c.args.body.now e.2 e.3 c.args.runner e.5 c.loop-n.n c.loop-n.invariant.cells.0 c.loop-n.runner _ _ _ _ _ _ c.loop-n.invariant.cells.2 c.in-Load.place c.in-Load.into (read_step c.args.body.now c.loop-n.n c.index-body-n.result c.loop-n-test.true c.index-body-n.is ∙ ap Some c.in-Load.is)
          c.load_cell-at.result.0 c.load_cell-at.result.1 c.load_cell-at.ensures.event (c.loop-n.invariant.cells.0 ++ record { place = c.in-Load.place; into = c.in-Load.into; word = c.bits.result } ∷ []) (ap (λ k. c.loop-n.invariant.cells.0 ++ record { place = c.in-Load.place; into = c.in-Load.into; word = k } ∷ []) c.bits.ensures.number) _ _ _ (IsSeen g.G.Gate.halts g.G.Gate.asks) (c.loop-n.gate, refl, refl)
          (subst (λ b. IsAsked 1 b (g.G.Gate.halts c.loop-n.gate) (g.G.Gate.halts c.passes.new.gate) (g.G.Gate.asks c.loop-n.gate) (g.G.Gate.asks c.passes.new.gate) c.loop-n.steps.count c.passes.new.steps.count) c.if-not-passes.true c.passes.ensures),
    )

pub loop-n-preserved : goal.loop-n-preserved
loop-n-preserved g c =
    let met = g.met.S.Structure g.world.𝓛 g.world.𝓜 g.world.𝓡 ((λ s allowed. allowed), (λ patient. patient), (λ alone. alone), (λ cuts. cuts)) in
    let m = g.S.Structure.meaning c.args.table.now.structure in
    let e = c.requires.may in
    let limits = subst IsWithinLimits (sym c.requires.own.layout ∙ e.5.plans.reading.still.layout) (c.requires.own.limits _ refl) in
    let allowed = subst AreAllowed (sym c.requires.own.requests ∙ e.5.plans.reading.still.requests) (c.requires.own.allowed _ refl) in
    elim c.match-step.branch [
      | in-Load+else-not-passes w ↦ rw w.missed-is (rw w.gate-is (rw w.steps-is (rw w.runner-is (record {
        own = w.load_cell-at.ensures.own;
        cells = (
          c.loop-n.invariant.cells.0 ++ record { place = w.in-Load.place; into = w.in-Load.into; word = w.bits.result } ∷ [],
          w.missed_with-missed.ensures c.loop-n.invariant.cells.0 c.loop-n.invariant.cells.1,
          next_cells m (met.laws c.args.table.now.structure) e.0 e.1 e.4 limits allowed c.args.body.now e.2 e.3 c.args.runner e.5 c.loop-n.n c.loop-n.invariant.cells.0 c.loop-n.runner _ _ _ _ _ _ c.loop-n.invariant.cells.2 w.in-Load.place w.in-Load.into (read_step c.args.body.now c.loop-n.n c.index-body-n.result c.loop-n-test.true c.index-body-n.is ∙ ap Some w.in-Load.is)
              w.load_cell-at.result.0 w.load_cell-at.result.1 w.load_cell-at.ensures.event (c.loop-n.invariant.cells.0 ++ record { place = w.in-Load.place; into = w.in-Load.into; word = w.bits.result } ∷ []) (ap (λ k. c.loop-n.invariant.cells.0 ++ record { place = w.in-Load.place; into = w.in-Load.into; word = k } ∷ []) w.bits.ensures.number) _ _ _
              (subst (λ b. IsAsked 1 b (g.G.Gate.halts c.loop-n.gate) (g.G.Gate.halts w.passes.new.gate) (g.G.Gate.asks c.loop-n.gate) (g.G.Gate.asks w.passes.new.gate) c.loop-n.steps.count w.passes.new.steps.count) w.if-not-passes.false w.passes.ensures),
        );
      }))))
      | in_default w ↦ rw w.missed-is (rw w.gate-is (rw w.steps-is (rw w.runner-is (record {
        own = c.loop-n.invariant.own;
        cells = (
          c.loop-n.invariant.cells.0,
          c.loop-n.invariant.cells.1,
          same_cells m c.args.body.now c.loop-n.n c.loop-n.invariant.cells.0 c.args.runner c.loop-n.runner _ _ _ _ _ _ c.loop-n.invariant.cells.2 c.index-body-n.result
              (read_step c.args.body.now c.loop-n.n c.index-body-n.result c.loop-n-test.true c.index-body-n.is) w.in_default.not-Load,
        );
      }))))
    ]

pub returns-clause-loaded : goal.returns-clause-loaded
returns-clause-loaded g c = (
  c.loop-n.invariant.cells.0,
  c.loop-n.invariant.cells.1,
  all_cells (g.S.Structure.meaning c.args.table.now.structure) c.args.body.now c.loop-n.n c.loop-n.invariant.cells.0 c.args.runner c.loop-n.runner _ _ _ _ _ _
      c.loop-n.invariant.cells.2 (let past = c.loop-n-test.false in omega (arith, past)) (IsSeen g.G.Gate.halts g.G.Gate.asks),
)
