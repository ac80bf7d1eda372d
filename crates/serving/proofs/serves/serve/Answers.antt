use Rattle.std.proofs.Common.{◌≡◌, length, arith, refl, sym, ◌∙◌, subst}
use Rattle.std.proofs.lemmas.Option.{slice_get-get_or}
use Rattle.runner_gate.specs.Asks.{HaltedOnce}
use Rattle.attempt_bounds.specs.Spared.{AttemptsSpareSlots}
use Rattle.serving.proofs.Along.{along_begins, may_next, so_far_begins, stopped_serves, goes_along, so_far_along, halted_behind, all_served, went_of, going_of}
use Rattle.serving.proofs.serves.serve.Goals as goal

pub loop-request-init : goal.loop-request-init
loop-request-init g c = record {
  own = c.requires.own;
  along = along_begins (g.S.Planner.planning c.args.table.now.structure) c.args.requests.now c.args.runner c.requires.next;
  so_far = so_far_begins (g.S.Structure.meaning c.args.table.now.structure) (g.S.Planner.planning c.args.table.now.structure) c.args.requests.now c.args.retry_short c.args.runner _ _;
  went = refl;
}

pub persist-next-requires-clause-next : goal.persist-next-requires-clause-next
persist-next-requires-clause-next g c κs within = let inv = c.loop-request.invariant in
    may_next (g.S.Planner.planning c.args.table.now.structure) c.args.requests.now c.args.runner c.loop-request.runner c.args.table.now (c.requires.own.allowed _ refl)
    c.requires.own inv.own c.requires.next c.loop-request.request-index _
    (slice_get-get_or c.args.requests.now c.loop-request.request-index _ c.loop-request-test.true) inv.along

pub returns-in-Some-clause-serves : goal.returns-in-Some-clause-serves
returns-in-Some-clause-serves g c =
    let met = g.met.S.Structure g.world.𝓛 g.world.𝓜 g.world.𝓡 ((λ s allowed. allowed), (λ patient. patient), (λ alone. alone), (λ cuts. cuts)) in
    let inv = c.loop-request.invariant in
    stopped_serves (g.S.Structure.meaning c.args.table.now.structure) (met.laws c.args.table.now.structure) (g.S.Planner.planning c.args.table.now.structure)
    c.args.requests.now c.args.retry_short c.args.runner c.loop-request.runner c.persist-next.result.0
    c.args.table.now (c.requires.own.limits _ refl) (c.requires.own.allowed _ refl) c.requires.own inv.own c.persist-next.ensures.own
    c.requires.next c.loop-request.request-index _ (slice_get-get_or c.args.requests.now c.loop-request.request-index _ c.loop-request-test.true) inv.along
    c.persist-next.result.1 _ _ _ inv.went _ _ _ _ _ _ c.persist-next.ensures.persists inv.so_far
    (subst (λ s. AttemptsSpareSlots g.row.S.Denot (g.S.Structure.meaning s) (g.S.Planner.planning s)) c.structure.ensures c.attempts_spare_slots.ensures)
    c.in-Some.stopped (sym c.in-Some.ensures)

pub returns-in-Some-clause-went : goal.returns-in-Some-clause-went
returns-in-Some-clause-went g c = λ other.
    c.persist-next.ensures.went (went_of c.persist-next.result.1 c.in-Some.stopped (sym c.in-Some.ensures) other) ∙ c.loop-request.invariant.went

pub returns-then-not-goes_on-clause-serves : goal.returns-then-not-goes_on-clause-serves
returns-then-not-goes_on-clause-serves g c =
    let met = g.met.S.Structure g.world.𝓛 g.world.𝓜 g.world.𝓡 ((λ s allowed. allowed), (λ patient. patient), (λ alone. alone), (λ cuts. cuts)) in
    let inv = c.loop-request.invariant in
    halted_behind (g.S.Structure.meaning c.args.table.now.structure) (met.laws c.args.table.now.structure) (g.S.Planner.planning c.args.table.now.structure)
    c.args.requests.now c.args.retry_short c.args.runner c.loop-request.runner c.persist-next.result.0
    c.args.table.now (c.requires.own.limits _ refl) (c.requires.own.allowed _ refl) c.requires.own inv.own c.persist-next.ensures.own
    c.requires.next c.loop-request.request-index _ (slice_get-get_or c.args.requests.now c.loop-request.request-index _ c.loop-request-test.true) inv.along
    c.persist-next.result.1 _ _ _ inv.went _ _ _ _ _ _ c.persist-next.ensures.persists inv.so_far
    (subst (λ s. AttemptsSpareSlots g.row.S.Denot (g.S.Structure.meaning s) (g.S.Planner.planning s)) c.structure.ensures c.attempts_spare_slots.ensures)
    (sym c.in_default.ensures) _ (c.if-not-goes_on.ensures 0).asked
    (c.persist-next.new.gate, c.persist-next.ensures.went (going_of c.persist-next.result.1 (sym c.in_default.ensures)) ∙ inv.went, refl)

pub returns-then-not-goes_on-clause-halted : goal.returns-then-not-goes_on-clause-halted
returns-then-not-goes_on-clause-halted g c = λ _.
    subst (λ n. HaltedOnce n (g.G.Gate.halts c.goes_on.new.gate))
    (c.persist-next.ensures.went (going_of c.persist-next.result.1 (sym c.in_default.ensures)) ∙ c.loop-request.invariant.went)
    ((c.if-not-goes_on.ensures 0).halted refl)

pub loop-request-preserved : goal.loop-request-preserved
loop-request-preserved g c =
    let met = g.met.S.Structure g.world.𝓛 g.world.𝓜 g.world.𝓡 ((λ s allowed. allowed), (λ patient. patient), (λ alone. alone), (λ cuts. cuts)) in
    let inv = c.loop-request.invariant in record {
      own = c.persist-next.ensures.own;
      along = goes_along (g.S.Structure.meaning c.args.table.now.structure) (met.laws c.args.table.now.structure) (g.S.Planner.planning c.args.table.now.structure)
          c.args.requests.now c.args.retry_short c.args.runner c.loop-request.runner c.persist-next.result.0
          c.args.table.now (c.requires.own.limits _ refl) (c.requires.own.allowed _ refl) c.requires.own inv.own c.persist-next.ensures.own
          c.requires.next c.loop-request.request-index _ (slice_get-get_or c.args.requests.now c.loop-request.request-index _ c.loop-request-test.true) inv.along
          c.persist-next.result.1 _ _ _ inv.went _ _ _ _ _ _ c.persist-next.ensures.persists inv.so_far
          (subst (λ s. AttemptsSpareSlots g.row.S.Denot (g.S.Structure.meaning s) (g.S.Planner.planning s)) c.structure.ensures c.attempts_spare_slots.ensures)
          (sym c.in_default.ensures);
      so_far = so_far_along (g.S.Structure.meaning c.args.table.now.structure) (met.laws c.args.table.now.structure) (g.S.Planner.planning c.args.table.now.structure)
          c.args.requests.now c.args.retry_short c.args.runner c.loop-request.runner c.persist-next.result.0
          c.args.table.now (c.requires.own.limits _ refl) (c.requires.own.allowed _ refl) c.requires.own inv.own c.persist-next.ensures.own
          c.requires.next c.loop-request.request-index _ (slice_get-get_or c.args.requests.now c.loop-request.request-index _ c.loop-request-test.true) inv.along
          c.persist-next.result.1 _ _ _ inv.went _ _ _ _ _ _ c.persist-next.ensures.persists inv.so_far
          (subst (λ s. AttemptsSpareSlots g.row.S.Denot (g.S.Structure.meaning s) (g.S.Planner.planning s)) c.structure.ensures c.attempts_spare_slots.ensures)
          (sym c.in_default.ensures) _ (c.if-not-goes_on.ensures 0).asked;
      went = (c.if-not-goes_on.ensures 0).went refl
          ∙ (c.persist-next.ensures.went (going_of c.persist-next.result.1 (sym c.in_default.ensures)) ∙ inv.went);
    }

pub returns-clause-serves : goal.returns-clause-serves
returns-clause-serves g c =
    let inv = c.loop-request.invariant in
    let all : c.loop-request.request-index ≡ length c.args.requests.now = (let a = c.loop-request-test.false in let b = c.loop-request.auto.request-index-end in omega (arith, a, b)) in
    all_served (g.S.Structure.meaning c.args.table.now.structure) (g.S.Planner.planning c.args.table.now.structure) c.args.requests.now c.args.retry_short
    c.args.runner c.loop-request.runner c.loop-request.request-index inv.along _ _ _ _ _ _ inv.so_far all
