use Rattle.std.proofs.Common.{refl, sym, subst}
use Rattle.attempts.specs.epoch_slots.specs.Entries.{Enters}
use Rattle.attempts.specs.lock_walks.specs.Own.{own_thunk}
use Rattle.attempts.specs.Attempts.{Attempts}
use Rattle.attempts.specs.declared.answers.Attempt.TheVariants as answers
use Rattle.attempts.specs.caller_facts.specs.Counted.{IsCounted, IsSeen}
use Rattle.attempts.proofs.Resting.{is_worker}
use Rattle.attempts.proofs.Wholly.{short_attempts, entered_so, entry_halted}
use Rattle.lock_attempts.proofs.Along.{section_entered}
use Rattle.lock_attempts.proofs.attempting.attempt_section.Goals as goal

pub reclaim-runner-requires-clause-worker : goal.reclaim-runner-requires-clause-worker
reclaim-runner-requires-clause-worker g c κs within = is_worker (g.W.Walker.way.planning c.args.walk) c.args.request.now c.args.runner c.requires.next (c.requires.own.limits _ c.requires.own.layout)

pub returns-then-not-goes_on-clause-attempts : goal.returns-then-not-goes_on-clause-attempts
returns-then-not-goes_on-clause-attempts g c =
    let met = g.met.S.Structure g.world.𝓛 g.world.𝓜 g.world.𝓡 ((λ s allowed. allowed), (λ patient. patient), (λ alone. alone), (λ cuts. cuts)) in
    let enters = subst (λ r. Enters (g.S.Structure.meaning c.args.table.now.structure) r c.enter-runner.result) c.in-Ok.ensures.same c.enter-runner.ensures.enters in
    (refl, entry_halted (g.S.Structure.meaning c.args.table.now.structure) (met.laws c.args.table.now.structure) c.args.table.now (c.requires.own.limits _ refl) (c.requires.own.allowed _ refl) (g.W.Walker.way.planning c.args.walk) c.args.request.now c.args.runner c.reclaim-runner.result c.requires.own c.reclaim-runner.ensures.own c.requires.next c.reclaim-runner.ensures.reclaims c.in-Ok.ensures.enough c.enter-runner.result c.enter-runner.ensures.own enters (IsSeen g.G.Gate.halts g.G.Gate.asks) _ _ _ _ _ (c.args.gate.now, refl, refl) (subst (λ b. IsCounted 0 1 b (g.G.Gate.halts c.args.gate.now) (g.G.Gate.halts c.goes_on.new.gate) (g.G.Gate.asks c.args.gate.now) (g.G.Gate.asks c.goes_on.new.gate) c.args.steps.now.count c.args.steps.now.count) c.if-not-goes_on.true (c.goes_on.ensures c.args.steps.now.count)))

pub plan_and_try-requires-clause-entered : goal.plan_and_try-requires-clause-entered
plan_and_try-requires-clause-entered g c κs within =
    let met = g.met.S.Structure g.world.𝓛 g.world.𝓜 g.world.𝓡 ((λ s allowed. allowed), (λ patient. patient), (λ alone. alone), (λ cuts. cuts)) in
    let enters = subst (λ r. Enters (g.S.Structure.meaning c.args.table.now.structure) r c.enter-runner.result) c.in-Ok.ensures.same c.enter-runner.ensures.enters in
    (c.args.runner, entered_so (g.S.Structure.meaning c.args.table.now.structure) (met.laws c.args.table.now.structure) c.args.table.now (c.requires.own.limits _ refl) (c.requires.own.allowed _ refl) (g.W.Walker.way.planning c.args.walk) c.args.request.now c.args.runner c.reclaim-runner.result c.requires.own c.reclaim-runner.ensures.own c.requires.next c.reclaim-runner.ensures.reclaims c.in-Ok.ensures.enough c.enter-runner.result c.enter-runner.ensures.own enters)

pub returns-else-not-goes_on-clause-attempts : goal.returns-else-not-goes_on-clause-attempts
returns-else-not-goes_on-clause-attempts g c =
    let met = g.met.S.Structure g.world.𝓛 g.world.𝓜 g.world.𝓡 ((λ s allowed. allowed), (λ patient. patient), (λ alone. alone), (λ cuts. cuts)) in
    let enters = subst (λ r. Enters (g.S.Structure.meaning c.args.table.now.structure) r c.enter-runner.result) c.in-Ok.ensures.same c.enter-runner.ensures.enters in
    section_entered (g.S.Structure.meaning c.args.table.now.structure) (met.laws c.args.table.now.structure) c.args.table.now (c.requires.own.limits _ refl) (c.requires.own.allowed _ refl) (g.W.Walker.way.planning c.args.walk) c.args.request.now (own_thunk g.W.Walker.way c.args.walk c.args.request.now.number) c.args.runner c.reclaim-runner.result c.requires.own c.reclaim-runner.ensures.own c.requires.next c.reclaim-runner.ensures.reclaims c.in-Ok.ensures.enough c.enter-runner.result c.enter-runner.ensures.own enters c.plan_and_try.result.1 c.plan_and_try.result.0 (IsSeen g.G.Gate.halts g.G.Gate.asks) _ _ _ _ _ _ _ _ (subst (λ b. IsCounted 0 1 b (g.G.Gate.halts c.args.gate.now) (g.G.Gate.halts c.goes_on.new.gate) (g.G.Gate.asks c.args.gate.now) (g.G.Gate.asks c.goes_on.new.gate) c.args.steps.now.count c.args.steps.now.count) c.if-not-goes_on.false (c.goes_on.ensures c.args.steps.now.count))
    (c.plan_and_try.ensures.rests c.args.runner (entered_so (g.S.Structure.meaning c.args.table.now.structure) (met.laws c.args.table.now.structure) c.args.table.now (c.requires.own.limits _ refl) (c.requires.own.allowed _ refl) (g.W.Walker.way.planning c.args.walk) c.args.request.now c.args.runner c.reclaim-runner.result c.requires.own c.reclaim-runner.ensures.own c.requires.next c.reclaim-runner.ensures.reclaims c.in-Ok.ensures.enough c.enter-runner.result c.enter-runner.ensures.own enters))

pub returns-in-Err-clause-attempts : goal.returns-in-Err-clause-attempts
returns-in-Err-clause-attempts g c =
    let met = g.met.S.Structure g.world.𝓛 g.world.𝓜 g.world.𝓡 ((λ s allowed. allowed), (λ patient. patient), (λ alone. alone), (λ cuts. cuts)) in (
      refl,
      subst (λ r. Attempts (g.S.Structure.meaning c.args.table.now.structure) (g.W.Walker.way.planning c.args.walk) c.args.request.now (answers.Short c.in-Err.short) c.args.runner r (IsSeen g.G.Gate.halts g.G.Gate.asks) (g.G.Gate.halts c.args.gate.now) (g.G.Gate.halts c.args.gate.now) (g.G.Gate.asks c.args.gate.now) (g.G.Gate.asks c.args.gate.now) c.args.steps.now.count c.args.steps.now.count) (sym c.in-Err.ensures.err)
          (short_attempts (g.S.Structure.meaning c.args.table.now.structure) (met.laws c.args.table.now.structure) c.args.table.now (c.requires.own.limits _ refl) (c.requires.own.allowed _ refl) (g.W.Walker.way.planning c.args.walk) c.args.request.now c.args.runner c.reclaim-runner.result c.requires.own c.reclaim-runner.ensures.own c.requires.next c.reclaim-runner.ensures.reclaims c.in-Err.short c.in-Err.ensures.few c.in-Err.ensures.counts (IsSeen g.G.Gate.halts g.G.Gate.asks) _ _ _),
    )
