use Rattle.std.specs.Prelude.{not, slice_get}
use Rattle.std.proofs.Common.{◌∙◌, length, sym, ap, subst, refl, None}
use Rattle.machine_states.specs.table_words.specs.Limits.{IsWithinLimits}
use Rattle.caller_facts.specs.version_words.specs.machine_invariant.specs.After.{AreAllowed}
use Rattle.machine_states.specs.runner_parts.specs.State.{ReadsState}
use Rattle.caller_facts.specs.section_runs.specs.commit_log.specs.Asked.{IsAsked}
use Rattle.caller_facts.specs.try_lock.specs.Plans.{HasPlanned as PlanIs, is_halted}
use Rattle.caller_facts.specs.Counted.{IsCounted, IsSeen}
use Rattle.seq_read.specs.Course.{read_of, HasPlanned}
use Rattle.seq_read.specs.Reads.{Reads}
use Rattle.seq_read.proofs.Courses.{entered_of, planned_of, may_leave}
use Rattle.seq_read.proofs.Refusing.{refuses_by, refusal_goes_on}
use Rattle.seq_read.proofs.Entering.{entry_halted, plan_halted, reads_so, plan_refused_reads}
use Rattle.seq_read.proofs.reading.read.Goals as goal

pub returns-then-not-goes_on-clause-reads : goal.returns-then-not-goes_on-clause-reads
returns-then-not-goes_on-clause-reads g c =
    let met = g.met.S.Structure g.world.𝓛 g.world.𝓜 g.world.𝓡 ((λ s allowed. allowed), (λ patient. patient), (λ alone. alone), (λ cuts. cuts)) in
    let plans = g.met.S.Planner g.world.𝓛 g.world.𝓜 g.world.𝓡 ((λ s allowed. allowed), (λ patient. patient), (λ alone. alone), (λ cuts. cuts)) in
    let m = g.S.Structure.meaning c.args.table.now.structure in
    let enters = entered_of m (g.S.Planner.planning c.args.table.now.structure) c.args.request.now c.args.runner c.args.table.now c.enter-runner.result c.requires.own c.enter-runner.ensures.own c.requires.next c.enter-runner.ensures.enters in
    entry_halted m (met.laws c.args.table.now.structure) (g.S.Planner.planning c.args.table.now.structure) (plans.gets_are_light c.args.table.now.structure) c.args.request.now c.args.runner
    (subst IsWithinLimits (sym c.requires.own.layout) (c.requires.own.limits _ refl)) (subst AreAllowed (sym c.requires.own.requests) (c.requires.own.allowed _ refl))
    c.enter-runner.result enters (g.G.Gate.halts c.args.gate.now) (g.G.Gate.asks c.args.gate.now)
    (IsSeen g.G.Gate.halts g.G.Gate.asks) _ _ _ (c.args.gate.now, refl, refl)
    (subst (λ b. IsCounted 0 1 b (g.G.Gate.halts c.args.gate.now) (g.G.Gate.halts c.goes_on.new.gate) (g.G.Gate.asks c.args.gate.now) (g.G.Gate.asks c.goes_on.new.gate) c.args.steps.now.count c.args.steps.now.count) c.if-not-goes_on.true (c.goes_on.ensures c.args.steps.now.count))

pub plan-runner-requires-clause-entered : goal.plan-runner-requires-clause-entered
plan-runner-requires-clause-entered g c κs within =
    let enters = c.enter-runner.ensures.enters in
    record { epoch = enters.epoch; section = None; at = enters.at; fresh = ap (λ (s : ReadsState). s.walk) enters.reads }

pub plan-runner-requires-clause-request : goal.plan-runner-requires-clause-request
plan-runner-requires-clause-request g c κs within =
    ap (λ rs. slice_get rs c.args.request.now.number) (sym c.requires.own.requests) ∙ c.requires.next.there

pub plan-runner-requires-clause-served : goal.plan-runner-requires-clause-served
plan-runner-requires-clause-served g c κs within =
    ap (λ s. (g.S.Planner.planning s).serves c.args.request.now.op) c.structure.ensures ∙ c.requires.next.served

pub look-runner-requires-clause-planned : goal.look-runner-requires-clause-planned
look-runner-requires-clause-planned g c κs within =
    let m = g.S.Structure.meaning c.args.table.now.structure in
    let enters = entered_of m (g.S.Planner.planning c.args.table.now.structure) c.args.request.now c.args.runner c.args.table.now c.enter-runner.result c.requires.own c.enter-runner.ensures.own c.requires.next c.enter-runner.ensures.enters in
    let is = (subst (λ s. PlanIs (g.S.Structure.meaning s) (g.S.Planner.planning s) c.args.request.now c.plan-runner.result.1 c.enter-runner.result c.plan-runner.result.0 (g.G.Gate.halts c.goes_on.new.gate) (g.G.Gate.halts c.plan-runner.new.gate) (g.G.Gate.asks c.goes_on.new.gate) (g.G.Gate.asks c.plan-runner.new.gate) c.args.steps.now.count c.plan-runner.new.steps.count) c.structure.ensures c.plan-runner.ensures.plans) in
    let planned = planned_of m (g.S.Planner.planning c.args.table.now.structure) c.args.request.now c.args.runner c.enter-runner.result enters c.plan-runner.result.1 c.plan-runner.result.0 _ _ _ _ _ _ is in
    (is.readings, c.args.runner, subst (λ a. HasPlanned m (g.S.Planner.planning c.args.table.now.structure) c.args.request.now is.readings a c.args.runner c.plan-runner.result.0) c.in-Thunk.is planned)

pub exit-requires-clause-entered : goal.exit-requires-clause-entered
exit-requires-clause-entered g c κs within =
    let m = g.S.Structure.meaning c.args.table.now.structure in
    let enters = entered_of m (g.S.Planner.planning c.args.table.now.structure) c.args.request.now c.args.runner c.args.table.now c.enter-runner.result c.requires.own c.enter-runner.ensures.own c.requires.next c.enter-runner.ensures.enters in
    let is = (subst (λ s. PlanIs (g.S.Structure.meaning s) (g.S.Planner.planning s) c.args.request.now c.plan-runner.result.1 c.enter-runner.result c.plan-runner.result.0 (g.G.Gate.halts c.goes_on.new.gate) (g.G.Gate.halts c.plan-runner.new.gate) (g.G.Gate.asks c.goes_on.new.gate) (g.G.Gate.asks c.plan-runner.new.gate) c.args.steps.now.count c.plan-runner.new.steps.count) c.structure.ensures c.plan-runner.ensures.plans) in
    let planned = planned_of m (g.S.Planner.planning c.args.table.now.structure) c.args.request.now c.args.runner c.enter-runner.result enters c.plan-runner.result.1 c.plan-runner.result.0 _ _ _ _ _ _ is in
    may_leave (g.S.Planner.planning c.args.table.now.structure) c.args.request.now c.args.runner c.plan-runner.result.0 c.requires.next planned.reading

pub returns-in-Thunk-clause-reads : goal.returns-in-Thunk-clause-reads
returns-in-Thunk-clause-reads g c =
    let met = g.met.S.Structure g.world.𝓛 g.world.𝓜 g.world.𝓡 ((λ s allowed. allowed), (λ patient. patient), (λ alone. alone), (λ cuts. cuts)) in
    let plans = g.met.S.Planner g.world.𝓛 g.world.𝓜 g.world.𝓡 ((λ s allowed. allowed), (λ patient. patient), (λ alone. alone), (λ cuts. cuts)) in
    let m = g.S.Structure.meaning c.args.table.now.structure in
    let enters = entered_of m (g.S.Planner.planning c.args.table.now.structure) c.args.request.now c.args.runner c.args.table.now c.enter-runner.result c.requires.own c.enter-runner.ensures.own c.requires.next c.enter-runner.ensures.enters in
    let is = (subst (λ s. PlanIs (g.S.Structure.meaning s) (g.S.Planner.planning s) c.args.request.now c.plan-runner.result.1 c.enter-runner.result c.plan-runner.result.0 (g.G.Gate.halts c.goes_on.new.gate) (g.G.Gate.halts c.plan-runner.new.gate) (g.G.Gate.asks c.goes_on.new.gate) (g.G.Gate.asks c.plan-runner.new.gate) c.args.steps.now.count c.plan-runner.new.steps.count) c.structure.ensures c.plan-runner.ensures.plans) in
    let planned = planned_of m (g.S.Planner.planning c.args.table.now.structure) c.args.request.now c.args.runner c.enter-runner.result enters c.plan-runner.result.1 c.plan-runner.result.0 _ _ _ _ _ _ is in
    subst (λ a. Reads m (g.S.Planner.planning c.args.table.now.structure) c.args.request.now a c.args.runner c.look-runner.result.0 (IsSeen g.G.Gate.halts g.G.Gate.asks) (g.G.Gate.halts c.args.gate.now) (g.G.Gate.halts c.look-runner.new.gate) (g.G.Gate.asks c.args.gate.now) (g.G.Gate.asks c.look-runner.new.gate) c.args.steps.now.count c.look-runner.new.steps.count) (sym c.as_read.ensures)
    (reads_so m (met.laws c.args.table.now.structure) (g.S.Planner.planning c.args.table.now.structure) (plans.gets_are_light c.args.table.now.structure) c.args.request.now c.args.runner
    (subst IsWithinLimits (sym c.requires.own.layout) (c.requires.own.limits _ refl)) (subst AreAllowed (sym c.requires.own.requests) (c.requires.own.allowed _ refl))
    c.enter-runner.result enters (g.G.Gate.halts c.args.gate.now) (g.G.Gate.asks c.args.gate.now) (g.G.Gate.halts c.goes_on.new.gate) (g.G.Gate.asks c.goes_on.new.gate) c.args.steps.now.count
    (subst (λ b. IsCounted 0 1 b (g.G.Gate.halts c.args.gate.now) (g.G.Gate.halts c.goes_on.new.gate) (g.G.Gate.asks c.args.gate.now) (g.G.Gate.asks c.goes_on.new.gate) c.args.steps.now.count c.args.steps.now.count) c.if-not-goes_on.false (c.goes_on.ensures c.args.steps.now.count))
    (length is.readings) (read_of c.look-runner.result.1) c.look-runner.result.0 (IsSeen g.G.Gate.halts g.G.Gate.asks) _ _ _ _ _ _
    (subst (λ b. IsAsked (length is.readings) b (g.G.Gate.halts c.goes_on.new.gate) (g.G.Gate.halts c.plan-runner.new.gate) (g.G.Gate.asks c.goes_on.new.gate) (g.G.Gate.asks c.plan-runner.new.gate) c.args.steps.now.count c.plan-runner.new.steps.count) (ap (λ a. not (is_halted a)) c.in-Thunk.is) is.asked)
    (c.look-runner.ensures.rests is.readings c.args.runner (subst (λ a. HasPlanned m (g.S.Planner.planning c.args.table.now.structure) c.args.request.now is.readings a c.args.runner c.plan-runner.result.0) c.in-Thunk.is planned)))

pub returns-in-Halted-clause-reads : goal.returns-in-Halted-clause-reads
returns-in-Halted-clause-reads g c =
    let met = g.met.S.Structure g.world.𝓛 g.world.𝓜 g.world.𝓡 ((λ s allowed. allowed), (λ patient. patient), (λ alone. alone), (λ cuts. cuts)) in
    let plans = g.met.S.Planner g.world.𝓛 g.world.𝓜 g.world.𝓡 ((λ s allowed. allowed), (λ patient. patient), (λ alone. alone), (λ cuts. cuts)) in
    let m = g.S.Structure.meaning c.args.table.now.structure in
    let enters = entered_of m (g.S.Planner.planning c.args.table.now.structure) c.args.request.now c.args.runner c.args.table.now c.enter-runner.result c.requires.own c.enter-runner.ensures.own c.requires.next c.enter-runner.ensures.enters in
    let is = (subst (λ s. PlanIs (g.S.Structure.meaning s) (g.S.Planner.planning s) c.args.request.now c.plan-runner.result.1 c.enter-runner.result c.plan-runner.result.0 (g.G.Gate.halts c.goes_on.new.gate) (g.G.Gate.halts c.plan-runner.new.gate) (g.G.Gate.asks c.goes_on.new.gate) (g.G.Gate.asks c.plan-runner.new.gate) c.args.steps.now.count c.plan-runner.new.steps.count) c.structure.ensures c.plan-runner.ensures.plans) in
    let planned = planned_of m (g.S.Planner.planning c.args.table.now.structure) c.args.request.now c.args.runner c.enter-runner.result enters c.plan-runner.result.1 c.plan-runner.result.0 _ _ _ _ _ _ is in
    plan_halted m (met.laws c.args.table.now.structure) (g.S.Planner.planning c.args.table.now.structure) (plans.gets_are_light c.args.table.now.structure) c.args.request.now c.args.runner
    (subst IsWithinLimits (sym c.requires.own.layout) (c.requires.own.limits _ refl)) (subst AreAllowed (sym c.requires.own.requests) (c.requires.own.allowed _ refl))
    c.enter-runner.result enters (g.G.Gate.halts c.args.gate.now) (g.G.Gate.asks c.args.gate.now) (g.G.Gate.halts c.goes_on.new.gate) (g.G.Gate.asks c.goes_on.new.gate) c.args.steps.now.count
    (subst (λ b. IsCounted 0 1 b (g.G.Gate.halts c.args.gate.now) (g.G.Gate.halts c.goes_on.new.gate) (g.G.Gate.asks c.args.gate.now) (g.G.Gate.asks c.goes_on.new.gate) c.args.steps.now.count c.args.steps.now.count) c.if-not-goes_on.false (c.goes_on.ensures c.args.steps.now.count))
    is.readings c.plan-runner.result.0 (subst (λ a. HasPlanned m (g.S.Planner.planning c.args.table.now.structure) c.args.request.now is.readings a c.args.runner c.plan-runner.result.0) c.in-Halted.is planned) (IsSeen g.G.Gate.halts g.G.Gate.asks) _ _ _ (c.goes_on.new.gate, refl, refl)
    (subst (λ b. IsAsked (length is.readings) b (g.G.Gate.halts c.goes_on.new.gate) (g.G.Gate.halts c.plan-runner.new.gate) (g.G.Gate.asks c.goes_on.new.gate) (g.G.Gate.asks c.plan-runner.new.gate) c.args.steps.now.count c.plan-runner.new.steps.count) (ap (λ a. not (is_halted a)) c.in-Halted.is) is.asked)

pub returns-in_default : goal.returns-in_default
returns-in_default g c =
    let met = g.met.S.Structure g.world.𝓛 g.world.𝓜 g.world.𝓡 ((λ s allowed. allowed), (λ patient. patient), (λ alone. alone), (λ cuts. cuts)) in
    let plans = g.met.S.Planner g.world.𝓛 g.world.𝓜 g.world.𝓡 ((λ s allowed. allowed), (λ patient. patient), (λ alone. alone), (λ cuts. cuts)) in
    let m = g.S.Structure.meaning c.args.table.now.structure in
    let enters = entered_of m (g.S.Planner.planning c.args.table.now.structure) c.args.request.now c.args.runner c.args.table.now c.enter-runner.result c.requires.own c.enter-runner.ensures.own c.requires.next c.enter-runner.ensures.enters in
    let is = (subst (λ s. PlanIs (g.S.Structure.meaning s) (g.S.Planner.planning s) c.args.request.now c.plan-runner.result.1 c.enter-runner.result c.plan-runner.result.0 (g.G.Gate.halts c.goes_on.new.gate) (g.G.Gate.halts c.plan-runner.new.gate) (g.G.Gate.asks c.goes_on.new.gate) (g.G.Gate.asks c.plan-runner.new.gate) c.args.steps.now.count c.plan-runner.new.steps.count) c.structure.ensures c.plan-runner.ensures.plans) in
    let planned = planned_of m (g.S.Planner.planning c.args.table.now.structure) c.args.request.now c.args.runner c.enter-runner.result enters c.plan-runner.result.1 c.plan-runner.result.0 _ _ _ _ _ _ is in
    let refused = refuses_by c.plan-runner.result.1 c.in_default.not-Thunk c.in_default.not-Halted in
    record {
      own = c.exit.ensures.own;
      reads = subst (λ a. Reads m (g.S.Planner.planning c.args.table.now.structure) c.args.request.now a c.args.runner c.exit.result (IsSeen g.G.Gate.halts g.G.Gate.asks) (g.G.Gate.halts c.args.gate.now) (g.G.Gate.halts c.plan-runner.new.gate) (g.G.Gate.asks c.args.gate.now) (g.G.Gate.asks c.plan-runner.new.gate) c.args.steps.now.count c.plan-runner.new.steps.count) (sym c.plan_refused.ensures)
          (plan_refused_reads m (met.laws c.args.table.now.structure) (g.S.Planner.planning c.args.table.now.structure) (plans.gets_are_light c.args.table.now.structure) c.args.request.now c.args.runner
          (subst IsWithinLimits (sym c.requires.own.layout) (c.requires.own.limits _ refl)) (subst AreAllowed (sym c.requires.own.requests) (c.requires.own.allowed _ refl))
          c.enter-runner.result enters (g.G.Gate.halts c.args.gate.now) (g.G.Gate.asks c.args.gate.now) (g.G.Gate.halts c.goes_on.new.gate) (g.G.Gate.asks c.goes_on.new.gate) c.args.steps.now.count
          (subst (λ b. IsCounted 0 1 b (g.G.Gate.halts c.args.gate.now) (g.G.Gate.halts c.goes_on.new.gate) (g.G.Gate.asks c.args.gate.now) (g.G.Gate.asks c.goes_on.new.gate) c.args.steps.now.count c.args.steps.now.count) c.if-not-goes_on.false (c.goes_on.ensures c.args.steps.now.count))
          is.readings c.plan-runner.result.1 c.plan-runner.result.0 c.exit.result planned refused c.exit.ensures.exits (IsSeen g.G.Gate.halts g.G.Gate.asks) _ _ _
          (subst (λ b. IsAsked (length is.readings) b (g.G.Gate.halts c.goes_on.new.gate) (g.G.Gate.halts c.plan-runner.new.gate) (g.G.Gate.asks c.goes_on.new.gate) (g.G.Gate.asks c.plan-runner.new.gate) c.args.steps.now.count c.plan-runner.new.steps.count) (ap not (refusal_goes_on c.plan-runner.result.1 refused)) is.asked));
    }
