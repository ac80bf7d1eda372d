use Rattle.std.proofs.Common.{List, refl, sym, ap, ◌∙◌, subst}
use Rattle.machine_states.specs.map_history.specs.declared.op.Request.{Request}
use Rattle.machine_states.specs.table_words.specs.declared.layout.Layout.{Layout}
use Rattle.seq_read.specs.runner_gate.specs.Asks.{HaltedOnce}
use Rattle.serving.specs.attempt_bounds.specs.Spared.{AttemptsSpareSlots}
use Rattle.seq_read.specs.caller_facts.specs.Counted.{IsSeen}
use Rattle.std.specs.Prelude.{not}
use Rattle.seq_read.specs.Reads.{is_halted, Reads}
use Rattle.serving.specs.Serving.{MayServe, Serves}
use Rattle.free_serving.specs.One.{ServesOne}
use Rattle.free_serving.proofs.Each.{may_attempt, under_lock, read_all, read_then_halted, read_halted, read_spent, may_still, both_ways, alone_met, refused, going_on}
use Rattle.free_serving.proofs.one.serve_one.Goals as goal

pub returns-then-not-is_get-clause-one : goal.returns-then-not-is_get-clause-one
returns-then-not-is_get-clause-one g c =
    let met = g.met.S.Structure g.world.𝓛 g.world.𝓜 g.world.𝓡 ((λ s allowed. allowed), (λ patient. patient), (λ alone. alone), (λ cuts. cuts)) in
    let t = c.args.table.now in
    let m = g.S.Structure.meaning t.structure in
    let planning = g.S.Planner.planning t.structure in
    let spare = subst (λ s. AttemptsSpareSlots g.row.S.Denot (g.S.Structure.meaning s) (g.S.Planner.planning s)) c.structure.ensures c.attempts_spare_slots.ensures in
    under_lock m (met.laws t.structure) planning c.args.retry_short c.args.request.now t (c.requires.own.limits _ refl) (c.requires.own.allowed _ refl)
    c.args.runner c.serve.result.0 c.requires.own c.serve.ensures.own c.requires.next spare c.serve.result.1 (IsSeen g.G.Gate.halts g.G.Gate.asks) _ _ _ _ _
    (subst (λ (qs : List Request). Serves m planning c.args.retry_short qs c.serve.result.1 c.args.runner c.serve.result.0 (IsSeen g.G.Gate.halts g.G.Gate.asks)
    (g.G.Gate.halts c.args.gate.now) (g.G.Gate.asks c.args.gate.now) (g.G.Gate.asks c.serve.new.gate) c.args.steps.now.count c.serve.new.steps.count)
    c.from_ref-only.ensures.value c.serve.ensures.serves)
    (sym c.if-not-is_get.ensures)

pub read-runner-requires-clause-next : goal.read-runner-requires-clause-next
read-runner-requires-clause-next g c κs within =
    let planning = g.S.Planner.planning c.args.table.now.structure in
    may_attempt planning c.args.request.now c.args.runner c.args.table.now c.requires.own (c.requires.own.allowed _ refl) c.requires.next

pub serve-requires-in-None-clause-next : goal.serve-requires-in-None-clause-next
serve-requires-in-None-clause-next g c κs within =
    let met = g.met.S.Structure g.world.𝓛 g.world.𝓜 g.world.𝓡 ((λ s allowed. allowed), (λ patient. patient), (λ alone. alone), (λ cuts. cuts)) in
    let t = c.args.table.now in
    let m = g.S.Structure.meaning t.structure in
    let planning = g.S.Planner.planning t.structure in
    subst (λ (qs : List Request). MayServe planning qs c.read-runner.result.0) (sym c.from_ref-only.ensures.value)
    (may_still m (met.laws t.structure) planning c.args.retry_short c.args.request.now t (c.requires.own.limits _ refl) (c.requires.own.allowed _ refl)
    (sym c.if-not-is_get.ensures) c.args.runner c.read-runner.result.0 c.requires.own c.read-runner.ensures.own c.requires.next
    (IsSeen g.G.Gate.halts g.G.Gate.asks) _ _ _ _ _ _ c.read-runner.result.1 (refused c.args.runner.layout c.layout.result t.layout c.requires.own.layout c.layout.ensures c.read-runner.result.1 c.in_default.not-Done c.in_default.not-Halted _ c.ends_alone.ensures c.in-None.is) c.read-runner.ensures.reads)

pub returns-then-goes_on-clause-one : goal.returns-then-goes_on-clause-one
returns-then-goes_on-clause-one g c =
    let met = g.met.S.Structure g.world.𝓛 g.world.𝓜 g.world.𝓡 ((λ s allowed. allowed), (λ patient. patient), (λ alone. alone), (λ cuts. cuts)) in
    let t = c.args.table.now in
    let m = g.S.Structure.meaning t.structure in
    let planning = g.S.Planner.planning t.structure in
    read_all m (met.laws t.structure) planning c.args.retry_short c.args.request.now t (c.requires.own.limits _ refl) (c.requires.own.allowed _ refl)
    (sym c.if-not-is_get.ensures) c.args.runner c.read-runner.result.0 c.requires.own c.read-runner.ensures.own c.requires.next
    (IsSeen g.G.Gate.halts g.G.Gate.asks) _ _ _ _ _ _ c.in-Done.reply c.in-Done.stamp
    (subst (λ a. Reads m planning c.args.request.now a c.args.runner c.read-runner.result.0 (IsSeen g.G.Gate.halts g.G.Gate.asks)
    (g.G.Gate.halts c.args.gate.now) (g.G.Gate.halts c.read-runner.new.gate) (g.G.Gate.asks c.args.gate.now) (g.G.Gate.asks c.read-runner.new.gate)
    c.args.steps.now.count c.read-runner.new.steps.count) c.in-Done.is c.read-runner.ensures.reads)
    _ (c.if-goes_on.ensures 0).asked

pub returns-then-goes_on-clause-went : goal.returns-then-goes_on-clause-went
returns-then-goes_on-clause-went g c = λ other.
    (c.if-goes_on.ensures 0).went refl ∙ c.read-runner.ensures.reads.asked.went (ap (λ a. not (is_halted a)) c.in-Done.is)

pub returns-else-goes_on-clause-one : goal.returns-else-goes_on-clause-one
returns-else-goes_on-clause-one g c =
    let met = g.met.S.Structure g.world.𝓛 g.world.𝓜 g.world.𝓡 ((λ s allowed. allowed), (λ patient. patient), (λ alone. alone), (λ cuts. cuts)) in
    let t = c.args.table.now in
    let m = g.S.Structure.meaning t.structure in
    let planning = g.S.Planner.planning t.structure in
    read_then_halted m (met.laws t.structure) planning c.args.retry_short c.args.request.now t (c.requires.own.limits _ refl) (c.requires.own.allowed _ refl)
    (sym c.if-not-is_get.ensures) c.args.runner c.read-runner.result.0 c.requires.own c.read-runner.ensures.own c.requires.next
    (IsSeen g.G.Gate.halts g.G.Gate.asks) _ _ _ _ _ _ c.in-Done.reply c.in-Done.stamp
    (subst (λ a. Reads m planning c.args.request.now a c.args.runner c.read-runner.result.0 (IsSeen g.G.Gate.halts g.G.Gate.asks)
    (g.G.Gate.halts c.args.gate.now) (g.G.Gate.halts c.read-runner.new.gate) (g.G.Gate.asks c.args.gate.now) (g.G.Gate.asks c.read-runner.new.gate)
    c.args.steps.now.count c.read-runner.new.steps.count) c.in-Done.is c.read-runner.ensures.reads)
    _ (c.if-goes_on.ensures 0).asked
    (c.read-runner.new.gate, c.read-runner.ensures.reads.asked.went (ap (λ a. not (is_halted a)) c.in-Done.is), refl)

pub returns-else-goes_on-clause-halted : goal.returns-else-goes_on-clause-halted
returns-else-goes_on-clause-halted g c = λ _.
    subst (λ n. HaltedOnce n (g.G.Gate.halts c.goes_on.new.gate)) (c.read-runner.ensures.reads.asked.went (ap (λ a. not (is_halted a)) c.in-Done.is))
    ((c.if-goes_on.ensures 0).halted refl)

pub returns-in-Some-clause-one : goal.returns-in-Some-clause-one
returns-in-Some-clause-one g c =
    let met = g.met.S.Structure g.world.𝓛 g.world.𝓜 g.world.𝓡 ((λ s allowed. allowed), (λ patient. patient), (λ alone. alone), (λ cuts. cuts)) in
    let t = c.args.table.now in
    let m = g.S.Structure.meaning t.structure in
    let planning = g.S.Planner.planning t.structure in
    let alone = alone_met c.layout.result.runners c.read-runner.result.1 c.in-Some.served (sym c.ends_alone.ensures ∙ c.in-Some.is) in
    subst (λ a. ServesOne m planning c.args.retry_short c.args.request.now a c.args.runner c.read-runner.result.0 (IsSeen g.G.Gate.halts g.G.Gate.asks)
    (g.G.Gate.halts c.args.gate.now) (g.G.Gate.asks c.args.gate.now) (g.G.Gate.asks c.read-runner.new.gate) c.args.steps.now.count c.read-runner.new.steps.count)
    (sym alone.4)
    (read_spent m (met.laws t.structure) planning c.args.retry_short c.args.request.now t (c.requires.own.limits _ refl) (c.requires.own.allowed _ refl)
    (sym c.if-not-is_get.ensures) c.args.runner c.read-runner.result.0 c.requires.own c.read-runner.ensures.own c.requires.next
    (IsSeen g.G.Gate.halts g.G.Gate.asks) _ _ _ _ _ _ alone.0 alone.1
    (ap (λ (l : Layout). l.runners) (c.requires.own.layout ∙ sym c.layout.ensures) ∙ alone.2)
    (subst (λ a. Reads m planning c.args.request.now a c.args.runner c.read-runner.result.0 (IsSeen g.G.Gate.halts g.G.Gate.asks)
    (g.G.Gate.halts c.args.gate.now) (g.G.Gate.halts c.read-runner.new.gate) (g.G.Gate.asks c.args.gate.now) (g.G.Gate.asks c.read-runner.new.gate)
    c.args.steps.now.count c.read-runner.new.steps.count) alone.3 c.read-runner.ensures.reads))

pub returns-in-Some-clause-halted : goal.returns-in-Some-clause-halted
returns-in-Some-clause-halted g c = λ halted.
    let alone = alone_met c.layout.result.runners c.read-runner.result.1 c.in-Some.served (sym c.ends_alone.ensures ∙ c.in-Some.is) in
    absurd (let z = sym alone.4 ∙ halted in cc)

pub returns-in-Some-clause-went : goal.returns-in-Some-clause-went
returns-in-Some-clause-went g c = λ other.
    let alone = alone_met c.layout.result.runners c.read-runner.result.1 c.in-Some.served (sym c.ends_alone.ensures ∙ c.in-Some.is) in
    c.read-runner.ensures.reads.asked.went (ap (λ a. not (is_halted a)) alone.3)

pub returns-in-Halted-clause-one : goal.returns-in-Halted-clause-one
returns-in-Halted-clause-one g c =
    let met = g.met.S.Structure g.world.𝓛 g.world.𝓜 g.world.𝓡 ((λ s allowed. allowed), (λ patient. patient), (λ alone. alone), (λ cuts. cuts)) in
    let t = c.args.table.now in
    let m = g.S.Structure.meaning t.structure in
    let planning = g.S.Planner.planning t.structure in
    read_halted m (met.laws t.structure) planning c.args.retry_short c.args.request.now t (c.requires.own.limits _ refl) (c.requires.own.allowed _ refl)
    (sym c.if-not-is_get.ensures) c.args.runner c.read-runner.result.0 c.requires.own c.read-runner.ensures.own c.requires.next
    (IsSeen g.G.Gate.halts g.G.Gate.asks) _ _ _ _ _ _
    (subst (λ a. Reads m planning c.args.request.now a c.args.runner c.read-runner.result.0 (IsSeen g.G.Gate.halts g.G.Gate.asks)
    (g.G.Gate.halts c.args.gate.now) (g.G.Gate.halts c.read-runner.new.gate) (g.G.Gate.asks c.args.gate.now) (g.G.Gate.asks c.read-runner.new.gate)
    c.args.steps.now.count c.read-runner.new.steps.count) c.in-Halted.is c.read-runner.ensures.reads)

pub returns-in-None : goal.returns-in-None
returns-in-None g c =
    let met = g.met.S.Structure g.world.𝓛 g.world.𝓜 g.world.𝓡 ((λ s allowed. allowed), (λ patient. patient), (λ alone. alone), (λ cuts. cuts)) in
    let plans = g.met.S.Planner g.world.𝓛 g.world.𝓜 g.world.𝓡 ((λ s allowed. allowed), (λ patient. patient), (λ alone. alone), (λ cuts. cuts)) in
    let t = c.args.table.now in
    let m = g.S.Structure.meaning t.structure in
    let planning = g.S.Planner.planning t.structure in
    let spare = subst (λ s. AttemptsSpareSlots g.row.S.Denot (g.S.Structure.meaning s) (g.S.Planner.planning s)) c.structure.ensures c.attempts_spare_slots.ensures in
    let refusal = refused c.args.runner.layout c.layout.result t.layout c.requires.own.layout c.layout.ensures c.read-runner.result.1 c.in_default.not-Done c.in_default.not-Halted _ c.ends_alone.ensures c.in-None.is in
    let went = c.read-runner.ensures.reads.asked.went (going_on c.args.runner.layout.runners c.read-runner.result.1 refusal) in
    record {
      own = c.serve-in-None.ensures.own;
      one = both_ways m (met.laws t.structure) planning c.args.retry_short c.args.request.now t (c.requires.own.limits _ refl) (c.requires.own.allowed _ refl)
          (sym c.if-not-is_get.ensures) c.args.runner c.read-runner.result.0 c.requires.own c.read-runner.ensures.own c.requires.next
          (IsSeen g.G.Gate.halts g.G.Gate.asks) _ _ _ _ _ _ c.read-runner.result.1 refusal c.read-runner.ensures.reads
          (plans.gets_are_light t.structure) (plans.plans_lawfully t.structure).serves c.serve-in-None.result.0 c.serve-in-None.ensures.own spare c.serve-in-None.result.1 _ _ went
          (subst (λ (qs : List Request). Serves m planning c.args.retry_short qs c.serve-in-None.result.1 c.read-runner.result.0 c.serve-in-None.result.0 (IsSeen g.G.Gate.halts g.G.Gate.asks)
          (g.G.Gate.halts c.read-runner.new.gate) (g.G.Gate.asks c.read-runner.new.gate) (g.G.Gate.asks c.serve-in-None.new.gate) c.read-runner.new.steps.count c.serve-in-None.new.steps.count)
          c.from_ref-only.ensures.value c.serve-in-None.ensures.serves);
      halted = λ e. subst (λ n. HaltedOnce n (g.G.Gate.halts c.serve-in-None.new.gate)) went (c.serve-in-None.ensures.halted e);
      went = λ other. c.serve-in-None.ensures.went other ∙ went;
    }
