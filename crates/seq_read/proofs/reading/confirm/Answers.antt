use Rattle.std.proofs.Common.{◌∙◌, sym, subst, refl}
use Rattle.machine_states.specs.table_words.specs.Limits.{IsWithinLimits}
use Rattle.caller_facts.specs.version_words.specs.machine_invariant.specs.After.{AreAllowed}
use Rattle.caller_facts.specs.section_runs.specs.commit_log.specs.Asked.{IsAsked}
use Rattle.caller_facts.specs.Counted.{IsSeen}
use Rattle.seq_read.specs.Course.{read_of, HasLock, loaded_steps}
use Rattle.seq_read.specs.Parts.{Rests}
use Rattle.seq_read.proofs.Courses.{announced_of, clock_of, lock_of, may_leave}
use Rattle.seq_read.proofs.Writing.{LooksStand}
use Rattle.seq_read.proofs.Along.{words_differ, words_agree, plan_cut, clock_cut, lock_cut, moved_rests, same_rests}
use Rattle.seq_read.proofs.reading.confirm.Goals as goal

pub announce-runner-requires-clause-found : goal.announce-runner-requires-clause-found
announce-runner-requires-clause-found g c κs within =
    let e = c.requires.found in (g.S.Planner.planning c.args.table.now.structure, c.args.request.now, e.0, e.1, e.2)

pub returns-then-not-going-clause-rests : goal.returns-then-not-going-clause-rests
returns-then-not-going-clause-rests g c =
    let met = g.met.S.Structure g.world.𝓛 g.world.𝓜 g.world.𝓡 ((λ s allowed. allowed), (λ patient. patient), (λ alone. alone), (λ cuts. cuts)) in
    let plans = g.met.S.Planner g.world.𝓛 g.world.𝓜 g.world.𝓡 ((λ s allowed. allowed), (λ patient. patient), (λ alone. alone), (λ cuts. cuts)) in
    let m = g.S.Structure.meaning c.args.table.now.structure in
    λ found old finds.
    plan_cut m (met.laws c.args.table.now.structure) (plans.plans_lawfully c.args.table.now.structure).serves (g.S.Planner.planning c.args.table.now.structure) c.args.request.now old (subst IsWithinLimits (sym c.requires.own.layout ∙ finds.loads.reading.still.layout) (c.requires.own.limits _ refl)) (subst AreAllowed (sym c.requires.own.requests ∙ finds.loads.reading.still.requests) (c.requires.own.allowed _ refl)) (subst (λ s. LooksStand (g.S.Structure.meaning s)) c.structure.ensures c.looks_are_small.ensures.stamps) c.args.thunk.now found (IsSeen g.G.Gate.halts g.G.Gate.asks) c.args.runner c.announce-runner.result.0 finds c.announce-runner.ensures.event
    (g.G.Gate.halts c.args.gate.now) (g.G.Gate.halts c.announce-runner.new.gate) (g.G.Gate.asks c.args.gate.now) (g.G.Gate.asks c.announce-runner.new.gate) c.args.steps.now.count c.announce-runner.new.steps.count
    (c.args.gate.now, refl, refl)
    (subst (λ b. IsAsked 1 b (g.G.Gate.halts c.args.gate.now) (g.G.Gate.halts c.announce-runner.new.gate) (g.G.Gate.asks c.args.gate.now) (g.G.Gate.asks c.announce-runner.new.gate) c.args.steps.now.count c.announce-runner.new.steps.count) c.if-not-going.true c.announce-runner.ensures.asked)

pub load_clock-runner-requires-clause-announced : goal.load_clock-runner-requires-clause-announced
load_clock-runner-requires-clause-announced g c κs within =
    let m = g.S.Structure.meaning c.args.table.now.structure in
    let e = c.requires.found in
    (g.S.Planner.planning c.args.table.now.structure, c.args.request.now, e.0, e.1, announced_of m (g.S.Planner.planning c.args.table.now.structure) c.args.request.now e.1 c.args.thunk.now e.0 c.args.runner c.announce-runner.result.0 e.2 c.announce-runner.ensures.event.found c.announce-runner.ensures.event.event)

pub returns-then-not-going-2-clause-rests : goal.returns-then-not-going-2-clause-rests
returns-then-not-going-2-clause-rests g c =
    let met = g.met.S.Structure g.world.𝓛 g.world.𝓜 g.world.𝓡 ((λ s allowed. allowed), (λ patient. patient), (λ alone. alone), (λ cuts. cuts)) in
    let plans = g.met.S.Planner g.world.𝓛 g.world.𝓜 g.world.𝓡 ((λ s allowed. allowed), (λ patient. patient), (λ alone. alone), (λ cuts. cuts)) in
    let m = g.S.Structure.meaning c.args.table.now.structure in
    λ found old finds.
    clock_cut m (met.laws c.args.table.now.structure) (plans.plans_lawfully c.args.table.now.structure).serves (g.S.Planner.planning c.args.table.now.structure) c.args.request.now old (subst IsWithinLimits (sym c.requires.own.layout ∙ finds.loads.reading.still.layout) (c.requires.own.limits _ refl)) (subst AreAllowed (sym c.requires.own.requests ∙ finds.loads.reading.still.requests) (c.requires.own.allowed _ refl)) (subst (λ s. LooksStand (g.S.Structure.meaning s)) c.structure.ensures c.looks_are_small.ensures.stamps) c.args.thunk.now found (IsSeen g.G.Gate.halts g.G.Gate.asks) c.args.runner c.announce-runner.result.0 finds c.announce-runner.ensures.event
    (g.G.Gate.halts c.args.gate.now) (g.G.Gate.halts c.announce-runner.new.gate) (g.G.Gate.asks c.args.gate.now) (g.G.Gate.asks c.announce-runner.new.gate) c.args.steps.now.count c.announce-runner.new.steps.count
    (subst (λ b. IsAsked 1 b (g.G.Gate.halts c.args.gate.now) (g.G.Gate.halts c.announce-runner.new.gate) (g.G.Gate.asks c.args.gate.now) (g.G.Gate.asks c.announce-runner.new.gate) c.args.steps.now.count c.announce-runner.new.steps.count) c.if-not-going.false c.announce-runner.ensures.asked) c.load_clock-runner.result.1 c.load_clock-runner.result.0 c.load_clock-runner.ensures.event (g.G.Gate.halts c.load_clock-runner.new.gate) (g.G.Gate.asks c.load_clock-runner.new.gate) c.load_clock-runner.new.steps.count
    (c.announce-runner.new.gate, refl, refl)
    (subst (λ b. IsAsked 1 b (g.G.Gate.halts c.announce-runner.new.gate) (g.G.Gate.halts c.load_clock-runner.new.gate) (g.G.Gate.asks c.announce-runner.new.gate) (g.G.Gate.asks c.load_clock-runner.new.gate) c.announce-runner.new.steps.count c.load_clock-runner.new.steps.count) c.if-not-going-2.true c.load_clock-runner.ensures.asked)

pub load_lock-runner-requires-clause-clock : goal.load_lock-runner-requires-clause-clock
load_lock-runner-requires-clause-clock g c κs within =
    let m = g.S.Structure.meaning c.args.table.now.structure in
    let e = c.requires.found in
    (g.S.Planner.planning c.args.table.now.structure, c.args.request.now, e.0, c.load_clock-runner.result.1, e.1, clock_of m (g.S.Planner.planning c.args.table.now.structure) c.args.request.now e.1 c.args.thunk.now e.0 c.announce-runner.result.0 c.load_clock-runner.result.0 c.load_clock-runner.result.1 (announced_of m (g.S.Planner.planning c.args.table.now.structure) c.args.request.now e.1 c.args.thunk.now e.0 c.args.runner c.announce-runner.result.0 e.2 c.announce-runner.ensures.event.found c.announce-runner.ensures.event.event) c.load_clock-runner.ensures.event)

pub returns-then-not-going-3-clause-rests : goal.returns-then-not-going-3-clause-rests
returns-then-not-going-3-clause-rests g c =
    let met = g.met.S.Structure g.world.𝓛 g.world.𝓜 g.world.𝓡 ((λ s allowed. allowed), (λ patient. patient), (λ alone. alone), (λ cuts. cuts)) in
    let plans = g.met.S.Planner g.world.𝓛 g.world.𝓜 g.world.𝓡 ((λ s allowed. allowed), (λ patient. patient), (λ alone. alone), (λ cuts. cuts)) in
    let m = g.S.Structure.meaning c.args.table.now.structure in
    λ found old finds.
    lock_cut m (met.laws c.args.table.now.structure) (plans.plans_lawfully c.args.table.now.structure).serves (g.S.Planner.planning c.args.table.now.structure) c.args.request.now old (subst IsWithinLimits (sym c.requires.own.layout ∙ finds.loads.reading.still.layout) (c.requires.own.limits _ refl)) (subst AreAllowed (sym c.requires.own.requests ∙ finds.loads.reading.still.requests) (c.requires.own.allowed _ refl)) (subst (λ s. LooksStand (g.S.Structure.meaning s)) c.structure.ensures c.looks_are_small.ensures.stamps) c.args.thunk.now found (IsSeen g.G.Gate.halts g.G.Gate.asks) c.args.runner c.announce-runner.result.0 finds c.announce-runner.ensures.event
    (g.G.Gate.halts c.args.gate.now) (g.G.Gate.halts c.announce-runner.new.gate) (g.G.Gate.asks c.args.gate.now) (g.G.Gate.asks c.announce-runner.new.gate) c.args.steps.now.count c.announce-runner.new.steps.count
    (subst (λ b. IsAsked 1 b (g.G.Gate.halts c.args.gate.now) (g.G.Gate.halts c.announce-runner.new.gate) (g.G.Gate.asks c.args.gate.now) (g.G.Gate.asks c.announce-runner.new.gate) c.args.steps.now.count c.announce-runner.new.steps.count) c.if-not-going.false c.announce-runner.ensures.asked) c.load_clock-runner.result.1 c.load_clock-runner.result.0 c.load_clock-runner.ensures.event (g.G.Gate.halts c.load_clock-runner.new.gate) (g.G.Gate.asks c.load_clock-runner.new.gate) c.load_clock-runner.new.steps.count
    (subst (λ b. IsAsked 1 b (g.G.Gate.halts c.announce-runner.new.gate) (g.G.Gate.halts c.load_clock-runner.new.gate) (g.G.Gate.asks c.announce-runner.new.gate) (g.G.Gate.asks c.load_clock-runner.new.gate) c.announce-runner.new.steps.count c.load_clock-runner.new.steps.count) c.if-not-going-2.false c.load_clock-runner.ensures.asked) c.load_lock-runner.result.1 c.load_lock-runner.result.0 c.load_lock-runner.ensures.event (g.G.Gate.halts c.load_lock-runner.new.gate) (g.G.Gate.asks c.load_lock-runner.new.gate) c.load_lock-runner.new.steps.count
    (c.load_clock-runner.new.gate, refl, refl)
    (subst (λ b. IsAsked 1 b (g.G.Gate.halts c.load_clock-runner.new.gate) (g.G.Gate.halts c.load_lock-runner.new.gate) (g.G.Gate.asks c.load_clock-runner.new.gate) (g.G.Gate.asks c.load_lock-runner.new.gate) c.load_clock-runner.new.steps.count c.load_lock-runner.new.steps.count) c.if-not-going-3.true c.load_lock-runner.ensures.asked)

pub exit-requires-clause-entered : goal.exit-requires-clause-entered
exit-requires-clause-entered g c κs within =
    let m = g.S.Structure.meaning c.args.table.now.structure in
    let e = c.requires.found in
    let locks = lock_of m (g.S.Planner.planning c.args.table.now.structure) c.args.request.now e.1 c.args.thunk.now e.0 c.load_clock-runner.result.1 c.load_clock-runner.result.0 c.load_lock-runner.result.0 c.load_lock-runner.result.1 (clock_of m (g.S.Planner.planning c.args.table.now.structure) c.args.request.now e.1 c.args.thunk.now e.0 c.announce-runner.result.0 c.load_clock-runner.result.0 c.load_clock-runner.result.1 (announced_of m (g.S.Planner.planning c.args.table.now.structure) c.args.request.now e.1 c.args.thunk.now e.0 c.args.runner c.announce-runner.result.0 e.2 c.announce-runner.ensures.event.found c.announce-runner.ensures.event.event) c.load_clock-runner.ensures.event) c.load_lock-runner.ensures.event in
    may_leave (g.S.Planner.planning c.args.table.now.structure) c.args.request.now e.1 c.load_lock-runner.result.0 e.2.loads.plans.enters.may locks.reading

pub returns-then-ne-clause-rests : goal.returns-then-ne-clause-rests
returns-then-ne-clause-rests g c =
    let met = g.met.S.Structure g.world.𝓛 g.world.𝓜 g.world.𝓡 ((λ s allowed. allowed), (λ patient. patient), (λ alone. alone), (λ cuts. cuts)) in
    let plans = g.met.S.Planner g.world.𝓛 g.world.𝓜 g.world.𝓡 ((λ s allowed. allowed), (λ patient. patient), (λ alone. alone), (λ cuts. cuts)) in
    let m = g.S.Structure.meaning c.args.table.now.structure in
    λ found old finds.
    subst (λ a. Rests m (g.S.Planner.planning c.args.table.now.structure) c.args.request.now (loaded_steps m (g.S.Planner.planning c.args.table.now.structure) c.args.request.now c.args.thunk.now found old c.args.runner finds.loads)
    a old c.exit.result (IsSeen g.G.Gate.halts g.G.Gate.asks) (g.G.Gate.halts c.args.gate.now) (g.G.Gate.halts c.load_lock-runner.new.gate) (g.G.Gate.asks c.args.gate.now) (g.G.Gate.asks c.load_lock-runner.new.gate) c.args.steps.now.count c.load_lock-runner.new.steps.count)
    (sym c.lock_moved.ensures)
    (moved_rests m (met.laws c.args.table.now.structure) (plans.plans_lawfully c.args.table.now.structure).serves (g.S.Planner.planning c.args.table.now.structure) c.args.request.now old (subst IsWithinLimits (sym c.requires.own.layout ∙ finds.loads.reading.still.layout) (c.requires.own.limits _ refl)) (subst AreAllowed (sym c.requires.own.requests ∙ finds.loads.reading.still.requests) (c.requires.own.allowed _ refl)) (subst (λ s. LooksStand (g.S.Structure.meaning s)) c.structure.ensures c.looks_are_small.ensures.stamps) c.args.thunk.now found (IsSeen g.G.Gate.halts g.G.Gate.asks) c.args.runner c.announce-runner.result.0 finds c.announce-runner.ensures.event
    (g.G.Gate.halts c.args.gate.now) (g.G.Gate.halts c.announce-runner.new.gate) (g.G.Gate.asks c.args.gate.now) (g.G.Gate.asks c.announce-runner.new.gate) c.args.steps.now.count c.announce-runner.new.steps.count
    (subst (λ b. IsAsked 1 b (g.G.Gate.halts c.args.gate.now) (g.G.Gate.halts c.announce-runner.new.gate) (g.G.Gate.asks c.args.gate.now) (g.G.Gate.asks c.announce-runner.new.gate) c.args.steps.now.count c.announce-runner.new.steps.count) c.if-not-going.false c.announce-runner.ensures.asked) c.load_clock-runner.result.1 c.load_clock-runner.result.0 c.load_clock-runner.ensures.event (g.G.Gate.halts c.load_clock-runner.new.gate) (g.G.Gate.asks c.load_clock-runner.new.gate) c.load_clock-runner.new.steps.count
    (subst (λ b. IsAsked 1 b (g.G.Gate.halts c.announce-runner.new.gate) (g.G.Gate.halts c.load_clock-runner.new.gate) (g.G.Gate.asks c.announce-runner.new.gate) (g.G.Gate.asks c.load_clock-runner.new.gate) c.announce-runner.new.steps.count c.load_clock-runner.new.steps.count) c.if-not-going-2.false c.load_clock-runner.ensures.asked) c.load_lock-runner.result.1 c.load_lock-runner.result.0 c.load_lock-runner.ensures.event (g.G.Gate.halts c.load_lock-runner.new.gate) (g.G.Gate.asks c.load_lock-runner.new.gate) c.load_lock-runner.new.steps.count
    (subst (λ b. IsAsked 1 b (g.G.Gate.halts c.load_clock-runner.new.gate) (g.G.Gate.halts c.load_lock-runner.new.gate) (g.G.Gate.asks c.load_clock-runner.new.gate) (g.G.Gate.asks c.load_lock-runner.new.gate) c.load_clock-runner.new.steps.count c.load_lock-runner.new.steps.count) c.if-not-going-3.false c.load_lock-runner.ensures.asked) (words_differ c.load_lock-runner.result.1 c.args.thunk.now.word (sym c.ne.ensures ∙ c.if-ne.true)) c.exit.result c.exit.ensures.exits)

pub answer-requires-clause-unmoved : goal.answer-requires-clause-unmoved
answer-requires-clause-unmoved g c κs within =
    let m = g.S.Structure.meaning c.args.table.now.structure in
    let e = c.requires.found in
    (e.0, e.1, subst (λ w. HasLock m (g.S.Planner.planning c.args.table.now.structure) c.args.request.now c.args.thunk.now e.0 c.load_clock-runner.result.1 w e.1 c.load_lock-runner.result.0) (words_agree c.load_lock-runner.result.1 c.args.thunk.now.word (sym c.ne.ensures ∙ c.if-ne.false)) (lock_of m (g.S.Planner.planning c.args.table.now.structure) c.args.request.now e.1 c.args.thunk.now e.0 c.load_clock-runner.result.1 c.load_clock-runner.result.0 c.load_lock-runner.result.0 c.load_lock-runner.result.1 (clock_of m (g.S.Planner.planning c.args.table.now.structure) c.args.request.now e.1 c.args.thunk.now e.0 c.announce-runner.result.0 c.load_clock-runner.result.0 c.load_clock-runner.result.1 (announced_of m (g.S.Planner.planning c.args.table.now.structure) c.args.request.now e.1 c.args.thunk.now e.0 c.args.runner c.announce-runner.result.0 e.2 c.announce-runner.ensures.event.found c.announce-runner.ensures.event.event) c.load_clock-runner.ensures.event) c.load_lock-runner.ensures.event))

pub returns-clause-rests : goal.returns-clause-rests
returns-clause-rests g c =
    let met = g.met.S.Structure g.world.𝓛 g.world.𝓜 g.world.𝓡 ((λ s allowed. allowed), (λ patient. patient), (λ alone. alone), (λ cuts. cuts)) in
    let plans = g.met.S.Planner g.world.𝓛 g.world.𝓜 g.world.𝓡 ((λ s allowed. allowed), (λ patient. patient), (λ alone. alone), (λ cuts. cuts)) in
    let m = g.S.Structure.meaning c.args.table.now.structure in
    λ found old finds.
    same_rests m (met.laws c.args.table.now.structure) (plans.plans_lawfully c.args.table.now.structure).serves (g.S.Planner.planning c.args.table.now.structure) c.args.request.now old (subst IsWithinLimits (sym c.requires.own.layout ∙ finds.loads.reading.still.layout) (c.requires.own.limits _ refl)) (subst AreAllowed (sym c.requires.own.requests ∙ finds.loads.reading.still.requests) (c.requires.own.allowed _ refl)) (subst (λ s. LooksStand (g.S.Structure.meaning s)) c.structure.ensures c.looks_are_small.ensures.stamps) c.args.thunk.now found (IsSeen g.G.Gate.halts g.G.Gate.asks) c.args.runner c.announce-runner.result.0 finds c.announce-runner.ensures.event
    (g.G.Gate.halts c.args.gate.now) (g.G.Gate.halts c.announce-runner.new.gate) (g.G.Gate.asks c.args.gate.now) (g.G.Gate.asks c.announce-runner.new.gate) c.args.steps.now.count c.announce-runner.new.steps.count
    (subst (λ b. IsAsked 1 b (g.G.Gate.halts c.args.gate.now) (g.G.Gate.halts c.announce-runner.new.gate) (g.G.Gate.asks c.args.gate.now) (g.G.Gate.asks c.announce-runner.new.gate) c.args.steps.now.count c.announce-runner.new.steps.count) c.if-not-going.false c.announce-runner.ensures.asked) c.load_clock-runner.result.1 c.load_clock-runner.result.0 c.load_clock-runner.ensures.event (g.G.Gate.halts c.load_clock-runner.new.gate) (g.G.Gate.asks c.load_clock-runner.new.gate) c.load_clock-runner.new.steps.count
    (subst (λ b. IsAsked 1 b (g.G.Gate.halts c.announce-runner.new.gate) (g.G.Gate.halts c.load_clock-runner.new.gate) (g.G.Gate.asks c.announce-runner.new.gate) (g.G.Gate.asks c.load_clock-runner.new.gate) c.announce-runner.new.steps.count c.load_clock-runner.new.steps.count) c.if-not-going-2.false c.load_clock-runner.ensures.asked) c.load_lock-runner.result.1 c.load_lock-runner.result.0 c.load_lock-runner.ensures.event (g.G.Gate.halts c.load_lock-runner.new.gate) (g.G.Gate.asks c.load_lock-runner.new.gate) c.load_lock-runner.new.steps.count
    (subst (λ b. IsAsked 1 b (g.G.Gate.halts c.load_clock-runner.new.gate) (g.G.Gate.halts c.load_lock-runner.new.gate) (g.G.Gate.asks c.load_clock-runner.new.gate) (g.G.Gate.asks c.load_lock-runner.new.gate) c.load_clock-runner.new.steps.count c.load_lock-runner.new.steps.count) c.if-not-going-3.false c.load_lock-runner.ensures.asked) (words_agree c.load_lock-runner.result.1 c.args.thunk.now.word (sym c.ne.ensures ∙ c.if-ne.false)) (read_of c.answer.result.1) c.answer.result.0 _ _ _ (c.answer.ensures.rests found old)
