use Rattle.std.proofs.Common.{◌∙◌, sym, subst, refl}
use Rattle.machine_states.specs.table_words.specs.Limits.{IsWithinLimits}
use Rattle.machine_states.proofs.Steps.{some_same, none_some}
use Rattle.caller_facts.specs.version_words.specs.machine_invariant.specs.After.{AreAllowed}
use Rattle.caller_facts.specs.section_runs.specs.commit_log.specs.Asked.{IsAsked}
use Rattle.caller_facts.specs.Counted.{IsSeen}
use Rattle.seq_read.specs.Course.{locked_steps}
use Rattle.seq_read.specs.Parts.{Rests}
use Rattle.seq_read.specs.declared.answers.Read.TheVariants as answers
use Rattle.seq_read.proofs.Events.{at_here}
use Rattle.seq_read.proofs.Courses.{stamped_here}
use Rattle.seq_read.proofs.Writing.{LooksStand, replied_of, stamped_of}
use Rattle.seq_read.proofs.Ending.{reply_read, word_read, is_reply_read}
use Rattle.seq_read.proofs.Along.{reply_cut, stamp_cut, read_done}
use Rattle.seq_read.proofs.reading.answer.Goals as goal

pub write_reply-runner-requires-clause-unmoved : goal.write_reply-runner-requires-clause-unmoved
write_reply-runner-requires-clause-unmoved g c κs within =
    (g.S.Planner.planning c.args.table.now.structure, c.args.request.now, c.requires.unmoved.0, c.args.clock, c.requires.unmoved.1, c.requires.unmoved.2)

pub returns-then-not-going-clause-rests : goal.returns-then-not-going-clause-rests
returns-then-not-going-clause-rests g c =
    let met = g.met.S.Structure g.world.𝓛 g.world.𝓜 g.world.𝓡 ((λ s allowed. allowed), (λ patient. patient), (λ alone. alone), (λ cuts. cuts)) in
    let plans = g.met.S.Planner g.world.𝓛 g.world.𝓜 g.world.𝓡 ((λ s allowed. allowed), (λ patient. patient), (λ alone. alone), (λ cuts. cuts)) in
    let m = g.S.Structure.meaning c.args.table.now.structure in
    λ found old locks.
    reply_cut m (met.laws c.args.table.now.structure) (plans.plans_lawfully c.args.table.now.structure).serves (g.S.Planner.planning c.args.table.now.structure) c.args.request.now old (subst IsWithinLimits (sym c.requires.own.layout ∙ locks.reading.still.layout) (c.requires.own.limits _ refl)) (subst AreAllowed (sym c.requires.own.requests ∙ locks.reading.still.requests) (c.requires.own.allowed _ refl)) (subst (λ s. LooksStand (g.S.Structure.meaning s)) c.structure.ensures c.looks_are_small.ensures.stamps) c.args.thunk.now found (IsSeen g.G.Gate.halts g.G.Gate.asks) c.args.clock c.args.runner c.write_reply-runner.result.0 locks c.write_reply-runner.ensures.event
    (g.G.Gate.halts c.args.gate.now) (g.G.Gate.halts c.write_reply-runner.new.gate) (g.G.Gate.asks c.args.gate.now) (g.G.Gate.asks c.write_reply-runner.new.gate) c.args.steps.now.count c.write_reply-runner.new.steps.count
    (c.args.gate.now, refl, refl)
    (subst (λ b. IsAsked 1 b (g.G.Gate.halts c.args.gate.now) (g.G.Gate.halts c.write_reply-runner.new.gate) (g.G.Gate.asks c.args.gate.now) (g.G.Gate.asks c.write_reply-runner.new.gate) c.args.steps.now.count c.write_reply-runner.new.steps.count) c.if-not-going.true c.write_reply-runner.ensures.asked)

pub write_stamp-runner-requires-clause-replied : goal.write_stamp-runner-requires-clause-replied
write_stamp-runner-requires-clause-replied g c κs within =
    let met = g.met.S.Structure g.world.𝓛 g.world.𝓜 g.world.𝓡 ((λ s allowed. allowed), (λ patient. patient), (λ alone. alone), (λ cuts. cuts)) in
    let m = g.S.Structure.meaning c.args.table.now.structure in
    let e = c.requires.unmoved in (
      g.S.Planner.planning c.args.table.now.structure,
      c.args.request.now,
      e.0,
      e.1,
      replied_of m (met.laws c.args.table.now.structure) (g.S.Planner.planning c.args.table.now.structure) c.args.request.now e.1 (subst IsWithinLimits (sym c.requires.own.layout ∙ e.2.reading.still.layout) (c.requires.own.limits _ refl)) (subst AreAllowed (sym c.requires.own.requests ∙ e.2.reading.still.requests) (c.requires.own.allowed _ refl)) (subst (λ s. LooksStand (g.S.Structure.meaning s)) c.structure.ensures c.looks_are_small.ensures.stamps) c.args.thunk.now e.0 c.args.clock c.args.runner e.2 c.write_reply-runner.result.0 0 c.write_reply-runner.ensures.event,
    )

pub returns-then-not-going-2-clause-rests : goal.returns-then-not-going-2-clause-rests
returns-then-not-going-2-clause-rests g c =
    let met = g.met.S.Structure g.world.𝓛 g.world.𝓜 g.world.𝓡 ((λ s allowed. allowed), (λ patient. patient), (λ alone. alone), (λ cuts. cuts)) in
    let plans = g.met.S.Planner g.world.𝓛 g.world.𝓜 g.world.𝓡 ((λ s allowed. allowed), (λ patient. patient), (λ alone. alone), (λ cuts. cuts)) in
    let m = g.S.Structure.meaning c.args.table.now.structure in
    λ found old locks.
    stamp_cut m (met.laws c.args.table.now.structure) (plans.plans_lawfully c.args.table.now.structure).serves (g.S.Planner.planning c.args.table.now.structure) c.args.request.now old (subst IsWithinLimits (sym c.requires.own.layout ∙ locks.reading.still.layout) (c.requires.own.limits _ refl)) (subst AreAllowed (sym c.requires.own.requests ∙ locks.reading.still.requests) (c.requires.own.allowed _ refl)) (subst (λ s. LooksStand (g.S.Structure.meaning s)) c.structure.ensures c.looks_are_small.ensures.stamps) c.args.thunk.now found (IsSeen g.G.Gate.halts g.G.Gate.asks) c.args.clock c.args.runner c.write_reply-runner.result.0 locks c.write_reply-runner.ensures.event
    (g.G.Gate.halts c.args.gate.now) (g.G.Gate.halts c.write_reply-runner.new.gate) (g.G.Gate.asks c.args.gate.now) (g.G.Gate.asks c.write_reply-runner.new.gate) c.args.steps.now.count c.write_reply-runner.new.steps.count
    (subst (λ b. IsAsked 1 b (g.G.Gate.halts c.args.gate.now) (g.G.Gate.halts c.write_reply-runner.new.gate) (g.G.Gate.asks c.args.gate.now) (g.G.Gate.asks c.write_reply-runner.new.gate) c.args.steps.now.count c.write_reply-runner.new.steps.count) c.if-not-going.false c.write_reply-runner.ensures.asked) c.write_stamp-runner.result.0 c.write_stamp-runner.ensures.event (g.G.Gate.halts c.write_stamp-runner.new.gate) (g.G.Gate.asks c.write_stamp-runner.new.gate) c.write_stamp-runner.new.steps.count
    (c.write_reply-runner.new.gate, refl, refl)
    (subst (λ b. IsAsked 1 b (g.G.Gate.halts c.write_reply-runner.new.gate) (g.G.Gate.halts c.write_stamp-runner.new.gate) (g.G.Gate.asks c.write_reply-runner.new.gate) (g.G.Gate.asks c.write_stamp-runner.new.gate) c.write_reply-runner.new.steps.count c.write_stamp-runner.new.steps.count) c.if-not-going-2.true c.write_stamp-runner.ensures.asked)

pub exit-runner-requires-clause-entered : goal.exit-runner-requires-clause-entered
exit-runner-requires-clause-entered g c κs within =
    let met = g.met.S.Structure g.world.𝓛 g.world.𝓜 g.world.𝓡 ((λ s allowed. allowed), (λ patient. patient), (λ alone. alone), (λ cuts. cuts)) in
    let m = g.S.Structure.meaning c.args.table.now.structure in
    let e = c.requires.unmoved in
    let replied = replied_of m (met.laws c.args.table.now.structure) (g.S.Planner.planning c.args.table.now.structure) c.args.request.now e.1 (subst IsWithinLimits (sym c.requires.own.layout ∙ e.2.reading.still.layout) (c.requires.own.limits _ refl)) (subst AreAllowed (sym c.requires.own.requests ∙ e.2.reading.still.requests) (c.requires.own.allowed _ refl)) (subst (λ s. LooksStand (g.S.Structure.meaning s)) c.structure.ensures c.looks_are_small.ensures.stamps) c.args.thunk.now e.0 c.args.clock c.args.runner e.2 c.write_reply-runner.result.0 0 c.write_reply-runner.ensures.event in
    let stamped = stamped_of m (met.laws c.args.table.now.structure) (g.S.Planner.planning c.args.table.now.structure) c.args.request.now e.1 (subst IsWithinLimits (sym c.requires.own.layout ∙ e.2.reading.still.layout) (c.requires.own.limits _ refl)) (subst AreAllowed (sym c.requires.own.requests ∙ e.2.reading.still.requests) (c.requires.own.allowed _ refl)) (subst (λ s. LooksStand (g.S.Structure.meaning s)) c.structure.ensures c.looks_are_small.ensures.stamps) c.args.thunk.now e.0 c.args.clock c.write_reply-runner.result.0 replied c.write_stamp-runner.result.0 0 c.write_stamp-runner.ensures.event in
    record {
      epoch = _;
      at = at_here c.write_stamp-runner.result.0 _ _ _ _ (stamped_here m (g.S.Planner.planning c.args.table.now.structure) c.args.request.now e.1 c.args.thunk.now e.0 c.args.clock c.write_stamp-runner.result.0 stamped) refl;
      unguarded = stamped.slots.guarded ∙ e.2.clocks.announces.finds.loads.plans.enters.may.tidy.unguarded;
    }

pub unreachable-requires : goal.unreachable-requires
unreachable-requires g c =
    let met = g.met.S.Structure g.world.𝓛 g.world.𝓜 g.world.𝓡 ((λ s allowed. allowed), (λ patient. patient), (λ alone. alone), (λ cuts. cuts)) in
    let plans = g.met.S.Planner g.world.𝓛 g.world.𝓜 g.world.𝓡 ((λ s allowed. allowed), (λ patient. patient), (λ alone. alone), (λ cuts. cuts)) in
    let m = g.S.Structure.meaning c.args.table.now.structure in
    let e = c.requires.unmoved in
    let replied = replied_of m (met.laws c.args.table.now.structure) (g.S.Planner.planning c.args.table.now.structure) c.args.request.now e.1 (subst IsWithinLimits (sym c.requires.own.layout ∙ e.2.reading.still.layout) (c.requires.own.limits _ refl)) (subst AreAllowed (sym c.requires.own.requests ∙ e.2.reading.still.requests) (c.requires.own.allowed _ refl)) (subst (λ s. LooksStand (g.S.Structure.meaning s)) c.structure.ensures c.looks_are_small.ensures.stamps) c.args.thunk.now e.0 c.args.clock c.args.runner e.2 c.write_reply-runner.result.0 0 c.write_reply-runner.ensures.event in
    let stamped = stamped_of m (met.laws c.args.table.now.structure) (g.S.Planner.planning c.args.table.now.structure) c.args.request.now e.1 (subst IsWithinLimits (sym c.requires.own.layout ∙ e.2.reading.still.layout) (c.requires.own.limits _ refl)) (subst AreAllowed (sym c.requires.own.requests ∙ e.2.reading.still.requests) (c.requires.own.allowed _ refl)) (subst (λ s. LooksStand (g.S.Structure.meaning s)) c.structure.ensures c.looks_are_small.ensures.stamps) c.args.thunk.now e.0 c.args.clock c.write_reply-runner.result.0 replied c.write_stamp-runner.result.0 0 c.write_stamp-runner.ensures.event in
    let reply = reply_read m (met.laws c.args.table.now.structure) (plans.plans_lawfully c.args.table.now.structure).serves (g.S.Planner.planning c.args.table.now.structure) c.args.request.now e.1 (subst IsWithinLimits (sym c.requires.own.layout ∙ e.2.reading.still.layout) (c.requires.own.limits _ refl)) (subst AreAllowed (sym c.requires.own.requests ∙ e.2.reading.still.requests) (c.requires.own.allowed _ refl)) (subst (λ s. LooksStand (g.S.Structure.meaning s)) c.structure.ensures c.looks_are_small.ensures.stamps) c.args.thunk.now e.0 c.args.clock c.write_stamp-runner.result.0 stamped in
    let word = word_read m (met.laws c.args.table.now.structure) (plans.plans_lawfully c.args.table.now.structure).serves (g.S.Planner.planning c.args.table.now.structure) c.args.request.now e.1 (subst IsWithinLimits (sym c.requires.own.layout ∙ e.2.reading.still.layout) (c.requires.own.limits _ refl)) (subst AreAllowed (sym c.requires.own.requests ∙ e.2.reading.still.requests) (c.requires.own.allowed _ refl)) (subst (λ s. LooksStand (g.S.Structure.meaning s)) c.structure.ensures c.looks_are_small.ensures.stamps) c.args.thunk.now e.0 c.args.clock c.write_stamp-runner.result.0 stamped in
    let is = is_reply_read m (met.laws c.args.table.now.structure) (plans.plans_lawfully c.args.table.now.structure).serves (g.S.Planner.planning c.args.table.now.structure) c.args.request.now e.1 (subst IsWithinLimits (sym c.requires.own.layout ∙ e.2.reading.still.layout) (c.requires.own.limits _ refl)) (subst AreAllowed (sym c.requires.own.requests ∙ e.2.reading.still.requests) (c.requires.own.allowed _ refl)) (subst (λ s. LooksStand (g.S.Structure.meaning s)) c.structure.ensures c.looks_are_small.ensures.stamps) c.args.thunk.now e.0 c.args.clock c.write_stamp-runner.result.0 stamped in
    none_some reply (sym (c.from_word.ensures.whole reply is (word ∙ (sym c.requires.reply ∙ sym c.write_reply-runner.ensures.word))) ∙ c.in-None.is)

pub returns-clause-rests : goal.returns-clause-rests
returns-clause-rests g c =
    let met = g.met.S.Structure g.world.𝓛 g.world.𝓜 g.world.𝓡 ((λ s allowed. allowed), (λ patient. patient), (λ alone. alone), (λ cuts. cuts)) in
    let plans = g.met.S.Planner g.world.𝓛 g.world.𝓜 g.world.𝓡 ((λ s allowed. allowed), (λ patient. patient), (λ alone. alone), (λ cuts. cuts)) in
    let m = g.S.Structure.meaning c.args.table.now.structure in
    λ found old locks.
    subst (λ s. Rests m (g.S.Planner.planning c.args.table.now.structure) c.args.request.now (locked_steps m (g.S.Planner.planning c.args.table.now.structure) c.args.request.now c.args.thunk.now found c.args.clock c.args.thunk.now.word old c.args.runner locks)
    (answers.Done c.in-Some.reply s) old c.exit-runner.result (IsSeen g.G.Gate.halts g.G.Gate.asks) (g.G.Gate.halts c.args.gate.now) (g.G.Gate.halts c.write_stamp-runner.new.gate) (g.G.Gate.asks c.args.gate.now) (g.G.Gate.asks c.write_stamp-runner.new.gate) c.args.steps.now.count c.write_stamp-runner.new.steps.count)
    (sym c.write_stamp-runner.ensures.stamp)
    (read_done m (met.laws c.args.table.now.structure) (plans.plans_lawfully c.args.table.now.structure).serves (g.S.Planner.planning c.args.table.now.structure) c.args.request.now old (subst IsWithinLimits (sym c.requires.own.layout ∙ locks.reading.still.layout) (c.requires.own.limits _ refl)) (subst AreAllowed (sym c.requires.own.requests ∙ locks.reading.still.requests) (c.requires.own.allowed _ refl)) (subst (λ s. LooksStand (g.S.Structure.meaning s)) c.structure.ensures c.looks_are_small.ensures.stamps) c.args.thunk.now found (IsSeen g.G.Gate.halts g.G.Gate.asks) c.args.clock c.args.runner c.write_reply-runner.result.0 locks c.write_reply-runner.ensures.event
    (g.G.Gate.halts c.args.gate.now) (g.G.Gate.halts c.write_reply-runner.new.gate) (g.G.Gate.asks c.args.gate.now) (g.G.Gate.asks c.write_reply-runner.new.gate) c.args.steps.now.count c.write_reply-runner.new.steps.count
    (subst (λ b. IsAsked 1 b (g.G.Gate.halts c.args.gate.now) (g.G.Gate.halts c.write_reply-runner.new.gate) (g.G.Gate.asks c.args.gate.now) (g.G.Gate.asks c.write_reply-runner.new.gate) c.args.steps.now.count c.write_reply-runner.new.steps.count) c.if-not-going.false c.write_reply-runner.ensures.asked) c.write_stamp-runner.result.0 c.write_stamp-runner.ensures.event (g.G.Gate.halts c.write_stamp-runner.new.gate) (g.G.Gate.asks c.write_stamp-runner.new.gate) c.write_stamp-runner.new.steps.count
    (subst (λ b. IsAsked 1 b (g.G.Gate.halts c.write_reply-runner.new.gate) (g.G.Gate.halts c.write_stamp-runner.new.gate) (g.G.Gate.asks c.write_reply-runner.new.gate) (g.G.Gate.asks c.write_stamp-runner.new.gate) c.write_reply-runner.new.steps.count c.write_stamp-runner.new.steps.count) c.if-not-going-2.false c.write_stamp-runner.ensures.asked) c.exit-runner.result c.exit-runner.ensures.exits c.in-Some.reply
    (λ other is word. some_same c.in-Some.reply other (sym c.in-Some.is ∙ c.from_word.ensures.whole other is (word ∙ (sym c.requires.reply ∙ sym c.write_reply-runner.ensures.word)))))
