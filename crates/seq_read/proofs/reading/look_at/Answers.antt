use Rattle.std.specs.Prelude.{not, position}
use Rattle.std.specs.List.{list_any}
use Rattle.std.proofs.Common.{◌∙◌, sym, ap, subst, refl}
use Rattle.machine_states.specs.body_terms.specs.Shape.{IsShaped, is_look}
use Rattle.machine_states.specs.table_words.specs.Limits.{IsWithinLimits}
use Rattle.machine_states.specs.runner_steps.specs.Sections.{reply_in}
use Rattle.caller_facts.specs.version_words.specs.machine_invariant.specs.After.{AreAllowed}
use Rattle.caller_facts.specs.Counted.{IsSeen}
use Rattle.seq_read.specs.Course.{read_of}
use Rattle.seq_read.specs.Wants.{readings_of, is_missed, IsAmong}
use Rattle.seq_read.specs.Parts.{MayLoad, HasLoadedCells}
use Rattle.seq_read.specs.View.{steps_in}
use Rattle.seq_read.proofs.Courses.{may_leave}
use Rattle.seq_read.proofs.Looked.{body_rests, may_load_so, loaded, cells_cut, cell_rests, found_so, found_rests}
use Rattle.seq_read.proofs.Testing.{missed_is}
use Rattle.seq_read.proofs.reading.look_at.Goals as goal

pub exit-requires-clause-entered : goal.exit-requires-clause-entered
exit-requires-clause-entered g c κs within = let e = c.requires.planned in may_leave (g.S.Planner.planning c.args.table.now.structure) c.args.request.now e.1 c.args.runner e.2.enters.may e.2.reading

pub returns-in-Some-clause-rests : goal.returns-in-Some-clause-rests
returns-in-Some-clause-rests g c =
    let met = g.met.S.Structure g.world.𝓛 g.world.𝓜 g.world.𝓡 ((λ s allowed. allowed), (λ patient. patient), (λ alone. alone), (λ cuts. cuts)) in
    let m = g.S.Structure.meaning c.args.table.now.structure in
    λ readings old is.
    body_rests m (met.laws c.args.table.now.structure) (g.S.Planner.planning c.args.table.now.structure) c.args.request.now old (subst IsWithinLimits (sym c.requires.own.layout ∙ is.reading.still.layout) (c.requires.own.limits _ refl)) (subst AreAllowed (sym c.requires.own.requests ∙ is.reading.still.requests) (c.requires.own.allowed _ refl)) c.args.thunk.now readings c.args.runner is (IsSeen g.G.Gate.halts g.G.Gate.asks) c.in-Some.at
    (ap (position (λ step. not (is_look step))) (sym c.requires.body) ∙ (sym c.change_in.ensures ∙ c.in-Some.is))
    c.exit.result c.exit.ensures.exits (g.G.Gate.halts c.args.gate.now) (g.G.Gate.asks c.args.gate.now) c.args.steps.now.count

pub load_cells-runner-requires-clause-may : goal.load_cells-runner-requires-clause-may
load_cells-runner-requires-clause-may g c κs within =
    let met = g.met.S.Structure g.world.𝓛 g.world.𝓜 g.world.𝓡 ((λ s allowed. allowed), (λ patient. patient), (λ alone. alone), (λ cuts. cuts)) in
    let m = g.S.Structure.meaning c.args.table.now.structure in
    let e = c.requires.planned in (
      (g.S.Planner.planning c.args.table.now.structure),
      c.args.request.now,
      c.args.thunk.now,
      e.0,
      e.1,
      subst (λ b. MayLoad m (g.S.Planner.planning c.args.table.now.structure) c.args.request.now b c.args.thunk.now e.0 e.1 c.args.runner) (sym c.requires.body)
          (may_load_so m (met.laws c.args.table.now.structure) (g.S.Planner.planning c.args.table.now.structure) c.args.request.now e.1 (subst IsWithinLimits (sym c.requires.own.layout ∙ e.2.reading.still.layout) (c.requires.own.limits _ refl)) (subst AreAllowed (sym c.requires.own.requests ∙ e.2.reading.still.requests) (c.requires.own.allowed _ refl)) c.args.thunk.now e.0 c.args.runner e.2 (IsSeen g.G.Gate.halts g.G.Gate.asks) (ap (position (λ step. not (is_look step))) (sym c.requires.body) ∙ (sym c.change_in.ensures ∙ c.in_default.is))),
    )

pub returns-then-not-going-clause-rests : goal.returns-then-not-going-clause-rests
returns-then-not-going-clause-rests g c =
    let met = g.met.S.Structure g.world.𝓛 g.world.𝓜 g.world.𝓡 ((λ s allowed. allowed), (λ patient. patient), (λ alone. alone), (λ cuts. cuts)) in
    let m = g.S.Structure.meaning c.args.table.now.structure in
    λ readings old is.
    cells_cut m (met.laws c.args.table.now.structure) (g.S.Planner.planning c.args.table.now.structure) c.args.request.now old (subst IsWithinLimits (sym c.requires.own.layout ∙ is.reading.still.layout) (c.requires.own.limits _ refl)) (subst AreAllowed (sym c.requires.own.requests ∙ is.reading.still.requests) (c.requires.own.allowed _ refl)) c.args.thunk.now readings c.args.runner is (IsSeen g.G.Gate.halts g.G.Gate.asks) (ap (position (λ step. not (is_look step))) (sym c.requires.body) ∙ (sym c.change_in.ensures ∙ c.in_default.is)) c.load_cells-runner.ensures.loaded.0 c.load_cells-runner.result.2 c.load_cells-runner.result.0 (g.G.Gate.halts c.args.gate.now) (g.G.Gate.halts c.load_cells-runner.new.gate) (g.G.Gate.asks c.args.gate.now) (g.G.Gate.asks c.load_cells-runner.new.gate) c.args.steps.now.count c.load_cells-runner.new.steps.count (subst (λ b. HasLoadedCells m b c.load_cells-runner.ensures.loaded.0 c.load_cells-runner.result.2 c.args.runner c.load_cells-runner.result.0 (IsSeen g.G.Gate.halts g.G.Gate.asks) (g.G.Gate.halts c.args.gate.now) (g.G.Gate.halts c.load_cells-runner.new.gate) (g.G.Gate.asks c.args.gate.now) (g.G.Gate.asks c.load_cells-runner.new.gate) c.args.steps.now.count c.load_cells-runner.new.steps.count) c.requires.body c.load_cells-runner.ensures.loaded.2) c.if-not-going.true

pub exit-requires-in-Some-missed-clause-entered : goal.exit-requires-in-Some-missed-clause-entered
exit-requires-in-Some-missed-clause-entered g c κs within =
    let met = g.met.S.Structure g.world.𝓛 g.world.𝓜 g.world.𝓡 ((λ s allowed. allowed), (λ patient. patient), (λ alone. alone), (λ cuts. cuts)) in
    let m = g.S.Structure.meaning c.args.table.now.structure in
    let e = c.requires.planned in
    let was = loaded m (met.laws c.args.table.now.structure) (g.S.Planner.planning c.args.table.now.structure) c.args.request.now e.1 (subst IsWithinLimits (sym c.requires.own.layout ∙ e.2.reading.still.layout) (c.requires.own.limits _ refl)) (subst AreAllowed (sym c.requires.own.requests ∙ e.2.reading.still.requests) (c.requires.own.allowed _ refl)) c.args.thunk.now e.0 c.args.runner e.2 (IsSeen g.G.Gate.halts g.G.Gate.asks) (ap (position (λ step. not (is_look step))) (sym c.requires.body) ∙ (sym c.change_in.ensures ∙ c.in_default.is)) c.load_cells-runner.ensures.loaded.0 c.load_cells-runner.result.2 c.load_cells-runner.result.0 (g.G.Gate.halts c.args.gate.now) (g.G.Gate.halts c.load_cells-runner.new.gate) (g.G.Gate.asks c.args.gate.now) (g.G.Gate.asks c.load_cells-runner.new.gate) c.args.steps.now.count c.load_cells-runner.new.steps.count (subst (λ b. HasLoadedCells m b c.load_cells-runner.ensures.loaded.0 c.load_cells-runner.result.2 c.args.runner c.load_cells-runner.result.0 (IsSeen g.G.Gate.halts g.G.Gate.asks) (g.G.Gate.halts c.args.gate.now) (g.G.Gate.halts c.load_cells-runner.new.gate) (g.G.Gate.asks c.args.gate.now) (g.G.Gate.asks c.load_cells-runner.new.gate) c.args.steps.now.count c.load_cells-runner.new.steps.count) c.requires.body c.load_cells-runner.ensures.loaded.2) in
    may_leave (g.S.Planner.planning c.args.table.now.structure) c.args.request.now e.1 c.load_cells-runner.result.0 e.2.enters.may was.reading

pub returns-in-Some-missed-clause-rests : goal.returns-in-Some-missed-clause-rests
returns-in-Some-missed-clause-rests g c =
    let met = g.met.S.Structure g.world.𝓛 g.world.𝓜 g.world.𝓡 ((λ s allowed. allowed), (λ patient. patient), (λ alone. alone), (λ cuts. cuts)) in
    let m = g.S.Structure.meaning c.args.table.now.structure in
    λ readings old is.
    let miss = missed_is (steps_in c.args.body.now) c.load_cells-runner.ensures.loaded.0 c.load_cells-runner.result.1 c.in-Some-missed.missed c.in-Some-missed.is c.load_cells-runner.ensures.loaded.1 in
    cell_rests m (met.laws c.args.table.now.structure) (g.S.Planner.planning c.args.table.now.structure) c.args.request.now old (subst IsWithinLimits (sym c.requires.own.layout ∙ is.reading.still.layout) (c.requires.own.limits _ refl)) (subst AreAllowed (sym c.requires.own.requests ∙ is.reading.still.requests) (c.requires.own.allowed _ refl)) c.args.thunk.now readings c.args.runner is (IsSeen g.G.Gate.halts g.G.Gate.asks) (ap (position (λ step. not (is_look step))) (sym c.requires.body) ∙ (sym c.change_in.ensures ∙ c.in_default.is)) c.load_cells-runner.ensures.loaded.0 c.load_cells-runner.result.2 c.load_cells-runner.result.0 (g.G.Gate.halts c.args.gate.now) (g.G.Gate.halts c.load_cells-runner.new.gate) (g.G.Gate.asks c.args.gate.now) (g.G.Gate.asks c.load_cells-runner.new.gate) c.args.steps.now.count c.load_cells-runner.new.steps.count (subst (λ b. HasLoadedCells m b c.load_cells-runner.ensures.loaded.0 c.load_cells-runner.result.2 c.args.runner c.load_cells-runner.result.0 (IsSeen g.G.Gate.halts g.G.Gate.asks) (g.G.Gate.halts c.args.gate.now) (g.G.Gate.halts c.load_cells-runner.new.gate) (g.G.Gate.asks c.args.gate.now) (g.G.Gate.asks c.load_cells-runner.new.gate) c.args.steps.now.count c.load_cells-runner.new.steps.count) c.requires.body c.load_cells-runner.ensures.loaded.2) c.if-not-going.false miss.0
    (subst (λ b. IsAmong b miss.0) c.requires.body miss.1)
    c.in-Some-missed.missed.place c.in-Some-missed.missed.expected c.in-Some-missed.missed.read
    miss.2
    c.exit-in-Some-missed.result c.exit-in-Some-missed.ensures.exits

pub reply_of-requires : goal.reply_of-requires
reply_of-requires g c =
    let met = g.met.S.Structure g.world.𝓛 g.world.𝓜 g.world.𝓡 ((λ s allowed. allowed), (λ patient. patient), (λ alone. alone), (λ cuts. cuts)) in
    let m = g.S.Structure.meaning c.args.table.now.structure in
    let e = c.requires.planned in
    subst IsShaped (sym c.requires.body) (may_load_so m (met.laws c.args.table.now.structure) (g.S.Planner.planning c.args.table.now.structure) c.args.request.now e.1 (subst IsWithinLimits (sym c.requires.own.layout ∙ e.2.reading.still.layout) (c.requires.own.limits _ refl)) (subst AreAllowed (sym c.requires.own.requests ∙ e.2.reading.still.requests) (c.requires.own.allowed _ refl)) c.args.thunk.now e.0 c.args.runner e.2 (IsSeen g.G.Gate.halts g.G.Gate.asks) (ap (position (λ step. not (is_look step))) (sym c.requires.body) ∙ (sym c.change_in.ensures ∙ c.in_default.is))).shaped

pub confirm-requires-clause-found : goal.confirm-requires-clause-found
confirm-requires-clause-found g c κs within =
    let met = g.met.S.Structure g.world.𝓛 g.world.𝓜 g.world.𝓡 ((λ s allowed. allowed), (λ patient. patient), (λ alone. alone), (λ cuts. cuts)) in
    let m = g.S.Structure.meaning c.args.table.now.structure in
    let e = c.requires.planned in (
      readings_of c.load_cells-runner.ensures.loaded.0,
      e.1,
      found_so m (met.laws c.args.table.now.structure) (g.S.Planner.planning c.args.table.now.structure) c.args.request.now e.1 (subst IsWithinLimits (sym c.requires.own.layout ∙ e.2.reading.still.layout) (c.requires.own.limits _ refl)) (subst AreAllowed (sym c.requires.own.requests ∙ e.2.reading.still.requests) (c.requires.own.allowed _ refl)) c.args.thunk.now e.0 c.args.runner e.2 (IsSeen g.G.Gate.halts g.G.Gate.asks) (ap (position (λ step. not (is_look step))) (sym c.requires.body) ∙ (sym c.change_in.ensures ∙ c.in_default.is)) c.load_cells-runner.ensures.loaded.0 c.load_cells-runner.result.2 c.load_cells-runner.result.0 (g.G.Gate.halts c.args.gate.now) (g.G.Gate.halts c.load_cells-runner.new.gate) (g.G.Gate.asks c.args.gate.now) (g.G.Gate.asks c.load_cells-runner.new.gate) c.args.steps.now.count c.load_cells-runner.new.steps.count (subst (λ b. HasLoadedCells m b c.load_cells-runner.ensures.loaded.0 c.load_cells-runner.result.2 c.args.runner c.load_cells-runner.result.0 (IsSeen g.G.Gate.halts g.G.Gate.asks) (g.G.Gate.halts c.args.gate.now) (g.G.Gate.halts c.load_cells-runner.new.gate) (g.G.Gate.asks c.args.gate.now) (g.G.Gate.asks c.load_cells-runner.new.gate) c.args.steps.now.count c.load_cells-runner.new.steps.count) c.requires.body c.load_cells-runner.ensures.loaded.2) c.if-not-going.false
          (ap (list_any (is_missed c.load_cells-runner.ensures.loaded.0)) (sym c.requires.body) ∙ c.load_cells-runner.ensures.loaded.1.none c.in_default-missed.is),
    )

pub confirm-requires-clause-reply : goal.confirm-requires-clause-reply
confirm-requires-clause-reply g c κs within =
    c.reply_of.ensures ∙ ap reply_in c.requires.body

pub returns-clause-rests : goal.returns-clause-rests
returns-clause-rests g c =
    let met = g.met.S.Structure g.world.𝓛 g.world.𝓜 g.world.𝓡 ((λ s allowed. allowed), (λ patient. patient), (λ alone. alone), (λ cuts. cuts)) in
    let m = g.S.Structure.meaning c.args.table.now.structure in
    λ readings old is.
    found_rests m (met.laws c.args.table.now.structure) (g.S.Planner.planning c.args.table.now.structure) c.args.request.now old (subst IsWithinLimits (sym c.requires.own.layout ∙ is.reading.still.layout) (c.requires.own.limits _ refl)) (subst AreAllowed (sym c.requires.own.requests ∙ is.reading.still.requests) (c.requires.own.allowed _ refl)) c.args.thunk.now readings c.args.runner is (IsSeen g.G.Gate.halts g.G.Gate.asks) (ap (position (λ step. not (is_look step))) (sym c.requires.body) ∙ (sym c.change_in.ensures ∙ c.in_default.is)) c.load_cells-runner.ensures.loaded.0 c.load_cells-runner.result.2 c.load_cells-runner.result.0 (g.G.Gate.halts c.args.gate.now) (g.G.Gate.halts c.load_cells-runner.new.gate) (g.G.Gate.asks c.args.gate.now) (g.G.Gate.asks c.load_cells-runner.new.gate) c.args.steps.now.count c.load_cells-runner.new.steps.count (subst (λ b. HasLoadedCells m b c.load_cells-runner.ensures.loaded.0 c.load_cells-runner.result.2 c.args.runner c.load_cells-runner.result.0 (IsSeen g.G.Gate.halts g.G.Gate.asks) (g.G.Gate.halts c.args.gate.now) (g.G.Gate.halts c.load_cells-runner.new.gate) (g.G.Gate.asks c.args.gate.now) (g.G.Gate.asks c.load_cells-runner.new.gate) c.args.steps.now.count c.load_cells-runner.new.steps.count) c.requires.body c.load_cells-runner.ensures.loaded.2) c.if-not-going.false
    (ap (list_any (is_missed c.load_cells-runner.ensures.loaded.0)) (sym c.requires.body) ∙ c.load_cells-runner.ensures.loaded.1.none c.in_default-missed.is)
    (read_of c.confirm.result.1) c.confirm.result.0 _ _ _
    (c.confirm.ensures.rests (readings_of c.load_cells-runner.ensures.loaded.0) old (found_so m (met.laws c.args.table.now.structure) (g.S.Planner.planning c.args.table.now.structure) c.args.request.now old (subst IsWithinLimits (sym c.requires.own.layout ∙ is.reading.still.layout) (c.requires.own.limits _ refl)) (subst AreAllowed (sym c.requires.own.requests ∙ is.reading.still.requests) (c.requires.own.allowed _ refl)) c.args.thunk.now readings c.args.runner is (IsSeen g.G.Gate.halts g.G.Gate.asks) (ap (position (λ step. not (is_look step))) (sym c.requires.body) ∙ (sym c.change_in.ensures ∙ c.in_default.is)) c.load_cells-runner.ensures.loaded.0 c.load_cells-runner.result.2 c.load_cells-runner.result.0 (g.G.Gate.halts c.args.gate.now) (g.G.Gate.halts c.load_cells-runner.new.gate) (g.G.Gate.asks c.args.gate.now) (g.G.Gate.asks c.load_cells-runner.new.gate) c.args.steps.now.count c.load_cells-runner.new.steps.count (subst (λ b. HasLoadedCells m b c.load_cells-runner.ensures.loaded.0 c.load_cells-runner.result.2 c.args.runner c.load_cells-runner.result.0 (IsSeen g.G.Gate.halts g.G.Gate.asks) (g.G.Gate.halts c.args.gate.now) (g.G.Gate.halts c.load_cells-runner.new.gate) (g.G.Gate.asks c.args.gate.now) (g.G.Gate.asks c.load_cells-runner.new.gate) c.args.steps.now.count c.load_cells-runner.new.steps.count) c.requires.body c.load_cells-runner.ensures.loaded.2) c.if-not-going.false
    (ap (list_any (is_missed c.load_cells-runner.ensures.loaded.0)) (sym c.requires.body) ∙ c.load_cells-runner.ensures.loaded.1.none c.in_default-missed.is)))
