use Rattle.std.proofs.Common.{◌+◌, length, refl, true, sym, ap, ◌∙◌, subst}
use Rattle.machine_states.specs.World.{World}
use Rattle.machine_states.specs.Reached.{Reached}
use Rattle.machine_states.specs.Sight.{sight}
use Rattle.lock_words.specs.Stale.{StaleStand}
use Rattle.lock_words.specs.Taken.{TakenStand}
use Rattle.caller_facts.specs.Counted.{IsSeen}
use Rattle.attempts.specs.Attempts.{is_refusal}
use Rattle.attempts.specs.Rests.{MayLeave, HasTurned, Rests}
use Rattle.attempts.proofs.LettingGo.{may_go}
use Rattle.attempts.proofs.Courses.{ended_go}
use Rattle.attempts.proofs.Refusing.{refusal_of_outcome}
use Rattle.attempts.proofs.Concluding.{may_learn, concluded, left_may_leave, left_concluded}
use Rattle.attempts.proofs.runs.conclude.Goals as goal

pub guard-runner-requires-clause-next : goal.guard-runner-requires-clause-next
guard-runner-requires-clause-next g c κs within =
    let e = c.requires.ended in
    may_go (g.S.Structure.meaning c.args.table.now.structure) c.args.runner
    (ended_go (g.S.Structure.meaning c.args.table.now.structure) (g.S.Planner.planning c.args.table.now.structure) c.args.request.now e.0 c.args.section e.1 c.args.outcome e.2 c.args.runner e.3)

pub learn-requires-clause-next : goal.learn-requires-clause-next
learn-requires-clause-next g c κs within =
    let met = g.met.S.Structure g.world.𝓛 g.world.𝓜 g.world.𝓡 ((λ s allowed. allowed), (λ patient. patient), (λ alone. alone), (λ cuts. cuts)) in
    let e = c.requires.ended in
    may_learn (g.S.Structure.meaning c.args.table.now.structure) (met.laws c.args.table.now.structure) c.args.table.now (c.requires.own.limits _ refl) (c.requires.own.allowed _ refl) (g.S.Planner.planning c.args.table.now.structure) c.args.request.now c.args.section e.1 c.args.outcome e.2 e.0 c.args.runner c.requires.own e.3 c.guard-runner.result c.guard-runner.ensures.own (record { found = 0; event = c.guard-runner.ensures.event 0 }) c.in-Answered.field-0 c.in-Answered.is

pub turn_away-requires-clause-refusal : goal.turn_away-requires-clause-refusal
turn_away-requires-clause-refusal g c κs within =
    ap is_refusal c.section_left.ensures ∙ refusal_of_outcome c.args.outcome c.in_default.not-Answered

pub turn_away-requires-clause-next : goal.turn_away-requires-clause-next
turn_away-requires-clause-next g c κs within =
    let met = g.met.S.Structure g.world.𝓛 g.world.𝓜 g.world.𝓡 ((λ s allowed. allowed), (λ patient. patient), (λ alone. alone), (λ cuts. cuts)) in
    let e = c.requires.ended in
    let t = c.args.table.now in
    let taken = subst (λ s. (w : World) → Reached (g.S.Structure.meaning s) t.layout t.requests w → TakenStand (g.S.Structure.meaning s) t.layout t.requests w) c.structure-in_default.ensures
    (λ w reached. c.taken_names_stand.ensures t.layout t.requests w (c.requires.own.limits _ refl) (c.requires.own.allowed _ refl) reached) in
    subst (λ a. MayLeave (g.S.Structure.meaning c.args.table.now.structure) a c.guard-runner.result) (sym c.section_left.ensures)
    (left_may_leave (g.S.Structure.meaning c.args.table.now.structure) (met.laws c.args.table.now.structure) c.args.table.now (c.requires.own.limits _ refl) (c.requires.own.allowed _ refl) (g.S.Planner.planning c.args.table.now.structure) c.args.request.now c.args.section e.1 c.args.outcome e.2 e.0 c.args.runner c.requires.own e.3 c.guard-runner.result c.guard-runner.ensures.own (record { found = 0; event = c.guard-runner.ensures.event 0 }) c.in_default.not-Answered taken)

pub returns-in-Answered-clause-rests : goal.returns-in-Answered-clause-rests
returns-in-Answered-clause-rests g c =
    let met = g.met.S.Structure g.world.𝓛 g.world.𝓜 g.world.𝓡 ((λ s allowed. allowed), (λ patient. patient), (λ alone. alone), (λ cuts. cuts)) in
    let l = c.learn.ensures.learnt in λ old thunk trail is.
    subst (λ a. Rests (g.S.Structure.meaning c.args.table.now.structure) (g.S.Planner.planning c.args.table.now.structure) c.args.request.now true (length is.tries.readings + is.made) 0 a old c.args.runner c.learn.result.0 (IsSeen g.G.Gate.halts g.G.Gate.asks) (g.G.Gate.halts c.args.gate.now) (g.G.Gate.halts c.args.gate.now) (g.G.Gate.asks c.args.gate.now) (g.G.Gate.asks c.args.gate.now) c.args.steps.now.count c.args.steps.now.count) (sym l.2)
    (concluded (g.S.Structure.meaning c.args.table.now.structure) (met.laws c.args.table.now.structure) c.args.table.now (c.requires.own.limits _ refl) (c.requires.own.allowed _ refl) (g.S.Planner.planning c.args.table.now.structure) c.args.request.now c.args.section thunk c.args.outcome trail old c.args.runner c.requires.own is c.guard-runner.result c.guard-runner.ensures.own (record { found = 0; event = c.guard-runner.ensures.event 0 }) c.in-Answered.field-0 c.in-Answered.is l.0 l.1 c.learn.result.0 c.learn.ensures.own l.3 (IsSeen g.G.Gate.halts g.G.Gate.asks) _ _ _)

pub returns-in_default : goal.returns-in_default
returns-in_default g c =
    let met = g.met.S.Structure g.world.𝓛 g.world.𝓜 g.world.𝓡 ((λ s allowed. allowed), (λ patient. patient), (λ alone. alone), (λ cuts. cuts)) in
    let plans = g.met.S.Planner g.world.𝓛 g.world.𝓜 g.world.𝓡 ((λ s allowed. allowed), (λ patient. patient), (λ alone. alone), (λ cuts. cuts)) in
    record {
      own = c.turn_away.ensures.own;
      rests = λ old thunk trail is.
          let t = c.args.table.now in
          let differ = subst (λ s. (w : World) → Reached (g.S.Structure.meaning s) t.layout t.requests w → StaleStand (sight (g.S.Structure.meaning s) t.layout t.requests w)) c.structure.ensures
          (λ w reached. c.stale_words_differ.ensures t.layout t.requests w (c.requires.own.limits _ refl) (c.requires.own.allowed _ refl) reached) in
          left_concluded (g.S.Structure.meaning c.args.table.now.structure) (met.laws c.args.table.now.structure) c.args.table.now (c.requires.own.limits _ refl) (c.requires.own.allowed _ refl) (g.S.Planner.planning c.args.table.now.structure) c.args.request.now c.args.section thunk c.args.outcome trail old c.args.runner c.requires.own is c.guard-runner.result c.guard-runner.ensures.own (record { found = 0; event = c.guard-runner.ensures.event 0 }) c.in_default.not-Answered (λ l limits. ((plans.plans_lawfully c.args.table.now.structure).over l limits).want_read) differ c.turn_away.result.1 c.turn_away.result.0 c.turn_away.ensures.own (IsSeen g.G.Gate.halts g.G.Gate.asks) _ _ _ _ _ _ (c.args.gate.now, refl, refl)
          (subst (λ a. HasTurned (g.S.Structure.meaning c.args.table.now.structure) a c.turn_away.result.1 c.guard-runner.result c.turn_away.result.0 (g.G.Gate.halts c.args.gate.now) (g.G.Gate.halts c.turn_away.new.gate) (g.G.Gate.asks c.args.gate.now) (g.G.Gate.asks c.turn_away.new.gate) c.args.steps.now.count c.turn_away.new.steps.count) c.section_left.ensures
          c.turn_away.ensures.turned);
    }
