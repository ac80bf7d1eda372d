use Rattle.std.proofs.Common.{refl, sym, ap, ◌∙◌, subst}
use Rattle.machine_states.specs.World.{World}
use Rattle.machine_states.specs.Reached.{Reached}
use Rattle.machine_states.specs.Sight.{sight}
use Rattle.attempts.specs.lock_words.specs.Stale.{StaleStand}
use Rattle.attempts.specs.lock_words.specs.Taken.{TakenStand}
use Rattle.attempts.specs.caller_facts.specs.Counted.{IsSeen}
use Rattle.attempts.specs.Attempts.{is_refusal}
use Rattle.attempts.specs.Rests.{MayLeave, HasTurned}
use Rattle.attempts.proofs.LettingGo.{may_go}
use Rattle.attempts.proofs.Courses.{ended_go}
use Rattle.attempts.proofs.Refusing.{refusal_of_outcome}
use Rattle.attempts.proofs.Concluding.{left_may_leave, left_concluded}
use Rattle.lock_attempts.proofs.Concluded.{undone, answered_leave, answered_last}
use Rattle.lock_attempts.proofs.runs.conclude.Goals as goal

pub guard-runner-requires-clause-next : goal.guard-runner-requires-clause-next
guard-runner-requires-clause-next g c κs within =
    let e = c.requires.ended in
    may_go (g.S.Structure.meaning c.args.table.now.structure) c.args.runner
    (ended_go (g.S.Structure.meaning c.args.table.now.structure) e.0 e.1 e.2 c.args.section e.3 c.args.outcome e.4 c.args.runner e.5)

pub exit-requires-clause-entered : goal.exit-requires-clause-entered
exit-requires-clause-entered g c κs within =
    let met = g.met.S.Structure g.world.𝓛 g.world.𝓜 g.world.𝓡 ((λ s allowed. allowed), (λ patient. patient), (λ alone. alone), (λ cuts. cuts)) in
    let e = c.requires.ended in
    answered_leave (g.S.Structure.meaning c.args.table.now.structure) (met.laws c.args.table.now.structure) c.args.table.now (c.requires.own.limits _ refl) (c.requires.own.allowed _ refl) e.0 e.1 c.args.section e.3 c.args.outcome e.4 e.2 c.args.runner c.requires.own e.5 c.guard-runner.result c.guard-runner.ensures.own (record { found = 0; event = c.guard-runner.ensures.event 0 }) c.in-Answered.reply c.in-Answered.is

pub turn_away-runner-requires-clause-refusal : goal.turn_away-runner-requires-clause-refusal
turn_away-runner-requires-clause-refusal g c κs within =
    ap is_refusal c.section_left.ensures ∙ refusal_of_outcome c.args.outcome c.in_default.not-Answered

pub turn_away-runner-requires-clause-next : goal.turn_away-runner-requires-clause-next
turn_away-runner-requires-clause-next g c κs within =
    let met = g.met.S.Structure g.world.𝓛 g.world.𝓜 g.world.𝓡 ((λ s allowed. allowed), (λ patient. patient), (λ alone. alone), (λ cuts. cuts)) in
    let e = c.requires.ended in
    let t = c.args.table.now in
    let taken = subst (λ s. (w : World) → Reached (g.S.Structure.meaning s) t.layout t.requests w → TakenStand (g.S.Structure.meaning s) t.layout t.requests w) c.structure-2.ensures
    (λ w reached. c.taken_names_stand.ensures t.layout t.requests w (c.requires.own.limits _ refl) (c.requires.own.allowed _ refl) reached) in
    subst (λ a. MayLeave (g.S.Structure.meaning c.args.table.now.structure) a c.guard-runner.result) (sym c.section_left.ensures)
    (left_may_leave (g.S.Structure.meaning c.args.table.now.structure) (met.laws c.args.table.now.structure) c.args.table.now (c.requires.own.limits _ refl) (c.requires.own.allowed _ refl) e.0 e.1 c.args.section e.3 c.args.outcome e.4 e.2 c.args.runner c.requires.own e.5 c.guard-runner.result c.guard-runner.ensures.own (record { found = 0; event = c.guard-runner.ensures.event 0 }) c.in_default.not-Answered taken)

pub returns-in-Answered-clause-rests : goal.returns-in-Answered-clause-rests
returns-in-Answered-clause-rests g c =
    let met = g.met.S.Structure g.world.𝓛 g.world.𝓜 g.world.𝓡 ((λ s allowed. allowed), (λ patient. patient), (λ alone. alone), (λ cuts. cuts)) in
    λ planning request own old thunk trail is is_own.
    answered_last (g.S.Structure.meaning c.args.table.now.structure) (met.laws c.args.table.now.structure) c.args.table.now (c.requires.own.limits _ refl) (c.requires.own.allowed _ refl) planning request c.args.section thunk c.args.outcome trail old c.args.runner c.requires.own is c.guard-runner.result c.guard-runner.ensures.own (record { found = 0; event = c.guard-runner.ensures.event 0 }) c.in-Answered.reply c.in-Answered.is own is_own c.exit.result c.exit.ensures.exits _ _ _

pub returns-in_default-clause-rests : goal.returns-in_default-clause-rests
returns-in_default-clause-rests g c =
    let met = g.met.S.Structure g.world.𝓛 g.world.𝓜 g.world.𝓡 ((λ s allowed. allowed), (λ patient. patient), (λ alone. alone), (λ cuts. cuts)) in
    let t = c.args.table.now in
    let differ = subst (λ s. (w : World) → Reached (g.S.Structure.meaning s) t.layout t.requests w → StaleStand (sight (g.S.Structure.meaning s) t.layout t.requests w)) c.structure.ensures
    (λ w reached. c.stale_words_differ.ensures t.layout t.requests w (c.requires.own.limits _ refl) (c.requires.own.allowed _ refl) reached) in
    let turned = (subst (λ a. HasTurned (g.S.Structure.meaning c.args.table.now.structure) a c.turn_away-runner.result.1 c.guard-runner.result c.turn_away-runner.result.0 (g.G.Gate.halts c.args.gate.now) (g.G.Gate.halts c.turn_away-runner.new.gate) (g.G.Gate.asks c.args.gate.now) (g.G.Gate.asks c.turn_away-runner.new.gate) c.args.steps.now.count c.turn_away-runner.new.steps.count) c.section_left.ensures c.turn_away-runner.ensures.turned) in
    λ planning request own old thunk trail is is_own. (
      undone c.turn_away-runner.result.1 _ turned.same (refusal_of_outcome c.args.outcome c.in_default.not-Answered),
      left_concluded (g.S.Structure.meaning c.args.table.now.structure) (met.laws c.args.table.now.structure) c.args.table.now (c.requires.own.limits _ refl) (c.requires.own.allowed _ refl) planning request c.args.section thunk c.args.outcome trail old c.args.runner c.requires.own is c.guard-runner.result c.guard-runner.ensures.own (record { found = 0; event = c.guard-runner.ensures.event 0 }) c.in_default.not-Answered c.requires.wants differ c.turn_away-runner.result.1 c.turn_away-runner.result.0 c.turn_away-runner.ensures.own (IsSeen g.G.Gate.halts g.G.Gate.asks) _ _ _ _ _ _ (c.args.gate.now, refl, refl) turned,
    )
