use Rattle.std.proofs.Common.{subst, refl}
use Rattle.machine_states.specs.World.{World}
use Rattle.machine_states.specs.Reached.{Reached}
use Rattle.machine_states.specs.Sight.{sight}
use Rattle.machine_facts.specs.Watched.{SeenLocksStand}
use Rattle.caller_facts.specs.lock_walks.specs.runner_facts.specs.Names.{NamesStand}
use Rattle.caller_facts.specs.try_lock.specs.Watches.{Watched}
use Rattle.lock_words.specs.Taken.{TakenStand}
use Rattle.attempts.specs.Rests.{HasTurned}
use Rattle.attempts.proofs.Leaving.{watched_go, turned_by_exit}
use Rattle.attempts.proofs.Away.{may_watch, may_busy, may_help, help_go, watch_turned, help_turned, halt_turned}
use Rattle.attempts.proofs.turns.turn_away.Goals as goal

pub watch-runner-requires-clause-next : goal.watch-runner-requires-clause-next
watch-runner-requires-clause-next g c κs within =
    let met = g.met.S.Structure g.world.𝓛 g.world.𝓜 g.world.𝓡 ((λ s allowed. allowed), (λ patient. patient), (λ alone. alone), (λ cuts. cuts)) in
    may_watch (g.S.Structure.meaning c.args.table.now.structure) (met.laws c.args.table.now.structure) c.args.table.now (c.requires.own.limits _ refl) (c.requires.own.allowed _ refl) c.args.answer c.in-Busy.place c.in-Busy.word c.in-Busy.is c.args.runner c.requires.next

pub leave-requires-clause-next : goal.leave-requires-clause-next
leave-requires-clause-next g c κs within =
    let met = g.met.S.Structure g.world.𝓛 g.world.𝓜 g.world.𝓡 ((λ s allowed. allowed), (λ patient. patient), (λ alone. alone), (λ cuts. cuts)) in
    watched_go (g.S.Structure.meaning c.args.table.now.structure) c.in-Busy.place c.in-Busy.word c.watch-runner.result.1 c.args.runner c.watch-runner.result.0 c.watch-runner.ensures.watched
    (may_busy (g.S.Structure.meaning c.args.table.now.structure) (met.laws c.args.table.now.structure) c.args.table.now (c.requires.own.limits _ refl) (c.requires.own.allowed _ refl) c.args.answer c.in-Busy.place c.in-Busy.word c.in-Busy.is c.args.runner c.requires.next)

pub returns-then-not-same-clause-turned : goal.returns-then-not-same-clause-turned
returns-then-not-same-clause-turned g c =
    let met = g.met.S.Structure g.world.𝓛 g.world.𝓜 g.world.𝓡 ((λ s allowed. allowed), (λ patient. patient), (λ alone. alone), (λ cuts. cuts)) in
    let t = c.args.table.now in
    let seen = subst (λ s. (w : World) → Reached (g.S.Structure.meaning s) t.layout t.requests w → SeenLocksStand (g.S.Structure.meaning s) t.layout t.requests w) c.structure-2.ensures
    (λ w reached. c.seen_locks_stand.ensures t.layout t.requests (c.requires.own.limits _ refl) (c.requires.own.allowed _ refl) w reached) in
    let taken = subst (λ s. (w : World) → Reached (g.S.Structure.meaning s) t.layout t.requests w → TakenStand (g.S.Structure.meaning s) t.layout t.requests w) c.structure-3.ensures
    (λ w reached. c.taken_names_stand.ensures t.layout t.requests w (c.requires.own.limits _ refl) (c.requires.own.allowed _ refl) reached) in
    let watched = subst (λ b. Watched (g.S.Structure.meaning c.args.table.now.structure) c.in-Busy.place c.in-Busy.word b c.args.runner c.watch-runner.result.0) c.if-not-same.true c.watch-runner.ensures.watched in
    subst (λ a. HasTurned (g.S.Structure.meaning c.args.table.now.structure) c.args.answer a c.args.runner c.leave.result (g.G.Gate.halts c.args.gate.now) (g.G.Gate.halts c.args.gate.now) (g.G.Gate.asks c.args.gate.now) (g.G.Gate.asks c.args.gate.now) c.args.steps.now.count c.args.steps.now.count) c.in-Busy.is
    (watch_turned (g.S.Structure.meaning c.args.table.now.structure) (met.laws c.args.table.now.structure) c.args.table.now (c.requires.own.limits _ refl) (c.requires.own.allowed _ refl) c.args.answer c.in-Busy.place c.in-Busy.word c.in-Busy.is c.args.runner c.requires.next
    c.watch-runner.result.0 c.watch-runner.ensures.own watched seen taken c.leave.result c.leave.ensures.gone _ _ _)

pub help-runner-requires-clause-next : goal.help-runner-requires-clause-next
help-runner-requires-clause-next g c κs within =
    let met = g.met.S.Structure g.world.𝓛 g.world.𝓜 g.world.𝓡 ((λ s allowed. allowed), (λ patient. patient), (λ alone. alone), (λ cuts. cuts)) in
    let watched = subst (λ b. Watched (g.S.Structure.meaning c.args.table.now.structure) c.in-Busy.place c.in-Busy.word b c.args.runner c.watch-runner.result.0) c.if-not-same.false c.watch-runner.ensures.watched in
    may_help (g.S.Structure.meaning c.args.table.now.structure) (met.laws c.args.table.now.structure) c.args.table.now (c.requires.own.limits _ refl) (c.requires.own.allowed _ refl) c.args.answer c.in-Busy.place c.in-Busy.word c.in-Busy.is c.args.runner c.requires.next c.watch-runner.result.0 c.watch-runner.ensures.own watched

pub leave-requires-in-Done-clause-next : goal.leave-requires-in-Done-clause-next
leave-requires-in-Done-clause-next g c κs within =
    let met = g.met.S.Structure g.world.𝓛 g.world.𝓜 g.world.𝓡 ((λ s allowed. allowed), (λ patient. patient), (λ alone. alone), (λ cuts. cuts)) in
    let watched = subst (λ b. Watched (g.S.Structure.meaning c.args.table.now.structure) c.in-Busy.place c.in-Busy.word b c.args.runner c.watch-runner.result.0) c.if-not-same.false c.watch-runner.ensures.watched in
    let ends = c.help-runner.ensures.done c.in-Done.field-0 c.in-Done.field-1 c.in-Done.is in
    help_go (g.S.Structure.meaning c.args.table.now.structure) (met.laws c.args.table.now.structure) c.args.table.now (c.requires.own.limits _ refl) (c.requires.own.allowed _ refl) c.args.answer c.in-Busy.place c.in-Busy.word c.in-Busy.is c.args.runner c.requires.next c.watch-runner.result.0 c.watch-runner.ensures.own watched
    ends.0 c.in-Done.field-0 c.in-Done.field-1 ends.1 c.help-runner.result.0 c.help-runner.ensures.own ends.2

pub returns-in-Done-clause-turned : goal.returns-in-Done-clause-turned
returns-in-Done-clause-turned g c =
    let met = g.met.S.Structure g.world.𝓛 g.world.𝓜 g.world.𝓡 ((λ s allowed. allowed), (λ patient. patient), (λ alone. alone), (λ cuts. cuts)) in
    let t = c.args.table.now in
    let names = subst (λ s. (w : World) → Reached (g.S.Structure.meaning s) t.layout t.requests w → NamesStand (g.S.Structure.meaning s) (sight (g.S.Structure.meaning s) t.layout t.requests w)) c.structure.ensures
    (λ w reached. c.names_stand.ensures t.layout t.requests w (c.requires.own.limits _ refl) (c.requires.own.allowed _ refl) reached) in
    let watched = subst (λ b. Watched (g.S.Structure.meaning c.args.table.now.structure) c.in-Busy.place c.in-Busy.word b c.args.runner c.watch-runner.result.0) c.if-not-same.false c.watch-runner.ensures.watched in
    let ends = c.help-runner.ensures.done c.in-Done.field-0 c.in-Done.field-1 c.in-Done.is in
    subst (λ a. HasTurned (g.S.Structure.meaning c.args.table.now.structure) c.args.answer a c.args.runner c.leave-in-Done.result (g.G.Gate.halts c.args.gate.now) (g.G.Gate.halts c.help-runner.new.gate) (g.G.Gate.asks c.args.gate.now) (g.G.Gate.asks c.help-runner.new.gate) c.args.steps.now.count c.help-runner.new.steps.count) c.in-Busy.is
    (help_turned (g.S.Structure.meaning c.args.table.now.structure) (met.laws c.args.table.now.structure) c.args.table.now (c.requires.own.limits _ refl) (c.requires.own.allowed _ refl) c.args.answer c.in-Busy.place c.in-Busy.word c.in-Busy.is c.args.runner c.requires.next c.watch-runner.result.0 c.watch-runner.ensures.own watched
    ends.0 c.in-Done.field-0 c.in-Done.field-1 ends.1 c.help-runner.result.0 c.help-runner.ensures.own ends.2 c.leave-in-Done.result c.leave-in-Done.ensures.gone names _ _ _ _ _ _ ends.3)

pub returns-in-Halted-clause-turned : goal.returns-in-Halted-clause-turned
returns-in-Halted-clause-turned g c =
    let met = g.met.S.Structure g.world.𝓛 g.world.𝓜 g.world.𝓡 ((λ s allowed. allowed), (λ patient. patient), (λ alone. alone), (λ cuts. cuts)) in
    let watched = subst (λ b. Watched (g.S.Structure.meaning c.args.table.now.structure) c.in-Busy.place c.in-Busy.word b c.args.runner c.watch-runner.result.0) c.if-not-same.false c.watch-runner.ensures.watched in
    let cut = c.help-runner.ensures.halted c.in-Halted.is in
    halt_turned (g.S.Structure.meaning c.args.table.now.structure) (met.laws c.args.table.now.structure) c.args.table.now (c.requires.own.limits _ refl) (c.requires.own.allowed _ refl) c.args.answer c.in-Busy.place c.in-Busy.word c.in-Busy.is c.args.runner c.requires.next c.watch-runner.result.0 c.watch-runner.ensures.own watched cut.0 c.help-runner.result.0 c.help-runner.ensures.own cut.1 _ _ _ _ _ _ cut.2

pub returns-in_default : goal.returns-in_default
returns-in_default g c =
    record {
      own = c.exit-runner.ensures.own;
      turned = turned_by_exit (g.S.Structure.meaning c.args.table.now.structure) c.args.answer c.requires.refusal c.in_default.not-Busy c.args.runner c.exit-runner.result c.requires.next c.exit-runner.ensures.exits
          _ _ _;
    }
