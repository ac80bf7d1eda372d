use Rattle.std.proofs.Common.{rules, ◌≡◌, ℕ, ◌<◌, length, subst, sym, ap, ◌∙◌, vec_len}
use Rattle.machine_states.specs.First.{keeper_part}
use Rattle.settled_tables.specs.closed_words.specs.Histories.{HaveHistory}
use Rattle.version_words.specs.TableState.{first_keeper}
use Rattle.free_serving.specs.serving.specs.attempt_bounds.specs.Lone.{LoneAttemptsAreServed}
use Rattle.threaded_runs.specs.Counts.{returns_counted}
use Rattle.threaded_runs.specs.Jobs.{asks_counted}
use Rattle.threaded_runs.specs.Asks.{AreAsked}
use Rattle.threaded_runs.specs.Gates.{GatesCameBack}
use Rattle.lone_reads.specs.Lone.{LoneReadsAreServed}
use Rattle.threaded_runs.specs.Lone.{ServesAlone, ReadsAlone}
use Rattle.threaded_runs.specs.Runs.{AreServed}
use Rattle.threaded_runs.proofs.Counting.{front_all, front_none, on_err}
use Rattle.settled_tables.proofs.Keeping.{first_is_idle, has_all, may_settle, settled_all}
use Rattle.threaded_runs.proofs.Seats.{are_back}
use Rattle.threaded_runs.proofs.Ending.{IsLawful, all_served, asked_often, gates_came_back}
use Rattle.free_serving.specs.serving.specs.attempt_bounds.specs.Spared.{AttemptsSpareSlots}
use Rattle.threaded_runs.proofs.Lone.{IsFresh, served_alone, asked_alone, reads_alone}
use Rattle.threaded_runs.proofs.table_run.run_table.Goals as goal

pub make_jobs-requires-clause-keeper : goal.make_jobs-requires-clause-keeper
make_jobs-requires-clause-keeper g c κs within =
    let t = c.in_ok-table.table in
    first_is_idle (g.S.Structure.meaning t.structure) t c.in_ok-table.keeper
    (subst (λ s. c.in_ok-table.keeper ≡ first_keeper (g.S.Structure.meaning s) t) (sym c.in_ok-table.ensures.table.structure) c.in_ok-table.ensures.keeper)

pub gather-requires-clause-back : goal.gather-requires-clause-back
gather-requires-clause-back g c κs within =
    let t = c.in_ok-table.table in
    are_back (g.S.Structure.meaning t.structure) (g.S.Planner.planning t.structure) c.args.retry_short c.args.reads_free g.G.Gate.Gate.halts g.G.Gate.Gate.asks t c.in_ok-keeper.jobs.items c.in_ok-finished.finished.items (search rules)
    c.in_ok-keeper.ensures.jobs c.in_ok-keeper.ensures.unhalted c.in_ok-finished.ensures.each

pub settle-keeper-requires-clause-next : goal.settle-keeper-requires-clause-next
settle-keeper-requires-clause-next g c κs within =
    let t = c.in_ok-table.table in
    may_settle (g.S.Structure.meaning t.structure) t c.in_ok-keeper-2.keeper (vec_len c.in_ok-finished.finished) c.in_ok-keeper-2.ensures.own c.in_ok-keeper-2.ensures.keeper (search rules)

pub close-words-requires-clause-joined : goal.close-words-requires-clause-joined
close-words-requires-clause-joined g c κs within =
    let t = c.in_ok-table.table in
    settled_all (g.S.Structure.meaning t.structure) t c.in_ok-keeper-2.keeper c.settle-keeper.result c.settle-keeper.ensures.settles
    (has_all (g.S.Structure.meaning t.structure) t c.in_ok-keeper-2.keeper (vec_len c.in_ok-finished.finished) c.in_ok-keeper-2.ensures.own c.in_ok-keeper-2.ensures.keeper (search rules))

pub returns-clause-served : goal.returns-clause-served
returns-clause-served g c =
    let t = c.in_ok-table.table in
    let m = g.S.Structure.meaning t.structure in
    let planning = g.S.Planner.planning t.structure in
    let plans = g.met.S.Planner g.world.𝓛 g.world.𝓜 g.world.𝓡 ((λ s allowed. allowed), (λ patient. patient), (λ alone. alone), (λ cuts. cuts)) in
    let lawful : IsLawful m planning t = record { facts = c.table_keeps_its_facts.ensures; planner = plans.plans_lawfully t.structure } in
    let keeper = c.in_ok-keeper-2.keeper in
    let settled = c.settle-keeper.result in
    let all = has_all m t keeper (vec_len c.in_ok-finished.finished) c.in_ok-keeper-2.ensures.own c.in_ok-keeper-2.ensures.keeper (search rules) in
    let number = c.settle-keeper.ensures.settles.number ∙ all.number in
    let history : HaveHistory m c.close-words.result = subst (λ s. HaveHistory (g.S.Structure.meaning s) c.close-words.result) c.close-words.ensures.structure c.closed_words_have_a_history.ensures in
    let spare : AttemptsSpareSlots g.row.S.Denot m planning =
    subst (λ s. AttemptsSpareSlots g.row.S.Denot (g.S.Structure.meaning s) (g.S.Planner.planning s)) c.structure-2.ensures c.attempts_spare_slots.ensures in
    let attempts_go : LoneAttemptsAreServed g.row.S.Denot m planning =
    subst (λ s. LoneAttemptsAreServed g.row.S.Denot (g.S.Structure.meaning s) (g.S.Planner.planning s)) c.structure.ensures c.lone_attempts_are_served.ensures in
    let reads_go : LoneReadsAreServed g.row.S.Denot m planning =
    subst (λ s. LoneReadsAreServed g.row.S.Denot (g.S.Structure.meaning s) (g.S.Planner.planning s)) c.structure-3.ensures c.lone_reads_are_served.ensures in
    let idle = c.in_ok-keeper-2.ensures.keeper in
    let asks_all : ◌≡◌ {A = ℕ} (g.G.Gates.asks c.gather.new.gates) (asks_counted g.G.Gate.Gate.asks (g.G.Gates.asks c.args.gates.now) c.in_ok-finished.finished.items)
    = c.in_ok-keeper-2.ensures.asks ∙ ap (λ (n : ℕ). asks_counted g.G.Gate.Gate.asks n c.in_ok-finished.finished.items) c.in_ok-keeper.ensures.asks in
    let as_many : vec_len c.in_ok-finished.finished ≡ t.layout.runners = search rules in
    let fresh : IsFresh m t keeper = record {
      told = λ worker few. idle.told worker (subst (λ n. worker < n) (sym as_many) few);
      nodes = idle.nodes ∙ ap (λ l. (keeper_part m l).nodes) c.in_ok-keeper-2.ensures.own.layout;
      finished = ap length idle.finished;
      apart = idle.apart;
    } in
    subst (λ s. AreServed (g.S.Structure.meaning s) c.close-words.result c.args.retry_short c.args.reads_free c.in_ok-keeper-2.answers.items
    × ServesAlone (g.S.Structure.meaning s) (g.S.Planner.planning s).per_pair c.close-words.result c.in_ok-keeper-2.answers.items
    × AreAsked (g.S.Structure.meaning s) c.close-words.result c.args.reads_free c.in_ok-keeper-2.answers.items (g.G.Gates.asks c.args.gates.now) (g.G.Gates.asks c.gather.new.gates)
    × ReadsAlone (g.S.Structure.meaning s) c.close-words.result c.args.reads_free) c.in_ok-table.ensures.table.structure (
      all_served m planning c.args.retry_short c.args.reads_free t lawful keeper settled c.close-words.result c.settle-keeper.ensures.own number c.settle-keeper.ensures.settles c.close-words.ensures g.G.Gate.Gate.halts g.G.Gate.Gate.asks
          c.in_ok-keeper.jobs.items c.in_ok-finished.finished.items c.in_ok-keeper-2.answers.items (search rules) (search rules) (search rules) c.in_ok-keeper.ensures.jobs c.in_ok-finished.ensures.each c.in_ok-keeper-2.ensures.kept history,
      λ one. served_alone m planning c.args.retry_short c.args.reads_free t lawful keeper settled c.close-words.result c.settle-keeper.ensures.own number c.settle-keeper.ensures.settles c.close-words.ensures g.G.Gate.Gate.halts g.G.Gate.Gate.asks
          c.in_ok-keeper.jobs.items c.in_ok-finished.finished.items c.in_ok-keeper-2.answers.items (search rules) (search rules) (search rules) c.in_ok-keeper.ensures.jobs c.in_ok-finished.ensures.each c.in_ok-keeper-2.ensures.kept history
          fresh (ap (λ l. l.runners) (sym c.close-words.ensures.layout) ∙ one) attempts_go spare,
      record {
        often = asked_often m planning c.args.retry_short c.args.reads_free t lawful keeper settled c.close-words.result c.settle-keeper.ensures.own number c.settle-keeper.ensures.settles c.close-words.ensures g.G.Gate.Gate.halts g.G.Gate.Gate.asks
            c.in_ok-keeper.jobs.items c.in_ok-finished.finished.items c.in_ok-keeper-2.answers.items (search rules) (search rules) (search rules) c.in_ok-keeper.ensures.jobs c.in_ok-finished.ensures.each c.in_ok-keeper-2.ensures.kept history
            _ _ asks_all lawful.facts.limits.some_runners;
        alone = λ one. asked_alone m planning c.args.retry_short c.args.reads_free t lawful keeper settled c.close-words.result c.settle-keeper.ensures.own number c.settle-keeper.ensures.settles c.close-words.ensures g.G.Gate.Gate.halts g.G.Gate.Gate.asks
            c.in_ok-keeper.jobs.items c.in_ok-finished.finished.items c.in_ok-keeper-2.answers.items (search rules) (search rules) (search rules) c.in_ok-keeper.ensures.jobs c.in_ok-finished.ensures.each c.in_ok-keeper-2.ensures.kept history
            fresh (ap (λ l. l.runners) (sym c.close-words.ensures.layout) ∙ one) attempts_go spare _ _ c.args.halts.now c.in_ok-keeper.ensures.given asks_all one;
      },
      λ free one. reads_alone m planning c.args.retry_short c.args.reads_free t lawful keeper settled c.close-words.result c.settle-keeper.ensures.own number c.settle-keeper.ensures.settles c.close-words.ensures g.G.Gate.Gate.halts g.G.Gate.Gate.asks
          c.in_ok-keeper.jobs.items c.in_ok-finished.finished.items c.in_ok-keeper-2.answers.items (search rules) (search rules) (search rules) c.in_ok-keeper.ensures.jobs c.in_ok-finished.ensures.each c.in_ok-keeper-2.ensures.kept history
          fresh (ap (λ l. l.runners) (sym c.close-words.ensures.layout) ∙ one) attempts_go spare reads_go free one,
    )

pub returns-clause-gates : goal.returns-clause-gates
returns-clause-gates g c =
    let t = c.in_ok-table.table in
    let m = g.S.Structure.meaning t.structure in
    let planning = g.S.Planner.planning t.structure in
    let plans = g.met.S.Planner g.world.𝓛 g.world.𝓜 g.world.𝓡 ((λ s allowed. allowed), (λ patient. patient), (λ alone. alone), (λ cuts. cuts)) in
    let lawful : IsLawful m planning t = record { facts = c.table_keeps_its_facts.ensures; planner = plans.plans_lawfully t.structure } in
    let keeper = c.in_ok-keeper-2.keeper in
    let settled = c.settle-keeper.result in
    let all = has_all m t keeper (vec_len c.in_ok-finished.finished) c.in_ok-keeper-2.ensures.own c.in_ok-keeper-2.ensures.keeper (search rules) in
    let number = c.settle-keeper.ensures.settles.number ∙ all.number in
    let history : HaveHistory m c.close-words.result = subst (λ s. HaveHistory (g.S.Structure.meaning s) c.close-words.result) c.close-words.ensures.structure c.closed_words_have_a_history.ensures in
    subst (λ s. GatesCameBack (g.S.Structure.meaning s) c.close-words.result c.args.reads_free g.G.Gate.Gate.halts g.G.Gate.Gate.asks c.args.halts.now c.in_ok-keeper-2.answers.items
    (g.G.Gates.asks c.args.gates.now) (g.G.Gates.asks c.gather.new.gates)) c.in_ok-table.ensures.table.structure
    (gates_came_back m planning c.args.retry_short c.args.reads_free t lawful keeper settled c.close-words.result c.settle-keeper.ensures.own number c.settle-keeper.ensures.settles c.close-words.ensures g.G.Gate.Gate.halts g.G.Gate.Gate.asks
    c.in_ok-keeper.jobs.items c.in_ok-finished.finished.items c.in_ok-keeper-2.answers.items (search rules) (search rules) (search rules) c.in_ok-keeper.ensures.jobs c.in_ok-finished.ensures.each c.in_ok-keeper-2.ensures.kept history
    c.args.halts.now c.in_ok-keeper.ensures.unhalted c.in_ok-keeper.ensures.given _ _
    (c.in_ok-keeper-2.ensures.asks ∙ ap (λ (n : ℕ). asks_counted g.G.Gate.Gate.asks n c.in_ok-finished.finished.items) c.in_ok-keeper.ensures.asks))

pub returns-clause-returned : goal.returns-clause-returned
returns-clause-returned g c =
    let as_many : vec_len c.in_ok-finished.finished ≡ c.args.layout.runners = search rules in
    c.in_ok-keeper-2.ensures.returned
    ∙ (ap (λ (n : ℕ). returns_counted n (vec_len c.in_ok-finished.finished)) c.in_ok-keeper.ensures.returned ∙ ap (returns_counted (g.G.Gates.returned c.args.gates.now)) as_many)

pub returns-in_err-table-clause-front : goal.returns-in_err-table-clause-front
returns-in_err-table-clause-front g c = on_err _ c.from_residual.result (front_none (g.G.Gates.plans c.args.gates.now) (g.G.Gates.planned c.args.gates.now) c.args.halts.now)

pub returns-in_err-keeper-clause-front : goal.returns-in_err-keeper-clause-front
returns-in_err-keeper-clause-front g c = on_err _ c.from_residual-in_err-keeper.result c.in_err-keeper.ensures.front

pub returns-in_err-finished-clause-front : goal.returns-in_err-finished-clause-front
returns-in_err-finished-clause-front g c =
    on_err _ c.from_residual-in_err-finished.result (front_all (g.G.Gates.plans c.args.gates.now) (g.G.Gates.plans c.make_jobs.new.gates) (g.G.Gates.planned c.args.gates.now) (g.G.Gates.planned c.make_jobs.new.gates) c.args.halts.now
    c.in_ok-keeper.ensures.plans c.in_ok-keeper.ensures.planned)

pub returns-in_err-keeper-2-clause-front : goal.returns-in_err-keeper-2-clause-front
returns-in_err-keeper-2-clause-front g c =
    on_err _ c.from_residual-in_err-keeper-2.result
    (front_all (g.G.Gates.plans c.args.gates.now) (g.G.Gates.plans c.gather.new.gates) (g.G.Gates.planned c.args.gates.now) (g.G.Gates.planned c.gather.new.gates) c.args.halts.now
    (c.in_err-keeper-2.ensures.plans ∙ c.in_ok-keeper.ensures.plans) (λ empty. c.in_err-keeper-2.ensures.planned ∙ c.in_ok-keeper.ensures.planned empty))
