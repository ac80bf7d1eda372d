use Rattle.std.proofs.Common.{rules, ◌≡◌, ◌<◌, ◌++◌, ◌∷◌, [], length, get_or, ap, ◌∙◌, vec_items}
use Rattle.std.specs.Prelude.{None}
use Rattle.settled_tables.specs.settling.specs.runner_gate.specs.Counts.{planned_after, plans_after}
use Rattle.threaded_runs.proofs.Seats.{seated_more, unhalted_more, gates_more}
use Rattle.threaded_runs.proofs.Counting.{all_plans, front_more, next_plan, on_err, plans_more}
use Rattle.threaded_runs.proofs.seating.make_jobs.Goals as goal

pub loop-worker-preserved : goal.loop-worker-preserved
loop-worker-preserved g c =
    let was = c.loop-worker.invariant in let n = c.loop-worker.worker in let job = c.in_ok-kept.job in
    let pushed : vec_items c.push.new.self ≡ vec_items c.loop-worker.jobs ++ job ∷ [] = c.in_ok-push.ensures.items in
    let low : n < length c.args.halts.now = search rules in
    let few = c.requires.few in
    let halts = g.G.Gate.Gate.halts in
    let asks = g.G.Gate.Gate.asks in (
      search rules,
      search rules,
      search rules,
      seated_more (g.S.Planner.planning c.args.table.now.structure) c.args.table.now (vec_items c.loop-worker.jobs) (vec_items c.push.new.self) job n pushed (search rules) (search rules) was.3,
      unhalted_more halts (vec_items c.loop-worker.jobs) (vec_items c.push.new.self) job pushed (ap halts c.in_ok-kept.ensures.gate ∙ c.gate-gate.ensures.unasked.0) was.4,
      c.gate-gate.ensures.halts ∙ was.5,
      c.gate-gate.ensures.plans ∙ (ap (λ p. plans_after p (get_or c.args.halts.now n None)) was.6 ∙ plans_more (g.G.Gates.plans c.args.gates.now) c.args.halts.now n None low),
      (λ empty. c.gate-gate.ensures.planned ∙ (ap (λ xs. planned_after xs n (get_or c.args.halts.now n None)) (was.7 empty) ∙ next_plan c.args.halts.now n None low few)),
      gates_more asks c.args.halts.now (vec_items c.loop-worker.jobs) (vec_items c.push.new.self) job n pushed (search rules) (ap asks c.in_ok-kept.ensures.gate ∙ c.gate-gate.ensures.unasked.1) was.8,
      c.gate-gate.ensures.asks ∙ was.9,
      c.gate-gate.ensures.returned ∙ was.10,
    )

pub returns-in_err-kept-clause-front : goal.returns-in_err-kept-clause-front
returns-in_err-kept-clause-front g c =
    let n = c.loop-worker.worker in let low : n < length c.args.halts.now = search rules in
    on_err _ c.from_residual-in_err-kept.result
    (front_more (g.G.Gates.plans c.args.gates.now) (g.G.Gates.plans c.loop-worker.gates) (g.G.Gates.plans c.gate-gate.new.self)
    (g.G.Gates.planned c.args.gates.now) (g.G.Gates.planned c.loop-worker.gates) (g.G.Gates.planned c.gate-gate.new.self) c.args.halts.now n None low c.requires.few
    c.loop-worker.invariant.6 c.gate-gate.ensures.plans c.loop-worker.invariant.7 c.gate-gate.ensures.planned)

pub returns-in_err-push-clause-front : goal.returns-in_err-push-clause-front
returns-in_err-push-clause-front g c =
    let n = c.loop-worker.worker in let low : n < length c.args.halts.now = search rules in
    on_err _ c.from_residual-in_err-push.result
    (front_more (g.G.Gates.plans c.args.gates.now) (g.G.Gates.plans c.loop-worker.gates) (g.G.Gates.plans c.gate-gate.new.self)
    (g.G.Gates.planned c.args.gates.now) (g.G.Gates.planned c.loop-worker.gates) (g.G.Gates.planned c.gate-gate.new.self) c.args.halts.now n None low c.requires.few
    c.loop-worker.invariant.6 c.gate-gate.ensures.plans c.loop-worker.invariant.7 c.gate-gate.ensures.planned)

pub returns-clause-planned : goal.returns-clause-planned
returns-clause-planned g c =
    let all : c.loop-worker.worker ≡ length c.args.halts.now = search rules in
    λ empty. c.loop-worker.invariant.7 empty ∙ all_plans c.args.halts.now c.loop-worker.worker all
