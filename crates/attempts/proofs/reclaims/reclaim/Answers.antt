use Rattle.std.proofs.Common.{◌≡◌, ap, sym, subst, ◌∙◌, arith}
use Rattle.attempts.specs.Reclaims.{CollectsWhere, SparesWhere}
use Rattle.attempts.proofs.Resting.{rested_then, rested_by}
use Rattle.attempts.proofs.reclaims.reclaim.Goals as goal

pub spare_where-runner-requires-clause-worker : goal.spare_where-runner-requires-clause-worker
spare_where-runner-requires-clause-worker g c =
    let worker = c.requires.worker in
    let number = c.collect_where-runner.ensures.rested.number in
    let runners : c.collect_where-runner.result.layout.runners ≡ c.args.runner.layout.runners =
    ap (λ l. l.runners) (c.collect_where-runner.ensures.own.layout ∙ sym c.requires.own.layout) in
    omega (arith, worker, number, runners)

pub draw-requires-clause-ready : goal.draw-requires-clause-ready
draw-requires-clause-ready g c κs within =
    let worker = c.requires.worker in
    let a = c.collect_where-runner.ensures.rested.number in let b = c.spare_where-runner.ensures.rested.number in
    let d = c.refill-runner.ensures.rested.number in let e = c.refill-runner-2.ensures.rested.number in let f = c.refill.ensures.rested.number in
    let h = c.sweep_where_lacking-runner.ensures.rested.number in
    let runners : c.sweep_where_lacking-runner.result.layout.runners ≡ c.args.runner.layout.runners =
    ap (λ l. l.runners) (c.sweep_where_lacking-runner.ensures.own.layout ∙ sym c.requires.own.layout) in
    record { at = c.sweep_where_lacking-runner.ensures.rested.tidy.at; worker = omega (arith, worker, a, b, d, e, f, h, runners) }

pub returns-clause-reclaims : goal.returns-clause-reclaims
returns-clause-reclaims g c =
    let m = g.S.Structure.meaning c.args.table.now.structure in
    let spared = rested_then c.args.runner c.collect_where-runner.result c.spare_where-runner.result c.collect_where-runner.ensures.rested c.spare_where-runner.ensures.rested in
    let first = rested_then c.args.runner c.spare_where-runner.result c.refill-runner.result spared c.refill-runner.ensures.rested in
    let second = rested_then c.args.runner c.refill-runner.result c.refill-runner-2.result first c.refill-runner-2.ensures.rested in
    let third = rested_then c.args.runner c.refill-runner-2.result c.refill.result second c.refill.ensures.rested in
    let swept = rested_then c.args.runner c.refill.result c.sweep_where_lacking-runner.result third c.sweep_where_lacking-runner.ensures.rested in
    let drawn = rested_by c.sweep_where_lacking-runner.result c.draw.result swept.tidy c.draw.ensures.drawn.drawn.keeps c.draw.ensures.drawn.drawn.ready in
    record {
      collected = c.collect_where-runner.result;
      spared = c.spare_where-runner.result;
      first = c.refill-runner.result;
      second = c.refill-runner-2.result;
      third = c.refill.result;
      swept = c.sweep_where_lacking-runner.result;
      collects = subst (λ due. CollectsWhere m due c.args.runner c.collect_where-runner.result) c.is_full-full.ensures c.collect_where-runner.ensures.collects;
      spares = subst (λ due. SparesWhere m due c.collect_where-runner.result c.spare_where-runner.result) c.is_full-full.ensures c.spare_where-runner.ensures.spares;
      once = c.refill-runner.ensures.collects;
      twice = c.refill-runner-2.ensures.collects;
      thrice = c.refill.ensures.collects;
      sweeps = c.sweep_where_lacking-runner.ensures.sweeps;
      draws = c.draw.ensures.drawn;
      rested = rested_then c.args.runner c.sweep_where_lacking-runner.result c.draw.result swept drawn;
    }
