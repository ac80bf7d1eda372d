use Rattle.std.proofs.Common.{◌≡◌, length, arith, refl, sym, ◌∙◌, subst}
use Rattle.std.proofs.lemmas.Option.{slice_get-get_or}
use Rattle.seq_read.specs.runner_gate.specs.Asks.{HaltedOnce}
use Rattle.seq_read.specs.caller_facts.specs.Counted.{IsSeen}
use Rattle.free_serving.proofs.Along.{along_begins, so_far_begins, one_may, one_along, one_so_far, one_serving, all_serving}
use Rattle.free_serving.proofs.serves_freely.serve_each.Goals as goal

pub loop-request-init : goal.loop-request-init
loop-request-init g c = record {
  own = c.requires.own;
  along = along_begins (g.S.Structure.meaning c.args.table.now.structure) (g.S.Planner.planning c.args.table.now.structure) c.args.requests.now c.args.runner c.requires.next;
  so_far = so_far_begins (g.S.Structure.meaning c.args.table.now.structure) (g.S.Planner.planning c.args.table.now.structure) c.args.retry_short c.args.requests.now c.args.runner _ _;
  went = refl;
}

pub serve_one-next-requires-clause-next : goal.serve_one-next-requires-clause-next
serve_one-next-requires-clause-next g c κs within =
    let inv = c.loop-request.invariant in
    one_may (g.S.Structure.meaning c.args.table.now.structure) (g.S.Planner.planning c.args.table.now.structure) c.args.requests.now c.args.runner c.loop-request.runner
    c.args.table.now c.requires.own inv.own c.requires.next c.loop-request.request-index _
    (slice_get-get_or c.args.requests.now c.loop-request.request-index _ c.loop-request-test.true) inv.along

pub returns-in_default : goal.returns-in_default
returns-in_default g c =
    let met = g.met.S.Structure g.world.𝓛 g.world.𝓜 g.world.𝓡 ((λ s allowed. allowed), (λ patient. patient), (λ alone. alone), (λ cuts. cuts)) in
    let t = c.args.table.now in
    let m = g.S.Structure.meaning t.structure in
    let planning = g.S.Planner.planning t.structure in
    let inv = c.loop-request.invariant in
    record {
      own = c.serve_one-next.ensures.own;
      serves = one_serving m (met.laws t.structure) planning c.args.retry_short c.args.requests.now c.args.runner c.loop-request.runner c.serve_one-next.result.0 t
          (c.requires.own.limits _ refl) (c.requires.own.allowed _ refl) c.requires.own inv.own c.serve_one-next.ensures.own c.requires.next c.loop-request.request-index _
          (slice_get-get_or c.args.requests.now c.loop-request.request-index _ c.loop-request-test.true) inv.along c.serve_one-next.result.1
          (IsSeen g.G.Gate.halts g.G.Gate.asks) _ _ inv.went _ _ _ _ _ _ inv.so_far c.serve_one-next.ensures.one c.in_default.not-All;
      halted = λ e. subst (λ n. HaltedOnce n (g.G.Gate.halts c.serve_one-next.new.gate)) inv.went (c.serve_one-next.ensures.halted e);
      went = λ other. c.serve_one-next.ensures.went other ∙ inv.went;
    }

pub loop-request-preserved : goal.loop-request-preserved
loop-request-preserved g c =
    let met = g.met.S.Structure g.world.𝓛 g.world.𝓜 g.world.𝓡 ((λ s allowed. allowed), (λ patient. patient), (λ alone. alone), (λ cuts. cuts)) in
    let t = c.args.table.now in
    let m = g.S.Structure.meaning t.structure in
    let planning = g.S.Planner.planning t.structure in
    let inv = c.loop-request.invariant in
    record {
      own = c.serve_one-next.ensures.own;
      along = one_along m (met.laws t.structure) planning c.args.retry_short c.args.requests.now c.args.runner c.loop-request.runner c.serve_one-next.result.0 t
          (c.requires.own.limits _ refl) (c.requires.own.allowed _ refl) c.requires.own inv.own c.serve_one-next.ensures.own c.requires.next c.loop-request.request-index _
          (slice_get-get_or c.args.requests.now c.loop-request.request-index _ c.loop-request-test.true) inv.along c.serve_one-next.result.1
          (IsSeen g.G.Gate.halts g.G.Gate.asks) _ _ inv.went _ _ _ _ _ _ inv.so_far c.serve_one-next.ensures.one c.in-All.is;
      so_far = one_so_far m (met.laws t.structure) planning c.args.retry_short c.args.requests.now c.args.runner c.loop-request.runner c.serve_one-next.result.0 t
          (c.requires.own.limits _ refl) (c.requires.own.allowed _ refl) c.requires.own inv.own c.serve_one-next.ensures.own c.requires.next c.loop-request.request-index _
          (slice_get-get_or c.args.requests.now c.loop-request.request-index _ c.loop-request-test.true) inv.along c.serve_one-next.result.1
          (IsSeen g.G.Gate.halts g.G.Gate.asks) _ _ inv.went _ _ _ _ _ _ inv.so_far c.serve_one-next.ensures.one c.in-All.is;
      went = c.serve_one-next.ensures.went (λ halted. let z = sym c.in-All.is ∙ halted in cc) ∙ inv.went;
    }

pub returns-clause-serves : goal.returns-clause-serves
returns-clause-serves g c =
    let inv = c.loop-request.invariant in
    let all : c.loop-request.request-index ≡ length c.args.requests.now = (let a = c.loop-request-test.false in let b = c.loop-request.auto.request-index-end in omega (arith, a, b)) in
    all_serving (g.S.Structure.meaning c.args.table.now.structure) (g.S.Planner.planning c.args.table.now.structure) c.args.retry_short c.args.requests.now
    c.args.runner c.loop-request.runner c.loop-request.request-index all _ _ _ _ inv.so_far _ _ inv.along
