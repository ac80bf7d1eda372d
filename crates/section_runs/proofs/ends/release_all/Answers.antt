use Rattle.std.proofs.Common.{◌≡◌, suc, ◌+◌, ◌<◌, List, length, take, arith, ap, sym, subst, ◌∙◌}
use Rattle.std.specs.Prelude.{count_by}
use Rattle.idem_cell.specs.machine_states.specs.body_terms.specs.Shape.{IsStep, is_take}
use Rattle.idem_cell.specs.machine_states.specs.body_terms.specs.declared.step.Step.{Step}
use Rattle.idem_cell.specs.machine_states.specs.body_terms.proofs.LineLemmas.{read_step}
use Rattle.section_runs.specs.Ends.{IsEnding}
use Rattle.idem_alloc.specs.commit_log.proofs.Halting.{through_more, halted_then, through_few}
use Rattle.section_runs.proofs.Walking.{sum_next, sum_most, sum_room}
use Rattle.section_runs.proofs.Ending.{ends_more, ends_body, taken_by}
use Rattle.section_runs.proofs.ends.release_all.Goals as goal

pub release_step-released-requires-clause-here : goal.release_step-released-requires-clause-here
release_step-released-requires-clause-here g c κs within =
    let m = g.S.Structure.meaning c.args.table.now.structure in
    let r = c.args.runner in
    let body = c.args.body.now in
    let n = c.loop-n.n in
    let now = c.loop-n.runner in
    let inv = c.loop-n.invariant in
    let step = c.index-body-n.result in
    let low : n < length body = (let a = c.loop-n-test.true in let b = c.requires.within in omega (arith, a, b)) in
    let here = read_step body n step low c.index-body-n.is in
    let here1 = subst (λ (xs : List Step). IsStep xs n step) (c.requires.body ∙ sym (ends_body m r now inv.same)) here in
    here1

pub returns-then-not-going-clause-halted : goal.returns-then-not-going-clause-halted
returns-then-not-going-clause-halted g c =
    let m = g.S.Structure.meaning c.args.table.now.structure in
    let body = c.args.body.now in
    let n = c.loop-n.n in
    let inv = c.loop-n.invariant in
    let step = c.index-body-n.result in
    let low : n < length body = (let a = c.loop-n-test.true in let b = c.requires.within in omega (arith, a, b)) in
    let here = read_step body n step low c.index-body-n.is in
    λ _. halted_then m (count_by is_take (take n body)) (taken_by step) (count_by is_take body) _ _ _ _ _ _ _ _ _ _ _ _ inv.through (c.release_step-released.ensures.halted c.if-not-going.true) (sum_room taken_by body n step here)

pub loop-n-preserved : goal.loop-n-preserved
loop-n-preserved g c =
    let m = g.S.Structure.meaning c.args.table.now.structure in
    let r = c.args.runner in
    let body = c.args.body.now in
    let n = c.loop-n.n in
    let now = c.loop-n.runner in
    let inv = c.loop-n.invariant in
    let step = c.index-body-n.result in
    let low : n < length body = (let a = c.loop-n-test.true in let b = c.requires.within in omega (arith, a, b)) in
    let here = read_step body n step low c.index-body-n.is in
    let going = c.if-not-going.false in
    let next : suc n ≡ n + 1 = omega arith in
    record {
      own = c.release_step-released.ensures.own;
      ending = c.release_step-released.ensures.ending going;
      same = ends_more m r now c.release_step-released.result.0 inv.same (c.release_step-released.ensures.same going);
      through = through_more m (count_by is_take (take n body)) (taken_by step) (count_by is_take (take (n + 1) body)) _ _ _ _ _ _ _ _ _ _ _ _ inv.through (c.release_step-released.ensures.through going)
          (let e = sum_next taken_by body n step here in let d = ap (λ k. count_by is_take (take k body)) next in omega (arith, e, d));
    }

pub returns-clause-ending : goal.returns-clause-ending
returns-clause-ending g c =
    let m = g.S.Structure.meaning c.args.table.now.structure in
    let all : c.loop-n.n ≡ c.args.taken = (let a = c.loop-n-test.false in let b = c.loop-n.auto.n-end in omega (arith, a, b)) in
    λ _. subst (λ k. IsEnding m c.args.taken k c.loop-n.runner) all c.loop-n.invariant.ending

pub returns-clause-through : goal.returns-clause-through
returns-clause-through g c =
    let m = g.S.Structure.meaning c.args.table.now.structure in
    λ _. through_few m _ _ _ _ _ _ _ _ _ _ (sum_most taken_by c.args.body.now c.loop-n.n) c.loop-n.invariant.through
