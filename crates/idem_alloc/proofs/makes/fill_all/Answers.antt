use Rattle.std.proofs.Common.{◌≡◌, ◌+◌, ◌*◌, true, arith, subst}
use Rattle.runner_steps.specs.runner_parts.specs.State.{RunState}
use Rattle.commit_log.proofs.Asked.{asked_more, asked_as}
use Rattle.commit_log.proofs.Halting.{halted_more}
use Rattle.commit_log.proofs.Running.{one_run}
use Rattle.idem_alloc.specs.Made.{IsFilling}
use Rattle.idem_alloc.proofs.Filling.{may_fill, filled_more}
use Rattle.idem_alloc.proofs.makes.fill_all.Goals as goal

pub fill_gated-filled-requires-clause-next : goal.fill_gated-filled-requires-clause-next
fill_gated-filled-requires-clause-next g c κs within =
    let m = g.S.Structure.meaning c.args.table.now.structure in
    let may = c.requires.next.1 in
    let filling = c.loop-cell.invariant.filling c.requires.next.0 may.running in
    (filling.behind, may_fill m c.args.runner c.args.values.now c.requires.next.0 may c.args.slot c.requires.free c.loop-cell.cell c.loop-cell.runner filling c.loop-cell-test.true)

pub returns-then-not-going-clause-halted : goal.returns-then-not-going-clause-halted
returns-then-not-going-clause-halted g c = λ _.
    let m = g.S.Structure.meaning c.args.table.now.structure in
    let may = c.requires.next.1 in
    let filling = c.loop-cell.invariant.filling c.requires.next.0 may.running in
    halted_more m 10 (2 * c.loop-cell.cell) 2 _ _ _ _ _ _ _ _ _ _ _ _ filling.ran c.loop-cell.invariant.asked (c.fill_gated-filled.ensures.halted c.if-not-going.true)
    (let few = c.loop-cell-test.true in omega (arith, few))

pub loop-cell-preserved : goal.loop-cell-preserved
loop-cell-preserved g c =
    let m = g.S.Structure.meaning c.args.table.now.structure in
    let may = c.requires.next.1 in
    let filling = c.loop-cell.invariant.filling c.requires.next.0 may.running in
    let twice : 2 * c.loop-cell.cell + 2 ≡ 2 * (c.loop-cell.cell + 1) = omega arith in
    record {
      own = c.fill_gated-filled.ensures.own;
      filling = λ q is. subst (λ (p : RunState). IsFilling m c.args.slot (c.loop-cell.cell + 1) c.args.runner c.fill_gated-filled.result.0 p) (one_run m _ _ _ may.running is)
          (filled_more m c.args.runner c.args.values.now c.requires.next.0 may c.args.slot c.requires.free c.loop-cell.cell c.loop-cell.runner filling c.loop-cell-test.true _ _
          (c.fill_gated-filled.ensures.filled c.if-not-going.false filling.behind filling.running));
      asked = asked_as _ _ twice true _ _ _ _ _ _ (asked_more (2 * c.loop-cell.cell) 2 true _ _ _ _ _ _ _ _ _ c.loop-cell.invariant.asked (c.fill_gated-filled.ensures.asked c.if-not-going.false));
    }

pub returns-clause-filled : goal.returns-clause-filled
returns-clause-filled g c = λ _ q is.
    let five : c.loop-cell.cell ≡ 5 = (let a = c.loop-cell-test.false in let b = c.loop-cell.auto.cell-end in omega (arith, a, b)) in
    subst (λ n. IsFilling (g.S.Structure.meaning c.args.table.now.structure) c.args.slot n c.args.runner c.loop-cell.runner q) five (c.loop-cell.invariant.filling q is)
