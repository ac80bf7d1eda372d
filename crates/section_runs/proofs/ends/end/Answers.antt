use Rattle.std.proofs.Common.{◌+◌, arith, sym, ◌∙◌, true}
use Rattle.std.specs.Prelude.{count_by}
use Rattle.idem_cell.specs.machine_states.specs.body_terms.specs.Shape.{is_take}
use Rattle.idem_alloc.specs.commit_log.proofs.Asked.{asked_more}
use Rattle.idem_alloc.specs.commit_log.proofs.Running.{ran_one}
use Rattle.idem_alloc.specs.commit_log.proofs.Halting.{halted_by, asked_if, through_more, halted_then, halted_few}
use Rattle.section_runs.proofs.Ending.{ends_more, ends_body, ends_lock, ends_word}
use Rattle.section_runs.proofs.ends.end.Goals as goal

pub release_all-runner-requires-clause-body : goal.release_all-runner-requires-clause-body
release_all-runner-requires-clause-body g c κs within =
    let m = g.S.Structure.meaning c.args.table.now.structure in
    let r = c.args.runner in
    let same1 = c.finish-runner.ensures.same c.if-not-going.false in
    c.requires.body ∙ sym (ends_body m r c.finish-runner.result.0 same1)

pub returns-then-not-going-clause-halted : goal.returns-then-not-going-clause-halted
returns-then-not-going-clause-halted g c =
    let m = g.S.Structure.meaning c.args.table.now.structure in
    λ _. halted_few m 1 (2 + count_by is_take c.args.body.now) _ _ _ _ _ _ _ _ (omega arith) (c.finish-runner.ensures.halted c.if-not-going.true)

pub returns-then-not-going-2-clause-halted : goal.returns-then-not-going-2-clause-halted
returns-then-not-going-2-clause-halted g c =
    let m = g.S.Structure.meaning c.args.table.now.structure in
    λ _. halted_then m 1 (count_by is_take c.args.body.now) (2 + count_by is_take c.args.body.now) _ _ _ _ _ _ _ _ _ _ _ _ (c.finish-runner.ensures.through c.if-not-going.false) (c.release_all-runner.ensures.halted c.if-not-going-2.true) (omega arith)

pub release_last-requires-clause-lock : goal.release_last-requires-clause-lock
release_last-requires-clause-lock g c κs within =
    let m = g.S.Structure.meaning c.args.table.now.structure in
    let r = c.args.runner in
    let same1 = c.finish-runner.ensures.same c.if-not-going.false in
    let same2 = ends_more m r c.finish-runner.result.0 c.release_all-runner.result.0 same1 (c.release_all-runner.ensures.same c.if-not-going-2.false) in
    c.requires.lock ∙ sym (ends_lock m r c.release_all-runner.result.0 same2)

pub release_last-requires-clause-word : goal.release_last-requires-clause-word
release_last-requires-clause-word g c κs within =
    let m = g.S.Structure.meaning c.args.table.now.structure in
    let r = c.args.runner in
    let same1 = c.finish-runner.ensures.same c.if-not-going.false in
    let same2 = ends_more m r c.finish-runner.result.0 c.release_all-runner.result.0 same1 (c.release_all-runner.ensures.same c.if-not-going-2.false) in
    c.requires.word ∙ sym (ends_word m r c.release_all-runner.result.0 same2)

pub release_last-requires-clause-next : goal.release_last-requires-clause-next
release_last-requires-clause-next g c κs within =
    c.release_all-runner.ensures.ending c.if-not-going-2.false

pub returns-clause-ended : goal.returns-clause-ended
returns-clause-ended g c =
    let m = g.S.Structure.meaning c.args.table.now.structure in
    let r = c.args.runner in
    let same1 = c.finish-runner.ensures.same c.if-not-going.false in
    let same2 = ends_more m r c.finish-runner.result.0 c.release_all-runner.result.0 same1 (c.release_all-runner.ensures.same c.if-not-going-2.false) in
    let before = (through_more m 1 (count_by is_take c.args.body.now) (1 + count_by is_take c.args.body.now) r c.finish-runner.result.0 c.release_all-runner.result.0 _ _ _ _ _ _ _ _ _ (c.finish-runner.ensures.through c.if-not-going.false) (c.release_all-runner.ensures.through c.if-not-going-2.false) (omega arith)) in
    λ going. record {
      ended = record {
        count = before.made;
        last = c.release_all-runner.result.0;
        ran = before.ran;
        inside = (c.release_all-runner.ensures.ending c.if-not-going-2.false).running;
        on = same2;
        released = c.release_last.ensures.released;
      };
      few = before.few;
      asked = asked_more before.made 1 true _ _ _ _ _ _ _ _ _ before.asked (asked_if going c.release_last.ensures.asked);
    }

pub returns-clause-halted : goal.returns-clause-halted
returns-clause-halted g c =
    let m = g.S.Structure.meaning c.args.table.now.structure in
    let r = c.args.runner in
    let before = (through_more m 1 (count_by is_take c.args.body.now) (1 + count_by is_take c.args.body.now) r c.finish-runner.result.0 c.release_all-runner.result.0 _ _ _ _ _ _ _ _ _ (c.finish-runner.ensures.through c.if-not-going.false) (c.release_all-runner.ensures.through c.if-not-going-2.false) (omega arith)) in
    λ halted. halted_then m (1 + count_by is_take c.args.body.now) 1 (2 + count_by is_take c.args.body.now) _ _ _ _ _ _ _ _ _ _ _ _ before
    (halted_by m 1 1 _ _ _ _ _ _ _ _ (omega arith) (omega arith) (ran_one m _ _ _ _ _ c.release_last.ensures.released.step) (asked_if halted c.release_last.ensures.asked)) (omega arith)
