use Rattle.std.proofs.Common.{◌+◌, ◌++◌, ◌∙◌, ap, vec_items, List, drop}
use Rattle.machine_states.specs.map_history.specs.declared.op.Request.{Request}
use Rattle.threaded_runs.specs.Own.{own_requests}
use Rattle.threaded_runs.proofs.OneTrace.{run_added, run_passed}
use Rattle.threaded_runs.proofs.owned.requests_of.Goals as goal

pub loop-first-preserved : goal.loop-first-preserved
loop-first-preserved c =
    ap (λ (l : List Request). vec_items c.loop-first.own ++ own_requests c.args.runners c.args.worker l) c.split_at.ensures.back
    ∙ run_passed c.args.runners c.args.worker c.run_length.result c.loop-first.rest.now c.in-Some.first.now c.in-Some.more.now c.in-Some.ensures.cases.0 c.run_length.ensures.same
    (vec_items c.loop-first.own) _ c.loop-first.invariant c.if-first-runners.false

pub loop-first-preserved-in_ok-extend_from_slice : goal.loop-first-preserved-in_ok-extend_from_slice
loop-first-preserved-in_ok-extend_from_slice c =
    ap (λ (l : List Request). vec_items c.extend_from_slice.new.self ++ own_requests c.args.runners c.args.worker l) c.split_at.ensures.back
    ∙ ap (λ (l : List Request). l ++ own_requests c.args.runners c.args.worker (drop (c.run_length.result + 1) c.loop-first.rest.now)) (c.in_ok-extend_from_slice.ensures.items ∙ ap (λ (l : List Request). vec_items c.loop-first.own ++ l) c.split_at.ensures.front)
    ∙ run_added c.args.runners c.args.worker c.run_length.result c.loop-first.rest.now c.in-Some.first.now c.in-Some.more.now c.in-Some.ensures.cases.0 c.run_length.ensures.same
    (vec_items c.loop-first.own) _ c.loop-first.invariant c.if-first-runners.true
