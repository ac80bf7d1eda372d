use Rattle.std.specs.Prelude.{slice_get}
use Rattle.std.proofs.Common.{length, refl, sym, subst, ap, ◌∙◌}
use Rattle.machine_states.specs.map_history.specs.Requests.{AreInOrder}
use Rattle.flock_tool.proofs.Giving.{has_run_on, if_ok, on_err, on_err_then, unplanned_front}
use Rattle.flock_tool.proofs.Owned.{if_both, own_on}
use Rattle.flock_tool.proofs.Traced.{in_any_order}
use Rattle.flock_tool.proofs.run.run_on.Goals as goal

pub run_table-requires-clause-ordered : goal.run_table-requires-clause-ordered
run_table-requires-clause-ordered g c κs within =
    subst (λ rs. AreInOrder rs 64) (sym c.as_slice-requests.ensures) (in_any_order c.args.plan.now.traces.requests c.args.plan.now.traces.count c.requires.ordered)

pub returns-clause-ran : goal.returns-clause-ran
returns-clause-ran g c =
    if_ok _ _ _ _ _ _ _ c.run_table.result c.run_table.ensures.words c.run_table.ensures.served c.run_table.ensures.halts c.run_table.ensures.plans
    c.run_table.ensures.planned c.run_table.ensures.returned
    (λ ran made served halted plans planned returned.
    has_run_on g.S.Structure.meaning (g.S.Planner.planning c.args.structure).per_pair c.args.structure c.args.plan.now ran.0 ran.1.items _ c.as_slice-requests.result.now c.in_ok-halts.halts.items
    c.as_slice-asks.result.now c.name_below.result c.are_free.result c.as_slice-requests.ensures c.as_slice-asks.ensures.value c.name_below.ensures c.are_free.ensures c.in_ok-halts.ensures.length
    c.in_ok-halts.ensures.asks made served halted plans planned returned)

pub returns-clause-gates : goal.returns-clause-gates
returns-clause-gates g c =
    if_both _ _ _ c.run_table.result c.run_table.ensures.words c.run_table.ensures.gates
    (λ ran made back.
    own_on _ _ g.S.Structure.meaning c.args.structure c.args.plan.now ran.0 ran.1.items _ c.as_slice-requests.result.now c.in_ok-halts.halts.items
    c.as_slice-asks.result.now c.are_free.result c.as_slice-asks.ensures.value c.are_free.ensures c.in_ok-halts.ensures.length c.in_ok-halts.ensures.asks made back)

pub returns-in_err-halts-clause-unplanned : goal.returns-in_err-halts-clause-unplanned
returns-in_err-halts-clause-unplanned g c = on_err _ c.from_residual.result (λ none. refl)

pub returns-clause-unplanned : goal.returns-clause-unplanned
returns-clause-unplanned g c =
    on_err_then _ _ c.run_table.result c.run_table.ensures.front
    (λ front. unplanned_front c.args.plan.now.options.halts c.args.plan.now.layout.runners _ _ _ _ c.as_slice-asks.result.now
    (ap length c.as_slice-asks.ensures.value ∙ c.in_ok-halts.ensures.length)
    (λ runner low. ap (λ xs. slice_get xs runner) c.as_slice-asks.ensures.value ∙ c.in_ok-halts.ensures.asks runner low) front)
