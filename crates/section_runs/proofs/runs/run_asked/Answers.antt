use Rattle.std.proofs.Common.{◌+◌, ◌≤◌, length, arith, sym, refl, subst, true, false, inl, inr}
use Rattle.idem_cell.specs.machine_states.specs.runner_parts.specs.State.{NodesState, BlocksState}
use Rattle.idem_alloc.specs.commit_log.proofs.Asked.{asked_more}
use Rattle.section_runs.specs.Reached.{run_blocks}
use Rattle.section_runs.proofs.Through.{some_of, none_of}
use Rattle.section_runs.proofs.Openeds.{stands_opened, rest_few}
use Rattle.section_runs.proofs.runs.run_asked.Goals as goal

pub run_loaded-requires-clause-opened : goal.run_loaded-requires-clause-opened
run_loaded-requires-clause-opened g c κs within =
    let m = g.S.Structure.meaning c.args.table.now.structure in
    let r = c.args.runner in
    stands_opened m c.args.descriptor _ _ r _ c.requires.next (some_of _ _ _ c.in-Some.is c.open-runner.ensures.opened)

pub run_loaded-requires-clause-reserve : goal.run_loaded-requires-clause-reserve
run_loaded-requires-clause-reserve g c κs within =
    let hop = some_of _ _ _ c.in-Some.is c.open-runner.ensures.opened in subst (λ (n : NodesState). 2 ≤ length n.free) (sym hop.nodes) c.requires.reserve

pub run_loaded-requires-clause-blocks : goal.run_loaded-requires-clause-blocks
run_loaded-requires-clause-blocks g c κs within =
    let hop = some_of _ _ _ c.in-Some.is c.open-runner.ensures.opened in subst (λ (b : BlocksState). run_blocks ≤ length b.free) (sym hop.blocks) c.requires.blocks

pub returns-in-Some-clause-done : goal.returns-in-Some-clause-done
returns-in-Some-clause-done g c =
    let r = c.args.runner in
    let hop = some_of _ _ _ c.in-Some.is c.open-runner.ensures.opened in
    λ o trail e. let ends = c.run_loaded.ensures.done r o trail hop e in
    (c.in-Some.thunk, 13 + ends.0, ends.1, asked_more 13 ends.0 true _ _ _ _ _ _ _ _ _ (some_of _ _ _ c.in-Some.is c.open-runner.ensures.asked) ends.2)

pub returns-in-Some-clause-halted : goal.returns-in-Some-clause-halted
returns-in-Some-clause-halted g c =
    let m = g.S.Structure.meaning c.args.table.now.structure in
    let hop = some_of _ _ _ c.in-Some.is c.open-runner.ensures.opened in
    λ e. let cut = c.run_loaded.ensures.halted e in (
      13 + cut.made,
      inr (record {
        thunk = c.in-Some.thunk;
        late = c.in-Some.late;
        opened = c.open-runner.result.0;
        opening = hop;
        count = cut.made;
        ran = cut.ran;
        counted = refl;
        few = rest_few (m.body c.in-Some.thunk) cut.made cut.few;
      }),
      asked_more 13 cut.made false _ _ _ _ _ _ _ _ _ (some_of _ _ _ c.in-Some.is c.open-runner.ensures.asked) cut.asked,
    )

pub returns-in-None-clause-halted : goal.returns-in-None-clause-halted
returns-in-None-clause-halted g c =
    let cut = none_of _ _ c.in-None.is c.open-runner.ensures.halted in
    λ _. (cut.made, inl (cut.words, cut.opening), cut.asked)
