use Rattle.std.proofs.Common.{◌+◌, arith, ap, sym, subst, refl}
use Rattle.machine_states.specs.runner_parts.specs.State.{RunState}
use Rattle.commit_log.specs.Links.{links_cost}
use Rattle.commit_log.specs.Committed.{MayCommit}
use Rattle.commit_log.proofs.Halting.{halted_first, halted_more, through_one, through_more}
use Rattle.commit_log.proofs.Running.{one_run, ran_one}
use Rattle.idem_cell.specs.Loaded.{HasLoaded}
use Rattle.idem_cell.proofs.Loading.{may_load, loads, link_next, commit_next, then_loaded}
use Rattle.idem_cell.proofs.loads.load_gated.Goals as goal

pub load_cell-runner-requires-clause-next : goal.load_cell-runner-requires-clause-next
load_cell-runner-requires-clause-next g c κs within =
    let met = g.met.S.Structure g.world.𝓛 g.world.𝓜 g.world.𝓡 ((λ s allowed. allowed), (λ patient. patient), (λ alone. alone), (λ cuts. cuts)) in
    let m = g.S.Structure.meaning c.args.table.now.structure in
    let laws = met.laws c.args.table.now.structure in
    let may = c.requires.next.1 in
    may_load m laws c.args.table.now (c.requires.own.limits _ refl) (c.requires.own.allowed _ refl) _ c.requires.own _ _ may

pub returns-then-not-passes-clause-halted : goal.returns-then-not-passes-clause-halted
returns-then-not-passes-clause-halted g c = λ q is.
    let met = g.met.S.Structure g.world.𝓛 g.world.𝓜 g.world.𝓡 ((λ s allowed. allowed), (λ patient. patient), (λ alone. alone), (λ cuts. cuts)) in
    let m = g.S.Structure.meaning c.args.table.now.structure in
    let laws = met.laws c.args.table.now.structure in
    let may = c.requires.next.1 in
    let load = loads m laws c.args.table.now (c.requires.own.limits _ refl) (c.requires.own.allowed _ refl) _ c.requires.own _ _ may _ _ c.load_cell-runner.ensures.event in
    halted_first _ _ _ _ _ _ _ _ _ _ _ _ _ load c.if-not-passes.ensures (omega arith)

pub link_if_due-runner-requires-clause-next : goal.link_if_due-runner-requires-clause-next
link_if_due-runner-requires-clause-next g c κs within =
    let met = g.met.S.Structure g.world.𝓛 g.world.𝓜 g.world.𝓡 ((λ s allowed. allowed), (λ patient. patient), (λ alone. alone), (λ cuts. cuts)) in
    let m = g.S.Structure.meaning c.args.table.now.structure in
    let laws = met.laws c.args.table.now.structure in
    let may = c.requires.next.1 in
    let load = loads m laws c.args.table.now (c.requires.own.limits _ refl) (c.requires.own.allowed _ refl) _ c.requires.own _ _ may _ _ c.load_cell-runner.ensures.event in
    (_, link_next m laws c.args.table.now (c.requires.own.limits _ refl) (c.requires.own.allowed _ refl) _ c.requires.own _ _ may _ _ c.load_cell-runner.ensures.own load)

pub returns-then-not-linked-clause-halted : goal.returns-then-not-linked-clause-halted
returns-then-not-linked-clause-halted g c = λ q is.
    let met = g.met.S.Structure g.world.𝓛 g.world.𝓜 g.world.𝓡 ((λ s allowed. allowed), (λ patient. patient), (λ alone. alone), (λ cuts. cuts)) in
    let m = g.S.Structure.meaning c.args.table.now.structure in
    let laws = met.laws c.args.table.now.structure in
    let may = c.requires.next.1 in
    let load = loads m laws c.args.table.now (c.requires.own.limits _ refl) (c.requires.own.allowed _ refl) _ c.requires.own _ _ may _ _ c.load_cell-runner.ensures.event in
    let next = link_next m laws c.args.table.now (c.requires.own.limits _ refl) (c.requires.own.allowed _ refl) _ c.requires.own _ _ may _ _ c.load_cell-runner.ensures.own load in
    let same = ap (links_cost 1) (one_run m _ _ _ may.running is) in
    halted_more _ _ 1 (links_cost 1 c.requires.next.0) _ _ _ _ _ _ _ _ _ _ _ _ (ran_one _ _ _ _ _ _ load) c.if-not-passes.ensures
    (c.link_if_due-runner.ensures.halted c.if-not-linked.true _ next.running) (omega (arith, same))

pub commit-runner-requires-clause-next : goal.commit-runner-requires-clause-next
commit-runner-requires-clause-next g c κs within =
    let met = g.met.S.Structure g.world.𝓛 g.world.𝓜 g.world.𝓡 ((λ s allowed. allowed), (λ patient. patient), (λ alone. alone), (λ cuts. cuts)) in
    let m = g.S.Structure.meaning c.args.table.now.structure in
    let laws = met.laws c.args.table.now.structure in
    let may = c.requires.next.1 in
    let load = loads m laws c.args.table.now (c.requires.own.limits _ refl) (c.requires.own.allowed _ refl) _ c.requires.own _ _ may _ _ c.load_cell-runner.ensures.event in
    let next = link_next m laws c.args.table.now (c.requires.own.limits _ refl) (c.requires.own.allowed _ refl) _ c.requires.own _ _ may _ _ c.load_cell-runner.ensures.own load in
    let links = c.link_if_due-runner.ensures.linked c.if-not-linked.false _ next.running in
    (links.0, subst (λ n. MayCommit m c.link_if_due-runner.result.0 n links.0) (sym c.bits.ensures.number) (commit_next m laws c.args.table.now (c.requires.own.limits _ refl) (c.requires.own.allowed _ refl) _ c.requires.own _ _ may _ _ _ _ load links.1))

pub returns-then-not-passes-2-clause-halted : goal.returns-then-not-passes-2-clause-halted
returns-then-not-passes-2-clause-halted g c = λ q is.
    let met = g.met.S.Structure g.world.𝓛 g.world.𝓜 g.world.𝓡 ((λ s allowed. allowed), (λ patient. patient), (λ alone. alone), (λ cuts. cuts)) in
    let m = g.S.Structure.meaning c.args.table.now.structure in
    let laws = met.laws c.args.table.now.structure in
    let may = c.requires.next.1 in
    let load = loads m laws c.args.table.now (c.requires.own.limits _ refl) (c.requires.own.allowed _ refl) _ c.requires.own _ _ may _ _ c.load_cell-runner.ensures.event in
    let next = link_next m laws c.args.table.now (c.requires.own.limits _ refl) (c.requires.own.allowed _ refl) _ c.requires.own _ _ may _ _ c.load_cell-runner.ensures.own load in
    let links = c.link_if_due-runner.ensures.linked c.if-not-linked.false _ next.running in
    let commit = c.commit-runner.ensures.commits links.0 links.1.running in
    let same = ap (links_cost 1) (one_run m _ _ _ may.running is) in
    let through = c.link_if_due-runner.ensures.through c.if-not-linked.false _ next.running in let few = through.few in
    halted_more _ _ 1 (through.made + 1) _ _ _ _ _ _ _ _ _ _ _ _ (ran_one _ _ _ _ _ _ load) c.if-not-passes.ensures
    (halted_more _ _ through.made 1 _ _ _ _ _ _ _ _ _ _ _ _ through.ran through.asked
    (halted_first _ _ _ _ _ _ _ _ _ _ _ _ _ commit.step c.if-not-passes-2.ensures (omega arith)) (omega arith)) (omega (arith, few, same))

pub returns-clause-loaded : goal.returns-clause-loaded
returns-clause-loaded g c = λ q is.
    let met = g.met.S.Structure g.world.𝓛 g.world.𝓜 g.world.𝓡 ((λ s allowed. allowed), (λ patient. patient), (λ alone. alone), (λ cuts. cuts)) in
    let m = g.S.Structure.meaning c.args.table.now.structure in
    let laws = met.laws c.args.table.now.structure in
    let may = c.requires.next.1 in
    let load = loads m laws c.args.table.now (c.requires.own.limits _ refl) (c.requires.own.allowed _ refl) _ c.requires.own _ _ may _ _ c.load_cell-runner.ensures.event in
    let next = link_next m laws c.args.table.now (c.requires.own.limits _ refl) (c.requires.own.allowed _ refl) _ c.requires.own _ _ may _ _ c.load_cell-runner.ensures.own load in
    let links = c.link_if_due-runner.ensures.linked c.if-not-linked.false _ next.running in
    let commit = c.commit-runner.ensures.commits links.0 links.1.running in
    subst (λ (p : RunState). HasLoaded m c.args.place c.from_bits.result c.args.runner c.commit-runner.result.0 p) (one_run m _ _ _ may.running is)
    (subst (λ n. HasLoaded m c.args.place n c.args.runner c.commit-runner.result.0 c.requires.next.0) (sym c.from_bits.ensures)
    (then_loaded m laws c.args.table.now (c.requires.own.limits _ refl) (c.requires.own.allowed _ refl) _ c.requires.own _ _ may _ _ _ _ load links.1 _ _ _ commit))

pub returns-clause-through : goal.returns-clause-through
returns-clause-through g c = λ q is.
    let met = g.met.S.Structure g.world.𝓛 g.world.𝓜 g.world.𝓡 ((λ s allowed. allowed), (λ patient. patient), (λ alone. alone), (λ cuts. cuts)) in
    let m = g.S.Structure.meaning c.args.table.now.structure in
    let laws = met.laws c.args.table.now.structure in
    let may = c.requires.next.1 in
    let load = loads m laws c.args.table.now (c.requires.own.limits _ refl) (c.requires.own.allowed _ refl) _ c.requires.own _ _ may _ _ c.load_cell-runner.ensures.event in
    let next = link_next m laws c.args.table.now (c.requires.own.limits _ refl) (c.requires.own.allowed _ refl) _ c.requires.own _ _ may _ _ c.load_cell-runner.ensures.own load in
    let links = c.link_if_due-runner.ensures.linked c.if-not-linked.false _ next.running in
    let commit = c.commit-runner.ensures.commits links.0 links.1.running in
    let same = ap (links_cost 1) (one_run m _ _ _ may.running is) in
    through_more _ 1 (links_cost 1 c.requires.next.0 + 1) _ _ _ _ _ _ _ _ _ _ _ _ _ (through_one _ _ _ _ _ _ _ _ _ (ran_one _ _ _ _ _ _ load) c.if-not-passes.ensures)
    (through_more _ (links_cost 1 c.requires.next.0) 1 _ _ _ _ _ _ _ _ _ _ _ _ _ (c.link_if_due-runner.ensures.through c.if-not-linked.false _ next.running)
    (through_one _ _ _ _ _ _ _ _ _ (ran_one _ _ _ _ _ _ commit.step) c.if-not-passes-2.ensures) (omega arith)) (omega (arith, same))
