use Rattle.std.proofs.Common.{◌+◌, arith, ap, subst, refl}
use Rattle.runner_steps.specs.runner_parts.specs.State.{RunState}
use Rattle.commit_log.specs.Links.{links_cost}
use Rattle.commit_log.proofs.Halting.{halted_first, halted_more, through_one, through_more}
use Rattle.commit_log.proofs.Running.{one_run, ran_one}
use Rattle.idem_alloc.specs.Retired.{HasRetired}
use Rattle.idem_alloc.proofs.Retiring.{may_load, loads, running, may_link, may_commit, knows, commits, then_retired}
use Rattle.idem_alloc.proofs.retires.retire_gated.Goals as goal

pub epoch_for_retire-runner-requires-clause-next : goal.epoch_for_retire-runner-requires-clause-next
epoch_for_retire-runner-requires-clause-next g c κs within =
    let met = g.met.S.Structure g.world.𝓛 g.world.𝓜 g.world.𝓡 ((λ s allowed. allowed), (λ patient. patient), (λ alone. alone), (λ cuts. cuts)) in
    let m = g.S.Structure.meaning c.args.table.now.structure in
    let laws = met.laws c.args.table.now.structure in
    let may = c.requires.next.1 in
    may_load m laws c.args.table.now (c.requires.own.limits _ refl) (c.requires.own.allowed _ refl) _ c.requires.own _ _ may

pub returns-then-not-passes-clause-halted : goal.returns-then-not-passes-clause-halted
returns-then-not-passes-clause-halted g c = λ _ q is.
    let met = g.met.S.Structure g.world.𝓛 g.world.𝓜 g.world.𝓡 ((λ s allowed. allowed), (λ patient. patient), (λ alone. alone), (λ cuts. cuts)) in
    let m = g.S.Structure.meaning c.args.table.now.structure in
    let laws = met.laws c.args.table.now.structure in
    let may = c.requires.next.1 in
    let load = loads m laws c.args.table.now (c.requires.own.limits _ refl) (c.requires.own.allowed _ refl) _ c.requires.own _ _ may _ _ c.epoch_for_retire-runner.ensures.event in
    halted_first _ _ _ _ _ _ _ _ _ _ _ _ _ load c.if-not-passes.ensures (omega arith)

pub link_if_due-runner-requires-clause-next : goal.link_if_due-runner-requires-clause-next
link_if_due-runner-requires-clause-next g c κs within =
    let met = g.met.S.Structure g.world.𝓛 g.world.𝓜 g.world.𝓡 ((λ s allowed. allowed), (λ patient. patient), (λ alone. alone), (λ cuts. cuts)) in
    let m = g.S.Structure.meaning c.args.table.now.structure in
    let laws = met.laws c.args.table.now.structure in
    let may = c.requires.next.1 in
    let load = loads m laws c.args.table.now (c.requires.own.limits _ refl) (c.requires.own.allowed _ refl) _ c.requires.own _ _ may _ _ c.epoch_for_retire-runner.ensures.event in
    (_, may_link m laws c.args.table.now (c.requires.own.limits _ refl) (c.requires.own.allowed _ refl) _ c.requires.own _ _ may _ _ c.epoch_for_retire-runner.ensures.own load)

pub returns-then-not-linked-clause-halted : goal.returns-then-not-linked-clause-halted
returns-then-not-linked-clause-halted g c = λ _ q is.
    let met = g.met.S.Structure g.world.𝓛 g.world.𝓜 g.world.𝓡 ((λ s allowed. allowed), (λ patient. patient), (λ alone. alone), (λ cuts. cuts)) in
    let m = g.S.Structure.meaning c.args.table.now.structure in
    let laws = met.laws c.args.table.now.structure in
    let may = c.requires.next.1 in
    let load = loads m laws c.args.table.now (c.requires.own.limits _ refl) (c.requires.own.allowed _ refl) _ c.requires.own _ _ may _ _ c.epoch_for_retire-runner.ensures.event in
    let run = running m laws c.args.table.now (c.requires.own.limits _ refl) (c.requires.own.allowed _ refl) _ c.requires.own _ _ may _ _ c.epoch_for_retire-runner.ensures.own load in
    let same = ap (links_cost 1) (one_run m _ _ _ may.running is) in
    halted_more _ _ 1 (links_cost 1 c.requires.next.0) _ _ _ _ _ _ _ _ _ _ _ _ (ran_one _ _ _ _ _ _ load) c.if-not-passes.ensures
    (c.link_if_due-runner.ensures.halted c.if-not-linked.true _ run) (omega (arith, same))

pub retire_commit-runner-requires-clause-next : goal.retire_commit-runner-requires-clause-next
retire_commit-runner-requires-clause-next g c κs within =
    let met = g.met.S.Structure g.world.𝓛 g.world.𝓜 g.world.𝓡 ((λ s allowed. allowed), (λ patient. patient), (λ alone. alone), (λ cuts. cuts)) in
    let m = g.S.Structure.meaning c.args.table.now.structure in
    let laws = met.laws c.args.table.now.structure in
    let may = c.requires.next.1 in
    let load = loads m laws c.args.table.now (c.requires.own.limits _ refl) (c.requires.own.allowed _ refl) _ c.requires.own _ _ may _ _ c.epoch_for_retire-runner.ensures.event in
    let run = running m laws c.args.table.now (c.requires.own.limits _ refl) (c.requires.own.allowed _ refl) _ c.requires.own _ _ may _ _ c.epoch_for_retire-runner.ensures.own load in
    let links = c.link_if_due-runner.ensures.linked c.if-not-linked.false _ run in
    may_commit m laws c.args.table.now (c.requires.own.limits _ refl) (c.requires.own.allowed _ refl) _ c.requires.own _ _ may _ _ c.epoch_for_retire-runner.ensures.own load _ c.link_if_due-runner.ensures.own _ links.1

pub retire_commit-runner-requires-clause-linked : goal.retire_commit-runner-requires-clause-linked
retire_commit-runner-requires-clause-linked g c κs within =
    let met = g.met.S.Structure g.world.𝓛 g.world.𝓜 g.world.𝓡 ((λ s allowed. allowed), (λ patient. patient), (λ alone. alone), (λ cuts. cuts)) in
    let m = g.S.Structure.meaning c.args.table.now.structure in
    let laws = met.laws c.args.table.now.structure in
    let may = c.requires.next.1 in
    let load = loads m laws c.args.table.now (c.requires.own.limits _ refl) (c.requires.own.allowed _ refl) _ c.requires.own _ _ may _ _ c.epoch_for_retire-runner.ensures.event in
    let run = running m laws c.args.table.now (c.requires.own.limits _ refl) (c.requires.own.allowed _ refl) _ c.requires.own _ _ may _ _ c.epoch_for_retire-runner.ensures.own load in
    let links = c.link_if_due-runner.ensures.linked c.if-not-linked.false _ run in
    knows m laws c.args.table.now (c.requires.own.limits _ refl) (c.requires.own.allowed _ refl) _ c.requires.own _ _ may _ _ c.epoch_for_retire-runner.ensures.own load _ c.link_if_due-runner.ensures.own _ links.1

pub returns-then-not-passes-2-clause-halted : goal.returns-then-not-passes-2-clause-halted
returns-then-not-passes-2-clause-halted g c = λ _ q is.
    let met = g.met.S.Structure g.world.𝓛 g.world.𝓜 g.world.𝓡 ((λ s allowed. allowed), (λ patient. patient), (λ alone. alone), (λ cuts. cuts)) in
    let m = g.S.Structure.meaning c.args.table.now.structure in
    let laws = met.laws c.args.table.now.structure in
    let may = c.requires.next.1 in
    let load = loads m laws c.args.table.now (c.requires.own.limits _ refl) (c.requires.own.allowed _ refl) _ c.requires.own _ _ may _ _ c.epoch_for_retire-runner.ensures.event in
    let run = running m laws c.args.table.now (c.requires.own.limits _ refl) (c.requires.own.allowed _ refl) _ c.requires.own _ _ may _ _ c.epoch_for_retire-runner.ensures.own load in
    let links = c.link_if_due-runner.ensures.linked c.if-not-linked.false _ run in
    let commit = commits m laws c.args.table.now (c.requires.own.limits _ refl) (c.requires.own.allowed _ refl) _ c.requires.own _ _ may _ _ c.epoch_for_retire-runner.ensures.own load
    _ c.link_if_due-runner.ensures.own _ links.1 _ _ c.retire_commit-runner.ensures.event in
    let same = ap (links_cost 1) (one_run m _ _ _ may.running is) in
    let through = c.link_if_due-runner.ensures.through c.if-not-linked.false _ run in
    let few = through.few in
    halted_more _ _ 1 (through.made + 1) _ _ _ _ _ _ _ _ _ _ _ _ (ran_one _ _ _ _ _ _ load) c.if-not-passes.ensures
    (halted_more _ _ through.made 1 _ _ _ _ _ _ _ _ _ _ _ _ through.ran through.asked
    (halted_first _ _ _ _ _ _ _ _ _ _ _ _ _ commit c.if-not-passes-2.ensures (omega arith)) (omega arith)) (omega (arith, few, same))

pub returns-clause-retired : goal.returns-clause-retired
returns-clause-retired g c = λ _ q is.
    let met = g.met.S.Structure g.world.𝓛 g.world.𝓜 g.world.𝓡 ((λ s allowed. allowed), (λ patient. patient), (λ alone. alone), (λ cuts. cuts)) in
    let m = g.S.Structure.meaning c.args.table.now.structure in
    let laws = met.laws c.args.table.now.structure in
    let may = c.requires.next.1 in
    let load = loads m laws c.args.table.now (c.requires.own.limits _ refl) (c.requires.own.allowed _ refl) _ c.requires.own _ _ may _ _ c.epoch_for_retire-runner.ensures.event in
    let run = running m laws c.args.table.now (c.requires.own.limits _ refl) (c.requires.own.allowed _ refl) _ c.requires.own _ _ may _ _ c.epoch_for_retire-runner.ensures.own load in
    let links = c.link_if_due-runner.ensures.linked c.if-not-linked.false _ run in
    let commit = commits m laws c.args.table.now (c.requires.own.limits _ refl) (c.requires.own.allowed _ refl) _ c.requires.own _ _ may _ _ c.epoch_for_retire-runner.ensures.own load
    _ c.link_if_due-runner.ensures.own _ links.1 _ _ c.retire_commit-runner.ensures.event in
    subst (λ (p : RunState). HasRetired m c.args.slot c.args.runner c.retire_commit-runner.result.0 p) (one_run m _ _ _ may.running is)
    (then_retired m laws c.args.table.now (c.requires.own.limits _ refl) (c.requires.own.allowed _ refl) _ c.requires.own _ _ may _ _ c.epoch_for_retire-runner.ensures.own load _ c.link_if_due-runner.ensures.own _ links.1 _ _ commit)

pub returns-clause-through : goal.returns-clause-through
returns-clause-through g c = λ _ q is.
    let met = g.met.S.Structure g.world.𝓛 g.world.𝓜 g.world.𝓡 ((λ s allowed. allowed), (λ patient. patient), (λ alone. alone), (λ cuts. cuts)) in
    let m = g.S.Structure.meaning c.args.table.now.structure in
    let laws = met.laws c.args.table.now.structure in
    let may = c.requires.next.1 in
    let load = loads m laws c.args.table.now (c.requires.own.limits _ refl) (c.requires.own.allowed _ refl) _ c.requires.own _ _ may _ _ c.epoch_for_retire-runner.ensures.event in
    let run = running m laws c.args.table.now (c.requires.own.limits _ refl) (c.requires.own.allowed _ refl) _ c.requires.own _ _ may _ _ c.epoch_for_retire-runner.ensures.own load in
    let links = c.link_if_due-runner.ensures.linked c.if-not-linked.false _ run in
    let commit = commits m laws c.args.table.now (c.requires.own.limits _ refl) (c.requires.own.allowed _ refl) _ c.requires.own _ _ may _ _ c.epoch_for_retire-runner.ensures.own load
    _ c.link_if_due-runner.ensures.own _ links.1 _ _ c.retire_commit-runner.ensures.event in
    let same = ap (links_cost 1) (one_run m _ _ _ may.running is) in
    through_more _ 1 (links_cost 1 c.requires.next.0 + 1) _ _ _ _ _ _ _ _ _ _ _ _ _ (through_one _ _ _ _ _ _ _ _ _ (ran_one _ _ _ _ _ _ load) c.if-not-passes.ensures)
    (through_more _ (links_cost 1 c.requires.next.0) 1 _ _ _ _ _ _ _ _ _ _ _ _ _ (c.link_if_due-runner.ensures.through c.if-not-linked.false _ run)
    (through_one _ _ _ _ _ _ _ _ _ (ran_one _ _ _ _ _ _ commit) c.if-not-passes-2.ensures) (omega arith)) (omega (arith, same))
