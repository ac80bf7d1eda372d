use Rattle.std.proofs.Common.{◌<◌, ◌+◌, ◌-◌, ◌^◌, arith, refl, sym, ap, subst, ◌∙◌}
use Rattle.machine_states.specs.table_words.specs.declared.layout.Layout.{Layout}
use Rattle.machine_states.specs.runner_parts.specs.State.{RunState}
use Rattle.commit_log.specs.Links.{links_cost}
use Rattle.commit_log.proofs.Halting.{halted_first, halted_more, through_one, through_more}
use Rattle.commit_log.proofs.Running.{one_run, ran_one}
use Rattle.nested_lock.specs.Answers.{second_outcome}
use Rattle.nested_lock.specs.Taken.{HasHeld}
use Rattle.nested_lock.proofs.Holding.{may_hold, few_versions, few_held, holds, may_look, looks, running3, may_link, may_agree, knows, commits, then_held}
use Rattle.nested_lock.proofs.takes.hold_gated.Goals as goal

pub nested_hold-runner-requires-clause-next : goal.nested_hold-runner-requires-clause-next
nested_hold-runner-requires-clause-next g c κs within =
    let met = g.met.S.Structure g.world.𝓛 g.world.𝓜 g.world.𝓡 ((λ s allowed. allowed), (λ patient. patient), (λ alone. alone), (λ cuts. cuts)) in
    let m = g.S.Structure.meaning c.args.table.now.structure in
    let laws = met.laws c.args.table.now.structure in
    let may = c.requires.next.1 in
    may_hold m laws c.args.table.now (c.requires.own.limits _ refl) (c.requires.own.allowed _ refl) _ c.requires.own _ _ _ may

pub returns-then-not-passes-clause-halted : goal.returns-then-not-passes-clause-halted
returns-then-not-passes-clause-halted g c = λ q is.
    let met = g.met.S.Structure g.world.𝓛 g.world.𝓜 g.world.𝓡 ((λ s allowed. allowed), (λ patient. patient), (λ alone. alone), (λ cuts. cuts)) in
    let m = g.S.Structure.meaning c.args.table.now.structure in
    let laws = met.laws c.args.table.now.structure in
    let may = c.requires.next.1 in
    let hold = holds m laws c.args.table.now (c.requires.own.limits _ refl) (c.requires.own.allowed _ refl) _ c.requires.own _ _ _ may _ _ c.nested_hold-runner.ensures.event.event in
    halted_first _ _ _ _ _ _ _ _ _ _ _ _ _ hold c.if-not-passes.ensures (omega arith)

pub outcome_load-runner-requires-clause-next : goal.outcome_load-runner-requires-clause-next
outcome_load-runner-requires-clause-next g c κs within =
    let met = g.met.S.Structure g.world.𝓛 g.world.𝓜 g.world.𝓡 ((λ s allowed. allowed), (λ patient. patient), (λ alone. alone), (λ cuts. cuts)) in
    let m = g.S.Structure.meaning c.args.table.now.structure in
    let laws = met.laws c.args.table.now.structure in
    let may = c.requires.next.1 in
    let hold = holds m laws c.args.table.now (c.requires.own.limits _ refl) (c.requires.own.allowed _ refl) _ c.requires.own _ _ _ may _ _ c.nested_hold-runner.ensures.event.event in
    may_look m laws c.args.table.now (c.requires.own.limits _ refl) (c.requires.own.allowed _ refl) _ c.requires.own _ _ _ may _ _ c.nested_hold-runner.ensures.own hold

pub returns-then-not-passes-2-clause-halted : goal.returns-then-not-passes-2-clause-halted
returns-then-not-passes-2-clause-halted g c = λ q is.
    let met = g.met.S.Structure g.world.𝓛 g.world.𝓜 g.world.𝓡 ((λ s allowed. allowed), (λ patient. patient), (λ alone. alone), (λ cuts. cuts)) in
    let m = g.S.Structure.meaning c.args.table.now.structure in
    let laws = met.laws c.args.table.now.structure in
    let may = c.requires.next.1 in
    let hold = holds m laws c.args.table.now (c.requires.own.limits _ refl) (c.requires.own.allowed _ refl) _ c.requires.own _ _ _ may _ _ c.nested_hold-runner.ensures.event.event in
    let look = looks m laws c.args.table.now (c.requires.own.limits _ refl) (c.requires.own.allowed _ refl) _ c.requires.own _ _ _ may _ _ c.nested_hold-runner.ensures.own hold _ _ c.outcome_load-runner.ensures.event in
    halted_more _ _ 1 1 _ _ _ _ _ _ _ _ _ _ _ _ (ran_one _ _ _ _ _ _ hold) c.if-not-passes.ensures
    (halted_first _ _ _ _ _ _ _ _ _ _ _ _ _ look c.if-not-passes-2.ensures (omega arith)) (omega arith)

pub link_if_due-runner-requires-clause-next : goal.link_if_due-runner-requires-clause-next
link_if_due-runner-requires-clause-next g c κs within =
    let met = g.met.S.Structure g.world.𝓛 g.world.𝓜 g.world.𝓡 ((λ s allowed. allowed), (λ patient. patient), (λ alone. alone), (λ cuts. cuts)) in
    let m = g.S.Structure.meaning c.args.table.now.structure in
    let laws = met.laws c.args.table.now.structure in
    let may = c.requires.next.1 in
    let hold = holds m laws c.args.table.now (c.requires.own.limits _ refl) (c.requires.own.allowed _ refl) _ c.requires.own _ _ _ may _ _ c.nested_hold-runner.ensures.event.event in
    let look = looks m laws c.args.table.now (c.requires.own.limits _ refl) (c.requires.own.allowed _ refl) _ c.requires.own _ _ _ may _ _ c.nested_hold-runner.ensures.own hold _ _ c.outcome_load-runner.ensures.event in
    (_, may_link m laws c.args.table.now (c.requires.own.limits _ refl) (c.requires.own.allowed _ refl) _ c.requires.own _ _ _ may _ _ c.nested_hold-runner.ensures.own hold _ _ c.outcome_load-runner.ensures.own look)

pub returns-then-not-linked-clause-halted : goal.returns-then-not-linked-clause-halted
returns-then-not-linked-clause-halted g c = λ q is.
    let met = g.met.S.Structure g.world.𝓛 g.world.𝓜 g.world.𝓡 ((λ s allowed. allowed), (λ patient. patient), (λ alone. alone), (λ cuts. cuts)) in
    let m = g.S.Structure.meaning c.args.table.now.structure in
    let laws = met.laws c.args.table.now.structure in
    let may = c.requires.next.1 in
    let hold = holds m laws c.args.table.now (c.requires.own.limits _ refl) (c.requires.own.allowed _ refl) _ c.requires.own _ _ _ may _ _ c.nested_hold-runner.ensures.event.event in
    let look = looks m laws c.args.table.now (c.requires.own.limits _ refl) (c.requires.own.allowed _ refl) _ c.requires.own _ _ _ may _ _ c.nested_hold-runner.ensures.own hold _ _ c.outcome_load-runner.ensures.event in
    let run = running3 m laws c.args.table.now (c.requires.own.limits _ refl) (c.requires.own.allowed _ refl) _ c.requires.own _ _ _ may _ _ c.nested_hold-runner.ensures.own hold _ _ c.outcome_load-runner.ensures.own look in
    let same = ap (links_cost 1) (one_run m _ _ _ may.running is) in
    halted_more _ _ 1 (links_cost 1 c.requires.next.0 + 1) _ _ _ _ _ _ _ _ _ _ _ _ (ran_one _ _ _ _ _ _ hold) c.if-not-passes.ensures
    (halted_more _ _ 1 (links_cost 1 c.requires.next.0) _ _ _ _ _ _ _ _ _ _ _ _ (ran_one _ _ _ _ _ _ look) c.if-not-passes-2.ensures
    (c.link_if_due-runner.ensures.halted c.if-not-linked.true _ run) (omega arith)) (omega (arith, same))

pub outcome_commit-runner-requires-clause-next : goal.outcome_commit-runner-requires-clause-next
outcome_commit-runner-requires-clause-next g c κs within =
    let met = g.met.S.Structure g.world.𝓛 g.world.𝓜 g.world.𝓡 ((λ s allowed. allowed), (λ patient. patient), (λ alone. alone), (λ cuts. cuts)) in
    let m = g.S.Structure.meaning c.args.table.now.structure in
    let laws = met.laws c.args.table.now.structure in
    let may = c.requires.next.1 in
    let hold = holds m laws c.args.table.now (c.requires.own.limits _ refl) (c.requires.own.allowed _ refl) _ c.requires.own _ _ _ may _ _ c.nested_hold-runner.ensures.event.event in
    let look = looks m laws c.args.table.now (c.requires.own.limits _ refl) (c.requires.own.allowed _ refl) _ c.requires.own _ _ _ may _ _ c.nested_hold-runner.ensures.own hold _ _ c.outcome_load-runner.ensures.event in
    let run = running3 m laws c.args.table.now (c.requires.own.limits _ refl) (c.requires.own.allowed _ refl) _ c.requires.own _ _ _ may _ _ c.nested_hold-runner.ensures.own hold _ _ c.outcome_load-runner.ensures.own look in
    let links = c.link_if_due-runner.ensures.linked c.if-not-linked.false _ run in
    may_agree m laws c.args.table.now (c.requires.own.limits _ refl) (c.requires.own.allowed _ refl) _ c.requires.own _ _ _ may _ _ c.nested_hold-runner.ensures.own hold _ _ c.outcome_load-runner.ensures.own look _ c.link_if_due-runner.ensures.own _ links.1

pub outcome_commit-runner-requires-clause-linked : goal.outcome_commit-runner-requires-clause-linked
outcome_commit-runner-requires-clause-linked g c κs within =
    let met = g.met.S.Structure g.world.𝓛 g.world.𝓜 g.world.𝓡 ((λ s allowed. allowed), (λ patient. patient), (λ alone. alone), (λ cuts. cuts)) in
    let m = g.S.Structure.meaning c.args.table.now.structure in
    let laws = met.laws c.args.table.now.structure in
    let may = c.requires.next.1 in
    let hold = holds m laws c.args.table.now (c.requires.own.limits _ refl) (c.requires.own.allowed _ refl) _ c.requires.own _ _ _ may _ _ c.nested_hold-runner.ensures.event.event in
    let look = looks m laws c.args.table.now (c.requires.own.limits _ refl) (c.requires.own.allowed _ refl) _ c.requires.own _ _ _ may _ _ c.nested_hold-runner.ensures.own hold _ _ c.outcome_load-runner.ensures.event in
    let run = running3 m laws c.args.table.now (c.requires.own.limits _ refl) (c.requires.own.allowed _ refl) _ c.requires.own _ _ _ may _ _ c.nested_hold-runner.ensures.own hold _ _ c.outcome_load-runner.ensures.own look in
    let links = c.link_if_due-runner.ensures.linked c.if-not-linked.false _ run in
    knows m laws c.args.table.now (c.requires.own.limits _ refl) (c.requires.own.allowed _ refl) _ c.requires.own _ _ _ may _ _ c.nested_hold-runner.ensures.own hold _ _ c.outcome_load-runner.ensures.own look _ c.link_if_due-runner.ensures.own _ links.1

pub returns-then-not-passes-3-clause-halted : goal.returns-then-not-passes-3-clause-halted
returns-then-not-passes-3-clause-halted g c = λ q is.
    let met = g.met.S.Structure g.world.𝓛 g.world.𝓜 g.world.𝓡 ((λ s allowed. allowed), (λ patient. patient), (λ alone. alone), (λ cuts. cuts)) in
    let m = g.S.Structure.meaning c.args.table.now.structure in
    let laws = met.laws c.args.table.now.structure in
    let may = c.requires.next.1 in
    let hold = holds m laws c.args.table.now (c.requires.own.limits _ refl) (c.requires.own.allowed _ refl) _ c.requires.own _ _ _ may _ _ c.nested_hold-runner.ensures.event.event in
    let look = looks m laws c.args.table.now (c.requires.own.limits _ refl) (c.requires.own.allowed _ refl) _ c.requires.own _ _ _ may _ _ c.nested_hold-runner.ensures.own hold _ _ c.outcome_load-runner.ensures.event in
    let run = running3 m laws c.args.table.now (c.requires.own.limits _ refl) (c.requires.own.allowed _ refl) _ c.requires.own _ _ _ may _ _ c.nested_hold-runner.ensures.own hold _ _ c.outcome_load-runner.ensures.own look in
    let links = c.link_if_due-runner.ensures.linked c.if-not-linked.false _ run in
    let commit = commits m laws c.args.table.now (c.requires.own.limits _ refl) (c.requires.own.allowed _ refl) _ c.requires.own _ _ _ may _ _ c.nested_hold-runner.ensures.own hold _ _ c.outcome_load-runner.ensures.own look _ c.link_if_due-runner.ensures.own _ links.1 _ _
    c.outcome_commit-runner.ensures.event.event in
    let same = ap (links_cost 1) (one_run m _ _ _ may.running is) in
    let through = c.link_if_due-runner.ensures.through c.if-not-linked.false _ run in let few = through.few in
    halted_more _ _ 1 (through.made + 2) _ _ _ _ _ _ _ _ _ _ _ _ (ran_one _ _ _ _ _ _ hold) c.if-not-passes.ensures
    (halted_more _ _ 1 (through.made + 1) _ _ _ _ _ _ _ _ _ _ _ _ (ran_one _ _ _ _ _ _ look) c.if-not-passes-2.ensures
    (halted_more _ _ through.made 1 _ _ _ _ _ _ _ _ _ _ _ _ through.ran through.asked
    (halted_first _ _ _ _ _ _ _ _ _ _ _ _ _ commit c.if-not-passes-3.ensures (omega arith)) (omega arith)) (omega arith)) (omega (arith, few, same))

pub second_answer-answer-requires-clause-descriptor : goal.second_answer-answer-requires-clause-descriptor
second_answer-answer-requires-clause-descriptor g c =
    let met = g.met.S.Structure g.world.𝓛 g.world.𝓜 g.world.𝓡 ((λ s allowed. allowed), (λ patient. patient), (λ alone. alone), (λ cuts. cuts)) in
    let m = g.S.Structure.meaning c.args.table.now.structure in
    let laws = met.laws c.args.table.now.structure in
    let may = c.requires.next.1 in
    subst (λ n. n < 2 ^ 32 - 1) (sym (c.requires.section _ may.running)) (few_held m laws c.args.table.now (c.requires.own.limits _ refl) (c.requires.own.allowed _ refl) _ c.requires.own _ _ _ may)

pub second_answer-answer-requires-clause-version : goal.second_answer-answer-requires-clause-version
second_answer-answer-requires-clause-version g c =
    let met = g.met.S.Structure g.world.𝓛 g.world.𝓜 g.world.𝓡 ((λ s allowed. allowed), (λ patient. patient), (λ alone. alone), (λ cuts. cuts)) in
    let m = g.S.Structure.meaning c.args.table.now.structure in
    let laws = met.laws c.args.table.now.structure in
    let may = c.requires.next.1 in
    few_versions m laws c.args.table.now (c.requires.own.limits _ refl) (c.requires.own.allowed _ refl) _ c.requires.own _ _ _ may

pub returns-clause-held : goal.returns-clause-held
returns-clause-held g c = λ q is.
    let met = g.met.S.Structure g.world.𝓛 g.world.𝓜 g.world.𝓡 ((λ s allowed. allowed), (λ patient. patient), (λ alone. alone), (λ cuts. cuts)) in
    let m = g.S.Structure.meaning c.args.table.now.structure in
    let laws = met.laws c.args.table.now.structure in
    let may = c.requires.next.1 in
    let hold = holds m laws c.args.table.now (c.requires.own.limits _ refl) (c.requires.own.allowed _ refl) _ c.requires.own _ _ _ may _ _ c.nested_hold-runner.ensures.event.event in
    let look = looks m laws c.args.table.now (c.requires.own.limits _ refl) (c.requires.own.allowed _ refl) _ c.requires.own _ _ _ may _ _ c.nested_hold-runner.ensures.own hold _ _ c.outcome_load-runner.ensures.event in
    let run = running3 m laws c.args.table.now (c.requires.own.limits _ refl) (c.requires.own.allowed _ refl) _ c.requires.own _ _ _ may _ _ c.nested_hold-runner.ensures.own hold _ _ c.outcome_load-runner.ensures.own look in
    let links = c.link_if_due-runner.ensures.linked c.if-not-linked.false _ run in
    let commit = commits m laws c.args.table.now (c.requires.own.limits _ refl) (c.requires.own.allowed _ refl) _ c.requires.own _ _ _ may _ _ c.nested_hold-runner.ensures.own hold _ _ c.outcome_load-runner.ensures.own look _ c.link_if_due-runner.ensures.own _ links.1 _ _
    c.outcome_commit-runner.ensures.event.event in (
      c.outcome_commit-runner.result.1,
      refl,
      subst (λ (p : RunState). HasHeld m c.args.place c.args.expected c.outcome_commit-runner.result.1 c.second_answer-answer.result c.args.runner c.outcome_commit-runner.result.0 p) (one_run m _ _ _ may.running is)
          (then_held m laws c.args.table.now (c.requires.own.limits _ refl) (c.requires.own.allowed _ refl) _ c.requires.own _ _ _ may _ _ c.nested_hold-runner.ensures.own hold _ _ c.outcome_load-runner.ensures.own look _ c.link_if_due-runner.ensures.own _ links.1 _ _
          c.outcome_commit-runner.ensures.event _ commit
          ((λ i. second_outcome ((ap (λ (l : Layout). l.version_max) (c.requires.own.layout ∙ sym c.layout.ensures)) i) (sym (c.requires.section _ may.running) i) c.args.place c.args.expected c.outcome_commit-runner.result.1)
          ∙ c.second_answer-answer.ensures c.args.place)),
    )

pub returns-clause-through : goal.returns-clause-through
returns-clause-through g c = λ q is.
    let met = g.met.S.Structure g.world.𝓛 g.world.𝓜 g.world.𝓡 ((λ s allowed. allowed), (λ patient. patient), (λ alone. alone), (λ cuts. cuts)) in
    let m = g.S.Structure.meaning c.args.table.now.structure in
    let laws = met.laws c.args.table.now.structure in
    let may = c.requires.next.1 in
    let hold = holds m laws c.args.table.now (c.requires.own.limits _ refl) (c.requires.own.allowed _ refl) _ c.requires.own _ _ _ may _ _ c.nested_hold-runner.ensures.event.event in
    let look = looks m laws c.args.table.now (c.requires.own.limits _ refl) (c.requires.own.allowed _ refl) _ c.requires.own _ _ _ may _ _ c.nested_hold-runner.ensures.own hold _ _ c.outcome_load-runner.ensures.event in
    let run = running3 m laws c.args.table.now (c.requires.own.limits _ refl) (c.requires.own.allowed _ refl) _ c.requires.own _ _ _ may _ _ c.nested_hold-runner.ensures.own hold _ _ c.outcome_load-runner.ensures.own look in
    let links = c.link_if_due-runner.ensures.linked c.if-not-linked.false _ run in
    let commit = commits m laws c.args.table.now (c.requires.own.limits _ refl) (c.requires.own.allowed _ refl) _ c.requires.own _ _ _ may _ _ c.nested_hold-runner.ensures.own hold _ _ c.outcome_load-runner.ensures.own look _ c.link_if_due-runner.ensures.own _ links.1 _ _
    c.outcome_commit-runner.ensures.event.event in
    let same = ap (links_cost 1) (one_run m _ _ _ may.running is) in
    through_more _ 1 (links_cost 1 c.requires.next.0 + 2) _ _ _ _ _ _ _ _ _ _ _ _ _ (through_one _ _ _ _ _ _ _ _ _ (ran_one _ _ _ _ _ _ hold) c.if-not-passes.ensures)
    (through_more _ 1 (links_cost 1 c.requires.next.0 + 1) _ _ _ _ _ _ _ _ _ _ _ _ _ (through_one _ _ _ _ _ _ _ _ _ (ran_one _ _ _ _ _ _ look) c.if-not-passes-2.ensures)
    (through_more _ (links_cost 1 c.requires.next.0) 1 _ _ _ _ _ _ _ _ _ _ _ _ _ (c.link_if_due-runner.ensures.through c.if-not-linked.false _ run)
    (through_one _ _ _ _ _ _ _ _ _ (ran_one _ _ _ _ _ _ commit) c.if-not-passes-3.ensures) (omega arith)) (omega arith)) (omega (arith, same))
