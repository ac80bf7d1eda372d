use Rattle.std.proofs.Common.{◌≡◌, ◌+◌, inl, inr, refl, arith, ap, sym, subst, ◌∙◌, None}
use Rattle.machine_states.specs.table_words.specs.declared.layout.Layout.{Layout}
use Rattle.machine_states.specs.runner_parts.specs.State.{RunState}
use Rattle.machine_states.specs.runner_steps.specs.AfterInRun.{agrees}
use Rattle.commit_log.specs.Committed.{MayCommit}
use Rattle.commit_log.specs.Links.{links_cost}
use Rattle.commit_log.proofs.Halting.{halted_first, halted_more, through_one, through_more}
use Rattle.commit_log.proofs.Linking.{cost_rises}
use Rattle.commit_log.proofs.Running.{one_run, ran_one}
use Rattle.nested_lock.specs.Answers.{first_outcome}
use Rattle.nested_lock.specs.Taken.{HasRead, HasTaken}
use Rattle.nested_lock.specs.declared.takes.TakeEnd.{TakeEnd}
use Rattle.nested_lock.proofs.Reading.{may_load, loads, link_next, commit_next, has_read, costs, hold_next}
use Rattle.nested_lock.proofs.Halves.{ok_none, of_some, of_none}
use Rattle.nested_lock.proofs.takes.take_gated.Goals as goal

pub nested_load-runner-requires-clause-next : goal.nested_load-runner-requires-clause-next
nested_load-runner-requires-clause-next g c κs within =
    let met = g.met.S.Structure g.world.𝓛 g.world.𝓜 g.world.𝓡 ((λ s allowed. allowed), (λ patient. patient), (λ alone. alone), (λ cuts. cuts)) in
    let m = g.S.Structure.meaning c.args.table.now.structure in
    let laws = met.laws c.args.table.now.structure in
    let may = c.requires.next.1 in
    may_load m laws c.args.table.now (c.requires.own.limits _ refl) (c.requires.own.allowed _ refl) _ c.requires.own _ _ _ may

pub returns-then-not-passes-clause-halted : goal.returns-then-not-passes-clause-halted
returns-then-not-passes-clause-halted g c = λ q is.
    let met = g.met.S.Structure g.world.𝓛 g.world.𝓜 g.world.𝓡 ((λ s allowed. allowed), (λ patient. patient), (λ alone. alone), (λ cuts. cuts)) in
    let m = g.S.Structure.meaning c.args.table.now.structure in
    let laws = met.laws c.args.table.now.structure in
    let may = c.requires.next.1 in
    let load = loads m laws c.args.table.now (c.requires.own.limits _ refl) (c.requires.own.allowed _ refl) _ c.requires.own _ _ _ may _ _ c.nested_load-runner.ensures.event in
    halted_first _ _ _ _ _ _ _ _ _ _ _ _ _ load c.if-not-passes.ensures (omega arith)

pub link_if_due-runner-requires-clause-next : goal.link_if_due-runner-requires-clause-next
link_if_due-runner-requires-clause-next g c κs within =
    let met = g.met.S.Structure g.world.𝓛 g.world.𝓜 g.world.𝓡 ((λ s allowed. allowed), (λ patient. patient), (λ alone. alone), (λ cuts. cuts)) in
    let m = g.S.Structure.meaning c.args.table.now.structure in
    let laws = met.laws c.args.table.now.structure in
    let may = c.requires.next.1 in
    let load = loads m laws c.args.table.now (c.requires.own.limits _ refl) (c.requires.own.allowed _ refl) _ c.requires.own _ _ _ may _ _ c.nested_load-runner.ensures.event in
    (_, link_next m laws c.args.table.now (c.requires.own.limits _ refl) (c.requires.own.allowed _ refl) _ c.requires.own _ _ _ may _ _ c.nested_load-runner.ensures.own load)

pub returns-then-not-linked-clause-halted : goal.returns-then-not-linked-clause-halted
returns-then-not-linked-clause-halted g c = λ q is.
    let met = g.met.S.Structure g.world.𝓛 g.world.𝓜 g.world.𝓡 ((λ s allowed. allowed), (λ patient. patient), (λ alone. alone), (λ cuts. cuts)) in
    let m = g.S.Structure.meaning c.args.table.now.structure in
    let laws = met.laws c.args.table.now.structure in
    let may = c.requires.next.1 in
    let load = loads m laws c.args.table.now (c.requires.own.limits _ refl) (c.requires.own.allowed _ refl) _ c.requires.own _ _ _ may _ _ c.nested_load-runner.ensures.event in
    let next = link_next m laws c.args.table.now (c.requires.own.limits _ refl) (c.requires.own.allowed _ refl) _ c.requires.own _ _ _ may _ _ c.nested_load-runner.ensures.own load in
    let rises = cost_rises c.requires.next.0 1 1 in
    let same = ap (links_cost 2) (one_run m _ _ _ may.running is) in
    halted_more _ _ 1 (links_cost 1 c.requires.next.0) _ _ _ _ _ _ _ _ _ _ _ _ (ran_one _ _ _ _ _ _ load) c.if-not-passes.ensures
    (c.link_if_due-runner.ensures.halted c.if-not-linked.true _ next.running) (omega (arith, rises, same))

pub commit-runner-requires-clause-next : goal.commit-runner-requires-clause-next
commit-runner-requires-clause-next g c κs within =
    let met = g.met.S.Structure g.world.𝓛 g.world.𝓜 g.world.𝓡 ((λ s allowed. allowed), (λ patient. patient), (λ alone. alone), (λ cuts. cuts)) in
    let m = g.S.Structure.meaning c.args.table.now.structure in
    let laws = met.laws c.args.table.now.structure in
    let may = c.requires.next.1 in
    let load = loads m laws c.args.table.now (c.requires.own.limits _ refl) (c.requires.own.allowed _ refl) _ c.requires.own _ _ _ may _ _ c.nested_load-runner.ensures.event in
    let next = link_next m laws c.args.table.now (c.requires.own.limits _ refl) (c.requires.own.allowed _ refl) _ c.requires.own _ _ _ may _ _ c.nested_load-runner.ensures.own load in
    let links = c.link_if_due-runner.ensures.linked c.if-not-linked.false _ next.running in
    (links.0, subst (λ n. MayCommit m c.link_if_due-runner.result.0 n links.0) (sym c.bits.ensures.number) (commit_next m laws c.args.table.now (c.requires.own.limits _ refl) (c.requires.own.allowed _ refl) _ c.requires.own _ _ _ may _ _ c.nested_load-runner.ensures.own load _ _ links.1))

pub returns-then-not-passes-2-clause-halted : goal.returns-then-not-passes-2-clause-halted
returns-then-not-passes-2-clause-halted g c = λ q is.
    let met = g.met.S.Structure g.world.𝓛 g.world.𝓜 g.world.𝓡 ((λ s allowed. allowed), (λ patient. patient), (λ alone. alone), (λ cuts. cuts)) in
    let m = g.S.Structure.meaning c.args.table.now.structure in
    let laws = met.laws c.args.table.now.structure in
    let may = c.requires.next.1 in
    let load = loads m laws c.args.table.now (c.requires.own.limits _ refl) (c.requires.own.allowed _ refl) _ c.requires.own _ _ _ may _ _ c.nested_load-runner.ensures.event in
    let next = link_next m laws c.args.table.now (c.requires.own.limits _ refl) (c.requires.own.allowed _ refl) _ c.requires.own _ _ _ may _ _ c.nested_load-runner.ensures.own load in
    let links = c.link_if_due-runner.ensures.linked c.if-not-linked.false _ next.running in
    let commit = c.commit-runner.ensures.commits links.0 links.1.running in
    let through = c.link_if_due-runner.ensures.through c.if-not-linked.false _ next.running in let few = through.few in
    let rises = cost_rises c.requires.next.0 1 1 in
    let same = ap (links_cost 2) (one_run m _ _ _ may.running is) in
    halted_more _ _ 1 (through.made + 1) _ _ _ _ _ _ _ _ _ _ _ _ (ran_one _ _ _ _ _ _ load) c.if-not-passes.ensures
    (halted_more _ _ through.made 1 _ _ _ _ _ _ _ _ _ _ _ _ through.ran through.asked
    (halted_first _ _ _ _ _ _ _ _ _ _ _ _ _ commit.step c.if-not-passes-2.ensures (omega arith)) (omega arith)) (omega (arith, few, rises, same))

pub returns-then-is_err-clause-taken : goal.returns-then-is_err-clause-taken
returns-then-is_err-clause-taken g c = λ q is.
    let met = g.met.S.Structure g.world.𝓛 g.world.𝓜 g.world.𝓡 ((λ s allowed. allowed), (λ patient. patient), (λ alone. alone), (λ cuts. cuts)) in
    let m = g.S.Structure.meaning c.args.table.now.structure in
    let laws = met.laws c.args.table.now.structure in
    let may = c.requires.next.1 in
    let load = loads m laws c.args.table.now (c.requires.own.limits _ refl) (c.requires.own.allowed _ refl) _ c.requires.own _ _ _ may _ _ c.nested_load-runner.ensures.event in
    let next = link_next m laws c.args.table.now (c.requires.own.limits _ refl) (c.requires.own.allowed _ refl) _ c.requires.own _ _ _ may _ _ c.nested_load-runner.ensures.own load in
    let links = c.link_if_due-runner.ensures.linked c.if-not-linked.false _ next.running in
    let commit = c.commit-runner.ensures.commits links.0 links.1.running in
    let reads = has_read m laws c.args.table.now (c.requires.own.limits _ refl) (c.requires.own.allowed _ refl) _ c.requires.own _ _ _ may _ _ c.nested_load-runner.ensures.own load _ _ links.1 _ _ _ commit in
    let first = (λ i. first_outcome ((ap (λ (l : Layout). l.version_max) (c.requires.own.layout ∙ sym c.layout.ensures)) i) c.args.place c.args.expected (sym c.from_bits-read.ensures i))
    ∙ c.first_answer-first.ensures c.args.place in
    subst (λ (p : RunState). HasTaken m c.args.place c.args.expected (record { answer = c.first_answer-first.result; first = c.from_bits-read.result; second = None }) c.args.runner c.commit-runner.result.0 p) (one_run m _ _ _ may.running is)
    (subst (λ n. HasTaken m c.args.place c.args.expected (record { answer = c.first_answer-first.result; first = n; second = None }) c.args.runner c.commit-runner.result.0 c.requires.next.0)
    (sym c.from_bits-read.ensures) (record {
      behind = (agrees m c.args.runner.layout links.0 c.commit-runner.result.1);
      between = c.commit-runner.result.0;
      reads = reads;
      ends = inl (record { told = first; refused = sym c.is_err.ensures.value ∙ c.if-is_err.true; alone = refl; same = refl });
    }))

pub returns-then-is_err-clause-through : goal.returns-then-is_err-clause-through
returns-then-is_err-clause-through g c = λ q is.
    let met = g.met.S.Structure g.world.𝓛 g.world.𝓜 g.world.𝓡 ((λ s allowed. allowed), (λ patient. patient), (λ alone. alone), (λ cuts. cuts)) in
    let m = g.S.Structure.meaning c.args.table.now.structure in
    let laws = met.laws c.args.table.now.structure in
    let may = c.requires.next.1 in
    let load = loads m laws c.args.table.now (c.requires.own.limits _ refl) (c.requires.own.allowed _ refl) _ c.requires.own _ _ _ may _ _ c.nested_load-runner.ensures.event in
    let next = link_next m laws c.args.table.now (c.requires.own.limits _ refl) (c.requires.own.allowed _ refl) _ c.requires.own _ _ _ may _ _ c.nested_load-runner.ensures.own load in
    let links = c.link_if_due-runner.ensures.linked c.if-not-linked.false _ next.running in
    let commit = c.commit-runner.ensures.commits links.0 links.1.running in
    let rises = cost_rises c.requires.next.0 1 1 in
    let same = ap (links_cost 2) (one_run m _ _ _ may.running is) in
    through_more _ 1 (links_cost 1 c.requires.next.0 + 1) _ _ _ _ _ _ _ _ _ _ _ _ _ (through_one _ _ _ _ _ _ _ _ _ (ran_one _ _ _ _ _ _ load) c.if-not-passes.ensures)
    (through_more _ (links_cost 1 c.requires.next.0) 1 _ _ _ _ _ _ _ _ _ _ _ _ _ (c.link_if_due-runner.ensures.through c.if-not-linked.false _ next.running)
    (through_one _ _ _ _ _ _ _ _ _ (ran_one _ _ _ _ _ _ commit.step) c.if-not-passes-2.ensures) (omega arith)) (omega (arith, rises, same))

pub hold_gated-requires-clause-next : goal.hold_gated-requires-clause-next
hold_gated-requires-clause-next g c κs within =
    let met = g.met.S.Structure g.world.𝓛 g.world.𝓜 g.world.𝓡 ((λ s allowed. allowed), (λ patient. patient), (λ alone. alone), (λ cuts. cuts)) in
    let m = g.S.Structure.meaning c.args.table.now.structure in
    let laws = met.laws c.args.table.now.structure in
    let may = c.requires.next.1 in
    let load = loads m laws c.args.table.now (c.requires.own.limits _ refl) (c.requires.own.allowed _ refl) _ c.requires.own _ _ _ may _ _ c.nested_load-runner.ensures.event in
    let next = link_next m laws c.args.table.now (c.requires.own.limits _ refl) (c.requires.own.allowed _ refl) _ c.requires.own _ _ _ may _ _ c.nested_load-runner.ensures.own load in
    let links = c.link_if_due-runner.ensures.linked c.if-not-linked.false _ next.running in
    let commit = c.commit-runner.ensures.commits links.0 links.1.running in
    let first = (λ i. first_outcome ((ap (λ (l : Layout). l.version_max) (c.requires.own.layout ∙ sym c.layout.ensures)) i) c.args.place c.args.expected (sym c.from_bits-read.ensures i))
    ∙ c.first_answer-first.ensures c.args.place in
    let none = first ∙ ok_none c.args.place c.first_answer-first.result (sym c.is_err.ensures.value ∙ c.if-is_err.false) in
    ((agrees m c.args.runner.layout links.0 c.commit-runner.result.1), hold_next m laws c.args.table.now (c.requires.own.limits _ refl) (c.requires.own.allowed _ refl) _ c.requires.own _ _ _ may _ _ c.nested_load-runner.ensures.own load _ _ links.1 _ _ _ commit none)

pub hold_gated-requires-clause-section : goal.hold_gated-requires-clause-section
hold_gated-requires-clause-section g c κs within = λ p is.
    let met = g.met.S.Structure g.world.𝓛 g.world.𝓜 g.world.𝓡 ((λ s allowed. allowed), (λ patient. patient), (λ alone. alone), (λ cuts. cuts)) in
    let m = g.S.Structure.meaning c.args.table.now.structure in
    let laws = met.laws c.args.table.now.structure in
    let may = c.requires.next.1 in
    let load = loads m laws c.args.table.now (c.requires.own.limits _ refl) (c.requires.own.allowed _ refl) _ c.requires.own _ _ _ may _ _ c.nested_load-runner.ensures.event in
    let next = link_next m laws c.args.table.now (c.requires.own.limits _ refl) (c.requires.own.allowed _ refl) _ c.requires.own _ _ _ may _ _ c.nested_load-runner.ensures.own load in
    let links = c.link_if_due-runner.ensures.linked c.if-not-linked.false _ next.running in
    let commit = c.commit-runner.ensures.commits links.0 links.1.running in
    let reads = has_read m laws c.args.table.now (c.requires.own.limits _ refl) (c.requires.own.allowed _ refl) _ c.requires.own _ _ _ may _ _ c.nested_load-runner.ensures.own load _ _ links.1 _ _ _ commit in
    c.requires.section _ may.running
    ∙ (ap (λ (x : RunState). x.descriptor) (sym links.1.line) ∙ ap (λ (x : RunState). x.descriptor) (one_run m c.commit-runner.result.0 _ p reads.goes_on is))

pub returns-clause-taken : goal.returns-clause-taken
returns-clause-taken g c =
    let met = g.met.S.Structure g.world.𝓛 g.world.𝓜 g.world.𝓡 ((λ s allowed. allowed), (λ patient. patient), (λ alone. alone), (λ cuts. cuts)) in
    let m = g.S.Structure.meaning c.args.table.now.structure in
    let laws = met.laws c.args.table.now.structure in
    let may = c.requires.next.1 in
    let load = loads m laws c.args.table.now (c.requires.own.limits _ refl) (c.requires.own.allowed _ refl) _ c.requires.own _ _ _ may _ _ c.nested_load-runner.ensures.event in
    let next = link_next m laws c.args.table.now (c.requires.own.limits _ refl) (c.requires.own.allowed _ refl) _ c.requires.own _ _ _ may _ _ c.nested_load-runner.ensures.own load in
    let links = c.link_if_due-runner.ensures.linked c.if-not-linked.false _ next.running in
    let commit = c.commit-runner.ensures.commits links.0 links.1.running in
    let reads = has_read m laws c.args.table.now (c.requires.own.limits _ refl) (c.requires.own.allowed _ refl) _ c.requires.own _ _ _ may _ _ c.nested_load-runner.ensures.own load _ _ links.1 _ _ _ commit in
    let first = (λ i. first_outcome ((ap (λ (l : Layout). l.version_max) (c.requires.own.layout ∙ sym c.layout.ensures)) i) c.args.place c.args.expected (sym c.from_bits-read.ensures i))
    ∙ c.first_answer-first.ensures c.args.place in
    let none = first ∙ ok_none c.args.place c.first_answer-first.result (sym c.is_err.ensures.value ∙ c.if-is_err.false) in
    of_some _ _ _ c.hold_gated.result.1 c.hold_gated.ensures.first c.hold_gated.ensures.held (λ (end : TakeEnd) same held q is.
    let e : end.first ≡ c.commit-runner.result.1 = same ∙ c.from_bits-read.ensures in
    let second = held (agrees m c.args.runner.layout links.0 c.commit-runner.result.1) reads.goes_on in
    subst (λ (p : RunState). HasTaken m c.args.place c.args.expected end c.args.runner c.hold_gated.result.0 p) (one_run m _ _ _ may.running is) (record {
      behind = (agrees m c.args.runner.layout links.0 c.commit-runner.result.1);
      between = c.commit-runner.result.0;
      reads = subst (λ n. HasRead m c.args.place n c.args.runner c.commit-runner.result.0 c.requires.next.0 (agrees m c.args.runner.layout links.0 c.commit-runner.result.1)) (sym e) reads;
      ends = inr (record {
        told = ap (first_outcome c.args.runner.layout.version_max c.args.place c.args.expected) e ∙ none;
        read = second.0;
        again = second.1;
        held = second.2;
      });
    }))

pub returns-clause-through : goal.returns-clause-through
returns-clause-through g c =
    let met = g.met.S.Structure g.world.𝓛 g.world.𝓜 g.world.𝓡 ((λ s allowed. allowed), (λ patient. patient), (λ alone. alone), (λ cuts. cuts)) in
    let m = g.S.Structure.meaning c.args.table.now.structure in
    let laws = met.laws c.args.table.now.structure in
    let may = c.requires.next.1 in
    let load = loads m laws c.args.table.now (c.requires.own.limits _ refl) (c.requires.own.allowed _ refl) _ c.requires.own _ _ _ may _ _ c.nested_load-runner.ensures.event in
    let next = link_next m laws c.args.table.now (c.requires.own.limits _ refl) (c.requires.own.allowed _ refl) _ c.requires.own _ _ _ may _ _ c.nested_load-runner.ensures.own load in
    let links = c.link_if_due-runner.ensures.linked c.if-not-linked.false _ next.running in
    let commit = c.commit-runner.ensures.commits links.0 links.1.running in
    let reads = has_read m laws c.args.table.now (c.requires.own.limits _ refl) (c.requires.own.allowed _ refl) _ c.requires.own _ _ _ may _ _ c.nested_load-runner.ensures.own load _ _ links.1 _ _ _ commit in
    let cost = costs m laws c.args.table.now (c.requires.own.limits _ refl) (c.requires.own.allowed _ refl) _ c.requires.own _ _ _ may _ _ c.nested_load-runner.ensures.own load _ _ links.1 _ _ _ commit in
    of_some _ _ _ c.hold_gated.result.1 c.hold_gated.ensures.first c.hold_gated.ensures.through (λ (end : TakeEnd) first rest q is.
    let same = ap (links_cost 2) (one_run m _ _ _ may.running is) in let one = links_cost 1 c.requires.next.0 in let two = 3 + links_cost 1 (agrees m c.args.runner.layout links.0 c.commit-runner.result.1) in
    through_more _ 1 (one + (1 + two)) _ _ _ _ _ _ _ _ _ _ _ _ _ (through_one _ _ _ _ _ _ _ _ _ (ran_one _ _ _ _ _ _ load) c.if-not-passes.ensures)
    (through_more _ one (1 + two) _ _ _ _ _ _ _ _ _ _ _ _ _ (c.link_if_due-runner.ensures.through c.if-not-linked.false _ next.running)
    (through_more _ 1 two _ _ _ _ _ _ _ _ _ _ _ _ _ (through_one _ _ _ _ _ _ _ _ _ (ran_one _ _ _ _ _ _ commit.step) c.if-not-passes-2.ensures) (rest (agrees m c.args.runner.layout links.0 c.commit-runner.result.1) reads.goes_on) (omega arith)) (omega arith)) (omega (arith, cost, same)))

pub returns-clause-halted : goal.returns-clause-halted
returns-clause-halted g c =
    let met = g.met.S.Structure g.world.𝓛 g.world.𝓜 g.world.𝓡 ((λ s allowed. allowed), (λ patient. patient), (λ alone. alone), (λ cuts. cuts)) in
    let m = g.S.Structure.meaning c.args.table.now.structure in
    let laws = met.laws c.args.table.now.structure in
    let may = c.requires.next.1 in
    let load = loads m laws c.args.table.now (c.requires.own.limits _ refl) (c.requires.own.allowed _ refl) _ c.requires.own _ _ _ may _ _ c.nested_load-runner.ensures.event in
    let next = link_next m laws c.args.table.now (c.requires.own.limits _ refl) (c.requires.own.allowed _ refl) _ c.requires.own _ _ _ may _ _ c.nested_load-runner.ensures.own load in
    let links = c.link_if_due-runner.ensures.linked c.if-not-linked.false _ next.running in
    let commit = c.commit-runner.ensures.commits links.0 links.1.running in
    let reads = has_read m laws c.args.table.now (c.requires.own.limits _ refl) (c.requires.own.allowed _ refl) _ c.requires.own _ _ _ may _ _ c.nested_load-runner.ensures.own load _ _ links.1 _ _ _ commit in
    let cost = costs m laws c.args.table.now (c.requires.own.limits _ refl) (c.requires.own.allowed _ refl) _ c.requires.own _ _ _ may _ _ c.nested_load-runner.ensures.own load _ _ links.1 _ _ _ commit in
    let through = c.link_if_due-runner.ensures.through c.if-not-linked.false _ next.running in let few = through.few in
    of_none _ _ c.hold_gated.result.1 c.hold_gated.ensures.halted (λ halted q is.
    let same = ap (links_cost 2) (one_run m _ _ _ may.running is) in let two = 3 + links_cost 1 (agrees m c.args.runner.layout links.0 c.commit-runner.result.1) in
    halted_more _ _ 1 (through.made + (1 + two)) _ _ _ _ _ _ _ _ _ _ _ _ (ran_one _ _ _ _ _ _ load) c.if-not-passes.ensures
    (halted_more _ _ through.made (1 + two) _ _ _ _ _ _ _ _ _ _ _ _ through.ran through.asked
    (halted_more _ _ 1 two _ _ _ _ _ _ _ _ _ _ _ _ (ran_one _ _ _ _ _ _ commit.step) c.if-not-passes-2.ensures (halted (agrees m c.args.runner.layout links.0 c.commit-runner.result.1) reads.goes_on) (omega arith)) (omega arith)) (omega (arith, few, cost, same)))
